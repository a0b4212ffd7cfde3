-- What a turn can be: a refusal, a look, a loading, a going back, or a program that was made so and so. One walk over the model finds these
-- five ways, and every theorem about turns takes them one by one. Assumes nothing.
use Rattle.std.proofs.Common.{◌≡◌, ℕ, ◌<◌, ◌≤◌, true, false, not, eqb, leb, List, [], ◌∷◌, ◌++◌, length, sym, refl, ap, ◌∙◌, arith, eqb-true, leb-true}
use borrow.Author.Tests.{clash}
use Rattle.std.proofs.lemmas.Bool.{and_parts}
use Rattle.language.specs.Basics.{pick, or, every, each, those, same}
use Rattle.language.specs.Bytes.{Name}
use Rattle.language.specs.Expr.{Expr, num, var, bin, call, bind, choice, tell, Exprs, exprs_in, Fun, Program, main}
use Rattle.language.specs.Meaning.{fun_of}
use Rattle.language.specs.Places.{at_place, put_at}
use Rattle.language.specs.Names.{has, free, distinct}
use Rattle.language.specs.Bare.{alike}
use Rattle.language.specs.Spelling.{program_spelled}
use Rattle.language.proofs.NameFacts.{or_left_false, or_right_false}
use Rattle.model.specs.Command.{Command, load, show, names, rename_bind, rename_param, rename_fun, extract, inline_bind, inline_call, turn_cond, drop_fun, undo}
use Rattle.model.specs.State.{Plain, Turn, no, yes_with, now_is, with_body, set_fun, at_fun, at_expr, fine}
use Rattle.model.specs.Rename.{renamed, put_name, nth_name, bind_renamed, param_renamed}
use Rattle.model.specs.FunctionNames.{taken, still_called, fun_renamed, fun_called, fun_dropped}
use Rattle.model.specs.Extract.{given_at, vars, made_fun, extracted}
use Rattle.model.specs.Inline.{quiet, put_for, put_if, bind_inlined, binds_of, inlined_by, call_inlined}
use Rattle.model.specs.Invert.{cond_turned}
use Rattle.model.specs.Model.{undone, turn, changes}
use Rattle.model.specs.Statements.{RefusedSame, BackAgain}
use Rattle.model.proofs.TurnWalk.{changed, walk-pick, walk-now, walk-fun, walk_expr}

-- a function that there is
pub record Found (p : Program) (x : Name) : Type 0 where
  pub fun : Fun
  pub rest : List Fun
  pub found : fun_of p x ≡ fun ∷ rest

-- what stands at a place of it
pub record Standing (p : Program) (x : Name) (ks : List ℕ) : Type 0 where
  pub fun : Fun
  pub rest : List Fun
  pub found : fun_of p x ≡ fun ∷ rest
  pub expr : Expr
  pub others : List Expr
  pub stands : at_place fun.body ks ≡ expr ∷ others

-- a program with something else at a place of a function
abbrev pub put_body : Program → Fun → List ℕ → Expr → Program
put_body p f ks e = set_fun p f.name (with_body f (put_at f.body ks e))

-- a let's name made another
pub record MadeBind (w : Plain) (x : Name) (ks : List ℕ) (y : Name) (p : Program) : Type 0 where
  pub at : Standing w.now x ks
  pub from : Name
  pub value : Expr
  pub inside : Expr
  pub is_let : at.expr ≡ bind from value inside
  pub still_alike : alike at.fun.params at.fun.body at.fun.params (put_at at.fun.body ks (bind y value (renamed from y inside))) ≡ true
  pub made : p ≡ put_body w.now at.fun ks (bind y value (renamed from y inside))

-- a function with its ith own name made another
abbrev pub own_renamed : Fun → ℕ → Name → Name → Fun
own_renamed f i x y = record { name = f.name; params = put_name f.params i y; body = renamed x y f.body }

pub record MadeParam (w : Plain) (x : Name) (i : ℕ) (y : Name) (p : Program) : Type 0 where
  pub at : Found w.now x
  pub from : Name
  pub names : List Name
  pub is_own : nth_name at.fun.params i ≡ from ∷ names
  pub apart : distinct (put_name at.fun.params i y) ≡ true
  pub still_alike : alike at.fun.params at.fun.body (put_name at.fun.params i y) (renamed from y at.fun.body) ≡ true
  pub made : p ≡ set_fun w.now at.fun.name (own_renamed at.fun i from y)

-- a function called something else
pub record MadeFun (w : Plain) (x y : Name) (p : Program) : Type 0 where
  pub at : Found w.now x
  pub not_main : same x main ≡ false
  pub new : taken w.now y ≡ false
  pub made : p ≡ each (fun_renamed x y) w.now

-- what stood at a place made a function
pub record MadeExtract (w : Plain) (x : Name) (ks : List ℕ) (y : Name) (p : Program) : Type 0 where
  pub at : Standing w.now x ks
  pub new : taken w.now y ≡ false
  pub given : every (has (given_at at.fun.params at.fun.body ks)) (free at.expr) ≡ true
  pub few : length (free at.expr) ≤ 16
  pub made : p ≡ put_body w.now at.fun ks (call y (vars (free at.expr))) ++ made_fun y at.expr ∷ []

-- what a let gives put where it is used
pub record MadeInline (w : Plain) (x : Name) (ks : List ℕ) (p : Program) : Type 0 where
  pub at : Standing w.now x ks
  pub name : Name
  pub value : Expr
  pub inside : Expr
  pub is_let : at.expr ≡ bind name value inside
  pub still : quiet (given_at at.fun.params at.fun.body ks) value ≡ true
  pub new : Expr
  pub news : List Expr
  pub put : put_for name value inside ≡ new ∷ news
  pub made : p ≡ put_body w.now at.fun ks new

-- a call made lets around the body of what it calls
pub record MadeCall (w : Plain) (x : Name) (ks : List ℕ) (p : Program) : Type 0 where
  pub at : Standing w.now x ks
  pub name : Name
  pub values : Exprs
  pub is_call : at.expr ≡ call name values
  pub called : Found w.now name
  pub as_many : length (exprs_in values) ≡ length called.fun.params
  pub closed : every (has called.fun.params) (free called.fun.body) ≡ true
  pub new : Expr
  pub news : List Expr
  pub lets : binds_of called.fun.params (exprs_in values) called.fun.body ≡ new ∷ news
  pub made : p ≡ put_body w.now at.fun ks new

-- an if the other way round
pub record MadeCond (w : Plain) (x : Name) (ks : List ℕ) (p : Program) : Type 0 where
  pub at : Standing w.now x ks
  pub test : Expr
  pub yes : Expr
  pub other : Expr
  pub is_choice : at.expr ≡ choice test yes other
  pub made : p ≡ put_body w.now at.fun ks (choice (bin 4 test (num 0)) other yes)

-- a function left out
pub record MadeDrop (w : Plain) (x : Name) (p : Program) : Type 0 where
  pub at : Found w.now x
  pub not_main : same x main ≡ false
  pub uncalled : still_called w.now x ≡ false
  pub made : p ≡ those (λ h. not (same h.name x)) w.now

-- the program that a command made
abbrev pub Made : Plain → Command → Program → Type 0
Made w (load q) p = ⊥
Made w (show x) p = ⊥
Made w names p = ⊥
Made w (rename_bind x ks y) p = MadeBind w x ks y p
Made w (rename_param x i y) p = MadeParam w x i y p
Made w (rename_fun x y) p = MadeFun w x y p
Made w (extract x ks y) p = MadeExtract w x ks y p
Made w (inline_bind x ks) p = MadeInline w x ks p
Made w (inline_call x ks) p = MadeCall w x ks p
Made w (turn_cond x ks) p = MadeCond w x ks p
Made w (drop_fun x) p = MadeDrop w x p
Made w undo p = ⊥

-- how a command ends
pub data Ended (w : Plain) (c : Command) : Turn → Type 0 where
  refuses : (k : ℕ) → 0 < k → Ended w c (no k w)
  looks : (ss : List (List ℕ)) → changes c ≡ false → Ended w c (yes_with ss w)
  loads : (p : Program) → c ≡ load p → fine p ≡ true → Ended w c (yes_with [] (record { now = p; before = [] }))
  goes_back : (p : Program) (ps : List Program) → c ≡ undo → w.before ≡ p ∷ ps → Ended w c (yes_with [] (record { now = p; before = ps }))
  makes : (p : Program) → Made w c p → length p ≤ 1024 → length (program_spelled p) ≤ 65536 → Ended w c (changed w p)

module _ (w : Plain) (c : Command) where
  -- a program made, if it is not too large
  now-ends : (p : Program) → Made w c p → Ended w c (now_is w p)
  now-ends p m = walk-now (Ended w c) w p (refuses 7 (omega arith)) (makes p m)

  -- what is done at a place of a function that there is
  place-ends : (x : Name) (ks : List ℕ) (h : Fun → Expr → Turn) → ((at : Standing w.now x ks) → Ended w c (h at.fun at.expr)) →
      Ended w c (at_fun w x (λ f. at_expr w f ks (h f)))
  place-ends x ks h k =
      walk-fun (Ended w c) w x (λ f. at_expr w f ks (h f)) (refuses 3 (omega arith))
      (λ f fs found. walk_expr (Ended w c) w f ks (h f) (refuses 3 (omega arith))
      (λ e es stands. k (record { fun = f; rest = fs; found = found; expr = e; others = es; stands = stands })))

bind-ends : (w : Plain) (x : Name) (ks : List ℕ) (y : Name) (at : Standing w.now x ks) (e : Expr) → at.expr ≡ e →
    Ended w (rename_bind x ks y) (bind_renamed w at.fun ks y e)
unfolding bind_renamed
bind-ends w x ks y at (num n) is = refuses 6 (omega arith)
bind-ends w x ks y at (var z) is = refuses 6 (omega arith)
bind-ends w x ks y at (bin k a b) is = refuses 6 (omega arith)
bind-ends w x ks y at (call g es) is = refuses 6 (omega arith)
bind-ends w x ks y at (bind z a b) is =
    walk-pick (Ended w (rename_bind x ks y)) _ _ (no 5 w)
    (λ same-bare. now-ends w (rename_bind x ks y) _
    (record { at = at; from = z; value = a; inside = b; is_let = is; still_alike = same-bare; made = refl }))
    (λ e. refuses 5 (omega arith))
bind-ends w x ks y at (choice c a b) is = refuses 6 (omega arith)
bind-ends w x ks y at (tell a) is = refuses 6 (omega arith)

param_ends : (w : Plain) (x : Name) (i : ℕ) (y : Name) (at : Found w.now x) (zs : List Name) → nth_name at.fun.params i ≡ zs →
    Ended w (rename_param x i y) (param_renamed w at.fun i y zs)
unfolding param_renamed
param_ends w x i y at [] is = refuses 3 (omega arith)
param_ends w x i y at (z ∷ zs) is =
    let g = own_renamed at.fun i z y in
    let both = and_parts _ _ in
    walk-pick (Ended w (rename_param x i y)) _ _ (no 5 w)
    (λ e. now-ends w (rename_param x i y) _
    (record { at = at; from = z; names = zs; is_own = is; apart = (both e).0; still_alike = (both e).1; made = refl }))
    (λ e. refuses 5 (omega arith))

fun-ends : (w : Plain) (x y : Name) (at : Found w.now x) → Ended w (rename_fun x y) (fun_called w x y at.fun)
fun-ends w x y at =
    walk-pick (Ended w (rename_fun x y)) (same x main) (no 6 w) _ (λ e. refuses 6 (omega arith))
    (λ not_main. walk-pick (Ended w (rename_fun x y)) (taken w.now y) (no 4 w) _ (λ e. refuses 4 (omega arith))
    (λ new. now-ends w (rename_fun x y) _ (record { at = at; not_main = not_main; new = new; made = refl })))

extract-ends : (w : Plain) (x : Name) (ks : List ℕ) (y : Name) (at : Standing w.now x ks) →
    Ended w (extract x ks y) (pick (taken w.now y) (no 4 w) (extracted w at.fun ks y at.expr))
extract-ends w x ks y at =
    walk-pick (Ended w (extract x ks y)) (taken w.now y) (no 4 w) _ (λ e. refuses 4 (omega arith))
    (λ new. walk-pick (Ended w (extract x ks y)) _ _ (no 5 w)
    (λ given. walk-pick (Ended w (extract x ks y)) (leb (length (free at.expr)) 16) _ (no 7 w)
    (λ few. now-ends w (extract x ks y) _ (record { at = at; new = new; given = given; few = leb-true _ _ few; made = refl }))
    (λ e. refuses 7 (omega arith))) (λ e. refuses 5 (omega arith)))

-- what is put in place, if there is something
put_ends : (w : Plain) (c : Command) (f : Fun) (ks : List ℕ) (es : List Expr) →
    ((new : Expr) (news : List Expr) → es ≡ new ∷ news → Made w c (put_body w.now f ks new)) → Ended w c (put_if w f ks es)
put_ends w c f ks [] h = refuses 5 (omega arith)
put_ends w c f ks (e ∷ es) h = now-ends w c _ (h e es refl)

inline_ends : (w : Plain) (x : Name) (ks : List ℕ) (at : Standing w.now x ks) (e : Expr) → at.expr ≡ e →
    Ended w (inline_bind x ks) (bind_inlined w at.fun ks e)
unfolding bind_inlined
inline_ends w x ks at (num n) is = refuses 6 (omega arith)
inline_ends w x ks at (var z) is = refuses 6 (omega arith)
inline_ends w x ks at (bin k a b) is = refuses 6 (omega arith)
inline_ends w x ks at (call g es) is = refuses 6 (omega arith)
inline_ends w x ks at (bind z a b) is =
    walk-pick (Ended w (inline_bind x ks)) _ _ (no 5 w)
    (λ still. put_ends w (inline_bind x ks) at.fun ks (put_for z a b)
    (λ new news put. record { at = at; name = z; value = a; inside = b; is_let = is; still = still; new = new; news = news; put = put; made = refl }))
    (λ e. refuses 5 (omega arith))
inline_ends w x ks at (choice c a b) is = refuses 6 (omega arith)
inline_ends w x ks at (tell a) is = refuses 6 (omega arith)

called-ends : (w : Plain) (x : Name) (ks : List ℕ) (at : Standing w.now x ks) (g : Name) (es : Exprs) → at.expr ≡ call g es →
    (hs : List Fun) → fun_of w.now g ≡ hs → Ended w (inline_call x ks) (inlined_by w at.fun ks es hs)
unfolding inlined_by
called-ends w x ks at g es is [] found = refuses 5 (omega arith)
called-ends w x ks at g es is (h ∷ hs) found =
    let as_many = eqb (length (exprs_in es)) (length h.params) in
    let both = and_parts _ _ in
    walk-pick (Ended w (inline_call x ks)) _ _ (no 5 w)
    (λ e. put_ends w (inline_call x ks) at.fun ks (binds_of h.params (exprs_in es) h.body)
    (λ new news lets. record {
      at = at;
      name = g;
      values = es;
      is_call = is;
      called = record { fun = h; rest = hs; found = found };
      as_many = eqb-true _ _ (both e).0;
      closed = (both e).1;
      new = new;
      news = news;
      lets = lets;
      made = refl;
    }))
    (λ e. refuses 5 (omega arith))

call_ends : (w : Plain) (x : Name) (ks : List ℕ) (at : Standing w.now x ks) (e : Expr) → at.expr ≡ e →
    Ended w (inline_call x ks) (call_inlined w at.fun ks e)
unfolding call_inlined
call_ends w x ks at (num n) is = refuses 6 (omega arith)
call_ends w x ks at (var z) is = refuses 6 (omega arith)
call_ends w x ks at (bin k a b) is = refuses 6 (omega arith)
call_ends w x ks at (call g es) is = called-ends w x ks at g es is (fun_of w.now g) refl
call_ends w x ks at (bind z a b) is = refuses 6 (omega arith)
call_ends w x ks at (choice c a b) is = refuses 6 (omega arith)
call_ends w x ks at (tell a) is = refuses 6 (omega arith)

cond_ends : (w : Plain) (x : Name) (ks : List ℕ) (at : Standing w.now x ks) (e : Expr) → at.expr ≡ e →
    Ended w (turn_cond x ks) (cond_turned w at.fun ks e)
unfolding cond_turned
cond_ends w x ks at (num n) is = refuses 6 (omega arith)
cond_ends w x ks at (var z) is = refuses 6 (omega arith)
cond_ends w x ks at (bin k a b) is = refuses 6 (omega arith)
cond_ends w x ks at (call g es) is = refuses 6 (omega arith)
cond_ends w x ks at (bind z a b) is = refuses 6 (omega arith)
cond_ends w x ks at (choice c a b) is =
    now-ends w (turn_cond x ks) _ (record { at = at; test = c; yes = a; other = b; is_choice = is; made = refl })
cond_ends w x ks at (tell a) is = refuses 6 (omega arith)

drop-ends : (w : Plain) (x : Name) (at : Found w.now x) → Ended w (drop_fun x) (fun_dropped w x at.fun)
drop-ends w x at =
    walk-pick (Ended w (drop_fun x)) (or (same x main) (still_called w.now x)) (no 6 w) _ (λ e. refuses 6 (omega arith))
    (λ e. now-ends w (drop_fun x) _
    (record {
      at = at;
      not_main = or_left_false _ _ e;
      uncalled = or_right_false _ _ e;
      made = refl;
    }))

back_ends : (w : Plain) (ps : List Program) → w.before ≡ ps → Ended w undo (undone w ps)
back_ends w [] was = refuses 9 (omega arith)
back_ends w (p ∷ ps) was = goes_back p ps refl was

-- what is done with a function that there is
found-ends : (w : Plain) (c : Command) (x : Name) (h : Fun → Turn) → ((at : Found w.now x) → Ended w c (h at.fun)) → Ended w c (at_fun w x h)
found-ends w c x h k = walk-fun (Ended w c) w x h (refuses 3 (omega arith)) (λ f fs found. k (record { fun = f; rest = fs; found = found }))

pub turn-ends : (w : Plain) (c : Command) → Ended w c (turn w c)
unfolding turn changes
turn-ends w (load p) = walk-pick (Ended w (load p)) (fine p) _ (no 4 w) (λ e. loads p refl e) (λ e. refuses 4 (omega arith))
turn-ends w (show x) = found-ends w (show x) x _ (λ at. looks _ refl)
turn-ends w names = looks _ refl
turn-ends w (rename_bind x ks y) =
    place-ends w (rename_bind x ks y) x ks (λ f e. bind_renamed w f ks y e) (λ at. bind-ends w x ks y at at.expr refl)
turn-ends w (rename_param x i y) =
    found-ends w (rename_param x i y) x (λ f. param_renamed w f i y (nth_name f.params i)) (λ at. param_ends w x i y at _ refl)
turn-ends w (rename_fun x y) = found-ends w (rename_fun x y) x (fun_called w x y) (fun-ends w x y)
turn-ends w (extract x ks y) =
    place-ends w (extract x ks y) x ks (λ f e. pick (taken w.now y) (no 4 w) (extracted w f ks y e)) (extract-ends w x ks y)
turn-ends w (inline_bind x ks) =
    place-ends w (inline_bind x ks) x ks (λ f e. bind_inlined w f ks e) (λ at. inline_ends w x ks at at.expr refl)
turn-ends w (inline_call x ks) =
    place-ends w (inline_call x ks) x ks (λ f e. call_inlined w f ks e) (λ at. call_ends w x ks at at.expr refl)
turn-ends w (turn_cond x ks) = place-ends w (turn_cond x ks) x ks (λ f e. cond_turned w f ks e) (λ at. cond_ends w x ks at at.expr refl)
turn-ends w (drop_fun x) = found-ends w (drop_fun x) x (fun_dropped w x) (drop-ends w x)
turn-ends w undo = back_ends w w.before refl

pub refused-same : RefusedSame
refused-same w c = go (turn-ends w c)
  where
    go : {t : Turn} → Ended w c t → 0 < t.reply → t.next ≡ w
    go (refuses k h) pos = refl
    go (looks ss h) pos = absurd (omega arith)
    go (loads p h l) pos = absurd (omega arith)
    go (goes_back p ps h b) pos = absurd (omega arith)
    go (makes p m few short) pos = absurd (omega arith)

pub back_again : BackAgain
unfolding turn
back_again w c change = go (turn-ends w c)
  where
    go : {t : Turn} → Ended w c t → t.reply ≡ 0 → (turn t.next undo).next.now ≡ w.now
    go (refuses k h) zero = absurd (omega arith)
    go (looks ss h) zero = absurd (clash (sym h ∙ change))
    go (loads p h l) zero = absurd (clash (unfold changes in (sym (ap changes h) ∙ change)))
    go (goes_back p ps h b) zero = absurd (clash (unfold changes in (sym (ap changes h) ∙ change)))
    go (makes p m few short) zero = refl

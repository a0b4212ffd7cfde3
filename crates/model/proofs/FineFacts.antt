-- Programs stay fine: functions keep different names, and so do each function's own. A function put in place keeps its name, one that is added or
-- renamed gets a name that none has, and what is free in an expression comes once. Assumes nothing.
use Rattle.std.proofs.Common.{arith, ◌≡◌, ℕ, ◌≤◌, Bool, true, false, not, List, [], ◌∷◌, ◌++◌, length, sym, refl, ap, ◌∙◌, ap₂}
use Rattle.std.proofs.lemmas.Bool.{and_parts, and_from, not-true, not_from_false}
use Rattle.language.specs.Basics.{pick, or, every, each, those, same}
use Rattle.language.specs.Bytes.{Name}
use Rattle.language.specs.Expr.{Expr, num, var, bin, call, bind, choice, tell, Exprs, no_exprs, expr_and, Fun, Program}
use Rattle.language.specs.Names.{has, joined, less, free, free_all, distinct}
use Rattle.language.specs.Spelling.{program_spelled}
use Rattle.language.proofs.NameFacts.{same_eq, same_sym, or_left_false, or_right_false, has-append}
use Rattle.language.proofs.ListFacts.{every_append, every-those, every-each, each_append}
use Rattle.language.proofs.ProgramFits.{found-every, program_fits}
use Rattle.model.specs.Command.{Command, load, show, names, rename_bind, rename_param, rename_fun, extract, inline_bind, inline_call, turn_cond, drop_fun, undo, fits}
use Rattle.model.specs.State.{Plain, Turn, set_fun, fine}
use Rattle.model.specs.FunctionNames.{there, taken, fun_renamed}
use Rattle.model.specs.Extract.{made_fun}
use Rattle.model.specs.Statements.{StaysFine}
use Rattle.model.proofs.RenameFacts.{names_of}
use Rattle.model.proofs.FunctionNamesMeaning.{none_there, renamed_apart}
use Rattle.model.proofs.TurnFacts.{Standing, put_body, Made, Ended, refuses, looks, loads, goes_back, makes, turn-ends}

-- each function's own names differ
abbrev own_apart : Program → Bool
own_apart p = every (λ f. distinct f.params) p

fine-parts : (p : Program) → fine p ≡ true → (distinct (names_of p) ≡ true) × (own_apart p ≡ true)
fine-parts p h = and_parts _ _ h

-- a name more, which is none of the others
distinct_push : (xs : List Name) (y : Name) → distinct xs ≡ true → has xs y ≡ false → distinct (xs ++ y ∷ []) ≡ true
unfolding distinct
distinct_push [] y h new = refl
distinct_push (x ∷ xs) y h new =
    and_from _ _ (not_from_false _ apart)
    (distinct_push xs y both.1 (or_right_false _ _ new))
  where
    both : (not (has xs x) ≡ true) × (distinct xs ≡ true)
    both = and_parts _ _ h

    apart : has (xs ++ y ∷ []) x ≡ false
    apart = grind (arith, has-append, same_sym)

distinct-joined : (xs ys : List Name) → distinct xs ≡ true → distinct (joined xs ys) ≡ true
unfolding joined
distinct-joined xs [] h = h
distinct-joined xs (y ∷ ys) h = distinct-joined (pick (has xs y) xs (xs ++ y ∷ [])) ys (go (has xs y) refl)
  where
    go : (t : Bool) → has xs y ≡ t → distinct (pick t xs (xs ++ y ∷ [])) ≡ true
    go true e = h
    go false e = distinct_push xs y h e

-- what is free in an expression comes once
mutual
  unfolding free free_all distinct

  pub free_apart : (e : Expr) → distinct (free e) ≡ true
  free_apart (num n) = refl
  free_apart (var x) = refl
  free_apart (bin k a b) = distinct-joined (free a) (free b) (free_apart a)
  free_apart (call f es) = all_apart es
  free_apart (bind x a b) = distinct-joined (free a) (less x (free b)) (free_apart a)
  free_apart (choice c a b) = distinct-joined (joined (free c) (free a)) (free b) (distinct-joined (free c) (free a) (free_apart c))
  free_apart (tell a) = free_apart a

  all_apart : (es : Exprs) → distinct (free_all es) ≡ true
  all_apart no_exprs = refl
  all_apart (expr_and e es) = distinct-joined (free e) (free_all es) (free_apart e)

-- a function with the same name put in place
set-names : (p : Program) (x : Name) (g : Fun) → g.name ≡ x → names_of (set_fun p x g) ≡ names_of p
set-names [] x g h = refl
set-names (f ∷ fs) x g h = ap₂ ◌∷◌ (go (same f.name x) refl) (set-names fs x g h)
  where
    go : (t : Bool) → same f.name x ≡ t → (pick t g f).name ≡ f.name
    go true e = h ∙ sym (same_eq f.name x e)
    go false e = refl

pub set-every : (P : Fun → Bool) (p : Program) (x : Name) (g : Fun) → every P p ≡ true → P g ≡ true → every P (set_fun p x g) ≡ true
set-every P p x g h k = grind (arith, every-each)

set-fine : (p : Program) (g : Fun) → fine p ≡ true → distinct g.params ≡ true → fine (set_fun p g.name g) ≡ true
set-fine p g h k = grind (arith, set-names, set-every)

put_fine : (p : Program) (x : Name) (ks : List ℕ) (e : Expr) → fine p ≡ true → (at : Standing p x ks) → fine (put_body p at.fun ks e) ≡ true
put_fine p x ks e h at =
    set-fine p _ h (found-every (λ f. distinct f.params) p x at.fun at.rest (fine-parts p h).1 at.found)

-- a function added that none is called as
not_named : (p : Program) (x : Name) → there p x ≡ false → has (names_of p) x ≡ false
not_named [] x h = refl
not_named (f ∷ fs) x h =
    let none = none_there f fs x h in ap₂ or (same_sym x f.name ∙ none.0) (not_named fs x none.1)

push_fine : (p : Program) (g : Fun) → fine p ≡ true → has (names_of p) g.name ≡ false → distinct g.params ≡ true → fine (p ++ g ∷ []) ≡ true
push_fine p g h new k = grind (arith, each_append, distinct_push, every_append)

free-name : (p : Program) (y : Name) → taken p y ≡ false → there p y ≡ false
free-name p y h = or_left_false _ _ (or_right_false _ _ h)

-- a function called something else: its new name is as different from the others as its old one
renamed-has : (p : Program) (x y n : Name) → there p y ≡ false → same n y ≡ false →
    has (names_of (each (fun_renamed x y) p)) (pick (same n x) y n) ≡ has (names_of p) n
renamed-has [] x y n new other = refl
renamed-has (f ∷ fs) x y n new other =
    let none = none_there f fs y new in
    ap₂ or
    (ap (λ t. same (pick (same n x) y n) (pick t y f.name)) (same_sym f.name x)
    ∙ renamed_apart x y n f.name other (same_sym y f.name ∙ none.0))
    (renamed-has fs x y n none.1 other)

renamed-distinct : (p : Program) (x y : Name) → there p y ≡ false → distinct (names_of p) ≡ true → distinct (names_of (each (fun_renamed x y) p)) ≡ true
unfolding distinct
renamed-distinct [] x y new h = refl
renamed-distinct (f ∷ fs) x y new h =
    let none = none_there f fs y new in
    let both = and_parts _ _ h in
    and_from _ _
    (ap not (renamed-has fs x y f.name none.1 none.0) ∙ both.0) (renamed-distinct fs x y none.1 both.1)

renamed-fine : (p : Program) (x y : Name) → fine p ≡ true → there p y ≡ false → fine (each (fun_renamed x y) p) ≡ true
renamed-fine p x y h new = grind (arith, renamed-distinct, every-each)

-- some functions left out
those_unnamed : (q : Fun → Bool) (p : Program) (x : Name) → has (names_of p) x ≡ false → has (names_of (those q p)) x ≡ false
those_unnamed q [] x h = refl
those_unnamed q (f ∷ fs) x h = go (q f) (those_unnamed q fs x (or_right_false _ _ h))
  where
    go : (t : Bool) → has (names_of (those q fs)) x ≡ false → has (names_of (pick t (f ∷ those q fs) (those q fs))) x ≡ false
    go true ih = ap₂ or (or_left_false _ _ h) ih
    go false ih = ih

those-distinct : (q : Fun → Bool) (p : Program) → distinct (names_of p) ≡ true → distinct (names_of (those q p)) ≡ true
unfolding distinct
those-distinct q [] h = refl
those-distinct q (f ∷ fs) h = go (q f) (those-distinct q fs both.1)
  where
    both : (not (has (names_of fs) f.name) ≡ true) × (distinct (names_of fs) ≡ true)
    both = and_parts _ _ h

    go : (t : Bool) → distinct (names_of (those q fs)) ≡ true → distinct (names_of (pick t (f ∷ those q fs) (those q fs))) ≡ true
    go true ih =
        and_from _ _
        (not_from_false _ (those_unnamed q fs f.name (not-true _ both.0))) ih
    go false ih = ih

those-fine : (q : Fun → Bool) (p : Program) → fine p ≡ true → fine (those q p) ≡ true
those-fine q p h = grind (arith, those-distinct, every-those)

pub made-fine : (w : Plain) (c : Command) (p : Program) → fine w.now ≡ true → Made w c p → fine p ≡ true
made-fine w (load q) p h m = absurd m
made-fine w (show x) p h m = absurd m
made-fine w names p h m = absurd m
made-fine w (rename_bind x ks y) p h m = ap fine m.made ∙ put_fine w.now x ks _ h m.at
made-fine w (rename_param x i y) p h m = ap fine m.made ∙ set-fine w.now _ h m.apart
made-fine w (rename_fun x y) p h m = grind (arith, renamed-fine)
made-fine w (extract x ks y) p h m =
    let called = put_body w.now m.at.fun ks _ in
    ap fine m.made
    ∙ push_fine called (made_fun y m.at.expr) (put_fine w.now x ks _ h m.at)
    (ap (λ ns. has ns y) (set-names w.now m.at.fun.name _ refl) ∙ not_named w.now y (free-name w.now y m.new))
    (free_apart m.at.expr)
made-fine w (inline_bind x ks) p h m = ap fine m.made ∙ put_fine w.now x ks _ h m.at
made-fine w (inline_call x ks) p h m = ap fine m.made ∙ put_fine w.now x ks _ h m.at
made-fine w (turn_cond x ks) p h m = ap fine m.made ∙ put_fine w.now x ks _ h m.at
made-fine w (drop_fun x) p h m = grind (arith, those-fine)
made-fine w undo p h m = absurd m

pub stays_fine : StaysFine
stays_fine w c fit is_fine short were-fine were-short = go (turn-ends w c)
  where
    go : {t : Turn} → Ended w c t → (fine t.next.now ≡ true) × (length (program_spelled t.next.now) ≤ 65536)
    go (refuses k h) = (is_fine, short)
    go (looks ss h) = (is_fine, short)
    go (loads p is h) = (h, (program_fits p (unfold fits in (sym (ap fits is) ∙ fit))).2)
    go (goes_back p ps is was) = grind arith
    go (makes p m few small) = (made-fine w c p is_fine m, small)

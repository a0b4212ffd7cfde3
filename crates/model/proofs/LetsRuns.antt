-- A call as lets: the values one after the other, each where the names before it are given too, and then the function's expression.
-- Assumes nothing.
use Rattle.std.proofs.Common.{◌≡◌, ℕ, suc, Bool, true, false, List, [], ◌∷◌, length, sym, refl, ap, ◌∙◌, subst, arith}
use mathlib.Core.Path.{fun_ext}
use borrow.Author.Tests.{clash}
use Rattle.std.proofs.lemmas.Bool.{and_parts}
use Rattle.language.specs.Basics.{pick, any, every, same}
use Rattle.language.specs.Bytes.{Name}
use Rattle.language.specs.Expr.{Expr, call, bind, Exprs, no_exprs, expr_and, Fun, Program, exprs_in}
use Rattle.language.specs.Meaning.{Came, came, wrong, deep, Bound, look, fun_of, after_telling, then, binds, Cames, cames, wrongs, deeps, more_cames, and_cames, Ev, eval_all, called, step, eval}
use Rattle.language.specs.Names.{has, free, distinct}
use Rattle.language.proofs.NameFacts.{same_eq, same_sym, or_left_false, or_right_false, every-has}
use Rattle.language.proofs.FreeFacts.{Agree, agree_without, eval_agree}
use Rattle.language.proofs.Depth.{after_none, after-twice}
use Rattle.language.proofs.Reach.{Reach, Run, later, then_reach, run_down}
use Rattle.language.proofs.AlikeRuns.{alike-eval}
use Rattle.model.specs.Inline.{with_bind, binds_of}
use Rattle.model.proofs.SetFacts.{pick_right}
use Rattle.model.proofs.PutForRuns.{First, first-map}

-- something done with values, once they are there
with_all : Cames → (List ℕ → Came) → Came
with_all (cames vs ts) k = after_telling ts (k vs)
with_all (wrongs i ts) k = wrong i ts
with_all deeps k = deep

with_more : (v : ℕ) (ts : List ℕ) (c : Cames) (k : List ℕ → Came) →
    with_all (more_cames v ts c) k ≡ after_telling ts (with_all c (λ vs. k (v ∷ vs)))
unfolding with_all after_telling
with_more v ts (cames vs us) k = after-twice ts us (k (v ∷ vs))
with_more v ts (wrongs i us) k = refl
with_more v ts deeps k = refl

-- the first value, then the others
with_and : (c : Came) (d : Cames) (k : List ℕ → Came) →
    with_all (and_cames c (λ v ts. more_cames v ts d)) k ≡ then c (λ v. with_all d (λ vs. k (v ∷ vs)))
unfolding with_all then
with_and (came v ts) d k = with_more v ts d k
with_and (wrong i ts) d k = refl
with_and deep d k = refl

-- as many values as there are expressions
abbrev Sized : ℕ → Cames → Type 0
Sized l (cames vs ts) = length vs ≡ l
Sized l (wrongs i ts) = Unit {0}
Sized l deeps = Unit {0}

more_sized : (l v : ℕ) (ts : List ℕ) (c : Cames) → Sized l c → Sized (suc l) (more_cames v ts c)
more_sized l v ts (cames vs us) h = ap suc h
more_sized l v ts (wrongs i us) h = tt
more_sized l v ts deeps h = tt

and_sized : (l : ℕ) (c : Came) (d : Cames) → Sized l d → Sized (suc l) (and_cames c (λ v ts. more_cames v ts d))
and_sized l (came v ts) d h = more_sized l v ts d h
and_sized l (wrong i ts) d h = tt
and_sized l deep d h = tt

all_sized : (ev : Expr → Came) (es : Exprs) → Sized (length (exprs_in es)) (eval_all ev es)
unfolding eval_all
all_sized ev no_exprs = refl
all_sized ev (expr_and e es) = and_sized (length (exprs_in es)) (ev e) (eval_all ev es) (all_sized ev es)

-- a call with as many values as are taken
called-all : (ev : Ev) (h : Fun) (hs : List Fun) (c : Cames) → Sized (length h.params) c →
    called ev (h ∷ hs) c ≡ with_all c (λ vs. ev (binds h.params vs) h.body)
unfolding called with_all
called-all ev h hs (cames vs ts) l = grind arith
called-all ev h hs (wrongs i ts) l = refl
called-all ev h hs deeps l = refl

-- what the names have once each was given, one after the other
bound : List Name → List ℕ → List Bound → List Bound
bound [] vs cs = cs
bound (x ∷ xs) [] cs = cs
bound (x ∷ xs) (v ∷ vs) cs = bound xs vs (record { name = x; value = v } ∷ cs)

bound_other : (xs : List Name) (vs : List ℕ) (cs : List Bound) (y : Name) → has xs y ≡ false → look (bound xs vs cs) y ≡ look cs y
unfolding bound look
bound_other [] vs cs y h = refl
bound_other (x ∷ xs) [] cs y h = refl
bound_other (x ∷ xs) (v ∷ vs) cs y h =
    bound_other xs vs (record { name = x; value = v } ∷ cs) y (or_right_false _ _ h)
    ∙ pick_right (same x y) (v ∷ []) (look cs y) (same_sym x y ∙ or_left_false _ _ h)

-- names that differ have what a call gives them
bound_agree : (xs : List Name) (vs : List ℕ) (cs : List Bound) → length vs ≡ length xs → distinct xs ≡ true → Agree (bound xs vs cs) (binds xs vs) xs
unfolding bound look binds distinct
bound_agree [] vs cs l d y h = absurd (clash h)
bound_agree (x ∷ xs) [] cs l d y h = absurd (omega arith)
bound_agree (x ∷ xs) (v ∷ vs) cs l d y h =
    go (has xs y) refl (bound_agree xs vs (record { name = x; value = v } ∷ cs) (omega arith) (and_parts _ _ d).1 y)
  where
    go : (t : Bool) → has xs y ≡ t →
        (has xs y ≡ true → look (bound xs vs (record { name = x; value = v } ∷ cs)) y ≡ look (binds xs vs) y) →
        look (bound xs vs (record { name = x; value = v } ∷ cs)) y ≡ pick (same x y) (v ∷ []) (look (binds xs vs) y)
    go true e ih = grind (arith, same_eq)
    go false e ih = grind (arith, same_sym, bound_other)

-- each of these expressions has the same values for its names in both
abbrev Agrees : List Bound → List Bound → Exprs → Type 0
Agrees cs ds no_exprs = Unit {0}
Agrees cs ds (expr_and e es) = Agree cs ds (free e) × Agrees cs ds es

agrees_self : (ds : List Bound) (es : Exprs) → Agrees ds ds es
agrees_self ds no_exprs = tt
agrees_self ds (expr_and e es) = (λ x h. refl, agrees_self ds es)

agrees_under : (x : Name) (v : ℕ) (cs ds : List Bound) (es : Exprs) → any (λ a. has (free a) x) (exprs_in es) ≡ false → Agrees cs ds es →
    Agrees (record { name = x; value = v } ∷ cs) ds es
agrees_under x v cs ds no_exprs h a = tt
agrees_under x v cs ds (expr_and e es) h a = (
  λ y k. agree_without cs x v (free e) (or_left_false _ _ h) y k ∙ a.0 y k,
  agrees_under x v cs ds es (or_right_false _ _ h) a.1,
)

one_let_forth : (n : ℕ) (r : Program) (ds cs : List Bound) (x : Name) (e c : Expr) (W : ℕ → Came) → Agree cs ds (free e) →
    ((v : ℕ) → Reach (W v) (λ m. eval m r (record { name = x; value = v } ∷ cs) c)) → Reach (then (eval n r ds e) W) (λ m. eval m r cs (bind x e c))
unfolding eval step
one_let_forth n r ds cs x e c W a h =
    later (then (eval n r ds e) W) (λ m. eval m r cs (bind x e c))
    (then_reach (eval n r ds e) W (λ m. eval m r cs e) (λ m v. eval m r (record { name = x; value = v } ∷ cs) c)
    (alike-eval r cs ds e e (λ m. eval_agree m r cs ds e a) n).1 h)

one_let_back : (n : ℕ) (r : Program) (ds cs : List Bound) (x : Name) (e c : Expr) (W : ℕ → ℕ → Came) → Agree cs ds (free e) →
    ((v : ℕ) → Reach (eval n r (record { name = x; value = v } ∷ cs) c) (λ m. W m v)) →
    Reach (eval n r cs (bind x e c)) (λ m. then (eval m r ds e) (W m))
unfolding eval step
one_let_back n r ds cs x e c W a h =
    run_down n (suc n) r cs (bind x e c) (λ m. then (eval m r ds e) (W m)) (omega arith)
    (then_reach (eval n r cs e) (λ v. eval n r (record { name = x; value = v } ∷ cs) c) (λ m. eval m r ds e) W
    (alike-eval r cs ds e e (λ m. eval_agree m r cs ds e a) n).0 h)

-- a let of each, if no later value has its name
lets_step : (P : ℕ → Expr → Type 0) (Q : Expr → Type 0) (x : Name) (e : Expr) → ((c : Expr) → ((v : ℕ) → P v c) → Q (bind x e c)) → (t : Bool)
    (l : List Expr) → (t ≡ false → (v : ℕ) → First (P v) l) → First Q (pick t [] (with_bind x e l))
lets_step P Q x e h true l p = tt
lets_step P Q x e h false [] p = tt
lets_step P Q x e h false (c ∷ cs) p = h c (p refl)

module _ (r : Program) (n : ℕ) (ds : List Bound) where
  -- the values in ds and then what k makes of them, as c does in cs
  abbrev Forth : Exprs → (List ℕ → Came) → List Bound → Expr → Type 0
  Forth es k cs c = Reach (with_all (eval_all (λ e. eval n r ds e) es) k) (λ m. eval m r cs c)

  abbrev Back : Exprs → (ℕ → List ℕ → Came) → List Bound → Expr → Type 0
  Back es k cs c = Reach (eval n r cs c) (λ m. with_all (eval_all (λ e. eval m r ds e) es) (k m))

  lets_forth : (b : Expr) (xs : List Name) (es : Exprs) (cs : List Bound) → length (exprs_in es) ≡ length xs → Agrees cs ds es →
      (k : List ℕ → Came) → ((vs : List ℕ) → length vs ≡ length xs → Reach (k vs) (λ m. eval m r (bound xs vs cs) b)) →
      First (Forth es k cs) (binds_of xs (exprs_in es) b)
  unfolding binds_of eval_all bound
  lets_forth b [] no_exprs cs l a k h =
      unfold with_all in subst (λ c. Reach c (λ m. eval m r cs b)) (sym (after_none (k []))) (h [] refl)
  lets_forth b [] (expr_and e es) cs l a k h = absurd (omega arith)
  lets_forth b (x ∷ xs) no_exprs cs l a k h = tt
  lets_forth b (x ∷ xs) (expr_and e es) cs l a k h =
      lets_step (λ v c. Forth es (λ vs. k (v ∷ vs)) (record { name = x; value = v } ∷ cs) c) (Forth (expr_and e es) k cs) x e
      (λ c q. subst (λ o. Reach o (λ m. eval m r cs (bind x e c))) (sym (with_and (eval n r ds e) (eval_all (λ e. eval n r ds e) es) k))
      (one_let_forth n r ds cs x e c (λ v. with_all (eval_all (λ e. eval n r ds e) es) (λ vs. k (v ∷ vs))) a.0 q))
      (any (λ d. has (free d) x) (exprs_in es)) (binds_of xs (exprs_in es) b)
      (λ apart v. lets_forth b xs es (record { name = x; value = v } ∷ cs) (omega arith) (agrees_under x v cs ds es apart a.1) (λ vs. k (v ∷ vs))
      (λ vs m. h (v ∷ vs) (ap suc m)))

  lets_back : (b : Expr) (xs : List Name) (es : Exprs) (cs : List Bound) → length (exprs_in es) ≡ length xs → Agrees cs ds es →
      (k : ℕ → List ℕ → Came) → ((vs : List ℕ) → length vs ≡ length xs → Reach (eval n r (bound xs vs cs) b) (λ m. k m vs)) →
      First (Back es k cs) (binds_of xs (exprs_in es) b)
  unfolding binds_of eval_all bound
  lets_back b [] no_exprs cs l a k h =
      unfold with_all in subst (λ G. Reach (eval n r cs b) G) (fun_ext λ m. sym (after_none (k m []))) (h [] refl)
  lets_back b [] (expr_and e es) cs l a k h = absurd (omega arith)
  lets_back b (x ∷ xs) no_exprs cs l a k h = tt
  lets_back b (x ∷ xs) (expr_and e es) cs l a k h =
      lets_step (λ v c. Back es (λ m vs. k m (v ∷ vs)) (record { name = x; value = v } ∷ cs) c) (Back (expr_and e es) k cs) x e
      (λ c q. subst (λ G. Reach (eval n r cs (bind x e c)) G)
      (fun_ext λ m. sym (with_and (eval m r ds e) (eval_all (λ e. eval m r ds e) es) (k m)))
      (one_let_back n r ds cs x e c (λ m v. with_all (eval_all (λ e. eval m r ds e) es) (λ vs. k m (v ∷ vs))) a.0 q))
      (any (λ d. has (free d) x) (exprs_in es)) (binds_of xs (exprs_in es) b)
      (λ apart v. lets_back b xs es (record { name = x; value = v } ∷ cs) (omega arith) (agrees_under x v cs ds es apart a.1)
      (λ m vs. k m (v ∷ vs)) (λ vs m. h (v ∷ vs) (ap suc m)))

-- A call of h by the name g, and the lets with b: they run alike, if h's body does as b, which has no names but those that h takes.
module _ (r : Program) (g : Name) (h : Fun) (hs : List Fun) (found : fun_of r g ≡ h ∷ hs) (es : Exprs) (b : Expr)
    (as_many : length (exprs_in es) ≡ length h.params) (apart : distinct h.params ≡ true) (closed : every (has h.params) (free b) ≡ true) where
  call-all : (n : ℕ) (ds : List Bound) →
      eval (suc n) r ds (call g es) ≡ with_all (eval_all (λ e. eval n r ds e) es) (λ vs. eval n r (binds h.params vs) h.body)
  unfolding eval step
  call-all n ds = grind (arith, called-all, all_sized)

  -- b comes to the same under the lets as with what a call gives
  lets_binds : (n : ℕ) (vs : List ℕ) (ds : List Bound) → length vs ≡ length h.params →
      eval n r (bound h.params vs ds) b ≡ eval n r (binds h.params vs) b
  lets_binds n vs ds l = grind (arith, eval_agree, bound_agree, every-has)

  pub call_forth : (n : ℕ) (ds : List Bound) →
      ((vs : List ℕ) → length vs ≡ length h.params → Run n r (binds h.params vs) h.body r (binds h.params vs) b) →
      First (Run (suc n) r ds (call g es) r ds) (binds_of h.params (exprs_in es) b)
  call_forth n ds s =
      first-map (Forth r n ds es (λ vs. eval n r (binds h.params vs) h.body) ds) (Run (suc n) r ds (call g es) r ds)
      (λ c q. subst (λ o. Reach o (λ m. eval m r ds c)) (sym (call-all n ds)) q) (binds_of h.params (exprs_in es) b)
      (lets_forth r n ds b h.params es ds as_many (agrees_self ds es) (λ vs. eval n r (binds h.params vs) h.body)
      (λ vs l. subst (λ G. Reach (eval n r (binds h.params vs) h.body) G) (fun_ext λ m. sym (lets_binds m vs ds l)) (s vs l)))

  pub call_back : (n : ℕ) (ds : List Bound) →
      ((vs : List ℕ) → length vs ≡ length h.params → Run n r (binds h.params vs) b r (binds h.params vs) h.body) →
      First (λ c. Run n r ds c r ds (call g es)) (binds_of h.params (exprs_in es) b)
  call_back n ds s =
      first-map (Back r n ds es (λ m vs. eval m r (binds h.params vs) h.body) ds) (λ c. Run n r ds c r ds (call g es))
      (λ c q. later (eval n r ds c) (λ m. eval m r ds (call g es)) (subst (λ G. Reach (eval n r ds c) G) (fun_ext λ m. sym (call-all m ds)) q))
      (binds_of h.params (exprs_in es) b)
      (lets_back r n ds b h.params es ds as_many (agrees_self ds es) (λ m vs. eval m r (binds h.params vs) h.body)
      (λ vs l. subst (λ o. Reach o (λ m. eval m r (binds h.params vs) h.body)) (sym (lets_binds n vs ds l)) (s vs l)))

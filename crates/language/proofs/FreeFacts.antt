-- Only names that are free matter: an expression comes to the same wherever its free names have the same values.
-- One lemma for a step over any evaluation, then an induction on the depth. Assumes nothing.
use Rattle.std.proofs.Common.{◌≡◌, ℕ, zero, suc, Bool, true, false, not, ◌&&◌, eqb, List, [], ◌∷◌, sym, refl, ap, ◌∙◌, ap₂}
use mathlib.Core.Path.{fun_ext}
use borrow.Author.Tests.{clash}
use Rattle.language.specs.Basics.{pick, same}
use Rattle.language.specs.Bytes.{Name}
use Rattle.language.specs.Expr.{Expr, num, var, bin, call, bind, choice, tell, Exprs, no_exprs, expr_and, Program}
use Rattle.language.specs.Meaning.{came, Bound, look, fun_of, reckon, then, looked, more_cames, and_cames, Ev, eval_all, called, step, eval}
use Rattle.language.specs.Names.{has, joined, less, free, free_all}
use Rattle.language.specs.Statements.{FreeMatter}
use Rattle.language.proofs.NameFacts.{same_refl, same_eq, or_left_true, or_right_true, has-joined, has-less}

-- the names xs have the same values in both
abbrev pub Agree : List Bound → List Bound → List Name → Type 0
Agree bs cs xs = (x : Name) → has xs x ≡ true → look bs x ≡ look cs x

pub agree_left : (bs cs : List Bound) (xs ys : List Name) → Agree bs cs (joined xs ys) → Agree bs cs xs
agree_left bs cs xs ys h x k = h x (has-joined xs ys x ∙ or_left_true (has xs x) (has ys x) k)

pub agree_right : (bs cs : List Bound) (xs ys : List Name) → Agree bs cs (joined xs ys) → Agree bs cs ys
agree_right bs cs xs ys h x k = h x (has-joined xs ys x ∙ or_right_true (has xs x) (has ys x) k)

-- under a bind of y, for those that are not y
pub agree_under : (bs cs : List Bound) (y : Name) (v : ℕ) (xs : List Name) → Agree bs cs (less y xs) →
    Agree (record { name = y; value = v } ∷ bs) (record { name = y; value = v } ∷ cs) xs
unfolding look
agree_under bs cs y v xs h x k = go (same y x) refl
  where
    go : (t : Bool) → same y x ≡ t → pick t (v ∷ []) (look bs x) ≡ pick t (v ∷ []) (look cs x)
    go true e = refl
    go false e = h x (has-less y xs x ∙ ap (λ t. not t && has xs x) e ∙ k)

-- evaluations that look only at free names
OnlyFree : Ev → Type 0
OnlyFree ev = (bs cs : List Bound) (e : Expr) → Agree bs cs (free e) → ev bs e ≡ ev cs e

all_agree : (ev : Ev) → OnlyFree ev → (bs cs : List Bound) (es : Exprs) → Agree bs cs (free_all es) → eval_all (ev bs) es ≡ eval_all (ev cs) es
unfolding OnlyFree eval_all free_all
all_agree ev ih bs cs no_exprs h = refl
all_agree ev ih bs cs (expr_and e es) h =
    ap₂ and_cames (ih bs cs e (agree_left bs cs (free e) (free_all es) h))
    (fun_ext λ v. fun_ext λ ts. ap (more_cames v ts) (all_agree ev ih bs cs es (agree_right bs cs (free e) (free_all es) h)))

step_agree : (p : Program) (ev : Ev) → OnlyFree ev → OnlyFree (step p ev)
unfolding OnlyFree step free
step_agree p ev ih bs cs (num n) h = refl
step_agree p ev ih bs cs (var x) h = ap looked (h x (or_left_true (same x x) false (same_refl x)))
step_agree p ev ih bs cs (bin k a b) h =
    let in_a = ih bs cs a (agree_left bs cs (free a) (free b) h) in
    let in_b = ih bs cs b (agree_right bs cs (free a) (free b) h) in
    ap₂ then in_a (fun_ext λ v. ap (λ c. then c (λ w. reckon k v w)) in_b)
step_agree p ev ih bs cs (call f es) h = ap (called ev (fun_of p f)) (all_agree ev ih bs cs es h)
step_agree p ev ih bs cs (bind x a b) h =
    ap₂ then (ih bs cs a (agree_left bs cs (free a) (less x (free b)) h))
    (fun_ext λ v. ih _ _ b (agree_under bs cs x v (free b) (agree_right bs cs (free a) (less x (free b)) h)))
step_agree p ev ih bs cs (choice c a b) h =
    let both = agree_left bs cs (joined (free c) (free a)) (free b) h in
    let in_c = ih bs cs c (agree_left bs cs (free c) (free a) both) in
    let in_a = ih bs cs a (agree_right bs cs (free c) (free a) both) in
    let in_b = ih bs cs b (agree_right bs cs (joined (free c) (free a)) (free b) h) in
    ap₂ then in_c (fun_ext λ v. ap₂ (pick (eqb v 0)) in_b in_a)
step_agree p ev ih bs cs (tell a) h = ap (λ c. then c (λ v. came v (v ∷ []))) (ih bs cs a h)

pub eval_agree : (n : ℕ) (p : Program) (bs cs : List Bound) (e : Expr) → Agree bs cs (free e) → eval n p bs e ≡ eval n p cs e
unfolding eval OnlyFree
eval_agree zero p bs cs e h = refl
eval_agree (suc n) p bs cs e h = step_agree p (eval n p) (eval_agree n p) bs cs e h

-- a bind of a name that none of xs is
pub agree_without : (bs : List Bound) (y : Name) (v : ℕ) (xs : List Name) → has xs y ≡ false → Agree (record { name = y; value = v } ∷ bs) bs xs
unfolding look
agree_without bs y v xs h x k = go (same y x) refl
  where
    go : (t : Bool) → same y x ≡ t → pick t (v ∷ []) (look bs x) ≡ look bs x
    go true e = absurd (clash (sym h ∙ ap (has xs) (same_eq y x e) ∙ k))
    go false e = refl

pub free_matter : FreeMatter
free_matter p bs x v n e h = eval_agree n p (record { name = x; value = v } ∷ bs) bs e (agree_without bs x v (free e) h)

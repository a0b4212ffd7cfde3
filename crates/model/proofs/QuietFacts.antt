-- What is quiet comes to a number and tells nothing, in every program where its names are given: part by part. Assumes nothing.
use Rattle.std.proofs.Common.{◌≡◌, ℕ, suc, ◌-◌, ◌≤◌, Bool, true, false, eqb, ltb, leb, List, [], ◌∷◌, length, sym, refl, ap, subst, arith, eqb-true, leb-true}
use borrow.Author.Tests.{clash}
use Rattle.std.proofs.lemmas.Bool.{and_parts, ne_eqb}
use Rattle.language.specs.Basics.{pick, or}
use Rattle.language.specs.Bytes.{Name}
use Rattle.language.specs.Expr.{limit, Expr, num, var, bin, call, bind, choice, tell, Program}
use Rattle.language.specs.Meaning.{came, wrong, Bound, look, truth, reckon, after_telling, then, looked, step, eval}
use Rattle.language.specs.Statements.{values_in}
use Rattle.language.proofs.BareRuns.{binds_values}
use Rattle.language.proofs.Depth.{Under, under_same, eval_up}
use Rattle.language.proofs.Reach.{Reach, still, later, then_reach, pick_reach}
use Rattle.model.specs.Inline.{quiet}
use Rattle.model.specs.Statements.{QuietQuiet}
use Rattle.model.proofs.PlaceMeaning.{Given, given-binds}
use Rattle.model.proofs.SetFacts.{pick_left}

-- from some depth on, this number and nothing told
abbrev pub Ends : Program → List Bound → Expr → ℕ → Type 0
Ends r ds e v = Reach (came v []) (λ m. eval m r ds e)

-- whatever an expression that ends comes to is its end
pub ends-under : (r : Program) (ds : List Bound) (e : Expr) (v : ℕ) → Ends r ds e v → (n : ℕ) → Under (eval n r ds e) (came v [])
ends-under r ds e v s n = grind (arith, eval_up)

-- differences and comparisons don't go wrong
reckon-quiet : (k v w : ℕ) → or (eqb k 1) (leb 4 k) ≡ true → (u : ℕ) × (reckon k v w ≡ came u [])
reckon-quiet k v w h = go (eqb k 1) refl h
  where
    late : 4 ≤ k → (u : ℕ) × (reckon k v w ≡ came u [])
    late l =
        let e₀ : eqb k 0 ≡ false = ne_eqb k 0 (λ e. omega arith) in
        let e₁ : eqb k 1 ≡ false = ne_eqb k 1 (λ e. omega arith) in
        let e₂ : eqb k 2 ≡ false = ne_eqb k 2 (λ e. omega arith) in
        let e₃ : eqb k 3 ≡ false = ne_eqb k 3 (λ e. omega arith) in
        rw (e₀, e₁, e₂, e₃) (by_kind (eqb k 4))
      where
        by_kind : (t : Bool) → (u : ℕ) × (pick t (came (truth (eqb v w)) []) (came (truth (ltb v w)) []) ≡ came u [])
        by_kind true = (truth (eqb v w), refl)
        by_kind false = (truth (ltb v w), refl)

    go : (t : Bool) → eqb k 1 ≡ t → or t (leb 4 k) ≡ true → (u : ℕ) × (reckon k v w ≡ came u [])
    go true e h = (v - w, ap (λ i. reckon i v w) (eqb-true _ _ e))
    go false e h = late (leb-true _ _ h)

bin-ends : (r : Program) (ds : List Bound) (k : ℕ) (a b : Expr) (v w u : ℕ) → Ends r ds a v → Ends r ds b w → reckon k v w ≡ came u [] →
    Ends r ds (bin k a b) u
unfolding eval step then after_telling
bin-ends r ds k a b v w u s t h =
    later (came u []) (λ m. eval m r ds (bin k a b))
    (subst (λ c. Reach c (λ m. eval (suc m) r ds (bin k a b))) (ap (λ c. after_telling [] (after_telling [] c)) h)
    (then_reach (came v []) (λ x. then (came w []) (λ y. reckon k x y)) (λ m. eval m r ds a) (λ m x. then (eval m r ds b) (λ y. reckon k x y)) s
    (λ x. then_reach (came w []) (λ y. reckon k x y) (λ m. eval m r ds b) (λ m y. reckon k x y) t (λ y. still (reckon k x y)))))

choice-ends : (r : Program) (ds : List Bound) (c a b : Expr) (u v w : ℕ) → Ends r ds c u → Ends r ds a v → Ends r ds b w →
    Ends r ds (choice c a b) (pick (eqb u 0) w v)
unfolding eval step then after_telling
choice-ends r ds c a b u v w s t z =
    later (came (pick (eqb u 0) w v) []) (λ m. eval m r ds (choice c a b))
    (subst (λ o. Reach o (λ m. eval (suc m) r ds (choice c a b))) (one_of (eqb u 0))
    (then_reach (came u []) (λ x. pick (eqb x 0) (came w []) (came v [])) (λ m. eval m r ds c)
    (λ m x. pick (eqb x 0) (eval m r ds b) (eval m r ds a)) s
    (λ x. pick_reach (eqb x 0) (came w []) (came v []) (λ m. eval m r ds b) (λ m. eval m r ds a) z t)))
  where
    one_of : (i : Bool) → after_telling [] (pick i (came w []) (came v [])) ≡ came (pick i w v) []
    one_of true = refl
    one_of false = refl

num-ends : (r : Program) (ds : List Bound) (n : ℕ) → ltb n limit ≡ true → Ends r ds (num n) n
unfolding eval step
num-ends r ds n h =
    later (came n []) (λ m. eval m r ds (num n))
    (subst (λ c. Reach (came n []) (λ m. c)) (sym (pick_left (ltb n limit) (came n []) (wrong 5 []) h)) (still (came n [])))

pub var-ends : (r : Program) (ds : List Bound) (x : Name) (v : ℕ) → look ds x ≡ v ∷ [] → Ends r ds (var x) v
unfolding eval step looked
var-ends r ds x v h =
    later (came v []) (λ m. eval m r ds (var x)) (subst (λ vs. Reach (came v []) (λ m. looked vs)) (sym h) (still (came v [])))

pub quiet-ends : (r : Program) (gs : List Name) (ds : List Bound) → Given gs ds → (e : Expr) → quiet gs e ≡ true → (v : ℕ) × Ends r ds e v
unfolding quiet
quiet-ends r gs ds g (num n) h = (n, num-ends r ds n h)
quiet-ends r gs ds g (var x) h = ((g x h).0, var-ends r ds x (g x h).0 (g x h).1)
quiet-ends r gs ds g (bin k a b) h =
    let parts = and_parts _ _ h in
    let both = and_parts _ _ parts.1 in
    let first = quiet-ends r gs ds g a both.0 in
    let second = quiet-ends r gs ds g b both.1 in
    let whole = reckon-quiet k first.0 second.0 parts.0 in
    (whole.0, bin-ends r ds k a b first.0 second.0 whole.0 first.1 second.1 whole.1)
quiet-ends r gs ds g (call f es) h = absurd (clash h)
quiet-ends r gs ds g (bind x a b) h = absurd (clash h)
quiet-ends r gs ds g (choice c a b) h =
    let parts = and_parts _ _ h in
    let both = and_parts _ _ parts.1 in
    let test = quiet-ends r gs ds g c parts.0 in
    let first = quiet-ends r gs ds g a both.0 in
    let second = quiet-ends r gs ds g b both.1 in (
      pick (eqb test.0 0) second.0 first.0,
      choice-ends r ds c a b test.0 first.0 second.0 test.1 first.1 second.1,
    )
quiet-ends r gs ds g (tell a) h = absurd (clash h)

given_values : (xs : List Name) (vs : List ℕ) → length xs ≡ length vs → Given xs (values_in xs vs)
given_values xs vs l = subst (Given xs) (binds_values xs vs) (given-binds xs vs (sym l))

pub quiet-quiet : QuietQuiet
quiet-quiet p xs vs e n l small-enough h d =
    let end = quiet-ends p xs (values_in xs vs) (given_values xs vs l) e h in
    (end.0, sym (under_same (eval n p (values_in xs vs) e) (came end.0 []) (ends-under p (values_in xs vs) e end.0 end.1 n) d))

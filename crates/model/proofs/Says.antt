-- Tests that say whether something holds: both directions at once, joined as the tests are. Assumes nothing.
use Rattle.std.proofs.Common.{◌≡◌, Bool, true, false, ◌&&◌, sym, refl, ap₂}
use Rattle.std.proofs.lemmas.Bool.{and_parts, and_from}

-- the test is true just if P holds
abbrev pub Says : Bool → Type 0 → Type 0
Says t P = (t ≡ true → P) × (P → t ≡ true)

pub says_true : {P : Type 0} (t : Bool) → t ≡ true → P → Says t P
says_true t h p = (λ e. p, λ q. h)

pub says_map : {P Q : Type 0} (t : Bool) → (P → Q) → (Q → P) → Says t P → Says t Q
says_map t to from s = (λ e. to (s.0 e), λ q. s.1 (from q))

pub says_and : {P Q R : Type 0} (s t : Bool) → (P → Q → R) → (R → P) → (R → Q) → Says s P → Says t Q → Says (s && t) R
says_and s t to left right p q =
    (λ e. to (p.0 (and_parts _ _ e).0) (q.0 (and_parts _ _ e).1), λ r. and_from _ _ (p.1 (left r)) (q.1 (right r)))

pub says_same : {P : Type 0} (s t : Bool) → Says s P → Says t P → s ≡ t
says_same true true p q = refl
says_same true false p q = sym (q.1 (p.0 refl))
says_same false true p q = p.1 (q.0 refl)
says_same false false p q = refl

pub two_says : (s t : Bool) {A B C : Type 0} (F : A → B → C) {a c : A} {b d : B} → (F a b ≡ F c d → (a ≡ c) × (b ≡ d)) → Says s (a ≡ c) → Says t (b ≡ d) →
    Says (s && t) (F a b ≡ F c d)
two_says s t F one = says_and s t (ap₂ F) (λ e. (one e).0) (λ e. (one e).1)

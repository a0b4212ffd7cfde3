-- Rows that are compared number by number. Assumes nothing.
use Rattle.std.proofs.Common.{◌≡◌, ℕ, zero, suc, ◌+◌, ◌≤◌, Bool, ◌&&◌, ◌==◌, eqb, List, [], ◌∷◌, length, get_or, take, drop, refl, sym, ap, ap₂, ◌∙◌, nat_eq, arith}
use Rattle.std.specs.List.{range_with_len, zip, list_all}
use Rattle.language.proofs.ReadingFacts.{take_next}
use lib.Pointwise.{pointwise}
use Rattle.language.specs.Basics.{same}

pub pointwise_same : (xs ys : List ℕ) → pointwise nat_eq xs ys ≡ same xs ys
unfolding same
pointwise_same [] [] = refl
pointwise_same [] (y ∷ ys) = refl
pointwise_same (x ∷ xs) [] = refl
pointwise_same (x ∷ xs) (y ∷ ys) = ap (λ t. eqb x y && t) (pointwise_same xs ys)

-- bytes compared pair by pair, from i on in the one row and from j on in the other
abbrev pub same_at : List ℕ → List ℕ → ℕ × ℕ → Bool
same_at a b p = get_or a p.0 0 == get_or b p.1 0

pub pairs-same : (a b : List ℕ) (i j n : ℕ) → i + n ≤ length a → j + n ≤ length b →
    list_all (same_at a b) (zip (range_with_len i n) (range_with_len j n)) ≡ same (take n (drop i a)) (take n (drop j b))
unfolding same
pairs-same a b i j zero h k = refl
pairs-same a b i j (suc n) h k =
    ap (λ t. same_at a b (i, j) && t) (pairs-same a b (i + 1) (j + 1) n (omega arith) (omega arith))
    ∙ sym (ap₂ same (take_next a i (i + 1) n (omega arith) refl) (take_next b j (j + 1) n (omega arith) refl))

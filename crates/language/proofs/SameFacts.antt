-- Rows of bytes compared one byte after the other. Assumes nothing.
use Rattle.std.proofs.Common.{◌≡◌, ℕ, ◌-◌, ◌≤◌, Bool, true, false, List, length, refl, ap, arith}
use Rattle.std.specs.List.{between}
use Rattle.std.proofs.lemmas.List.Edits.{length-between}
use Rattle.language.specs.Basics.{same}
use Rattle.language.proofs.NameFacts.{same_eq}

module _ (xs ys : List ℕ) where
  pub same-long : (length xs ≡ length ys → ⊥) → same xs ys ≡ false
  same-long h = go (same xs ys) refl
    where
      go : (t : Bool) → same xs ys ≡ t → t ≡ false
      go true e = absurd (h (ap length (same_eq xs ys e)))
      go false e = refl

-- parts of two rows
module _ (a b : List ℕ) (i j k l : ℕ) (low : i ≤ j) (high : j ≤ length a) (low_b : k ≤ l) (high_b : l ≤ length b) where
  pub parts-long : (l - k ≡ j - i → ⊥) → same (between i j a) (between k l b) ≡ false
  parts-long h = grind (arith, same-long, length-between)

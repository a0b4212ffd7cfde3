-- Parts of a row after a write to another part, by what stands at each place. Assumes nothing.
use Rattle.std.proofs.Common.{◌≡◌, ℕ, ◌+◌, ◌-◌, ◌<◌, ◌≤◌, List, ◌++◌, length, get_or, take, drop, sym, ◌∙◌, arith}
use lib.Seq.{paste}
use Rattle.std.proofs.lemmas.List.{ext_get_or, length-take-le, length-drop, length-append, get_or-take, get_or-drop, get_or_append_left, get_or-append_right}

-- two parts of c elements each are the same if they are at each place
pub part_same : (xs ys : List ℕ) (i j c : ℕ) → i + c ≤ length xs → j + c ≤ length ys → ((k : ℕ) → k < c → get_or xs (i + k) 0 ≡ get_or ys (j + k) 0) →
    take c (drop i xs) ≡ take c (drop j ys)
part_same xs ys i j c h l e =
    ext_get_or 0 (take c (drop i xs)) (take c (drop j ys)) (long-x ∙ sym long-y)
    (λ k b. get_or-take c (drop i xs) k 0 (omega (arith, long-x)) ∙ get_or-drop i xs k 0 ∙ e k (omega (arith, long-x)) ∙ sym (get_or-take c (drop j ys) k 0 (omega (arith, long-x)) ∙ get_or-drop j ys k 0))
  where
    long-x : length (take c (drop i xs)) ≡ c
    long-x = grind (arith, length-take-le, length-drop)

    long-y : length (take c (drop j ys)) ≡ c
    long-y = grind (arith, length-take-le, length-drop)

module _ (d s : List ℕ) (a n : ℕ) (room : a + n ≤ length d) (enough : n ≤ length s) where
  long-a : length (take a d) ≡ a
  long-a = length-take-le a d (omega arith)

  long_n : length (take n s) ≡ n
  long_n = length-take-le n s enough

  long-front : length (take a d ++ take n s) ≡ a + n
  long-front = omega (arith, length-append (take a d) (take n s), long-a, long_n)

  pub paste_low : (k : ℕ) → k < a → get_or (paste d a s n) k 0 ≡ get_or d k 0
  paste_low k h = grind (arith, get_or_append_left, long-front, long-a, get_or-take)

  pub paste_mid : (k : ℕ) → a ≤ k → k < a + n → get_or (paste d a s n) k 0 ≡ get_or s (k - a) 0
  paste_mid k h l = grind (arith, get_or_append_left, long-front, get_or-append_right, long-a, get_or-take)

  pub paste_high : (k : ℕ) → a + n ≤ k → get_or (paste d a s n) k 0 ≡ get_or d k 0
  paste_high k h = grind (arith, get_or-append_right, long-front, get_or-drop)

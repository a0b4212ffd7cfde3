-- Words that are put over an area of the memory, and what stays around it. Assumes nothing.
use Rattle.std.proofs.Common.{◌≡◌, ℕ, ◌+◌, ◌≤◌, List, ◌++◌, length, take, drop, sym, ap, ◌∙◌, ap₂, arith}
use borrow.Rule.Slice.PartMut.{put_mid}
use Rattle.std.proofs.lemmas.List.{append_assoc, length-append, length-take, length-drop, length-replicate, take-append-drop, drop-append-le, drop-drop}
use Rattle.std.proofs.lemmas.Slice.{take-put_mid_below, drop-put_mid}
use Rattle.memory.specs.Layout.{zero_words, put_words}

-- what is left of a part, and what lies behind it
rest_of_part : (n k : ℕ) (l : List ℕ) → n ≤ k → k ≤ length l → drop n (take k l) ++ drop k l ≡ drop n l
rest_of_part n k l short room =
    sym (drop-append-le n (take k l) (drop k l) (omega (arith, length-take k l))) ∙ ap (drop n) (take-append-drop k l)

-- words at the beginning of a part of a row are words put over the row's
pub put_in-part : (a k n : ℕ) (m ws part : List ℕ) → a + k ≤ length m → n ≤ k → length ws ≡ n → part ≡ ws ++ drop n (take k (drop a m)) → put_mid a k m part ≡ put_words m a ws
put_in-part a k n m ws part room short long e =
    ap (put_mid a k m) e
    ∙ ap (λ r. take a m ++ r) (append_assoc ws (drop n (take k (drop a m))) (drop k (drop a m)))
    ∙ ap (λ r. take a m ++ (ws ++ r)) (rest_of_part n k (drop a m) short (omega (arith, length-drop a m)) ∙ drop-drop n a m ∙ ap (λ l. drop (a + l) m) (sym long))

-- a part that was written over and then made zeros is zeros put over the row
module _ (a k : ℕ) (m part : List ℕ) (room : a + k ≤ length m) (long : length part ≡ k) where
  part-long : length (take k (drop a (put_mid a k m part))) ≡ k
  part-long =
      omega (
        arith,
        length-take k (drop a (put_mid a k m part)),
        length-drop a (put_mid a k m part),
        length-append (take a m) (part ++ drop k (drop a m)),
        length-append part (drop k (drop a m)),
        length-take a m,
      )

  pub part_cleared : (zs : List ℕ) → zs ≡ zero_words (length (take k (drop a (put_mid a k m part)))) → put_mid a k (put_mid a k m part) zs ≡ put_words m a (zero_words k)
  part_cleared zs e =
      ap₂ (λ f r. f ++ (zs ++ r)) (take-put_mid_below a k m part a (omega arith) (omega arith))
      (drop-drop k a (put_mid a k m part) ∙ drop-put_mid a k m part (a + k) (omega arith) (omega arith) long)
      ∙ ap₂ (λ z n. take a m ++ (z ++ drop (a + n) m)) (e ∙ ap zero_words part-long) (sym (length-replicate k 0))

-- Bytes packed into words are the bytes again, and each word is below 2^64: the kth word's eight bytes are the bytes from 8 k on.
-- Assumes nothing.
use Rattle.std.proofs.Common.{◌≡◌, ℕ, zero, suc, ◌+◌, ◌*◌, ◌<◌, ◌≤◌, true, ltb, List, [], ◌∷◌, ◌++◌, map, length, get_or, take, sym, refl, ap, add-zero, arith, lt-ltb}
use Rattle.std.specs.List.{range_with_len}
use Rattle.std.proofs.lemmas.List.{length-append, get_or_append_left, ext_get_or}
use Rattle.std.proofs.lemmas.List.FromFn.{length-map-range_with_len, get_or-map-range_with_len}
use Rattle.std.proofs.lemmas.Bool.{and_from}
use Rattle.language.specs.Basics.{every, flat}
use Rattle.language.specs.Bytes.{eight, all_bytes}
use Rattle.language.specs.Packed.{words_for, word_of, packed}
use Rattle.language.proofs.StandsFacts.{number_eight_back, bytes_below}
use Rattle.language.proofs.PackedFacts.{front_at, front_length}

pub length_packed_words : (bs : List ℕ) → length (packed bs) ≡ words_for (length bs)
unfolding packed
length_packed_words bs = grind (arith, length-map-range_with_len)

pub packed_word : (bs : List ℕ) (k : ℕ) → k < words_for (length bs) → get_or (packed bs) k 0 ≡ word_of bs k
unfolding packed
packed_word bs k h = grind (arith, get_or-map-range_with_len)

-- the bytes of the kth word
eight_from : List ℕ → ℕ → List ℕ
eight_from bs k =
    get_or bs (k * 8) 0 ∷ get_or bs (k * 8 + 1) 0 ∷ get_or bs (k * 8 + 2) 0 ∷ get_or bs (k * 8 + 3) 0 ∷ get_or bs (k * 8 + 4) 0 ∷ get_or bs (k * 8 + 5) 0
    ∷ get_or bs (k * 8 + 6) 0 ∷ get_or bs (k * 8 + 7) 0 ∷ []

byte_from : (bs : List ℕ) (k r : ℕ) → r < 8 → get_or (eight_from bs k) r 0 ≡ get_or bs (k * 8 + r) 0
unfolding eight_from
byte_from bs k zero h = ap (λ i. get_or bs i 0) (sym (add-zero (k * 8)))
byte_from bs k (suc zero) h = refl
byte_from bs k (suc (suc zero)) h = refl
byte_from bs k (suc (suc (suc zero))) h = refl
byte_from bs k (suc (suc (suc (suc zero)))) h = refl
byte_from bs k (suc (suc (suc (suc (suc zero))))) h = refl
byte_from bs k (suc (suc (suc (suc (suc (suc zero)))))) h = refl
byte_from bs k (suc (suc (suc (suc (suc (suc (suc zero))))))) h = refl
byte_from bs k (suc (suc (suc (suc (suc (suc (suc (suc r)))))))) h = absurd (omega arith)

module _ (bs : List ℕ) (bytes : all_bytes bs ≡ true) where
  word_bytes : (k : ℕ) → eight (word_of bs k) ≡ eight_from bs k
  unfolding word_of eight_from
  word_bytes k = grind (arith, number_eight_back, bytes_below)

  pub word_small : (k : ℕ) → word_of bs k < 18446744073709551616
  unfolding word_of
  word_small k = grind (arith, bytes_below)

  words_small : (ks : List ℕ) → every (λ w. ltb w 18446744073709551616) (map (word_of bs) ks) ≡ true
  words_small [] = refl
  words_small (k ∷ ks) = and_from _ _ (lt-ltb _ _ (word_small k)) (words_small ks)

  pub packed-small : every (λ w. ltb w 18446744073709551616) (packed bs) ≡ true
  unfolding packed
  packed-small = words_small (range_with_len 0 (words_for (length bs)))

  -- words with bs in them, and others behind
  module _ (rest : List ℕ) where
    enough : length bs ≤ 8 * length (packed bs ++ rest)
    enough = omega (arith, length-append (packed bs) rest, length_packed_words bs)

    byte_back : (i : ℕ) → i < length bs → get_or (take (length bs) (flat eight (packed bs ++ rest))) i 0 ≡ get_or bs i 0
    byte_back i h = grind (arith, front_at, get_or_append_left, length_packed_words, packed_word, word_bytes, byte_from)

    front_long : length (take (length bs) (flat eight (packed bs ++ rest))) ≡ length bs
    front_long = omega (arith, front_length (packed bs ++ rest) (length bs), enough)

pub packed-flat : (bs rest : List ℕ) → all_bytes bs ≡ true → take (length bs) (flat eight (packed bs ++ rest)) ≡ bs
packed-flat bs rest bytes =
    ext_get_or 0 (take (length bs) (flat eight (packed bs ++ rest))) bs (front_long bs bytes rest)
    (λ i h. byte_back bs bytes rest i (omega (arith, front_long bs bytes rest)))

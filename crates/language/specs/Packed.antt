-- Bytes in words, eight bytes to a word, the highest first; past the last byte there are zeros. Assumes nothing: these are definitions.
use Rattle.std.specs.Prelude.{ℕ, ◌+◌, ◌*◌, ◌/◌, List, [], ◌∷◌, map, length, slice_index}
use Rattle.std.specs.List.{range_with_len}
use Rattle.std.specs.Int.Digits.{number_from_digits}

-- how many words so many bytes take
abbrev pub words_for : ℕ → ℕ
words_for n = (n + 7) / 8

-- the kth word
unfoldable pub word_of : List ℕ → ℕ → ℕ
word_of bs k =
    number_from_digits 256
    (slice_index bs (k * 8) ∷ slice_index bs (k * 8 + 1) ∷ slice_index bs (k * 8 + 2) ∷ slice_index bs (k * 8 + 3) ∷ slice_index bs (k * 8 + 4) ∷ slice_index bs (k * 8 + 5)
    ∷ slice_index bs (k * 8 + 6) ∷ slice_index bs (k * 8 + 7) ∷ [])

unfoldable pub packed : List ℕ → List ℕ
packed bs = map (word_of bs) (range_with_len 0 (words_for (length bs)))

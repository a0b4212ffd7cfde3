-- Writing into the build area, byte by byte: whole words go into the area, and the bytes since the last of them are kept as one number.
-- Assumes nothing: these are definitions.
use Rattle.std.specs.Prelude.{◌≡◌, ℕ, ◌+◌, ◌-◌, ◌*◌, ◌/◌, ◌%◌, ◌<◌, ◌≤◌, true, List, [], ◌∷◌, length, replicate, Some, None, Option, ⊤, ◌==◌, nat_lt, slice_set}
use Rattle.language.specs.Basics.{pick}
use Rattle.language.specs.Bytes.{all_bytes}
use Rattle.memory.specs.declared.build.Writer.{Writer}

-- an area, and how far the writing is in it: whole words, bytes since then, and those as a number
pub record Writing : Type 0 where
  pub area : List ℕ
  pub words : ℕ
  pub filled : ℕ
  pub word : ℕ

abbrev pub writing_at : List ℕ → ℕ → ℕ → ℕ → Writing
writing_at m n k v = record { area = m; words = n; filled = k; word = v }

abbrev pub writing : Writer → Writing
writing b = writing_at b.area.now (b.build.written / 8) (b.build.written % 8) b.build.word

-- the bytes since the last whole word, and one more
abbrev pub word_with : Writing → ℕ → ℕ
word_with w v = (w.word * 256 + v) % 18446744073709551616

-- one byte: the eighth makes a word whole
abbrev pub pushed : Writing → ℕ → Writing
pushed w v =
    pick (nat_lt w.filled 7) (writing_at w.area w.words (w.filled + 1) (word_with w v)) (writing_at (slice_set w.area w.words (word_with w v)) (w.words + 1) 0 0)

unfoldable pub pushed_all : Writing → List ℕ → Writing
pushed_all w [] = w
pushed_all w (v ∷ vs) = pushed_all (pushed w v) vs

-- the bytes, and they are bytes, were written, for which there was room
pub record Pushed (b : Writer) (vs : List ℕ) (c : Writer) : Type 0 where
  pub so : writing c ≡ pushed_all (writing b) vs
  pub room : b.build.written + length vs ≤ 65536
  pub bytes : all_bytes vs ≡ true

-- the bytes are written, if there is room for them; if not, nothing changes
abbrev pub Appended : Writer → List ℕ → Option ⊤ → Writer → Type 0
Appended b vs None c = (c ≡ b) × (65536 < b.build.written + length vs)
Appended b vs (Some _) c = Pushed b vs c

-- zeros behind the last byte, up to a whole word
abbrev pub finished : Writing → List ℕ
finished w = pick (w.filled == 0) w.area (pushed_all w (replicate (8 - w.filled) 0)).area

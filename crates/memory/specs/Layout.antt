-- The machine's memory: which word is what. Assumes nothing: these are definitions.
use Rattle.std.specs.Prelude.{ℕ, ◌+◌, ◌-◌, ◌*◌, Bool, ◌&&◌, leb, List, ◌++◌, length, take, drop, replicate, ◌==◌, nat_le, slice_index}
use Rattle.language.specs.Basics.{every, flat}
use Rattle.language.specs.Bytes.{eight}
use Rattle.language.specs.Packed.{packed}

abbrev pub memory_words : ℕ
memory_words = 262144

abbrev pub zero_words : ℕ → List ℕ
zero_words n = replicate n 0

-- THE HEADER, 16 words. Where the next row of an answer under way begins, plus 1; 0 if none is
abbrev pub mark : List ℕ → ℕ
mark m = slice_index m 0

-- how many older programs there are to go back to
abbrev pub older : List ℕ → ℕ
older m = slice_index m 1

-- the nine programs' lengths in bytes, each less the 8 of its count; the current one first, the newest older one next
abbrev pub lengths : List ℕ → List ℕ
lengths m = take 9 (drop 2 m)

abbrev pub lengths_fit : List ℕ → Bool
lengths_fit ns = every (λ n. leb n 65528) ns

-- a memory of the machine's length, and the header's words within their limits
abbrev pub memory_fits : List ℕ → Bool
memory_fits m = length m == memory_words && ((nat_le (mark m) 65537 && nat_le (older m) 8) && lengths_fit (lengths m))

-- THE SLOTS, nine of 8,192 words, each a program's bytes, eight to a word; slot 0 has the current program, slot 1 the newest older one
abbrev pub slot : ℕ → List ℕ → List ℕ
slot k m = take 8192 (drop (16 + k * 8192) m)

-- the bytes of the kth program
unfoldable pub held : ℕ → List ℕ → List ℕ
held k m = take (slice_index m (2 + k) + 8) (flat eight (slot k m))

-- THE BUILD AREA, where a new program is written
abbrev pub build : List ℕ → List ℕ
build m = take 8192 (drop 73744 m)

-- where it begins
abbrev pub build_at : ℕ
build_at = 73744

-- THE FRAMES, for what a walk or a check keeps while it is under way, begin here
abbrev pub frames_at : ℕ
frames_at = 81936

-- THE LIST, 8,192 words, where a walk lists what it found
abbrev pub list_at : ℕ
list_at = 122896

-- THE RESERVE, which nothing uses, begins here
abbrev pub reserve_at : ℕ
reserve_at = 131088

-- words put over those from i on
abbrev pub put_words : List ℕ → ℕ → List ℕ → List ℕ
put_words m i ws = take i m ++ (ws ++ drop (i + length ws) m)

-- a program's bytes as the words of a whole slot, with zeros behind
abbrev pub slot_filled : List ℕ → List ℕ
slot_filled bs = packed bs ++ zero_words (8192 - length (packed bs))

-- build area, frames and list are zeros
unfoldable pub wiped : List ℕ → List ℕ
wiped m = put_words m build_at (zero_words 57344)

-- a new program stands in the build area; frames and list are zeros
unfoldable pub built : List ℕ → List ℕ → List ℕ
built m bs = put_words m build_at (slot_filled bs ++ zero_words 49152)

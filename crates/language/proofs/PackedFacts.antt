-- Bytes packed eight to a number: which byte is where, and how many there are. Assumes nothing.
use Rattle.std.proofs.Common.{◌≡◌, ℕ, zero, suc, ◌+◌, ◌-◌, ◌*◌, ◌/◌, ◌%◌, ◌<◌, ◌≤◌, min, List, [], ◌∷◌, length, get_or, take, sym, refl, ap, ◌∙◌, arith}
use Rattle.std.proofs.lemmas.List.{length-append, get_or_append_left, get_or-append_right, get_or-take, get_or_past, get_or-replicate, length-take}
use Rattle.language.specs.Basics.{flat}
use Rattle.language.specs.Bytes.{in_bytes, eight}
use Rattle.language.proofs.StandsFacts.{length-eight}

-- the eight bytes of a number, each by one division
pub eight_is : (n : ℕ) → eight n ≡
    n / 72057594037927936 % 256 ∷ n / 281474976710656 % 256 ∷ n / 1099511627776 % 256 ∷ n / 4294967296 % 256 ∷ n / 16777216 % 256 ∷ n / 65536 % 256 ∷ n / 256 % 256 ∷ n % 256 ∷ []
unfolding in_bytes
eight_is n = grind arith

pub length-packed : (ws : List ℕ) → length (flat eight ws) ≡ 8 * length ws
length-packed [] = refl
length-packed (w ∷ ws) = omega (arith, length-append (eight w) (flat eight ws), length-eight w, length-packed ws)

byte_of : (ws : List ℕ) (q r i : ℕ) → q < length ws → r < 8 → i ≡ q * 8 + r → get_or (flat eight ws) i 0 ≡ get_or (eight (get_or ws q 0)) r 0
byte_of [] q r i h k e = absurd (omega arith)
byte_of (w ∷ ws) zero r i h k e = grind (arith, get_or_append_left, length-eight)
byte_of (w ∷ ws) (suc q) r i h k e =
    get_or-append_right (eight w) (flat eight ws) 8 i 0 (length-eight w) (omega arith) ∙ byte_of ws q r (i - 8) (omega arith) k (omega arith)

-- of the first n bytes
pub front_past : (ws : List ℕ) (n i : ℕ) → n ≤ i → get_or (take n (flat eight ws)) i 0 ≡ 0
front_past ws n i h = grind (arith, get_or_past, length-take)

front_none : (ws : List ℕ) (n i : ℕ) → length ws ≤ i / 8 → get_or (take n (flat eight ws)) i 0 ≡ 0
front_none ws n i h = grind (arith, get_or_past, length-take, length-packed)

-- past the last word there are zeros, as if there were more words
zero_byte : (k : ℕ) → k < 8 → 0 ≡ get_or (eight 0) k 0
unfolding in_bytes
zero_byte k h = sym (get_or-replicate 8 k 0 0 h)

pub front_at : (ws : List ℕ) (n i : ℕ) → i < n → get_or (take n (flat eight ws)) i 0 ≡ get_or (eight (get_or ws (i / 8) 0)) (i % 8) 0
front_at ws n i h = grind (arith, get_or-take, byte_of, front_none, zero_byte, get_or_past)

pub front_length : (ws : List ℕ) (n : ℕ) → length (take n (flat eight ws)) ≡ min n (8 * length ws)
front_length ws n = length-take n (flat eight ws) ∙ ap (min n) (length-packed ws)

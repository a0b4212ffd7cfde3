-- Numbers as eight bytes, rows of bytes with their count before them, and names, which are rows of bytes.
-- Assumes nothing: these are definitions.
use Rattle.std.specs.Prelude.{ℕ, zero, suc, ◌/◌, ◌%◌, Bool, List, [], ◌∷◌, ◌++◌, length, nat_lt}
use Rattle.language.specs.Basics.{every}

-- the lowest k bytes of n, the highest first, before bs
unfoldable pub in_bytes : ℕ → ℕ → List ℕ → List ℕ
in_bytes zero n bs = bs
in_bytes (suc k) n bs = in_bytes k (n / 256) (n % 256 ∷ bs)

-- a number as eight bytes, the highest first
abbrev pub eight : ℕ → List ℕ
eight n = in_bytes 8 n []

-- bytes with their count before them
abbrev pub with_length : List ℕ → List ℕ
with_length bs = eight (length bs) ++ bs

abbrev pub all_bytes : List ℕ → Bool
all_bytes bs = every (λ b. nat_lt b 256) bs

abbrev pub Name : Type 0
Name = List ℕ

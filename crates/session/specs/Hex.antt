-- Bytes as hex digits, and what text of digits stands for. Assumes nothing: these are definitions.
use Rattle.std.specs.Prelude.{◌≡◌, ℕ, ◌+◌, ◌-◌, ◌*◌, ◌/◌, ◌%◌, ◌<◌, Bool, true, cond, ◌&&◌, List, [], ◌∷◌, map, length, is_some, Some, None, Option, option_and_then, nat_le, nat_lt}
use Rattle.std.specs.List.{prefix_len, flat_map, AllByRecursion}

-- the digit of a number below 16: 0 to 9, then a to f
abbrev pub digit : ℕ → ℕ
digit n = cond (nat_lt n 10) (48 + n) (87 + n)

abbrev pub digits : ℕ → List ℕ
digits b = digit (b / 16) ∷ digit (b % 16) ∷ []

abbrev pub hex_of : List ℕ → List ℕ
hex_of bs = flat_map digits bs

abbrev between : ℕ → ℕ → ℕ → Bool
between low high c = nat_le low c && nat_le c high

-- what a digit of either case stands for
abbrev pub digit_value : ℕ → Option ℕ
digit_value c =
    cond (between 48 57 c) (Some (c - 48)) (cond (between 97 102 c) (Some (c - 97 + 10)) (cond (between 65 70 c) (Some (c - 65 + 10)) None))

abbrev pub is_digit : ℕ → Bool
is_digit c = is_some (digit_value c)

-- how many digits stand at the front
abbrev pub digits_in : List ℕ → ℕ
digits_in text = prefix_len is_digit text

-- one step and the next, each of which may give nothing
infixl 10 ◌>>=◌
abbrev pub ◌>>=◌ : {A B : Type 0} → Option A → (A → Option B) → Option B
o >>= f = option_and_then f o

-- the bytes that text stands for, if it is digits, two to a byte
unfoldable pub bytes_of : List ℕ → Option (List ℕ)
bytes_of [] = Some []
bytes_of (c ∷ []) = None
bytes_of (c ∷ d ∷ text) = do
  high ← digit_value c
  low ← digit_value d
  bs ← bytes_of text
  Some ((high * 16 + low) ∷ bs)

-- a digit in upper case
abbrev pub upper : ℕ → ℕ
upper c = cond (between 97 102 c) (c - 32) c

-- What is written is read back, in either case.
pub record ReadBack : Type 0 where
  pub lower_case : (bs : List ℕ) → AllByRecursion (λ b. b < 256) bs → bytes_of (hex_of bs) ≡ Some bs
  pub upper_case : (bs : List ℕ) → AllByRecursion (λ b. b < 256) bs → bytes_of (map upper (hex_of bs)) ≡ Some bs

-- Text stands for bytes exactly if it is an even number of digits.
pub record EvenDigits : Type 0 where
  pub stands : (text : List ℕ) → digits_in text ≡ length text → length text % 2 ≡ 0 → is_some (bytes_of text) ≡ true
  pub all_digits : (text : List ℕ) → is_some (bytes_of text) ≡ true → digits_in text ≡ length text
  pub even : (text : List ℕ) → is_some (bytes_of text) ≡ true → length text % 2 ≡ 0

-- What is written as hex is read back, and what text stands for bytes: inductions over pairs of digits.
use Rattle.std.proofs.Common.{◌≡◌, ℕ, suc, ◌+◌, ◌*◌, ◌/◌, ◌%◌, ◌<◌, true, cond, List, [], ◌∷◌, map, length, is_some, Some, None, Option, refl, arith}
use borrow.Author.Tests.{clash}
use Rattle.std.specs.List.{AllByRecursion}
use Rattle.std.proofs.lemmas.Bool.Decides.{nat_tests}
use Rattle.session.specs.Hex.{digit, digit_value, digits_in, upper, ◌>>=◌, hex_of, bytes_of, ReadBack, EvenDigits}

lower_back : (n : ℕ) → n < 16 → digit_value (digit n) ≡ Some n
lower_back n h = grind (arith, nat_tests)

upper_back : (n : ℕ) → n < 16 → digit_value (upper (digit n)) ≡ Some n
upper_back n h = grind (arith, nat_tests)

-- what two bytes and the text after them are read as
abbrev pub paired : Option ℕ → Option ℕ → Option (List ℕ) → Option (List ℕ)
paired x y z = do
  high ← x
  low ← y
  rest ← z
  Some ((high * 16 + low) ∷ rest)

-- two digits that are read as the halves of b, before digits that are read as bs
join : (b : ℕ) (bs : List ℕ) (x y : Option ℕ) (z : Option (List ℕ)) → x ≡ Some (b / 16) → y ≡ Some (b % 16) → z ≡ Some bs → paired x y z ≡ Some (b ∷ bs)
join b bs x y z p q r =
    let whole : b / 16 * 16 + b % 16 ≡ b = omega arith in
    rw (p, q, r, whole)

lower_case : (bs : List ℕ) → AllByRecursion (λ b. b < 256) bs → bytes_of (hex_of bs) ≡ Some bs
unfolding bytes_of
lower_case [] _ = refl
lower_case (b ∷ bs) (h, hs) = join b bs _ _ _ (lower_back (b / 16) (omega arith)) (lower_back (b % 16) (omega arith)) (lower_case bs hs)

upper_case : (bs : List ℕ) → AllByRecursion (λ b. b < 256) bs → bytes_of (map upper (hex_of bs)) ≡ Some bs
unfolding bytes_of
upper_case [] _ = refl
upper_case (b ∷ bs) (h, hs) = join b bs _ _ _ (upper_back (b / 16) (omega arith)) (upper_back (b % 16) (omega arith)) (upper_case bs hs)

pub read_back : ReadBack
read_back = record { lower_case = lower_case; upper_case = upper_case }

-- how many digits stand at the front of two bytes and n more
abbrev counted : Option ℕ → Option ℕ → ℕ → ℕ
counted x y n = cond (is_some x) (1 + cond (is_some y) (1 + n) 0) 0

paired_some : (x y : Option ℕ) (z : Option (List ℕ)) (n len : ℕ) → counted x y n ≡ suc (suc len) → (n ≡ len → is_some z ≡ true) → is_some (paired x y z) ≡ true
paired_some (Some high) (Some low) (Some rest) n len a ih = refl
paired_some (Some high) (Some low) None n len a ih = ih (omega arith)
paired_some (Some high) None z n len a ih = absurd (omega arith)
paired_some None y z n len a ih = absurd (omega arith)

paired-parts : (x y : Option ℕ) (z : Option (List ℕ)) (n : ℕ) → is_some (paired x y z) ≡ true → (counted x y n ≡ suc (suc n)) × (is_some z ≡ true)
paired-parts (Some high) (Some low) (Some rest) n h = (omega arith, refl)
paired-parts (Some high) (Some low) None n h = absurd (clash h)
paired-parts (Some high) None z n h = absurd (clash h)
paired-parts None y z n h = absurd (clash h)

stands : (text : List ℕ) → digits_in text ≡ length text → length text % 2 ≡ 0 → is_some (bytes_of text) ≡ true
unfolding bytes_of
stands [] _ _ = refl
stands (c ∷ []) _ e = absurd (omega arith)
stands (c ∷ d ∷ text) a e =
    paired_some (digit_value c) (digit_value d) (bytes_of text) (digits_in text) (length text) a (λ h. stands text h (omega arith))

all_digits : (text : List ℕ) → is_some (bytes_of text) ≡ true → digits_in text ≡ length text
unfolding bytes_of
all_digits [] _ = refl
all_digits (c ∷ []) h = absurd (clash h)
all_digits (c ∷ d ∷ text) h =
    let parts = paired-parts (digit_value c) (digit_value d) (bytes_of text) (digits_in text) h in
    omega (arith, parts.0, all_digits text parts.1)

even : (text : List ℕ) → is_some (bytes_of text) ≡ true → length text % 2 ≡ 0
unfolding bytes_of
even [] _ = refl
even (c ∷ []) h = absurd (clash h)
even (c ∷ d ∷ text) h = omega (arith, even text (paired-parts (digit_value c) (digit_value d) (bytes_of text) (digits_in text) h).1)

pub even_digits : EvenDigits
even_digits = record { stands = stands; all_digits = all_digits; even = even }

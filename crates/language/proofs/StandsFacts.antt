-- What stands at a place in a row of bytes, one thing after another; and numbers as eight bytes, there and back. Assumes nothing.
use Rattle.std.proofs.Common.{◌≡◌, ℕ, zero, suc, ◌+◌, ◌<◌, ◌≤◌, Bool, true, false, leb, List, [], ◌∷◌, ◌++◌, length, get_or, take, drop, Some, None, sym, refl, ap, ◌∙◌, ap₂, add-zero, arith, ltb-true, le-leb, leb-true}
use Rattle.std.specs.Int.Digits.{number_from_digits}
use Rattle.std.proofs.lemmas.List.{append_assoc, length-append, length-drop, drop-drop, drop_at, take_at, drop_more, take-append-drop, get_or-drop}
use Rattle.std.proofs.lemmas.Bool.{and_parts}
use Rattle.language.specs.Basics.{pick}
use Rattle.language.specs.Bytes.{in_bytes, eight, all_bytes}
use Rattle.language.specs.Reading.{number_at}
use Rattle.language.proofs.ReadingFacts.{take-eight, number_eight}

abbrev pub Stands : List ℕ → ℕ → List ℕ → Type 0
Stands bs i p = drop i bs ≡ p ++ drop (i + length p) bs

-- what comes after both is what comes after the second
module _ (bs : List ℕ) (i : ℕ) (p q : List ℕ) where
  ends_both : i + length (p ++ q) ≡ (i + length p) + length q
  ends_both = omega (arith, length-append p q)

  after_first : Stands bs i (p ++ q) → drop (i + length p) bs ≡ q ++ drop ((i + length p) + length q) bs
  after_first h =
      sym (drop-drop (length p) i bs) ∙ ap (drop (length p)) (h ∙ append_assoc p q _) ∙ drop_at p _ (length p) refl
      ∙ ap (λ k. q ++ drop k bs) ends_both

  pub stands-first : Stands bs i (p ++ q) → Stands bs i p
  stands-first h = grind (arith, append_assoc, ends_both, after_first)

  pub stands-second : Stands bs i (p ++ q) → Stands bs (i + length p) q
  stands-second h = after_first h

  pub stands_join : Stands bs i p → Stands bs (i + length p) q → Stands bs i (p ++ q)
  stands_join h k = grind (arith, ends_both, append_assoc)

pub stands_in : (bs : List ℕ) (i : ℕ) (p : List ℕ) → 0 < length p → Stands bs i p → i + length p ≤ length bs
stands_in bs i p h k = omega (arith, ap length k, length-drop i bs, length-append p (drop (i + length p) bs), length-drop (i + length p) bs)

-- what stands there is what is taken from there
pub stands-taken : (bs : List ℕ) (i : ℕ) (p : List ℕ) → Stands bs i p → take (length p) (drop i bs) ≡ p
stands-taken bs i p h = ap (take (length p)) h ∙ take_at p _ (length p) refl

pub taken-stands : (bs : List ℕ) (i n : ℕ) (p : List ℕ) → length p ≡ n → take n (drop i bs) ≡ p → Stands bs i p
taken-stands bs i n p l h =
    sym (take-append-drop n (drop i bs)) ∙ ap₂ ◌++◌ h (drop-drop n i bs ∙ ap (λ k. drop (i + k) bs) (sym l))

-- one byte
pub stands_byte : (bs : List ℕ) (i x : ℕ) → Stands bs i (x ∷ []) → get_or bs i 0 ≡ x
stands_byte bs i x h = ap (λ k. get_or bs k 0) (sym (add-zero i)) ∙ sym (get_or-drop i bs 0 0) ∙ ap (λ l. get_or l 0 0) h

pub byte_stands : (bs : List ℕ) (i : ℕ) → i < length bs → Stands bs i (get_or bs i 0 ∷ [])
byte_stands bs i h = drop_more bs i 0 h

-- eight bytes
pub length-eight : (n : ℕ) → length (eight n) ≡ 8
unfolding in_bytes
length-eight n = refl

pub eight_number : (n : ℕ) → n < 18446744073709551616 → number_from_digits 256 (eight n) ≡ n
unfolding in_bytes
eight_number n h = number_eight _ _ _ _ _ _ _ _ ∙ omega arith

pub number_eight_back : (a b c d e f g h : ℕ) → a < 256 → b < 256 → c < 256 → d < 256 → e < 256 → f < 256 → g < 256 → h < 256 →
    eight (number_from_digits 256 (a ∷ b ∷ c ∷ d ∷ e ∷ f ∷ g ∷ h ∷ [])) ≡ a ∷ b ∷ c ∷ d ∷ e ∷ f ∷ g ∷ h ∷ []
unfolding in_bytes
number_eight_back a b c d e f g h p q r s t u v w = grind arith

pub bytes_below : (bs : List ℕ) → all_bytes bs ≡ true → (i : ℕ) → get_or bs i 0 < 256
bytes_below [] h i = omega arith
bytes_below (b ∷ bs) h zero = ltb-true _ _ (and_parts _ _ h).0
bytes_below (b ∷ bs) h (suc i) = bytes_below bs (and_parts _ _ h).1 i

pub number_stands : (bs : List ℕ) (i n : ℕ) → n < 18446744073709551616 → Stands bs i (eight n) → number_at bs i ≡ Some n
unfolding in_bytes
number_stands bs i n small h =
    ap (λ t. pick t (Some (number_from_digits 256 (take 8 (drop i bs)))) None) (le-leb _ _ room) ∙ ap Some (ap (number_from_digits 256) (stands-taken bs i (eight n) h) ∙ eight_number n small)
  where
    room : i + 8 ≤ length bs
    room = omega (arith, stands_in bs i (eight n) (omega (arith, length-eight n)) h, length-eight n)

-- what was read as a number is its eight bytes
pub record NumberThere (bs : List ℕ) (i n : ℕ) : Type 0 where
  pub stands : Stands bs i (eight n)
  pub small : n < 18446744073709551616
  pub room : i + 8 ≤ length bs

pub number_there : (bs : List ℕ) (i n : ℕ) → all_bytes bs ≡ true → number_at bs i ≡ Some n → NumberThere bs i n
number_there bs i n bytes e = go (leb (i + 8) (length bs)) refl e
  where
    eights : i + 8 ≤ length bs → eight (number_from_digits 256 (take 8 (drop i bs))) ≡ take 8 (drop i bs)
    eights h = grind (arith, take-eight, number_eight_back, bytes_below)

    small : i + 8 ≤ length bs → number_from_digits 256 (take 8 (drop i bs)) < 18446744073709551616
    small h = grind (arith, take-eight, bytes_below)

    go : (t : Bool) → leb (i + 8) (length bs) ≡ t → pick t (Some (number_from_digits 256 (take 8 (drop i bs)))) None ≡ Some n → NumberThere bs i n
    go true h e =
        let room : i + 8 ≤ length bs = leb-true _ _ h in
        let is : number_from_digits 256 (take 8 (drop i bs)) ≡ n = cc in
        record { stands = taken-stands bs i 8 (eight n) (length-eight n) (sym (ap eight (sym is) ∙ eights room)); small = rw is at (small room); room = room }
    go false h e = absurd cc

-- The fields of a command are read from the front of what is spelled, and what is read was spelled there. Assumes nothing.
use Rattle.std.proofs.Common.{◌≡◌, ℕ, ◌+◌, ◌-◌, ◌≤◌, Bool, true, false, ltb, List, [], ◌∷◌, ◌++◌, length, take, drop, Some, None, Option, sym, ap, ◌∙◌, subst, ap₂, arith, leb-true}
use borrow.Author.Tests.{clash}
use Rattle.std.specs.List.{between}
use Rattle.std.proofs.lemmas.List.{length-append, length-take-le, drop_at}
use Rattle.std.proofs.lemmas.Bool.{and_parts}
use Rattle.language.specs.Basics.{pick}
use Rattle.language.specs.Bytes.{eight, with_length, all_bytes}
use Rattle.language.specs.Fits.{a_name}
use Rattle.language.specs.Reading.{found}
use Rattle.language.proofs.ListFacts.{every_drop}
use Rattle.language.proofs.ReadingFacts.{found_some}
use Rattle.language.proofs.StandsFacts.{Stands, stands-first, stands-second, stands_join, stands-taken, taken-stands, length-eight, number_stands, NumberThere, number_there}
use Rattle.language.proofs.HeadFacts.{length_with, name-stands, name_bytes, name_there}
use Rattle.model.specs.Command.{place_spelled, a_place}
use Rattle.model.specs.Reading.{Field, field, name_in, index_in, place_in}

-- what a field's reader owes: it reads what is spelled so and fits, and nothing else
pub record Fields (read_field : List ℕ → Option Field) (spell : List ℕ → List ℕ) (ok : List ℕ → Bool) : Type 0 where
  pub read : (x rest : List ℕ) → ok x ≡ true → read_field (spell x ++ rest) ≡ Some (field x rest)
  pub was : (bs : List ℕ) (f : Field) → all_bytes bs ≡ true → read_field bs ≡ Some f → (ok f.value ≡ true) × (bs ≡ spell f.value ++ f.rest) × (all_bytes f.rest ≡ true)

pub front-stands : (p rest : List ℕ) → Stands (p ++ rest) 0 p
front-stands p rest = grind (arith, drop_at)

-- what stands at the beginning and ends at j, and what comes after it
pub front_is : (bs p : List ℕ) (j : ℕ) → Stands bs 0 p → j ≡ 0 + length p → bs ≡ p ++ drop j bs
front_is bs p j s e = s ∙ ap (λ k. p ++ drop k bs) (sym e)

name_was : (bs : List ℕ) (f : Field) → all_bytes bs ≡ true → name_in bs ≡ Some f → (a_name f.value ≡ true) × (bs ≡ with_length f.value ++ f.rest) × (all_bytes f.rest ≡ true)
name_was bs f bytes e =
    let got = found_some _ _ _ e in
    let j = got.0 in
    let n = name_there bs 0 j bytes got.1 in
    let is : field (between 8 j bs) (drop j bs) ≡ f = cc got.2 in
    subst (λ (g : Field). (a_name g.value ≡ true) × (bs ≡ with_length g.value ++ g.rest) × (all_bytes g.rest ≡ true)) is
    (n.fits, front_is bs (with_length (between 8 j bs)) j n.stands n.end, every_drop (λ b. ltb b 256) j bs bytes)

pub name_fields : Fields name_in with_length a_name
name_fields =
    record {
      read = λ x rest h.
          let bs = with_length x ++ rest in
          ap (λ o. found o (λ j. Some (field (between 8 j bs) (drop j bs)))) (name-stands bs 0 x h (front-stands (with_length x) rest))
          ∙ ap₂ (λ y r. Some (field y r)) (name_bytes bs 0 x h (front-stands (with_length x) rest)) (drop_at (with_length x) rest (0 + 8 + length x) (omega (arith, length_with x)));
      was = name_was;
    }

-- one number below 16, in a row of its own
abbrev pub an_index : List ℕ → Bool
an_index [] = false
an_index (i ∷ []) = ltb i 16
an_index (i ∷ k ∷ ks) = false

index_read : (x rest : List ℕ) → an_index x ≡ true → index_in (x ++ rest) ≡ Some (field x rest)
index_read [] rest h = absurd (clash h)
index_read (i ∷ []) rest h = ap (λ t. pick t (Some (field (i ∷ []) rest)) None) h
index_read (i ∷ k ∷ ks) rest h = absurd (clash h)

index_was : (bs : List ℕ) (f : Field) → all_bytes bs ≡ true → index_in bs ≡ Some f → (an_index f.value ≡ true) × (bs ≡ f.value ++ f.rest) × (all_bytes f.rest ≡ true)
index_was [] f bytes e = let z : ◌≡◌ {A = ℕ} 0 1 = cc in absurd (omega arith)
index_was (i ∷ bs) f bytes e = grind arith

pub index_fields : Fields index_in (λ x. x) an_index
index_fields = record { read = index_read; was = index_was }

-- a place: its count, and its numbers
module _ (ks rest : List ℕ) (fit : a_place ks ≡ true) where
  place-row : Stands (place_spelled ks ++ rest) 0 (place_spelled ks)
  place-row = front-stands (place_spelled ks) rest

  place_numbers : between 8 (8 + length ks) (place_spelled ks ++ rest) ≡ ks
  place_numbers =
      ap₂ (λ n k. take n (drop k (place_spelled ks ++ rest))) (let z : 8 + length ks - 8 ≡ length ks = omega arith in z) (let z : 8 ≡ 0 + length (eight (length ks)) = omega (arith, length-eight (length ks)) in z)
      ∙ stands-taken (place_spelled ks ++ rest) (0 + length (eight (length ks))) ks (stands-second (place_spelled ks ++ rest) 0 (eight (length ks)) ks place-row)

  place-long : length (place_spelled ks) ≡ 8 + length ks
  place-long = omega (arith, length-append (eight (length ks)) ks, length-eight (length ks))

  place_read : place_in (place_spelled ks ++ rest) ≡ Some (field ks rest)
  place_read = grind (arith, number_stands, stands-first, place-row, drop_at, place-long, place_numbers, length-append)

module _ (bs : List ℕ) (n : ℕ) (there : NumberThere bs 0 n) (room : 8 + n ≤ length bs) where
  numbers_long : length (between 8 (8 + n) bs) ≡ n
  numbers_long = grind (arith, length-take-le)

  numbers_stand : Stands bs 0 (place_spelled (between 8 (8 + n) bs))
  numbers_stand = grind (arith, stands_join, numbers_long, length-eight, taken-stands)

  numbers_front : bs ≡ place_spelled (between 8 (8 + n) bs) ++ drop (8 + n) bs
  numbers_front = grind (arith, numbers_stand, numbers_long, length-eight, length-append)

place_was : (bs : List ℕ) (f : Field) → all_bytes bs ≡ true → place_in bs ≡ Some f → (a_place f.value ≡ true) × (bs ≡ place_spelled f.value ++ f.rest) × (all_bytes f.rest ≡ true)
place_was bs f bytes e = grind (arith, and_parts, number_there, leb-true, numbers_long, numbers_front, every_drop)

pub place_fields : Fields place_in place_spelled a_place
place_fields = record { read = place_read; was = place_was }

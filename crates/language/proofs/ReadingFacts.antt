-- What stands at a place in a row of bytes: one thing after another, and eight bytes as a number. Assumes nothing.
use Rattle.std.proofs.Common.{◌≡◌, ℕ, zero, suc, ◌+◌, ◌-◌, ◌*◌, ◌<◌, ◌≤◌, Bool, true, false, leb, List, [], ◌∷◌, length, get_or, take, drop, Some, None, Option, refl, ap, ◌∙◌, arith, le-leb}
use borrow.Author.Tests.{lt-leb}
use Rattle.language.specs.Basics.{pick}
use Rattle.language.specs.Heads.{arity}
use Rattle.language.specs.Reading.{Token, head_at, found, times, ends}
use Rattle.std.proofs.lemmas.List.{drop_more}
use Rattle.std.specs.Int.Digits.{number_from_digits}

pub take_next : (bs : List ℕ) (i j n : ℕ) → i < length bs → i + 1 ≡ j → take (suc n) (drop i bs) ≡ get_or bs i 0 ∷ take n (drop j bs)
take_next bs i j n h e = grind (arith, drop_more)

pub take-eight : (bs : List ℕ) (i : ℕ) → i + 8 ≤ length bs →
    take 8 (drop i bs) ≡ get_or bs i 0 ∷ get_or bs (i + 1) 0 ∷ get_or bs (i + 2) 0 ∷ get_or bs (i + 3) 0 ∷ get_or bs (i + 4) 0 ∷ get_or bs (i + 5) 0 ∷ get_or bs (i + 6) 0 ∷ get_or bs (i + 7) 0 ∷ []
take-eight bs i h = take_next bs i (i + 1) 7 (omega arith) (omega arith) ∙ ap (λ t. get_or bs i 0 ∷ t)
    (take_next bs (i + 1) (i + 2) 6 (omega arith) (omega arith) ∙ ap (λ t. get_or bs (i + 1) 0 ∷ t)
    (take_next bs (i + 2) (i + 3) 5 (omega arith) (omega arith) ∙ ap (λ t. get_or bs (i + 2) 0 ∷ t)
    (take_next bs (i + 3) (i + 4) 4 (omega arith) (omega arith) ∙ ap (λ t. get_or bs (i + 3) 0 ∷ t)
    (take_next bs (i + 4) (i + 5) 3 (omega arith) (omega arith) ∙ ap (λ t. get_or bs (i + 4) 0 ∷ t)
    (take_next bs (i + 5) (i + 6) 2 (omega arith) (omega arith) ∙ ap (λ t. get_or bs (i + 5) 0 ∷ t)
    (take_next bs (i + 6) (i + 7) 1 (omega arith) (omega arith) ∙ ap (λ t. get_or bs (i + 6) 0 ∷ t)
    (take_next bs (i + 7) (i + 8) 0 (omega arith) (omega arith))))))))

pub number_eight : (a b c d e f g h : ℕ) → number_from_digits 256 (a ∷ b ∷ c ∷ d ∷ e ∷ f ∷ g ∷ h ∷ []) ≡
    a * 72057594037927936 + b * 281474976710656 + c * 1099511627776 + d * 4294967296 + e * 16777216 + f * 65536 + g * 256 + h
number_eight a b c d e f g h = omega arith

-- one turn of reading the next expressions, by what the next head is
pub ends-done : (bs : List ℕ) (i n f : ℕ) → n ≡ 0 → ends n f bs i ≡ Some i
unfolding ends
ends-done bs i n f e = ap (λ m. ends m f bs i) e

pub ends_short : (bs : List ℕ) (i n f : ℕ) → 0 < n → f ≡ 0 → ends n f bs i ≡ None
unfolding ends
ends_short bs i zero f h e = absurd (omega arith)
ends_short bs i (suc n) f h e = ap (λ g. ends (suc n) g bs i) e

-- after a head: its parts come next
abbrev pub ends_after : ℕ → ℕ → List ℕ → Token → Option ℕ
ends_after m g bs t = pick (leb (arity t.head + m) (length bs - t.end)) (ends (arity t.head + m) g bs t.end) None

pub ends-turn : (m g : ℕ) (bs : List ℕ) (i : ℕ) → ends (suc m) (suc g) bs i ≡ found (head_at bs i) (ends_after m g bs)
unfolding ends
ends-turn m g bs i = refl

module _ (bs : List ℕ) (i n m f g : ℕ) (some : n ≡ suc m) (turns : f ≡ suc g) where
  one : (o : Option Token) → head_at bs i ≡ o → ends n f bs i ≡ found o (ends_after m g bs)
  one o e = grind (arith, ends-turn)

  pub ends_none : head_at bs i ≡ None → ends n f bs i ≡ None
  ends_none e = one None e

  pub ends_out : (t : Token) → head_at bs i ≡ Some t → length bs - t.end < arity t.head + m → ends n f bs i ≡ None
  ends_out t e l = one (Some t) e ∙ ap (λ b. pick b (ends (arity t.head + m) g bs t.end) None) (lt-leb _ _ l)

  pub ends_more : (t : Token) (k : ℕ) → head_at bs i ≡ Some t → arity t.head + m ≡ k → k ≤ length bs - t.end → ends n f bs i ≡ ends k g bs t.end
  ends_more t k e p l =
      one (Some t) e ∙ ap (λ b. pick (leb b (length bs - t.end)) (ends b g bs t.end) None) p
      ∙ ap (λ b. pick b (ends k g bs t.end) None) (le-leb _ _ l)

-- one turn of reading so many things, one after the other
pub times-done : (s : ℕ → Option ℕ) (i n : ℕ) → n ≡ 0 → times n s i ≡ Some i
unfolding times
times-done s i n e = ap (λ m. times m s i) e

pub times_none : (s : ℕ → Option ℕ) (i n : ℕ) → 0 < n → s i ≡ None → times n s i ≡ None
unfolding times
times_none s i zero h e = absurd (omega arith)
times_none s i (suc n) h e = ap (λ o. found o (λ j. times n s j)) e

pub times_more : (s : ℕ → Option ℕ) (i j n m : ℕ) → n ≡ suc m → s i ≡ Some j → times n s i ≡ times m s j
unfolding times
times_more s i j n m p e = grind arith

-- what was found came from something that was found, or from a test that held
pub found_some : {A B : Type 0} (o : Option A) (f : A → Option B) (b : B) → found o f ≡ Some b → (a : A) × (o ≡ Some a) × (f a ≡ Some b)
found_some None f b e = absurd cc
found_some (Some a) f b e = (a, refl, e)

pub pick_some : {A : Type 0} (t : Bool) (a b : A) → pick t (Some a) None ≡ Some b → (t ≡ true) × (a ≡ b)
pick_some true a b e = (refl, cc)
pick_some false a b e = absurd cc

pub pick-found : {A : Type 0} (t : Bool) (o : Option A) (b : A) → pick t o None ≡ Some b → (t ≡ true) × (o ≡ Some b)
pick-found true o b e = (refl, e)
pick-found false o b e = absurd cc

-- Reading hex pair by pair: what is read so far, and what is to come, make up the whole.
use Rattle.std.proofs.Common.{◌≡◌, ℕ, zero, suc, ◌+◌, ◌*◌, ◌/◌, ◌<◌, ◌≤◌, min, true, List, [], ◌∷◌, ◌++◌, length, get_or, take, drop, is_some, Some, None, Ok, Err, Option, Result, MatchResult, IsErrAnd, sym, refl, ap, ◌∙◌, ap₂, length-append, append_assoc, append-nil, arith}
use Rattle.std.specs.Option.{option_map}
use Rattle.std.proofs.lemmas.Bool.Decides.{nat_tests}
use Rattle.std.specs.Simd.{first_chunks}
use Rattle.std.proofs.lemmas.List.{nil_from_length, drop-drop, take-append-drop}
use Rattle.std.proofs.lemmas.List.Folds.{prefix_len-append}
use Rattle.std.proofs.lemmas.List.Sums.{prefix_len-drop_yes, prefix_len-drop_no, prefix_len-drop_all, prefix_len-le-length}
use Rattle.session.specs.declared.hex.HexError.{HexError}
use Rattle.session.specs.declared.hex.HexError.TheVariants.{NotADigit, MissingDigit, OutOfMemory}
use Rattle.session.specs.Hex.{digit_value, is_digit, digits_in, bytes_of}
use Rattle.session.specs.HexResults.{DigitAt, ReadsByte, RefusesHex, moved}
use Rattle.session.proofs.Laws.{paired, even_digits}

-- what `map_err` by `beyond` gives, whose closure may give g for f where post says so
pub beyond_err : {A : Type 0} (margin : ℕ) (r out : Result A HexError) (e : HexError) (post : HexError → HexError → Type 0) → out ≡ Err e → MatchResult r (λ x. out ≡ Ok x) (λ f. IsErrAnd out (post f)) → ((f g : HexError) → post f g → g ≡ moved margin f) → (f : HexError) × (r ≡ Err f) × (e ≡ moved margin f)
beyond_err margin (Ok x) out e post is cases given = absurd (cc)
beyond_err margin (Err f) (Ok x) e post is cases given = absurd (cc)
beyond_err margin (Err f) (Err g) e post is cases given = let same : e ≡ g = cc in (f, refl, same ∙ given f g cases)

pub beyond_ok : {A : Type 0} (r out : Result A HexError) (x : A) (post : HexError → HexError → Type 0) → out ≡ Ok x → MatchResult r (λ y. out ≡ Ok y) (λ f. IsErrAnd out (post f)) → r ≡ Ok x
beyond_ok (Ok y) out x post is cases = cc
beyond_ok (Err f) (Ok x) y post is cases = absurd cases
beyond_ok (Err f) (Err g) x post is cases = absurd (cc)

-- ---- a pair

pub reads_two : (pair : List ℕ) (high low : ℕ) → length pair ≤ 2 → DigitAt pair 0 (Ok high) → DigitAt pair 1 (Ok low) → bytes_of pair ≡ Some ((16 * high + low) ∷ [])
unfolding bytes_of
reads_two [] high low two p (within, _, _) = absurd (omega arith)
reads_two (c ∷ []) high low two p (within, _, _) = absurd (omega arith)
reads_two (c ∷ d ∷ []) high low two (_, p, _) (_, q, _) =
    let byte : high * 16 + low ≡ 16 * high + low = omega arith in
    ap₂ (λ x y. paired x y (Some [])) p q ∙ ap (λ n. Some (n ∷ [])) byte
reads_two (c ∷ d ∷ e ∷ pair) high low two p q = absurd (omega arith)

none_from : {A : Type 0} (o : Option A) → (is_some o ≡ true → ⊥) → o ≡ None
none_from None never = refl
none_from (Some x) never = absurd (never refl)

none_at_fault : (text : List ℕ) → digits_in text < length text → bytes_of text ≡ None
none_at_fault text h = none_from (bytes_of text) (λ s. absurd (omega (arith, even_digits.all_digits text s)))

none_at_end : (text : List ℕ) (n : ℕ) → length text ≡ 2 * n + 1 → bytes_of text ≡ None
none_at_end text n h = none_from (bytes_of text) (λ s. absurd (omega (arith, even_digits.even text s)))

pub refuse_first : (pair : List ℕ) → 0 < length pair → (e : HexError) → DigitAt pair 0 (Err e) → ReadsByte pair (Err e)
refuse_first pair some (NotADigit i) (h, p, is) =
    let none : digits_in pair ≡ 0 = prefix_len-drop_no is_digit pair 0 0 h (ap is_some p) in
    (none_at_fault pair (omega arith), omega arith, omega arith)
refuse_first pair some (MissingDigit i) (h, is) = absurd (omega arith)
refuse_first pair some OutOfMemory h = absurd h

pub refuse_second : (pair : List ℕ) (high : ℕ) → DigitAt pair 0 (Ok high) → (e : HexError) → DigitAt pair 1 (Err e) → ReadsByte pair (Err e)
refuse_second pair high (h, p, _) (NotADigit i) (h', q, is) =
    let front : digits_in pair ≡ _ = prefix_len-drop_yes is_digit pair 0 0 h (ap is_some p) in
    let back = prefix_len-drop_no is_digit pair 1 0 h' (ap is_some q) in
    let one : digits_in pair ≡ 1 = omega arith in
    (none_at_fault pair (omega arith), omega arith, omega arith)
refuse_second pair high (h, p, _) (MissingDigit i) (h', is) =
    let front : digits_in pair ≡ _ = prefix_len-drop_yes is_digit pair 0 0 h (ap is_some p) in
    let back = prefix_len-drop_all is_digit pair 1 h' in
    let one : digits_in pair ≡ 1 = omega arith in
    (none_at_end pair 0 (omega arith), omega arith, omega arith)
refuse_second pair high _ OutOfMemory h = absurd h

-- digits that are no byte are one alone
alone : (pair : List ℕ) → bytes_of pair ≡ None → digits_in pair ≡ length pair → length pair ≤ 2 → length pair ≡ 1
alone [] none all two = let some = even_digits.stands [] all refl in absurd (cc)
alone (c ∷ []) none all two = refl
alone (c ∷ d ∷ []) none all two = let some = even_digits.stands (c ∷ d ∷ []) all refl in absurd (cc)
alone (c ∷ d ∷ e ∷ pair) none all two = absurd (omega arith)

-- ---- a text, pair by pair

-- bytes put before those that a text stands for
abbrev pub before : List ℕ → Option (List ℕ) → Option (List ℕ)
before front rest = option_map (λ bs. front ++ bs) rest

before-before : (a b : List ℕ) (rest : Option (List ℕ)) → before a (before b rest) ≡ before (a ++ b) rest
before-before a b None = refl
before-before a b (Some bs) = ap (λ xs. Some xs) (sym (append_assoc a b bs))

paired-before : (x y : Option ℕ) (b : ℕ) (rest : Option (List ℕ)) → paired x y (Some []) ≡ Some (b ∷ []) → paired x y rest ≡ before (b ∷ []) rest
paired-before (Some high) (Some low) b rest e = let byte : high * 16 + low ≡ b = cc in ap (λ n. before (n ∷ []) rest) byte
paired-before (Some high) None b rest e = absurd (cc)
paired-before None y b rest e = absurd (cc)

pub bytes_of-pair : (pair rest : List ℕ) (b : ℕ) → length pair ≤ 2 → bytes_of pair ≡ Some (b ∷ []) → (bytes_of (pair ++ rest) ≡ before (b ∷ []) (bytes_of rest)) × (length pair ≡ 2)
unfolding bytes_of
bytes_of-pair [] rest b two e = absurd (cc)
bytes_of-pair (c ∷ []) rest b two e = absurd (cc)
bytes_of-pair (c ∷ d ∷ []) rest b two e = (paired-before (digit_value c) (digit_value d) b (bytes_of rest) e, refl)
bytes_of-pair (c ∷ d ∷ f ∷ pair) rest b two e = absurd (omega arith)

digits_past : (pair next : List ℕ) → digits_in pair ≡ length pair → digits_in (pair ++ next) ≡ length pair + digits_in next
digits_past pair next h = grind (arith, nat_tests, prefix_len-append is_digit pair next)

digits_within : (pair next : List ℕ) → digits_in pair < length pair → digits_in (pair ++ next) ≡ digits_in pair
digits_within pair next h = grind (arith, nat_tests, prefix_len-append is_digit pair next)

-- the digits at the front of text stand for items, and rest is behind them
pub record SoFar (text items rest : List ℕ) : Type 0 where
  pub whole : length text ≡ 2 * length items + length rest
  pub bytes : bytes_of text ≡ before items (bytes_of rest)
  pub digits : digits_in text ≡ 2 * length items + digits_in rest

module _ {text items rest : List ℕ} (s : SoFar text items rest) (pair next : List ℕ) (parts : rest ≡ pair ++ next) where
  sizes : length rest ≡ length pair + length next
  sizes = ap length parts ∙ length-append pair next

  ahead : digits_in rest ≡ digits_in (pair ++ next)
  ahead = ap digits_in parts

  pub so_far_more : (b : ℕ) (grown : List ℕ) → grown ≡ items ++ b ∷ [] → length pair ≤ 2 → bytes_of pair ≡ Some (b ∷ []) → SoFar text grown next
  so_far_more b grown g two e =
      let p = bytes_of-pair pair next b two e in
      let all = even_digits.all_digits pair (ap is_some e) in
      let more = ap length g ∙ length-append items (b ∷ []) in
      record {
        whole = omega (arith, sizes, p.1);
        bytes = s.bytes ∙ ap (λ xs. before items (bytes_of xs)) parts ∙ ap (before items) p.0 ∙ before-before items (b ∷ []) _ ∙ ap (λ xs. before xs (bytes_of next)) (sym g);
        digits = omega (arith, s.digits, ahead, digits_past pair next all, p.1);
      }

  -- the next pair is refused, and so the text
  pub refuse_pair : (margin : ℕ) → margin ≡ 2 * length items → length pair ≡ min 2 (length rest) → (e : HexError) → ReadsByte pair (Err e) → RefusesHex text (moved margin e)
  refuse_pair margin m size (NotADigit i) (b, at, within) =
      let here : digits_in text ≡ margin + i = omega (arith, s.digits, ahead, digits_within pair next (omega arith)) in
      let inside : margin + i < length text = omega (arith, s.whole, sizes) in
      (none_at_fault text (omega arith), sym here, inside)
  refuse_pair margin m size (MissingDigit i) (b, at, end) =
      let one : length pair ≡ 1 = alone pair b (omega arith) (omega arith) in
      let last : length next ≡ 0 = omega (arith, sizes) in
      let total : length text ≡ 2 * length items + 1 = omega (arith, s.whole, sizes) in
      let here : digits_in text ≡ 2 * length items + 1 = omega (arith, s.digits, ahead, digits_past pair next (omega arith), prefix_len-le-length is_digit next) in
      (none_at_end text (length items) (omega arith), omega arith, omega arith)
  refuse_pair margin m size OutOfMemory r = absurd r

-- ---- pairs of a text by their number

nth_pair : (n k : ℕ) (text : List ℕ) → k < n → get_or (first_chunks 2 n text) k [] ≡ take 2 (drop (2 * k) text)
nth_pair zero k text h = absurd (omega arith)
nth_pair (suc n) zero text h = refl
nth_pair (suc n) (suc k) text h =
    nth_pair n k (drop 2 text) (omega arith) ∙ ap (take 2) (drop-drop (2 * k) 2 text ∙ ap (λ m. drop m text) (let z : 2 + 2 * k ≡ 2 * suc k = omega arith in z))

pub pair_at : (text : List ℕ) (pairs : List (List ℕ)) (k : ℕ) → pairs ≡ first_chunks 2 (length text / 2) text → k < length text / 2 → get_or pairs k [] ≡ take 2 (drop (2 * k) text)
pair_at text pairs k cut h = ap (λ xs. get_or xs k []) cut ∙ nth_pair (length text / 2) k text h

-- a pair, and what comes behind it
pub pair_then : (k : ℕ) (text : List ℕ) → drop (2 * k) text ≡ take 2 (drop (2 * k) text) ++ drop (2 * (k + 1)) text
pair_then k text =
    sym (take-append-drop 2 (drop (2 * k) text))
    ∙ ap (λ xs. take 2 (drop (2 * k) text) ++ xs) (drop-drop 2 (2 * k) text ∙ ap (λ m. drop m text) (let z : 2 * k + 2 ≡ 2 * (k + 1) = omega arith in z))

pub read_whole : (text items rest : List ℕ) → SoFar text items rest → length rest ≡ 0 → bytes_of text ≡ Some items
unfolding bytes_of
read_whole text items rest s h = s.bytes ∙ ap (λ xs. before items (bytes_of xs)) (nil_from_length rest h) ∙ ap (λ xs. Some xs) (append-nil items)

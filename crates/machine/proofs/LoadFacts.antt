-- Loading: names that come to numbers, tables and words that are written one after the other, and what a load tells. Assumes nothing.
use Rattle.std.proofs.Common.{◌≡◌, ℕ, zero, suc, ◌+◌, ◌-◌, ◌*◌, ◌/◌, ◌%◌, ◌<◌, ◌≤◌, Bool, true, false, ◌&&◌, leb, ltb, List, [], ◌∷◌, ◌++◌, length, get_or, take, drop, replicate, Some, None, Ok, Err, sym, refl, ap, ap₂, ◌∙◌, subst, arith, leb-true, ltb-true, ltb-false}
use Rattle.std.specs.List.{range_with_len, fold}
use Rattle.std.specs.Simd.{first_chunks}
use Rattle.std.specs.Int.{from_be_bytes}
use mir.Syntax.{w64}
use Rattle.std.specs.Int.Digits.{number_from_digits}
use Rattle.std.proofs.lemmas.List.{length-append, length-take, length-drop, drop-drop, get_or-take, get_or-drop, get_or-replicate, get_or_append_left, get_or-append_right, get_or_past}
use Rattle.std.proofs.lemmas.Bool.{and_parts}
use borrow.Rule.Slice.PartMut.{put_mid}
use lib.ListN.{length-replicate}
use Rattle.std.proofs.lemmas.Slice.{take-put_mid_below, drop-put_mid}
use Rattle.memory.specs.Layout.{memory_words, zero_words, frames_at, put_words}
use Rattle.language.specs.Basics.{pick}
use Rattle.language.specs.Reading.{number_at, funs_fill, is_program}
use Rattle.language.specs.Contents.{passed, owns_differ, names_differ, is_fine}
use Rattle.language.specs.Packed.{word_of}
use Rattle.language.specs.Table.{hashed, table_from, all_differ}
use Rattle.language.proofs.ReadingFacts.{number_eight, take_next}
use Rattle.language.proofs.TableFacts.{table_law}
use Rattle.model.specs.Engine.{done, refused}
use Rattle.machine.specs.declared.told.Refusal.TheVariants.{NameTaken}
use Rattle.machine.specs.History.{loaded}
use Rattle.machine.specs.Machine.{stepped, table_cleared, load_step}
use Rattle.machine.specs.Told.{Told, Does}
use Rattle.machine.proofs.StepFacts.{does_no, does_done}

-- eight bytes after the other
chunk_is : (n k : ℕ) (xs : List ℕ) → k < n → get_or (first_chunks 8 n xs) k [] ≡ take 8 (drop (k * 8) xs)
chunk_is zero k xs h = absurd (omega arith)
chunk_is (suc n) zero xs h = refl
chunk_is (suc n) (suc k) xs h =
    chunk_is n k (drop 8 xs) (omega arith) ∙ ap (take 8) (drop-drop (k * 8) 8 xs ∙ ap (λ m. drop m xs) (let z : 8 + k * 8 ≡ suc k * 8 = omega arith in z))

word_is : (bs : List ℕ) (k : ℕ) → word_of bs k ≡
    get_or bs (k * 8) 0 * 72057594037927936 + get_or bs (k * 8 + 1) 0 * 281474976710656 + get_or bs (k * 8 + 2) 0 * 1099511627776 + get_or bs (k * 8 + 3) 0 * 4294967296
    + get_or bs (k * 8 + 4) 0 * 16777216 + get_or bs (k * 8 + 5) 0 * 65536 + get_or bs (k * 8 + 6) 0 * 256 + get_or bs (k * 8 + 7) 0
unfolding word_of
word_is bs k = number_eight _ _ _ _ _ _ _ _

-- a word by its eight bytes
pub word_same : (xs bs : List ℕ) (k : ℕ) → ((r : ℕ) → r < 8 → get_or xs r 0 ≡ get_or bs (k * 8 + r) 0) → from_be_bytes w64 xs ≡ word_of bs k
word_same xs bs k h =
    omega (
      arith,
      word_is bs k,
      h 0 (omega arith) ∙ ap (λ n. get_or bs n 0) (let z : k * 8 + 0 ≡ k * 8 = omega arith in z),
      h 1 (omega arith),
      h 2 (omega arith),
      h 3 (omega arith),
      h 4 (omega arith),
      h 5 (omega arith),
      h 6 (omega arith),
      h 7 (omega arith),
    )

pub word_whole : (bs : List ℕ) (k : ℕ) → k < length bs / 8 → from_be_bytes w64 (get_or (first_chunks 8 (length bs / 8) bs) k []) ≡ word_of bs k
word_whole bs k h =
    word_same (get_or (first_chunks 8 (length bs / 8) bs) k []) bs k
    (λ r l. ap (λ xs. get_or xs r 0) (chunk_is (length bs / 8) k bs h) ∙ get_or-take 8 (drop (k * 8) bs) r 0 l ∙ get_or-drop (k * 8) bs r 0)

-- fewer than eight bytes, with zeros behind them
pub word_padded : (bs : List ℕ) → length bs < 8 → from_be_bytes w64 (bs ++ drop (length bs) (replicate 8 0)) ≡ word_of bs 0
word_padded bs h = word_same (bs ++ drop (length bs) (replicate 8 0)) bs 0 (λ r l. there r l (ltb r (length bs)) refl)
  where
    there : (r : ℕ) → r < 8 → (t : Bool) → ltb r (length bs) ≡ t → get_or (bs ++ drop (length bs) (replicate 8 0)) r 0 ≡ get_or bs (0 * 8 + r) 0
    there r l true e = get_or_append_left bs (drop (length bs) (replicate 8 0)) 0 r (ltb-true _ _ e) ∙ ap (λ n. get_or bs n 0) (let z : r ≡ 0 * 8 + r = omega arith in z)
    there r l false e =
        get_or-append_right bs (drop (length bs) (replicate 8 0)) (length bs) r 0 refl (ltb-false _ _ e)
        ∙ get_or-drop (length bs) (replicate 8 0) (r - length bs) 0 ∙ get_or-replicate 8 (length bs + (r - length bs)) 0 0 (omega (arith, ltb-false _ _ e))
        ∙ sym (get_or_past bs (0 * 8 + r) 0 (omega (arith, ltb-false _ _ e)))

-- the last word has what is left
pub word_last : (bs : List ℕ) → word_of (drop (length bs / 8 * 8) bs) 0 ≡ word_of bs (length bs / 8)
unfolding word_of
word_last bs =
    let n = length bs / 8 in
    ap (number_from_digits 256)
    (ap₂ ◌∷◌ (get_or-drop (n * 8) bs 0 0 ∙ ap (λ m. get_or bs m 0) (let z : length bs / 8 * 8 + 0 ≡ length bs / 8 * 8 = omega arith in z))
    (ap₂ ◌∷◌ (get_or-drop (n * 8) bs 1 0)
    (ap₂ ◌∷◌ (get_or-drop (n * 8) bs 2 0)
    (ap₂ ◌∷◌ (get_or-drop (n * 8) bs 3 0)
    (ap₂ ◌∷◌ (get_or-drop (n * 8) bs 4 0)
    (ap₂ ◌∷◌ (get_or-drop (n * 8) bs 5 0) (ap₂ ◌∷◌ (get_or-drop (n * 8) bs 6 0) (ap (λ b. b ∷ []) (get_or-drop (n * 8) bs 7 0)))))))))

-- one byte after the other of a name; product and sum wrap
abbrev pub hashed_at : List ℕ → ℕ → ℕ → ℕ
hashed_at bs h at = (h * 1099511628211 % 18446744073709551616 + get_or bs at 0) % 18446744073709551616

pub hash_folded : (bs : List ℕ) (i n h : ℕ) → i + n ≤ length bs → fold (hashed_at bs) h (range_with_len i n) ≡ hashed h (take n (drop i bs))
unfolding hashed
hash_folded bs i zero h l = refl
hash_folded bs i (suc n) h l =
    hash_folded bs (i + 1) n (hashed_at bs h i) (omega arith)
    ∙ sym (ap (hashed h) (take_next bs i (i + 1) n (omega arith) refl) ∙ ap (λ k. hashed k (take n (drop (i + 1) bs))) wraps)
  where
    wraps : (h * 1099511628211 + get_or bs i 0) % 18446744073709551616 ≡ hashed_at bs h i
    wraps = omega arith

-- a program's names differ as its table and the functions' own names say
module _ (bs : List ℕ) (n : ℕ) (count : Some n ≡ number_at bs 0) (t : List ℕ) (table : t ≡ table_from n bs 8) where
  fine_is : is_fine bs ≡ (all_differ bs t && owns_differ n bs 8)
  unfolding is_fine
  fine_is =
      ap (λ o. passed o (λ n. names_differ bs n)) (sym count)
      ∙ ap (λ b. b && owns_differ n bs 8) (sym (ap (all_differ bs) table ∙ table_law bs n 8))

  pub not_fine : false ≡ all_differ bs t → false ≡ is_fine bs
  not_fine e = sym (fine_is ∙ ap (λ b. b && owns_differ n bs 8) (sym e))

  pub fine_if : (r : Bool) → true ≡ all_differ bs t → r ≡ owns_differ n bs 8 → r ≡ is_fine bs
  fine_if r e f = f ∙ sym (fine_is ∙ ap (λ b. b && owns_differ n bs 8) (sym e))

-- a program's spelling is short, and has its count
module _ (bs : List ℕ) (fit : is_program bs ≡ true) where
  parts : (leb (length bs) 65536 ≡ true) × (funs_fill bs (number_at bs 0) ≡ true)
  parts = and_parts (leb (length bs) 65536) (funs_fill bs (number_at bs 0)) fit

  pub bytes_short : length bs ≤ 65536
  bytes_short = leb-true _ _ parts.0

-- the table written over the frames, and then made zeros, in a memory of its length
module _ (m table l : List ℕ) (long : length m ≡ memory_words) (e : l ≡ put_words (put_mid frames_at 2048 m table) frames_at (zero_words 2048)) (all : length l ≡ memory_words) where
  table_long : length table ≡ 2048
  table_long =
      omega (
        arith,
        long,
        all,
        ap length e,
        length-append (take frames_at (put_mid frames_at 2048 m table)) (zero_words 2048 ++ drop (frames_at + length (zero_words 2048)) (put_mid frames_at 2048 m table)),
        length-append (zero_words 2048) (drop (frames_at + length (zero_words 2048)) (put_mid frames_at 2048 m table)),
        length-take frames_at (put_mid frames_at 2048 m table),
        length-drop (frames_at + length (zero_words 2048)) (put_mid frames_at 2048 m table),
        length-replicate {A = ℕ} 2048 0,
        length-append (take frames_at m) (table ++ drop 2048 (drop frames_at m)),
        length-append table (drop 2048 (drop frames_at m)),
        length-take frames_at m,
        length-drop 2048 (drop frames_at m),
        length-drop frames_at m,
      )

  pub table_wiped : l ≡ table_cleared m
  table_wiped =
      e
      ∙ ap₂ (λ f r. f ++ (zero_words 2048 ++ r)) (take-put_mid_below frames_at 2048 m table frames_at (omega arith) (omega arith))
      (drop-put_mid frames_at 2048 m table (frames_at + length (zero_words 2048)) (omega (arith, length-replicate {A = ℕ} 2048 0)) (omega arith) table_long)

-- a load, by whether names differ
module _ (m bs m₁ : List ℕ) where
  pub load-refused : (r : Told) → false ≡ is_fine bs → m₁ ≡ table_cleared m → r ≡ Err NameTaken → Does (load_step m bs) r m₁
  unfolding load_step
  load-refused r f e n =
      subst (λ t. Does (pick t (stepped (loaded (table_cleared m) bs) done) (stepped (table_cleared m) (refused 4))) r m₁) f
      (subst (λ l. Does (stepped l (refused 4)) r m₁) e (does_no m₁ r NameTaken n))

  pub load-done : (c : List ℕ) → true ≡ is_fine bs → c ≡ table_cleared m → m₁ ≡ loaded c bs → Does (load_step m bs) (Ok None) m₁
  unfolding load_step
  load-done c f e n =
      subst (λ t. Does (pick t (stepped (loaded (table_cleared m) bs) done) (stepped (table_cleared m) (refused 4))) (Ok None) m₁) f
      (subst (λ l. Does (stepped l done) (Ok None) m₁) (n ∙ ap (λ l. loaded l bs) e) (does_done m₁))

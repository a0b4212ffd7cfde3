-- A program that was written byte by byte into an area of zeros stands there, eight bytes to a word. By induction on its bytes, eight at a time.
-- Assumes nothing.
use Rattle.std.proofs.Common.{◌≡◌, ℕ, zero, suc, ◌+◌, ◌-◌, ◌*◌, ◌/◌, ◌%◌, ◌<◌, ◌≤◌, true, ltb, List, [], ◌∷◌, ◌++◌, length, get_or, drop, set, sym, refl, ap, ◌∙◌, ap₂, arith}
use Rattle.std.proofs.Math.Seq.{set-append_seam}
use Rattle.std.specs.Int.Digits.{number_from_digits}
use Rattle.std.proofs.lemmas.List.{length-append, append_assoc, ext_get_or}
use Rattle.language.specs.Bytes.{all_bytes}
use Rattle.language.specs.Packed.{word_of, packed}
use Rattle.language.proofs.ListFacts.{every_drop}
use Rattle.language.proofs.StandsFacts.{bytes_below}
use Rattle.language.proofs.PackedLaws.{length_packed_words, packed_word}
use Rattle.memory.specs.Layout.{zero_words, slot_filled}
use Rattle.memory.specs.Build.{writing_at, writing, pushed_all, Pushed, finished}
use Rattle.memory.specs.declared.build.Writer.{Writer}

-- words put one after the other
pub put_each : List ℕ → ℕ → List ℕ → List ℕ
put_each m a [] = m
put_each m a (v ∷ vs) = put_each (set m a v) (a + 1) vs

-- eight bytes as one number, each taken in turn
abbrev next : ℕ → ℕ → ℕ
next n v = (n * 256 + v) % 18446744073709551616

abbrev taken : ℕ → ℕ → ℕ → ℕ → ℕ → ℕ → ℕ → ℕ → ℕ
taken a b c d e f g h = next (next (next (next (next (next (next (next 0 a) b) c) d) e) f) g) h

eight-taken : (a b c d e f g h : ℕ) → a < 256 → b < 256 → c < 256 → d < 256 → e < 256 → f < 256 → g < 256 → h < 256 →
    taken a b c d e f g h ≡ number_from_digits 256 (a ∷ b ∷ c ∷ d ∷ e ∷ f ∷ g ∷ h ∷ [])
eight-taken a b c d e f g h la lb lc ld le lf lg lh = omega arith

-- the first word of a row, with zeros past its end
word_taken : (bs : List ℕ) → all_bytes bs ≡ true →
    taken (get_or bs 0 0) (get_or bs 1 0) (get_or bs 2 0) (get_or bs 3 0) (get_or bs 4 0) (get_or bs 5 0) (get_or bs 6 0) (get_or bs 7 0) ≡ word_of bs 0
unfolding word_of
word_taken bs bytes =
    eight-taken _ _ _ _ _ _ _ _ (bytes_below bs bytes 0) (bytes_below bs bytes 1) (bytes_below bs bytes 2) (bytes_below bs bytes 3) (bytes_below bs bytes 4)
    (bytes_below bs bytes 5) (bytes_below bs bytes 6) (bytes_below bs bytes 7)

-- the first eight bytes are the first word, and the others the other words
module _ (a b c d e f g h : ℕ) (bs : List ℕ) where
  abbrev all : List ℕ
  all = a ∷ b ∷ c ∷ d ∷ e ∷ f ∷ g ∷ h ∷ bs

  abbrev first : ℕ
  first = number_from_digits 256 (a ∷ b ∷ c ∷ d ∷ e ∷ f ∷ g ∷ h ∷ [])

  eight_on : (i j : ℕ) → i ≡ suc (suc (suc (suc (suc (suc (suc (suc j))))))) → get_or all i 0 ≡ get_or bs j 0
  eight_on i j p = ap (λ k. get_or all k 0) p

  word_on : (k : ℕ) → word_of all (suc k) ≡ word_of bs k
  unfolding word_of
  word_on k i =
      number_from_digits 256
      (eight_on (suc k * 8) (k * 8) (omega arith) i ∷ eight_on (suc k * 8 + 1) (k * 8 + 1) (omega arith) i ∷ eight_on (suc k * 8 + 2) (k * 8 + 2) (omega arith) i
      ∷ eight_on (suc k * 8 + 3) (k * 8 + 3) (omega arith) i ∷ eight_on (suc k * 8 + 4) (k * 8 + 4) (omega arith) i ∷ eight_on (suc k * 8 + 5) (k * 8 + 5) (omega arith) i
      ∷ eight_on (suc k * 8 + 6) (k * 8 + 6) (omega arith) i ∷ eight_on (suc k * 8 + 7) (k * 8 + 7) (omega arith) i ∷ [])

  long-eight : length (packed all) ≡ suc (length (packed bs))
  long-eight = omega (arith, length_packed_words all, length_packed_words bs)

  word_at : (k : ℕ) → k < length (packed all) → get_or (packed all) k 0 ≡ get_or (first ∷ packed bs) k 0
  unfolding word_of
  word_at zero l = packed_word all 0 (omega (arith, length_packed_words all))
  word_at (suc k) l =
      packed_word all (suc k) (omega (arith, length_packed_words all)) ∙ word_on k ∙ sym (packed_word bs k (omega (arith, long-eight, length_packed_words bs)))

  packed-eight : packed all ≡ first ∷ packed bs
  packed-eight = ext_get_or 0 (packed all) (first ∷ packed bs) long-eight word_at

bytes_from : (n : ℕ) (bs : List ℕ) → all_bytes bs ≡ true → all_bytes (drop n bs) ≡ true
bytes_from n bs = every_drop (λ b. ltb b 256) n bs

pub laid : (bs : List ℕ) (m : List ℕ) (w : ℕ) → all_bytes bs ≡ true → finished (pushed_all (writing_at m w 0 0) bs) ≡ put_each m w (packed bs)
unfolding pushed_all put_each packed word_of
laid [] m w bytes = refl
laid (a ∷ []) m w bytes = ap (set m w) (word_taken (a ∷ []) bytes)
laid (a ∷ b ∷ []) m w bytes = ap (set m w) (word_taken (a ∷ b ∷ []) bytes)
laid (a ∷ b ∷ c ∷ []) m w bytes = ap (set m w) (word_taken (a ∷ b ∷ c ∷ []) bytes)
laid (a ∷ b ∷ c ∷ d ∷ []) m w bytes = ap (set m w) (word_taken (a ∷ b ∷ c ∷ d ∷ []) bytes)
laid (a ∷ b ∷ c ∷ d ∷ e ∷ []) m w bytes = ap (set m w) (word_taken (a ∷ b ∷ c ∷ d ∷ e ∷ []) bytes)
laid (a ∷ b ∷ c ∷ d ∷ e ∷ f ∷ []) m w bytes = ap (set m w) (word_taken (a ∷ b ∷ c ∷ d ∷ e ∷ f ∷ []) bytes)
laid (a ∷ b ∷ c ∷ d ∷ e ∷ f ∷ g ∷ []) m w bytes = ap (set m w) (word_taken (a ∷ b ∷ c ∷ d ∷ e ∷ f ∷ g ∷ []) bytes)
laid (a ∷ b ∷ c ∷ d ∷ e ∷ f ∷ g ∷ h ∷ bs) m w bytes =
    let on = set m w (first a b c d e f g h bs) in
    ap (λ v. finished (pushed_all (writing_at (set m w v) (w + 1) 0 0) bs)) (word_taken (all a b c d e f g h bs) bytes)
    ∙ laid bs on (w + 1) (bytes_from 8 (all a b c d e f g h bs) bytes)
    ∙ ap (put_each m w) (sym (packed-eight a b c d e f g h bs))

set_zero : (m : List ℕ) (v n : ℕ) → set (m ++ zero_words (suc n)) (length m) v ≡ (m ++ v ∷ []) ++ zero_words n
set_zero m v n = set-append_seam m 0 (zero_words n) v ∙ sym (append_assoc m (v ∷ []) (zero_words n))

-- words put one after the other into zeros: behind them there are zeros
put_in_zeros : (vs m : List ℕ) (n : ℕ) → length vs ≤ n → put_each (m ++ zero_words n) (length m) vs ≡ m ++ (vs ++ zero_words (n - length vs))
unfolding put_each
put_in_zeros [] m n few = ap (λ k. m ++ zero_words k) (let z : n ≡ n - 0 = omega arith in z)
put_in_zeros (v ∷ vs) m zero few = absurd (omega arith)
put_in_zeros (v ∷ vs) m (suc n) few =
    ap₂ (λ l a. put_each l a vs) (set_zero m v n) (sym (length-append m (v ∷ [])))
    ∙ put_in_zeros vs (m ++ v ∷ []) n (omega arith)
    ∙ append_assoc m (v ∷ []) (vs ++ zero_words (n - length vs))
    ∙ ap (λ k. m ++ (v ∷ vs ++ zero_words k)) (let z : n - length vs ≡ suc n - suc (length vs) = omega arith in z)

-- what is written from the beginning on stands in the area, with zeros behind
pub built_law : (bs : List ℕ) → length bs ≤ 65536 → all_bytes bs ≡ true → finished (pushed_all (writing_at (zero_words 8192) 0 0 0) bs) ≡ slot_filled bs
built_law bs short bytes = laid bs (zero_words 8192) 0 bytes ∙ put_in_zeros (packed bs) [] 8192 (omega (arith, length_packed_words bs))

pub built_begun : (b c : Writer) (bs : List ℕ) → b.build.written ≡ 0 → b.build.word ≡ 0 → b.area.now ≡ zero_words 8192 → Pushed b bs c → finished (writing c) ≡ slot_filled bs
built_begun b c bs none empty zeros p =
    ap finished
    (p.so
    ∙ ap (λ n. pushed_all (writing_at b.area.now (n / 8) (n % 8) b.build.word) bs) none
    ∙ ap₂ (λ l v. pushed_all (writing_at l 0 0 v) bs) zeros empty)
    ∙ built_law bs (omega (arith, p.room)) p.bytes

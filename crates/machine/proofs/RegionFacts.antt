-- What a write to the header, going back, loading, and words put past the slots leave of each program that is held. Assumes nothing.
use Rattle.std.proofs.Common.{◌≡◌, ℕ, zero, suc, ◌+◌, ◌-◌, ◌*◌, ◌<◌, ◌≤◌, Bool, true, false, ◌&&◌, eqb, ltb, leb, ◌≢◌, List, ◌++◌, length, get_or, take, drop, set, sym, refl, ap, ◌∙◌, subst, ap₂, arith, ltb-false, ltb-true, eq-eqb, le-leb, leb-false, leb-true}
use lib.ListN.{length-replicate}
use lib.Seq.{paste}
use Rattle.std.proofs.lemmas.List.Edits.{length-paste, paste_all}
use Rattle.std.proofs.lemmas.List.{drop-set-lt, get_or-set_same, get_or-set_other, length-set, get_or-take, get_or-drop, length-take-le, length-drop, drop_at}
use Rattle.std.proofs.lemmas.Bool.{and_parts, and_from}
use Rattle.language.specs.Basics.{flat}
use Rattle.language.specs.Bytes.{eight, all_bytes}
use Rattle.language.specs.Packed.{packed}
use Rattle.language.proofs.ListFacts.{every_from, every-at, take_past}
use Rattle.language.proofs.PackedLaws.{length_packed_words, packed-flat}
use Rattle.language.proofs.PasteFacts.{part_same, paste_low, paste_mid, paste_high}
use Rattle.memory.specs.Layout.{memory_words, zero_words, mark, older, lengths, lengths_fit, memory_fits, slot, held, build_at, frames_at, put_words}
use Rattle.machine.specs.History.{loaded, moved_down, moved_up, gone_back}
use Rattle.machine.specs.Machine.{table_cleared}
use Rattle.memory.proofs.LayoutFacts.{memory-long, older-few}

-- a memory that fits, word by word
pub record FitWords (m : List ℕ) : Type 0 where
  pub long : length m ≡ memory_words
  pub mark_low : mark m ≤ 65537
  pub few : older m ≤ 8
  pub short : (k : ℕ) → k < 9 → get_or m (2 + k) 0 ≤ 65528

length_at : (m : List ℕ) (k : ℕ) → k < 9 → get_or (lengths m) k 0 ≡ get_or m (2 + k) 0
length_at m k h = get_or-take 9 (drop 2 m) k 0 h ∙ get_or-drop 2 m k 0

pub fit_words : (m : List ℕ) → memory_fits m ≡ true → FitWords m
fit_words m h =
    let p = and_parts (eqb (length m) memory_words) ((leb (mark m) 65537 && leb (older m) 8) && lengths_fit (lengths m)) h in
    let q = and_parts (leb (mark m) 65537 && leb (older m) 8) (lengths_fit (lengths m)) p.1 in
    let r = and_parts (leb (mark m) 65537) (leb (older m) 8) q.0 in
    let long = memory-long m h in
    record {
      long = long;
      mark_low = leb-true (mark m) 65537 r.0;
      few = leb-true (older m) 8 r.1;
      short = λ k l.
          omega (arith, leb-true (get_or (lengths m) k 0) 65528 (every-at (λ n. leb n 65528) 0 (lengths m) q.1 k (omega (arith, length-take-le 9 (drop 2 m) (omega (arith, length-drop 2 m))))), length_at m k l);
    }

pub words_fit : (m : List ℕ) → FitWords m → memory_fits m ≡ true
words_fit m w =
    and_from _ _ (eq-eqb (length m) memory_words w.long)
    (and_from _ _ (and_from _ _ (le-leb (mark m) 65537 w.mark_low) (le-leb (older m) 8 w.few))
    (every_from (λ n. leb n 65528) 0 (lengths m) (λ k l. le-leb (get_or (lengths m) k 0) 65528 (omega (arith, length_at m k (nine k l), w.short k (nine k l))))))
  where
    nine : (k : ℕ) → k < length (lengths m) → k < 9
    nine k l = omega (arith, length-take-le 9 (drop 2 m) (omega (arith, length-drop 2 m, w.long)))

-- a program that is held is its length and its slot
pub held_same : (m n : List ℕ) (j k : ℕ) → get_or n (2 + j) 0 ≡ get_or m (2 + k) 0 → slot j n ≡ slot k m → held j n ≡ held k m
unfolding held
held_same m n j k e s = ap₂ (λ l ws. take (l + 8) (flat eight ws)) e s

-- a word of the header
pub slot-set : (m : List ℕ) (i v k : ℕ) → i < 16 → slot k (set m i v) ≡ slot k m
slot-set m i v k h = ap (take 8192) (drop-set-lt (16 + k * 8192) m i v (omega arith))

pub held-set : (m : List ℕ) (i v k : ℕ) → i < 16 → 2 + k ≢ i → held k (set m i v) ≡ held k m
held-set m i v k h d = held_same m (set m i v) k k (get_or-set_other m i (2 + k) v 0 d) (slot-set m i v k h)

pub fits_marked : (m : List ℕ) (v : ℕ) → v ≤ 65537 → memory_fits m ≡ true → memory_fits (set m 0 v) ≡ true
fits_marked m v h f =
    let w = fit_words m f in
    words_fit (set m 0 v)
    (record {
      long = length-set m 0 v ∙ w.long;
      mark_low = omega (arith, get_or-set_same m 0 v 0 (omega (arith, w.long)));
      few = omega (arith, get_or-set_other m 0 1 v 0 (omega arith), w.few);
      short = λ k l. omega (arith, get_or-set_other m 0 (2 + k) v 0 (omega arith), w.short k l);
    })

pub fits-counted : (m : List ℕ) (v : ℕ) → v ≤ 8 → memory_fits m ≡ true → memory_fits (set m 1 v) ≡ true
fits-counted m v h f =
    let w = fit_words m f in
    words_fit (set m 1 v)
    (record {
      long = length-set m 1 v ∙ w.long;
      mark_low = omega (arith, get_or-set_other m 1 0 v 0 (omega arith), w.mark_low);
      few = omega (arith, get_or-set_same m 1 v 0 (omega (arith, w.long)));
      short = λ k l. omega (arith, get_or-set_other m 1 (2 + k) v 0 (omega arith), w.short k l);
    })

-- lengths and slots moved by one: eight of them, from the bth on to where the ath is
unfoldable pub moved : ℕ → ℕ → List ℕ → List ℕ
moved a b m =
    paste (paste m (2 + a) (drop (2 + b) m) 8) (16 + a * 8192) (drop (16 + b * 8192) (paste m (2 + a) (drop (2 + b) m) 8)) 65536

pub down_is : (m : List ℕ) → moved_down m ≡ moved 0 1 m
unfolding moved_down moved
down_is m = refl

pub up_is : (m : List ℕ) → moved_up m ≡ moved 1 0 m
unfolding moved_up moved
up_is m = refl

module _ (m : List ℕ) (long : length m ≡ memory_words) (a b : ℕ) (to : a ≤ 1) (from : b ≤ 1) where
  shifted : List ℕ
  shifted = paste m (2 + a) (drop (2 + b) m) 8

  long_from : 8 ≤ length (drop (2 + b) m)
  long_from = omega (arith, length-drop (2 + b) m, long)

  long_shifted : length shifted ≡ memory_words
  unfolding shifted
  long_shifted = length-paste m (2 + a) (drop (2 + b) m) 8 (omega (arith, long)) long_from ∙ long

  long_slots : 65536 ≤ length (drop (16 + b * 8192) shifted)
  long_slots = omega (arith, length-drop (16 + b * 8192) shifted, long_shifted)

  pub moved-long : length (moved a b m) ≡ memory_words
  unfolding moved shifted
  moved-long = length-paste shifted (16 + a * 8192) (drop (16 + b * 8192) shifted) 65536 (omega (arith, long_shifted)) long_slots ∙ long_shifted

  -- a word of the header, of which the lengths are those of the other programs
  moved_header : (i : ℕ) → i < 16 → get_or (moved a b m) i 0 ≡ get_or shifted i 0
  unfolding moved shifted
  moved_header i h = paste_low shifted (drop (16 + b * 8192) shifted) (16 + a * 8192) 65536 (omega (arith, long_shifted)) long_slots i (omega arith)

  pub moved_front : (i : ℕ) → i < 2 + a → get_or (moved a b m) i 0 ≡ get_or m i 0
  unfolding shifted
  moved_front i h = moved_header i (omega arith) ∙ paste_low m (drop (2 + b) m) (2 + a) 8 (omega (arith, long)) long_from i h

  pub moved_length : (k : ℕ) → k < 8 → get_or (moved a b m) (2 + (k + a)) 0 ≡ get_or m (2 + (k + b)) 0
  unfolding shifted
  moved_length k h =
      moved_header (2 + (k + a)) (omega arith)
      ∙ paste_mid m (drop (2 + b) m) (2 + a) 8 (omega (arith, long)) long_from (2 + (k + a)) (omega arith) (omega arith)
      ∙ get_or-drop (2 + b) m (2 + (k + a) - (2 + a)) 0 ∙ ap (λ j. get_or m j 0) (let z : 2 + b + (2 + (k + a) - (2 + a)) ≡ 2 + (k + b) = omega arith in z)

  moved_last : (i : ℕ) → 10 + a ≤ i → i < 16 → get_or (moved a b m) i 0 ≡ get_or m i 0
  unfolding shifted
  moved_last i h l = moved_header i l ∙ paste_high m (drop (2 + b) m) (2 + a) 8 (omega (arith, long)) long_from i (omega arith)

  -- a word of the slots, and one behind those that are written
  moved_word : (i : ℕ) → i < 65536 → get_or (moved a b m) (16 + a * 8192 + i) 0 ≡ get_or m (16 + b * 8192 + i) 0
  unfolding moved shifted
  moved_word i h =
      paste_mid shifted (drop (16 + b * 8192) shifted) (16 + a * 8192) 65536 (omega (arith, long_shifted)) long_slots (16 + a * 8192 + i) (omega arith) (omega arith)
      ∙ get_or-drop (16 + b * 8192) shifted (16 + a * 8192 + i - (16 + a * 8192)) 0
      ∙ paste_high m (drop (2 + b) m) (2 + a) 8 (omega (arith, long)) long_from (16 + b * 8192 + (16 + a * 8192 + i - (16 + a * 8192))) (omega arith)
      ∙ ap (λ j. get_or m j 0) (let z : 16 + b * 8192 + (16 + a * 8192 + i - (16 + a * 8192)) ≡ 16 + b * 8192 + i = omega arith in z)

  pub moved-behind : (i : ℕ) → 65552 + a * 8192 ≤ i → get_or (moved a b m) i 0 ≡ get_or m i 0
  unfolding moved shifted
  moved-behind i h =
      paste_high shifted (drop (16 + b * 8192) shifted) (16 + a * 8192) 65536 (omega (arith, long_shifted)) long_slots i (omega arith)
      ∙ paste_high m (drop (2 + b) m) (2 + a) 8 (omega (arith, long)) long_from i (omega arith)

  moved-slot : (k : ℕ) → k < 8 → slot (k + a) (moved a b m) ≡ slot (k + b) m
  moved-slot k h =
      part_same (moved a b m) m (16 + (k + a) * 8192) (16 + (k + b) * 8192) 8192 (omega (arith, moved-long)) (omega (arith, long))
      (λ j l.
      ap (λ i. get_or (moved a b m) i 0) (let z : 16 + (k + a) * 8192 + j ≡ 16 + a * 8192 + (k * 8192 + j) = omega arith in z)
      ∙ moved_word (k * 8192 + j) (omega arith)
      ∙ ap (λ i. get_or m i 0) (let z : 16 + b * 8192 + (k * 8192 + j) ≡ 16 + (k + b) * 8192 + j = omega arith in z))

  pub moved-held : (k i j : ℕ) → k < 8 → i ≡ k + a → j ≡ k + b → held i (moved a b m) ≡ held j m
  moved-held k i j h p q =
      ap (λ l. held l (moved a b m)) p ∙ held_same m (moved a b m) (k + a) (k + b) (moved_length k h) (moved-slot k h) ∙ ap (λ l. held l m) (sym q)

pub moved-fits : (m : List ℕ) (a b : ℕ) → a ≤ 1 → b ≤ 1 → memory_fits m ≡ true → memory_fits (moved a b m) ≡ true
moved-fits m a b to from f =
    words_fit (moved a b m)
    (record {
      long = moved-long m long a b to from;
      mark_low = omega (arith, moved_front m long a b to from 0 (omega arith), w.mark_low);
      few = omega (arith, moved_front m long a b to from 1 (omega arith), w.few);
      short = λ k l. lengths_low k l (leb (8 + a) k) (ltb k a) refl refl;
    })
  where
    w : FitWords m
    w = fit_words m f

    long : length m ≡ memory_words
    long = memory-long m f

    -- the last stays, or the first, or it was another's
    lengths_low : (k : ℕ) → k < 9 → (s t : Bool) → leb (8 + a) k ≡ s → ltb k a ≡ t → get_or (moved a b m) (2 + k) 0 ≤ 65528
    lengths_low k l true t d e = omega (arith, moved_last m long a b to from (2 + k) (omega (arith, leb-true (8 + a) k d)) (omega arith), w.short k l)
    lengths_low k l false true d e = omega (arith, moved_front m long a b to from (2 + k) (omega (arith, ltb-true k a e)), w.short k l)
    lengths_low k l false false d e =
        let low : k - a < 8 = omega (arith, leb-false (8 + a) k d) in
        let is : k - a + a ≡ k = omega (arith, ltb-false k a e) in
        subst (λ j. get_or (moved a b m) (2 + j) 0 ≤ 65528) is (omega (arith, moved_length m long a b to from (k - a) low, w.short (k - a + b) (omega arith)))

-- moved down by one: each program is the one before it, and the last stays
module _ (m : List ℕ) (long : length m ≡ memory_words) where
  pub down_front : (i : ℕ) → i < 2 → get_or (moved_down m) i 0 ≡ get_or m i 0
  down_front i h = ap (λ l. get_or l i 0) (down_is m) ∙ moved_front m long 0 1 (omega arith) (omega arith) i (omega arith)

  pub down_length : (k : ℕ) → k < 8 → get_or (moved_down m) (2 + k) 0 ≡ get_or m (2 + suc k) 0
  down_length k h =
      ap₂ (λ l i. get_or l i 0) (down_is m) (let z : 2 + k ≡ 2 + (k + 0) = omega arith in z)
      ∙ moved_length m long 0 1 (omega arith) (omega arith) k h ∙ ap (λ i. get_or m i 0) (let z : 2 + (k + 1) ≡ 2 + suc k = omega arith in z)

  pub down_slot : (k : ℕ) → k < 8 → slot k (moved_down m) ≡ slot (suc k) m
  down_slot k h =
      ap₂ slot (let z : k ≡ k + 0 = omega arith in z) (down_is m) ∙ moved-slot m long 0 1 (omega arith) (omega arith) k h
      ∙ ap (λ j. slot j m) (let z : k + 1 ≡ suc k = omega arith in z)

  pub down_held : (k : ℕ) → k < 8 → held k (moved_down m) ≡ held (suc k) m
  down_held k h = held_same m (moved_down m) k (suc k) (down_length k h) (down_slot k h)

-- going back
module _ (m : List ℕ) (f : memory_fits m ≡ true) where
  counted-long : (v : ℕ) → length (set m 1 v) ≡ memory_words
  counted-long v = length-set m 1 v ∙ memory-long m f

  pub back_held : (k : ℕ) → k < 8 → held k (gone_back m) ≡ held (suc k) m
  unfolding gone_back
  back_held k h = down_held (set m 1 (older m - 1)) (counted-long (older m - 1)) k h ∙ held-set m 1 (older m - 1) (suc k) (omega arith) (omega arith)

  pub back_older : older (gone_back m) ≡ older m - 1
  unfolding gone_back
  back_older =
      down_front (set m 1 (older m - 1)) (counted-long (older m - 1)) 1 (omega arith)
      ∙ get_or-set_same m 1 (older m - 1) 0 (omega (arith, memory-long m f))

  pub back_fits : memory_fits (gone_back m) ≡ true
  unfolding gone_back
  back_fits =
      ap memory_fits (down_is (set m 1 (older m - 1)))
      ∙ moved-fits (set m 1 (older m - 1)) 0 1 (omega arith) (omega arith) (fits-counted m (older m - 1) (omega (arith, older-few m f)) f)

-- words put over others, as a copy of all of them
pub put_paste : (m : List ℕ) (i : ℕ) (ws : List ℕ) → put_words m i ws ≡ paste m i ws (length ws)
put_paste m i ws = sym (paste_all m i ws (length ws) refl)

module _ (m : List ℕ) (i : ℕ) (ws : List ℕ) (room : i + length ws ≤ length m) where
  pub put_long : length (put_words m i ws) ≡ length m
  put_long = ap length (put_paste m i ws) ∙ length-paste m i ws (length ws) room (omega arith)

  pub put_low : (k : ℕ) → k < i → get_or (put_words m i ws) k 0 ≡ get_or m k 0
  put_low k h = ap (λ l. get_or l k 0) (put_paste m i ws) ∙ paste_low m ws i (length ws) room (omega arith) k h

  pub put_mid : (k : ℕ) → i ≤ k → k < i + length ws → get_or (put_words m i ws) k 0 ≡ get_or ws (k - i) 0
  put_mid k h l = ap (λ l. get_or l k 0) (put_paste m i ws) ∙ paste_mid m ws i (length ws) room (omega arith) k h l

-- words put past the slots leave header and slots as they were
module _ (m : List ℕ) (i : ℕ) (ws : List ℕ) (past : build_at ≤ i) (room : i + length ws ≤ memory_words) (f : memory_fits m ≡ true) where
  pub past_long : length (put_words m i ws) ≡ memory_words
  past_long = put_long m i ws (omega (arith, room, memory-long m f)) ∙ memory-long m f

  pub past_word : (k : ℕ) → k < build_at → get_or (put_words m i ws) k 0 ≡ get_or m k 0
  past_word k h = put_low m i ws (omega (arith, room, memory-long m f)) k (omega (arith, past))

  pub past_held : (k : ℕ) → k < 9 → held k (put_words m i ws) ≡ held k m
  past_held k h =
      held_same m (put_words m i ws) k k (past_word (2 + k) (omega arith))
      (part_same (put_words m i ws) m (16 + k * 8192) (16 + k * 8192) 8192 (omega (arith, past_long)) (omega (arith, memory-long m f))
      (λ j l. past_word (16 + k * 8192 + j) (omega arith)))

  pub past_fits : memory_fits (put_words m i ws) ≡ true
  past_fits =
      let w = fit_words m f in
      words_fit (put_words m i ws)
      (record {
        long = past_long;
        mark_low = omega (arith, past_word 0 (omega arith), w.mark_low);
        few = omega (arith, past_word 1 (omega arith), w.few);
        short = λ k l. omega (arith, past_word (2 + k) (omega arith), w.short k l);
      })

-- so many zeros have room where so many words do
pub zeros_room : (i n : ℕ) → i + n ≤ memory_words → i + length (zero_words n) ≤ memory_words
zeros_room i n h = omega (arith, h, length-replicate {A = ℕ} n 0)

-- a program that is loaded is held
module _ (m : List ℕ) (bs : List ℕ) (f : memory_fits m ≡ true) (low : 8 ≤ length bs) (high : length bs ≤ 65536) (bytes : all_bytes bs ≡ true) where
  words_few : length (packed bs) ≤ 8192
  words_few = omega (arith, length_packed_words bs)

  put : List ℕ
  put = put_words m 16 (packed bs)

  put_all : length put ≡ memory_words
  unfolding put
  put_all = put_long m 16 (packed bs) (omega (arith, words_few, memory-long m f)) ∙ memory-long m f

  loaded-slot : slot 0 (loaded m bs) ≡ packed bs ++ take (8192 - length (packed bs)) (drop (16 + length (packed bs)) m)
  unfolding loaded
  loaded-slot =
      slot-set (set (put_words m 16 (packed bs)) 1 0) 2 (length bs - 8) 0 (omega arith) ∙ slot-set (put_words m 16 (packed bs)) 1 0 0 (omega arith)
      ∙ ap (take 8192) (drop_at (take 16 m) (packed bs ++ drop (16 + length (packed bs)) m) 16 (length-take-le 16 m (omega (arith, memory-long m f))))
      ∙ take_past 8192 (packed bs) (drop (16 + length (packed bs)) m) words_few

  -- the header's words after loading
  long_1 : length (set (put_words m 16 (packed bs)) 1 0) ≡ memory_words
  unfolding put
  long_1 = length-set (put_words m 16 (packed bs)) 1 0 ∙ put_all

  loaded_word : (i : ℕ) → i < 16 → 1 ≢ i → 2 ≢ i → get_or (loaded m bs) i 0 ≡ get_or m i 0
  unfolding loaded
  loaded_word i h d e =
      get_or-set_other (set (put_words m 16 (packed bs)) 1 0) 2 i (length bs - 8) 0 (λ q. e (sym q)) ∙ get_or-set_other (put_words m 16 (packed bs)) 1 i 0 0 (λ q. d (sym q))
      ∙ put_low m 16 (packed bs) (omega (arith, words_few, memory-long m f)) i h

  loaded-length : get_or (loaded m bs) 2 0 ≡ length bs - 8
  unfolding loaded
  loaded-length = get_or-set_same (set (put_words m 16 (packed bs)) 1 0) 2 (length bs - 8) 0 (omega (arith, long_1))

  pub loaded-older : older (loaded m bs) ≡ 0
  unfolding loaded put
  loaded-older = get_or-set_other (set (put_words m 16 (packed bs)) 1 0) 2 1 (length bs - 8) 0 (omega arith) ∙ get_or-set_same (put_words m 16 (packed bs)) 1 0 0 (omega (arith, put_all))

  pub loaded-held : held 0 (loaded m bs) ≡ bs
  unfolding held
  loaded-held =
      ap₂ (λ n ws. take (n + 8) (flat eight ws)) loaded-length loaded-slot
      ∙ ap (λ n. take n (flat eight (packed bs ++ take (8192 - length (packed bs)) (drop (16 + length (packed bs)) m)))) (let z : length bs - 8 + 8 ≡ length bs = omega arith in z)
      ∙ packed-flat bs (take (8192 - length (packed bs)) (drop (16 + length (packed bs)) m)) bytes

  loaded-long : length (loaded m bs) ≡ memory_words
  unfolding loaded
  loaded-long = length-set (set (put_words m 16 (packed bs)) 1 0) 2 (length bs - 8) ∙ long_1

  loaded_short : (k : ℕ) → k < 9 → get_or (loaded m bs) (2 + k) 0 ≤ 65528
  loaded_short zero h = omega (arith, loaded-length)
  loaded_short (suc k) h = omega (arith, loaded_word (2 + suc k) (omega arith) (omega arith) (omega arith), (fit_words m f).short (suc k) h)

  pub loaded-fits : memory_fits (loaded m bs) ≡ true
  loaded-fits =
      words_fit (loaded m bs)
      (record {
        long = loaded-long;
        mark_low = omega (arith, loaded_word 0 (omega arith) (omega arith) (omega arith), (fit_words m f).mark_low);
        few = omega (arith, loaded-older);
        short = loaded_short;
      })

-- a table in the frames leaves header and slots as they were
pub cleared_long : (m : List ℕ) → length m ≡ memory_words → length (table_cleared m) ≡ memory_words
cleared_long m long = put_long m frames_at (zero_words 2048) (omega (arith, long)) ∙ long

pub cleared_word : (m : List ℕ) → length m ≡ memory_words → (k : ℕ) → k < frames_at → get_or (table_cleared m) k 0 ≡ get_or m k 0
cleared_word m long k h = put_low m frames_at (zero_words 2048) (omega (arith, long)) k h

pub cleared_held : (m : List ℕ) → length m ≡ memory_words → (k : ℕ) → k < 9 → held k (table_cleared m) ≡ held k m
cleared_held m long k h =
    held_same m (table_cleared m) k k (cleared_word m long (2 + k) (omega arith))
    (part_same (table_cleared m) m (16 + k * 8192) (16 + k * 8192) 8192 (omega (arith, cleared_long m long)) (omega (arith, long)) (λ j l. cleared_word m long (16 + k * 8192 + j) (omega arith)))

pub cleared_fits : (m : List ℕ) → memory_fits m ≡ true → memory_fits (table_cleared m) ≡ true
cleared_fits m f = past_fits m frames_at (zero_words 2048) (omega arith) (zeros_room frames_at 2048 (omega arith)) f

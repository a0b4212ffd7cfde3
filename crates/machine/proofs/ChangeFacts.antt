-- What a change leaves: the new program is held first, each other one place further, and one more can be gone back to. Slots and lengths move up by
-- one, and the build area, in which the new program stands, is copied to the first slot. Assumes nothing.
use Rattle.std.proofs.Common.{◌≡◌, ℕ, zero, suc, ◌+◌, ◌-◌, ◌*◌, ◌<◌, ◌≤◌, min, Bool, true, false, ltb, ◌≢◌, List, ◌++◌, length, get_or, take, drop, set, refl, ap, ◌∙◌, ap₂, arith, ltb-false, ltb-true}
use lib.ListN.{length-replicate}
use Rattle.std.proofs.lemmas.List.Edits.{length-paste}
use Rattle.std.proofs.lemmas.List.{get_or-set_same, get_or-set_other, length-set, drop-set-lt, get_or-drop, length-append, length-take-le, length-drop, append_assoc, drop_at, take_at}
use Rattle.language.specs.Basics.{pick, flat}
use Rattle.language.specs.Bytes.{eight, all_bytes}
use Rattle.language.specs.Packed.{packed}
use Rattle.language.proofs.PackedLaws.{length_packed_words, packed-flat}
use Rattle.language.proofs.PasteFacts.{part_same, paste_low, paste_mid, paste_high}
use Rattle.expr.specs.Look.{smaller}
use Rattle.memory.specs.Layout.{memory_words, zero_words, older, memory_fits, slot, held, build_at, build, slot_filled, built}
use Rattle.machine.specs.History.{placed, committed, changed}
use Rattle.memory.proofs.LayoutFacts.{memory-long}
use Rattle.machine.proofs.RegionFacts.{fit_words, words_fit, held_same, slot-set, held-set, fits-counted, moved, up_is, moved_front, moved-behind, moved-held, moved-fits, past_word, past_held, past_fits, zeros_room}

pub smaller_min : (a b : ℕ) → smaller a b ≡ min a b
smaller_min a b = go (ltb a b) refl
  where
    go : (t : Bool) → ltb a b ≡ t → pick t a b ≡ min a b
    go true e = omega (arith, ltb-true a b e)
    go false e = omega (arith, ltb-false a b e)

-- what stands in the build area is the current program
module _ (m : List ℕ) (n : ℕ) (f : memory_fits m ≡ true) where
  sized : List ℕ
  sized = set m 2 (n - 8)

  sized_long : length sized ≡ memory_words
  unfolding sized
  sized_long = length-set m 2 (n - 8) ∙ memory-long m f

  build-long : 8192 ≤ length (drop 73744 sized)
  build-long = omega (arith, length-drop 73744 sized, sized_long)

  pub placed-long : length (placed m n) ≡ memory_words
  unfolding placed sized
  placed-long = length-paste sized 16 (drop 73744 sized) 8192 (omega (arith, sized_long)) build-long ∙ sized_long

  placed_header : (i : ℕ) → i < 16 → get_or (placed m n) i 0 ≡ get_or sized i 0
  unfolding placed sized
  placed_header i h = paste_low sized (drop 73744 sized) 16 8192 (omega (arith, sized_long)) build-long i h

  pub placed_word : (i : ℕ) → i < 16 → i ≢ 2 → get_or (placed m n) i 0 ≡ get_or m i 0
  unfolding sized
  placed_word i h d = placed_header i h ∙ get_or-set_other m 2 i (n - 8) 0 d

  placed-length : get_or (placed m n) 2 0 ≡ n - 8
  unfolding sized
  placed-length = placed_header 2 (omega arith) ∙ get_or-set_same m 2 (n - 8) 0 (omega (arith, memory-long m f))

  -- the first slot, and the others
  placed_first : slot 0 (placed m n) ≡ build m
  unfolding placed sized
  placed_first =
      part_same (placed m n) sized 16 73744 8192 (omega (arith, placed-long)) (omega (arith, sized_long))
      (λ j l.
      paste_mid sized (drop 73744 sized) 16 8192 (omega (arith, sized_long)) build-long (16 + j) (omega arith) (omega arith)
      ∙ get_or-drop 73744 sized (16 + j - 16) 0 ∙ ap (λ i. get_or sized (73744 + i) 0) (let z : 16 + j - 16 ≡ j = omega arith in z))
      ∙ ap (take 8192) (drop-set-lt 73744 m 2 (n - 8) (omega arith))

  placed-slot : (k : ℕ) → k < 8 → slot (suc k) (placed m n) ≡ slot (suc k) m
  unfolding placed sized
  placed-slot k h =
      part_same (placed m n) sized (16 + suc k * 8192) (16 + suc k * 8192) 8192 (omega (arith, placed-long)) (omega (arith, sized_long))
      (λ j l. paste_high sized (drop 73744 sized) 16 8192 (omega (arith, sized_long)) build-long (16 + suc k * 8192 + j) (omega arith))
      ∙ slot-set m 2 (n - 8) (suc k) (omega arith)

  pub placed-held : (k : ℕ) → k < 8 → held (suc k) (placed m n) ≡ held (suc k) m
  placed-held k h = held_same m (placed m n) (suc k) (suc k) (placed_word (2 + suc k) (omega arith) (omega arith)) (placed-slot k h)

  pub placed-now : 8 ≤ n → held 0 (placed m n) ≡ take n (flat eight (build m))
  unfolding held
  placed-now low =
      ap₂ (λ l ws. take (l + 8) (flat eight ws)) placed-length placed_first ∙ ap (λ l. take l (flat eight (build m))) (let z : n - 8 + 8 ≡ n = omega arith in z)

  placed_short : n ≤ 65536 → (k : ℕ) → k < 9 → get_or (placed m n) (2 + k) 0 ≤ 65528
  placed_short high zero h = omega (arith, placed-length)
  placed_short high (suc k) h = omega (arith, placed_word (2 + suc k) (omega arith) (omega arith), (fit_words m f).short (suc k) h)

  pub placed-fits : n ≤ 65536 → memory_fits (placed m n) ≡ true
  placed-fits high =
      words_fit (placed m n)
      (record {
        long = placed-long;
        mark_low = omega (arith, placed_word 0 (omega arith) (omega arith), (fit_words m f).mark_low);
        few = omega (arith, placed_word 1 (omega arith) (omega arith), (fit_words m f).few);
        short = placed_short high;
      })

-- and the one before can be gone back to
module _ (m : List ℕ) (n : ℕ) (f : memory_fits m ≡ true) where
  counted : List ℕ
  counted = set m 1 (smaller 8 (older m + 1))

  counted-fits : memory_fits counted ≡ true
  unfolding counted
  counted-fits = fits-counted m (smaller 8 (older m + 1)) (omega (arith, smaller_min 8 (older m + 1))) f

  up : List ℕ
  up = moved 1 0 counted

  up_fits : memory_fits up ≡ true
  unfolding up
  up_fits = moved-fits counted 1 0 (omega arith) (omega arith) counted-fits

  committed_is : committed m n ≡ placed up n
  unfolding committed up counted
  committed_is = ap (λ l. placed l n) (up_is counted)

  pub committed-held : (k : ℕ) → k < 8 → held (suc k) (committed m n) ≡ held k m
  unfolding up counted
  committed-held k h =
      ap (held (suc k)) committed_is ∙ placed-held up n up_fits k h
      ∙ moved-held counted (memory-long counted counted-fits) 1 0 (omega arith) (omega arith) k (suc k) k h (omega arith) (omega arith)
      ∙ held-set m 1 (smaller 8 (older m + 1)) k (omega arith) (omega arith)

  pub committed-older : older (committed m n) ≡ smaller 8 (older m + 1)
  unfolding up counted
  committed-older =
      ap older committed_is ∙ placed_word up n up_fits 1 (omega arith) (omega arith)
      ∙ moved_front counted (memory-long counted counted-fits) 1 0 (omega arith) (omega arith) 1 (omega arith)
      ∙ get_or-set_same m 1 (smaller 8 (older m + 1)) 0 (omega (arith, memory-long m f))

  up_build : build up ≡ build m
  unfolding up counted
  up_build =
      part_same up counted 73744 73744 8192 (omega (arith, memory-long up up_fits)) (omega (arith, memory-long counted counted-fits))
      (λ j l. moved-behind counted (memory-long counted counted-fits) 1 0 (omega arith) (omega arith) (73744 + j) (omega arith))
      ∙ ap (take 8192) (drop-set-lt 73744 m 1 (smaller 8 (older m + 1)) (omega arith))

  pub committed-now : 8 ≤ n → held 0 (committed m n) ≡ take n (flat eight (build m))
  committed-now low = ap (held 0) committed_is ∙ placed-now up n up_fits low ∙ ap (λ ws. take n (flat eight ws)) up_build

  pub committed-fits : n ≤ 65536 → memory_fits (committed m n) ≡ true
  committed-fits high = ap memory_fits committed_is ∙ placed-fits up n up_fits high

-- a program that was written in the build area
pub filled_long : (bs : List ℕ) → length bs ≤ 65536 → length (slot_filled bs) ≡ 8192
filled_long bs high =
    omega (
      arith,
      length-append (packed bs) (zero_words (8192 - length (packed bs))),
      length-replicate {A = ℕ} (8192 - length (packed bs)) 0,
      length_packed_words bs,
    )

module _ (m bs : List ℕ) (f : memory_fits m ≡ true) (high : length bs ≤ 65536) where
  pub built_room : build_at + length (slot_filled bs ++ zero_words 49152) ≤ memory_words
  built_room = omega (arith, length-append (slot_filled bs) (zero_words 49152), length-replicate {A = ℕ} 49152 0, filled_long bs high)

  pub built-fits : memory_fits (built m bs) ≡ true
  unfolding built
  built-fits = past_fits m build_at (slot_filled bs ++ zero_words 49152) (omega arith) built_room f

  built-held : (k : ℕ) → k < 9 → held k (built m bs) ≡ held k m
  unfolding built
  built-held k h = past_held m build_at (slot_filled bs ++ zero_words 49152) (omega arith) built_room f k h

  built-older : older (built m bs) ≡ older m
  unfolding built
  built-older = past_word m build_at (slot_filled bs ++ zero_words 49152) (omega arith) built_room f 1 (omega arith)

  built-build : build (built m bs) ≡ slot_filled bs
  unfolding built
  built-build =
      ap (take 8192)
      (drop_at (take build_at m) ((slot_filled bs ++ zero_words 49152) ++ drop (build_at + length (slot_filled bs ++ zero_words 49152)) m) build_at
      (length-take-le build_at m (omega (arith, memory-long m f))))
      ∙ ap (take 8192) (append_assoc (slot_filled bs) (zero_words 49152) (drop (build_at + length (slot_filled bs ++ zero_words 49152)) m))
      ∙ take_at (slot_filled bs) (zero_words 49152 ++ drop (build_at + length (slot_filled bs ++ zero_words 49152)) m) 8192 (filled_long bs high)

  zeros_fit : build_at + length (zero_words 8192) ≤ memory_words
  zeros_fit = zeros_room build_at 8192 (omega arith)

  now-fits : memory_fits (committed (built m bs) (length bs)) ≡ true
  now-fits = committed-fits (built m bs) (length bs) built-fits high

  pub changed-fits : memory_fits (changed m bs) ≡ true
  unfolding changed
  changed-fits = past_fits (committed (built m bs) (length bs)) build_at (zero_words 8192) (omega arith) zeros_fit now-fits

  cleared_held : (k : ℕ) → k < 9 → held k (changed m bs) ≡ held k (committed (built m bs) (length bs))
  unfolding changed
  cleared_held k h = past_held (committed (built m bs) (length bs)) build_at (zero_words 8192) (omega arith) zeros_fit now-fits k h

  pub changed-older : older (changed m bs) ≡ smaller 8 (older m + 1)
  unfolding changed
  changed-older =
      past_word (committed (built m bs) (length bs)) build_at (zero_words 8192) (omega arith) zeros_fit now-fits 1 (omega arith)
      ∙ committed-older (built m bs) (length bs) built-fits ∙ ap (λ k. smaller 8 (k + 1)) built-older

  pub changed-before : (k : ℕ) → k < 8 → held (suc k) (changed m bs) ≡ held k m
  changed-before k h = cleared_held (suc k) (omega arith) ∙ committed-held (built m bs) (length bs) built-fits k h ∙ built-held k (omega arith)

  pub changed-now : 8 ≤ length bs → all_bytes bs ≡ true → held 0 (changed m bs) ≡ bs
  changed-now low bytes =
      cleared_held 0 (omega arith) ∙ committed-now (built m bs) (length bs) built-fits low
      ∙ ap (λ ws. take (length bs) (flat eight ws)) built-build ∙ packed-flat bs (zero_words (8192 - length (packed bs))) bytes

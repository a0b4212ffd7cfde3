-- A step leaves the memory as long as it was, and its numbers within 64 bits. Assumes nothing.
use Rattle.std.proofs.Common.{◌≡◌, ℕ, zero, suc, ◌+◌, ◌-◌, ◌*◌, ◌<◌, ◌≤◌, true, ltb, List, [], ◌∷◌, ◌++◌, length, take, drop, set, Some, sym, refl, ap, ◌∙◌, subst, arith, length-set, lt-ltb}
use lib.Seq.{paste}
use Rattle.std.proofs.lemmas.Bool.{and_parts, and_from}
use Rattle.language.specs.Bytes.{all_bytes}
use Rattle.language.specs.Reading.{fun_end}
use Rattle.language.specs.Spelling.{fun_spelled}
use Rattle.language.specs.Packed.{packed}
use Rattle.language.proofs.ListFacts.{every_take, every_drop, every_append}
use Rattle.language.proofs.StandsFacts.{stands_in}
use Rattle.language.proofs.ProgramFacts.{fun_reads, fun-long}
use Rattle.language.proofs.PackedLaws.{length_packed_words, packed-small}
use Rattle.model.specs.Engine.{all_small}
use Rattle.memory.specs.Layout.{memory_words, zero_words, older, memory_fits, held, build_at, frames_at, put_words, slot_filled, wiped, built}
use Rattle.expr.specs.Look.{smaller}
use Rattle.machine.specs.Machine.{table_cleared}
use Rattle.machine.specs.History.{loaded, moved_down, gone_back, moved_up, placed, committed, changed}
use Rattle.memory.proofs.LayoutFacts.{memory-long, older-few, held-long, held_bytes}
use Rattle.machine.proofs.RegionFacts.{fits-counted, moved, down_is, up_is, moved-long, moved-fits, put_long, past_long, zeros_room}
use Rattle.machine.proofs.ChangeFacts.{smaller_min, placed-long, committed-fits, built_room, built-fits}

-- what is left is as long, and as small
pub record KeepsSize (m n : List ℕ) : Type 0 where
  pub long : length n ≡ length m
  pub small : all_small m ≡ true → all_small n ≡ true

pub size_refl : (m : List ℕ) → KeepsSize m m
size_refl m = record { long = refl; small = λ h. h }

pub size_then : (a b c : List ℕ) → KeepsSize a b → KeepsSize b c → KeepsSize a c
size_then a b c p q = record { long = q.long ∙ p.long; small = λ h. q.small (p.small h) }

small-set : (m : List ℕ) (i v : ℕ) → v < 18446744073709551616 → all_small m ≡ true → all_small (set m i v) ≡ true
unfolding all_small
small-set [] i v h s = refl
small-set (x ∷ m) zero v h s = and_from _ _ (lt-ltb v 18446744073709551616 h) (and_parts (ltb x 18446744073709551616) (all_small m) s).1
small-set (x ∷ m) (suc i) v h s =
    let q = and_parts (ltb x 18446744073709551616) (all_small m) s in and_from (ltb x 18446744073709551616) (all_small (set m i v)) q.0 (small-set m i v h q.1)

pub size_set : (m : List ℕ) (i v : ℕ) → v < 18446744073709551616 → KeepsSize m (set m i v)
size_set m i v h = record { long = length-set m i v; small = small-set m i v h }

small-append : (xs ys : List ℕ) → all_small xs ≡ true → all_small ys ≡ true → all_small (xs ++ ys) ≡ true
unfolding all_small
small-append xs ys = every_append (λ n. ltb n 18446744073709551616) xs ys

small-take : (n : ℕ) (xs : List ℕ) → all_small xs ≡ true → all_small (take n xs) ≡ true
unfolding all_small
small-take n xs = every_take (λ n. ltb n 18446744073709551616) n xs

small-drop : (n : ℕ) (xs : List ℕ) → all_small xs ≡ true → all_small (drop n xs) ≡ true
unfolding all_small
small-drop n xs = every_drop (λ n. ltb n 18446744073709551616) n xs

pub small-paste : (d : List ℕ) (a : ℕ) (s : List ℕ) (n : ℕ) → all_small d ≡ true → all_small s ≡ true → all_small (paste d a s n) ≡ true
small-paste d a s n p q = small-append (take a d ++ take n s) (drop (a + n) d) (small-append (take a d) (take n s) (small-take a d p) (small-take n s q)) (small-drop (a + n) d p)

pub small_put : (m : List ℕ) (i : ℕ) (ws : List ℕ) → all_small m ≡ true → all_small ws ≡ true → all_small (put_words m i ws) ≡ true
small_put m i ws p q = small-append (take i m) (ws ++ drop (i + length ws) m) (small-take i m p) (small-append ws (drop (i + length ws) m) q (small-drop (i + length ws) m p))

pub small_zeros : (n : ℕ) → all_small (zero_words n) ≡ true
unfolding all_small
small_zeros zero = refl
small_zeros (suc n) = small_zeros n

-- words put past the slots, and zeros
pub size_past : (m : List ℕ) (i : ℕ) (ws : List ℕ) → build_at ≤ i → i + length ws ≤ memory_words → all_small ws ≡ true → memory_fits m ≡ true → KeepsSize m (put_words m i ws)
size_past m i ws past room words f =
    record { long = past_long m i ws past room f ∙ sym (memory-long m f); small = λ h. small_put m i ws h words }

pub size_zeros : (m : List ℕ) (i n : ℕ) → build_at ≤ i → i + n ≤ memory_words → memory_fits m ≡ true → KeepsSize m (put_words m i (zero_words n))
size_zeros m i n past room f = size_past m i (zero_words n) past (zeros_room i n room) (small_zeros n) f

-- a table in the frames
pub size_cleared : (m : List ℕ) → memory_fits m ≡ true → KeepsSize m (table_cleared m)
size_cleared m f = size_zeros m frames_at 2048 (omega arith) (omega arith) f

-- lengths and slots moved by one
pub size_moved : (m : List ℕ) (a b : ℕ) → a ≤ 1 → b ≤ 1 → length m ≡ memory_words → KeepsSize m (moved a b m)
unfolding moved
size_moved m a b to from long =
    record {
      long = moved-long m long a b to from ∙ sym long;
      small = λ h.
          let n = paste m (2 + a) (drop (2 + b) m) 8 in
          let s = small-paste m (2 + a) (drop (2 + b) m) 8 h (small-drop (2 + b) m h) in
          small-paste n (16 + a * 8192) (drop (16 + b * 8192) n) 65536 s (small-drop (16 + b * 8192) n s);
    }

pub size_down : (m : List ℕ) → length m ≡ memory_words → KeepsSize m (moved_down m)
size_down m long = subst (KeepsSize m) (sym (down_is m)) (size_moved m 0 1 (omega arith) (omega arith) long)

-- going back
pub size_back : (m : List ℕ) → memory_fits m ≡ true → KeepsSize m (gone_back m)
unfolding gone_back
size_back m f =
    let one = size_set m 1 (older m - 1) (omega (arith, older-few m f)) in
    size_then m (set m 1 (older m - 1)) (moved_down (set m 1 (older m - 1))) one
    (size_down (set m 1 (older m - 1)) (one.long ∙ memory-long m f))

packed_words_small : (bs : List ℕ) → all_bytes bs ≡ true → all_small (packed bs) ≡ true
unfolding all_small
packed_words_small bs bytes = packed-small bs bytes

-- loading
pub size_loaded : (m bs : List ℕ) → length m ≡ memory_words → length bs ≤ 65536 → all_bytes bs ≡ true → KeepsSize m (loaded m bs)
unfolding loaded
size_loaded m bs long short bytes =
    size_then m (put_words m 16 (packed bs)) (set (set (put_words m 16 (packed bs)) 1 0) 2 (length bs - 8))
    (record {
      long = put_long m 16 (packed bs) (omega (arith, length_packed_words bs, long));
      small = λ h. small_put m 16 (packed bs) h (packed_words_small bs bytes);
    })
    (size_then (put_words m 16 (packed bs)) (set (put_words m 16 (packed bs)) 1 0) (set (set (put_words m 16 (packed bs)) 1 0) 2 (length bs - 8))
    (size_set (put_words m 16 (packed bs)) 1 0 (omega arith)) (size_set (set (put_words m 16 (packed bs)) 1 0) 2 (length bs - 8) (omega arith)))

-- a change
pub size_wiped : (m : List ℕ) → memory_fits m ≡ true → KeepsSize m (wiped m)
unfolding wiped
size_wiped m f = size_zeros m build_at 57344 (omega arith) (omega arith) f

size_built : (m bs : List ℕ) → memory_fits m ≡ true → length bs ≤ 65536 → all_bytes bs ≡ true → KeepsSize m (built m bs)
unfolding built
size_built m bs f short bytes =
    size_past m build_at (slot_filled bs ++ zero_words 49152) (omega arith) (built_room m bs f short)
    (small-append (slot_filled bs) (zero_words 49152)
    (small-append (packed bs) (zero_words (8192 - length (packed bs))) (packed_words_small bs bytes) (small_zeros (8192 - length (packed bs)))) (small_zeros 49152))
    f

size_placed : (m : List ℕ) (n : ℕ) → memory_fits m ≡ true → n ≤ 65536 → KeepsSize m (placed m n)
unfolding placed
size_placed m n f short =
    let one = size_set m 2 (n - 8) (omega arith) in
    record {
      long = placed-long m n f ∙ sym (memory-long m f);
      small = λ h. small-paste (set m 2 (n - 8)) 16 (drop 73744 (set m 2 (n - 8))) 8192 (one.small h) (small-drop 73744 (set m 2 (n - 8)) (one.small h));
    }

size_committed : (m : List ℕ) (n : ℕ) → memory_fits m ≡ true → n ≤ 65536 → KeepsSize m (committed m n)
unfolding committed
size_committed m n f short =
    let c = set m 1 (smaller 8 (older m + 1)) in
    let few : smaller 8 (older m + 1) ≤ 8 = omega (arith, smaller_min 8 (older m + 1)) in
    let fit = fits-counted m (smaller 8 (older m + 1)) few f in
    let up = subst (KeepsSize c) (sym (up_is c)) (size_moved c 1 0 (omega arith) (omega arith) (memory-long c fit)) in
    let up_fit = ap memory_fits (up_is c) ∙ moved-fits c 1 0 (omega arith) (omega arith) fit in
    size_then m c (placed (moved_up c) n) (size_set m 1 (smaller 8 (older m + 1)) (omega (arith, few)))
    (size_then c (moved_up c) (placed (moved_up c) n) up (size_placed (moved_up c) n up_fit short))

pub size_changed : (m bs : List ℕ) → memory_fits m ≡ true → length bs ≤ 65536 → all_bytes bs ≡ true → KeepsSize m (changed m bs)
unfolding changed
size_changed m bs f short bytes =
    let fit = built-fits m bs f short in
    let c = committed (built m bs) (length bs) in
    size_then m (built m bs) (put_words c build_at (zero_words 8192)) (size_built m bs f short bytes)
    (size_then (built m bs) c (put_words c build_at (zero_words 8192)) (size_committed (built m bs) (length bs) fit short)
    (size_zeros c build_at 8192 (omega arith) (omega arith) (committed-fits (built m bs) (length bs) fit short)))

-- a function that is read in what is held ends within it
pub fun_within : (m : List ℕ) (i k : ℕ) → fun_end (held 0 m) i ≡ Some k → k ≤ 65536
fun_within m i k e =
    let t = (fun_reads (held 0 m) (held_bytes 0 m)).was i k e in
    omega (arith, t.end, stands_in (held 0 m) i (fun_spelled t.it) (fun-long t.it) t.stands, held-long 0 m)

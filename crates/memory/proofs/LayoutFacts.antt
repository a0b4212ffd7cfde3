-- A memory that fits: its length, and how long what it holds can be. Assumes nothing.
use Rattle.std.proofs.Common.{◌≡◌, ℕ, ◌+◌, ◌-◌, ◌*◌, ◌<◌, ◌≤◌, true, ◌&&◌, eqb, ltb, leb, List, [], ◌∷◌, length, get_or, take, drop, sym, refl, ap, ◌∙◌, ap₂, arith, eqb-true, leb-true}
use Rattle.std.proofs.lemmas.List.{length-take, get_or-take, drop-take, take-take}
use Rattle.std.proofs.lemmas.Bool.{and_parts}
use Rattle.language.specs.Basics.{flat}
use Rattle.language.specs.Bytes.{eight, all_bytes}
use Rattle.language.proofs.ListFacts.{every_take}
use Rattle.language.proofs.ByteFacts.{bytes_append, bytes_eight}
use Rattle.language.proofs.PackedFacts.{length-packed}
use Rattle.memory.specs.Layout.{memory_words, build_at, mark, older, lengths, lengths_fit, memory_fits, slot, held}

pub memory-long : (m : List ℕ) → memory_fits m ≡ true → length m ≡ memory_words
memory-long m h = eqb-true (length m) memory_words (and_parts (eqb (length m) memory_words) _ h).0

pub older-few : (m : List ℕ) → memory_fits m ≡ true → older m ≤ 8
older-few m h =
    let p = and_parts (eqb (length m) memory_words) ((leb (mark m) 65537 && leb (older m) 8) && lengths_fit (lengths m)) h in
    let q = and_parts (leb (mark m) 65537 && leb (older m) 8) (lengths_fit (lengths m)) p.1 in
    leb-true (older m) 8 (and_parts (leb (mark m) 65537) (leb (older m) 8) q.0).1

-- a slot has 65,536 bytes, so that no program is longer
pub held-long : (k : ℕ) (m : List ℕ) → length (held k m) ≤ 65536
unfolding held
held-long k m =
    omega (arith, length-take (get_or m (2 + k) 0 + 8) (flat eight (slot k m)), length-packed (slot k m), length-take 8192 (drop (16 + k * 8192) m))

pub held_short : (m bs : List ℕ) → bs ≡ held 0 m → length bs ≤ 65536
held_short m bs e = omega (arith, ap length e, held-long 0 m)

-- memories with the same header and slots: the same words there, and the same programs held
module _ (m n : List ℕ) (e : take build_at n ≡ take build_at m) where
  pub front_word : (i : ℕ) → i < build_at → get_or n i 0 ≡ get_or m i 0
  front_word i h = sym (get_or-take build_at n i 0 h) ∙ ap (λ l. get_or l i 0) e ∙ get_or-take build_at m i 0 h

  pub front-part : (a k : ℕ) → a + k ≤ build_at → take k (drop a n) ≡ take k (drop a m)
  front-part a k h = sym (part_of_front n) ∙ ap (λ l. take k (drop a l)) e ∙ part_of_front m
    where
      part_of_front : (l : List ℕ) → take k (drop a (take build_at l)) ≡ take k (drop a l)
      part_of_front l =
          ap (λ b. take k (drop a (take b l))) (let z : build_at ≡ a + (build_at - a) = omega arith in z)
          ∙ ap (take k) (drop-take a (build_at - a) l) ∙ take-take k (build_at - a) (drop a l) (omega arith)

  pub front-held : (k : ℕ) → k < 9 → held k n ≡ held k m
  unfolding held
  front-held k h = ap₂ (λ l ws. take (l + 8) (flat eight ws)) (front_word (2 + k) (omega arith)) (front-part (16 + k * 8192) 8192 (omega arith))

-- what is held is bytes
flat_bytes : (ws : List ℕ) → all_bytes (flat eight ws) ≡ true
flat_bytes [] = refl
flat_bytes (w ∷ ws) = bytes_append (eight w) (flat eight ws) (bytes_eight w) (flat_bytes ws)

pub held_bytes : (k : ℕ) (m : List ℕ) → all_bytes (held k m) ≡ true
unfolding held
held_bytes k m = every_take (λ b. ltb b 256) (get_or m (2 + k) 0 + 8) (flat eight (slot k m)) (flat_bytes (slot k m))

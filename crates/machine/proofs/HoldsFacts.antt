-- When a memory holds what stands in the model: the current program and those before it, as they are spelled. Assumes nothing.
use Rattle.std.proofs.Common.{◌≡◌, ℕ, zero, suc, ◌+◌, ◌-◌, ◌<◌, ◌≤◌, true, List, [], ◌∷◌, length, get_or, take, set, sym, refl, ap, ◌∙◌, ap₂, arith}
use lib.ListN.{length-replicate}
use Rattle.std.proofs.lemmas.List.{length-take, get_or-take, get_or-set_other, get_or-replicate, drop-replicate, take-replicate, take_at, append-nil}
use Rattle.language.specs.Basics.{flat}
use Rattle.language.specs.Bytes.{eight}
use Rattle.language.proofs.StandsFacts.{length-eight}
use Rattle.language.proofs.ByteFacts.{bytes_program}
use Rattle.language.proofs.ProgramFacts.{program_short}
use Rattle.language.specs.Expr.{Program}
use Rattle.language.specs.Spelling.{program_spelled}
use Rattle.model.specs.State.{Plain, at_first}
use Rattle.model.proofs.StayFacts.{Sound, sound_start}
use Rattle.memory.specs.Layout.{memory_words, zero_words, older, memory_fits, slot, held, build_at, put_words, wiped}
use Rattle.machine.specs.History.{changed}
use Rattle.machine.specs.Machine.{own}
use Rattle.machine.proofs.RegionFacts.{words_fit, held-set, fits_marked, past_word, past_held, past_fits, zeros_room}
use Rattle.machine.proofs.ChangeFacts.{smaller_min, changed-fits, changed-older, changed-before, changed-now}

pub record Holds (m : List ℕ) (w : Plain) : Type 0 where
  pub fits : memory_fits m ≡ true
  pub now-held : held 0 m ≡ program_spelled w.now
  pub count : older m ≡ length w.before
  pub before-held : (k : ℕ) → k < length w.before → held (suc k) m ≡ program_spelled (get_or w.before k [])
  pub sound : Sound w

-- whatever the mark is
pub holds_marked : (m : List ℕ) (w : Plain) (v : ℕ) → v ≤ 65537 → Holds m w → Holds (set m 0 v) w
holds_marked m w v low h =
    record {
      fits = fits_marked m v low h.fits;
      now-held = held-set m 0 v 0 (omega arith) (omega arith) ∙ h.now-held;
      count = get_or-set_other m 0 1 v 0 (omega arith) ∙ h.count;
      before-held = λ k l. held-set m 0 v (suc k) (omega arith) (omega arith) ∙ h.before-held k l;
      sound = h.sound;
    }

-- whatever is put past the slots
pub holds_past : (m : List ℕ) (w : Plain) (i : ℕ) (ws : List ℕ) → build_at ≤ i → i + length ws ≤ memory_words → Holds m w → Holds (put_words m i ws) w
holds_past m w i ws past room h =
    record {
      fits = past_fits m i ws past room h.fits;
      now-held = past_held m i ws past room h.fits 0 (omega arith) ∙ h.now-held;
      count = past_word m i ws past room h.fits 1 (omega arith) ∙ h.count;
      before-held = λ k l. past_held m i ws past room h.fits (suc k) (omega (arith, h.sound.few-before)) ∙ h.before-held k l;
      sound = h.sound;
    }

pub holds-wiped : (m : List ℕ) (w : Plain) → Holds m w → Holds (wiped m) w
unfolding wiped
holds-wiped m w h = holds_past m w build_at (zero_words 57344) (omega arith) (zeros_room build_at 57344 (omega arith)) h

-- a new program, and the one before it
taken-first : (p : Program) (ps : List Program) (k : ℕ) → k < length (take 8 (p ∷ ps)) → get_or (take 8 (p ∷ ps)) k [] ≡ get_or (p ∷ ps) k []
taken-first p ps k h = get_or-take 8 (p ∷ ps) k [] (omega (arith, length-take 8 (p ∷ ps)))

pub holds-changed : (m : List ℕ) (w : Plain) (p : Program) → Sound (record { now = p; before = take 8 (w.now ∷ w.before) }) → Holds m w →
    Holds (changed m (program_spelled p)) (record { now = p; before = take 8 (w.now ∷ w.before) })
holds-changed m w p s h =
    let short = program_short p s.now-fits in
    record {
      fits = changed-fits m (program_spelled p) h.fits short.1;
      now-held = changed-now m (program_spelled p) h.fits short.1 short.0 (bytes_program p s.now-fits);
      count =
          omega (arith, changed-older m (program_spelled p) h.fits short.1, smaller_min 8 (older m + 1), h.count, length-take 8 (w.now ∷ w.before));
      before-held = λ k l.
          changed-before m (program_spelled p) h.fits short.1 k (omega (arith, length-take 8 (w.now ∷ w.before))) ∙ was k (omega (arith, length-take 8 (w.now ∷ w.before)))
          ∙ ap program_spelled (sym (taken-first w.now w.before k l));
      sound = s;
    }
  where
    was : (k : ℕ) → k < suc (length w.before) → held k m ≡ program_spelled (get_or (w.now ∷ w.before) k [])
    was zero l = h.now-held
    was (suc k) l = h.before-held k (omega arith)

-- zeros hold the empty program, and nothing to go back to
zeros_fit : (n : ℕ) → n ≡ memory_words → memory_fits (zero_words n) ≡ true
zeros_fit n e =
    words_fit (zero_words n)
    (record {
      long = length-replicate {A = ℕ} n 0 ∙ e;
      mark_low = omega (arith, word 0 (omega arith));
      few = omega (arith, word 1 (omega arith));
      short = λ k l. omega (arith, word (2 + k) (omega arith));
    })
  where
    word : (i : ℕ) → i < n → get_or (zero_words n) i 0 ≡ 0
    word i h = get_or-replicate {A = ℕ} n i 0 0 h

zeros_front : (n : ℕ) → 0 < n → take 8 (flat eight (zero_words n)) ≡ eight 0
zeros_front zero h = absurd (omega arith)
zeros_front (suc n) h = take_at (eight 0) (flat eight (zero_words n)) 8 (length-eight 0)

zeros_held : (n : ℕ) → n ≡ memory_words → held 0 (zero_words n) ≡ eight 0
unfolding held
zeros_held n e =
    ap₂ (λ k ws. take (k + 8) (flat eight ws)) (get_or-replicate {A = ℕ} n 2 0 0 (omega arith)) slot_zeros ∙ zeros_front 8192 (omega arith)
  where
    slot_zeros : slot 0 (zero_words n) ≡ zero_words 8192
    slot_zeros = ap (take 8192) (drop-replicate {X = ℕ} 16 n 0) ∙ take-replicate {X = ℕ} 8192 (n - 16) 0 (omega arith)

pub holds-start : Holds own.start at_first
unfolding own
holds-start =
    record {
      fits = zeros_fit memory_words refl;
      now-held = zeros_held memory_words refl ∙ sym (append-nil (eight 0));
      count = get_or-replicate {A = ℕ} memory_words 1 0 0 (omega arith);
      before-held = λ k l. absurd (omega arith);
      sound = sound_start;
    }

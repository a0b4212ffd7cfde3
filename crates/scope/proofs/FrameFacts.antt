-- A frame that is put is there, and the older ones stay. Assumes nothing.
use Rattle.std.proofs.Common.{◌≡◌, ℕ, zero, suc, ◌+◌, ◌<◌, Bool, true, false, List, ◌∷◌, length, get_or, set, refl, ap, ◌∙◌, ap₂, arith}
use Rattle.std.proofs.lemmas.List.{length-set, get_or-set_same, get_or-set_other}
use Rattle.language.specs.Uses.{Frame, frame, holder, scope}
use Rattle.scope.specs.Frames.{frame_from, flag, flagged, frame_at, frame_put, stacked}

abbrev pub put_flags : List ℕ → ℕ → ℕ → ℕ → ℕ → ℕ → ℕ → List ℕ
put_flags m t i k n o w =
    set (set (set (set (set m (frame_from t) i) (frame_from t + 1) k) (frame_from t + 2) n) (frame_from t + 3) o) (frame_from t + 4) w

flag_back : (b : Bool) → flagged (flag b) ≡ b
flag_back true = refl
flag_back false = refl

module _ (m : List ℕ) (t : ℕ) (f : Frame) (long : length m ≡ 40960) (few : t < 8192) where
  abbrev m₁ : List ℕ
  m₁ = set m (frame_from t) f.holder.at

  abbrev m₂ : List ℕ
  m₂ = set m₁ (frame_from t + 1) f.holder.part

  abbrev m₃ : List ℕ
  m₃ = set m₂ (frame_from t + 2) f.parts

  abbrev m₄ : List ℕ
  m₄ = set m₃ (frame_from t + 3) (flag f.around.old)

  long₁ : length m₁ ≡ 40960
  long₁ = length-set m (frame_from t) f.holder.at ∙ long

  long₂ : length m₂ ≡ 40960
  long₂ = length-set m₁ (frame_from t + 1) f.holder.part ∙ long₁

  long₃ : length m₃ ≡ 40960
  long₃ = length-set m₂ (frame_from t + 2) f.parts ∙ long₂

  long₄ : length m₄ ≡ 40960
  long₄ = length-set m₃ (frame_from t + 3) (flag f.around.old) ∙ long₃

  -- a word before the frame
  put_before : (i : ℕ) → i < frame_from t → get_or (frame_put m t f) i 0 ≡ get_or m i 0
  unfolding frame_put
  put_before i h =
      get_or-set_other m₄ (frame_from t + 4) i _ 0 (omega arith) ∙ get_or-set_other m₃ (frame_from t + 3) i _ 0 (omega arith)
      ∙ get_or-set_other m₂ (frame_from t + 2) i _ 0 (omega arith) ∙ get_or-set_other m₁ (frame_from t + 1) i _ 0 (omega arith)
      ∙ get_or-set_other m (frame_from t) i _ 0 (omega arith)

  pub put_there : frame_at (frame_put m t f) t ≡ f
  unfolding frame_put frame_at
  put_there i = frame (holder (w₀ i) (w₁ i)) (w₂ i) (scope (w₃ i) (w₄ i))
    where
      w₀ : get_or (frame_put m t f) (frame_from t) 0 ≡ f.holder.at
      w₀ =
          get_or-set_other m₄ (frame_from t + 4) (frame_from t) _ 0 (omega arith) ∙ get_or-set_other m₃ (frame_from t + 3) (frame_from t) _ 0 (omega arith)
          ∙ get_or-set_other m₂ (frame_from t + 2) (frame_from t) _ 0 (omega arith) ∙ get_or-set_other m₁ (frame_from t + 1) (frame_from t) _ 0 (omega arith)
          ∙ get_or-set_same m (frame_from t) _ 0 (omega (arith, long))

      w₁ : get_or (frame_put m t f) (frame_from t + 1) 0 ≡ f.holder.part
      w₁ =
          get_or-set_other m₄ (frame_from t + 4) (frame_from t + 1) _ 0 (omega arith) ∙ get_or-set_other m₃ (frame_from t + 3) (frame_from t + 1) _ 0 (omega arith)
          ∙ get_or-set_other m₂ (frame_from t + 2) (frame_from t + 1) _ 0 (omega arith) ∙ get_or-set_same m₁ (frame_from t + 1) _ 0 (omega (arith, long₁))

      w₂ : get_or (frame_put m t f) (frame_from t + 2) 0 ≡ f.parts
      w₂ =
          get_or-set_other m₄ (frame_from t + 4) (frame_from t + 2) _ 0 (omega arith) ∙ get_or-set_other m₃ (frame_from t + 3) (frame_from t + 2) _ 0 (omega arith)
          ∙ get_or-set_same m₂ (frame_from t + 2) _ 0 (omega (arith, long₂))

      w₃ : flagged (get_or (frame_put m t f) (frame_from t + 3) 0) ≡ f.around.old
      w₃ =
          ap flagged (get_or-set_other m₄ (frame_from t + 4) (frame_from t + 3) _ 0 (omega arith) ∙ get_or-set_same m₃ (frame_from t + 3) _ 0 (omega (arith, long₃)))
          ∙ flag_back f.around.old

      w₄ : flagged (get_or (frame_put m t f) (frame_from t + 4) 0) ≡ f.around.new
      w₄ = ap flagged (get_or-set_same m₄ (frame_from t + 4) _ 0 (omega (arith, long₄))) ∙ flag_back f.around.new

-- frames that have the same words are the same
frame_same : (m n : List ℕ) (t : ℕ) → ((i : ℕ) → i < frame_from (suc t) → get_or n i 0 ≡ get_or m i 0) → frame_at n t ≡ frame_at m t
unfolding frame_at
frame_same m n t same i =
    frame (holder (same (frame_from t) (omega arith) i) (same (frame_from t + 1) (omega arith) i)) (same (frame_from t + 2) (omega arith) i)
    (scope (flagged (same (frame_from t + 3) (omega arith) i)) (flagged (same (frame_from t + 4) (omega arith) i)))

pub stacked-same : (m n : List ℕ) (t : ℕ) → ((i : ℕ) → i < frame_from t → get_or n i 0 ≡ get_or m i 0) → stacked n t ≡ stacked m t
unfolding stacked
stacked-same m n zero same = refl
stacked-same m n (suc t) same = ap₂ ◌∷◌ (frame_same m n t same) (stacked-same m n t (λ i h. same i (omega arith)))

-- one more frame
pub stacked_more : (m : List ℕ) (t : ℕ) (f : Frame) → length m ≡ 40960 → t < 8192 → stacked (frame_put m t f) (suc t) ≡ f ∷ stacked m t
unfolding stacked
stacked_more m t f long few = ap₂ ◌∷◌ (put_there m t f long few) (stacked-same m (frame_put m t f) t (put_before m t f long few))

pub stacked_count : (m : List ℕ) (t : ℕ) → length (stacked m t) ≡ t
unfolding stacked
stacked_count m zero = refl
stacked_count m (suc t) = ap suc (stacked_count m t)

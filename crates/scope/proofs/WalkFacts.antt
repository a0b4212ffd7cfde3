-- Visits of a walk, one by one: what is seen, listed, and comes next. Assumes nothing.
use Rattle.std.proofs.Common.{◌≡◌, ℕ, zero, suc, ◌+◌, ◌-◌, ◌<◌, ◌≤◌, Bool, true, false, ltb, List, ◌∷◌, length, Some, None, Option, sym, refl, ap, ◌∙◌, ap₂, arith, le-ltb, lt-ltb}
use Rattle.expr.specs.Node.{holder_told}
use Rattle.language.specs.Basics.{pick}
use Rattle.language.specs.Bytes as bytes
use Rattle.language.specs.Heads.{arity}
use Rattle.language.specs.Reading.{found, Token, head_at}
use Rattle.language.specs.Uses.{Frame, frame, holder, Scope, Walk, walk, use_listed, head_changes, scope_in, part_taken, after_leaf, after_head, uses_from}
use Rattle.scope.specs.Scopes.{scope_told}
use Rattle.scope.specs.Frames.{frame_at, frame_put, stacked, next_frame}
use Rattle.scope.specs.Walks.{walk_in, Sight, sight, sight_of, frame_opened}
use Rattle.scope.specs.declared.walk.Walk as code
use Rattle.scope.proofs.FrameFacts.{stacked_more, stacked_count}

-- the next part of a frame is taken, by whether it is the last
module _ (f : Frame) (fs : List Frame) where
  abbrev onto : Option Frame → List Frame
  onto None = fs
  onto (Some g) = g ∷ fs

  taken : part_taken f fs ≡ onto (next_frame f)
  taken = go (ltb (f.holder.part + 1) f.parts)
    where
      go : (t : Bool) → pick t (frame (holder f.holder.at (f.holder.part + 1)) f.parts f.around ∷ fs) fs ≡ onto (pick t (Some (frame (holder f.holder.at (f.holder.part + 1)) f.parts f.around)) None)
      go true = refl
      go false = refl

  pub part_last : None ≡ next_frame f → fs ≡ part_taken f fs
  part_last e = sym (taken ∙ ap onto (sym e))

  pub part_more : (g : Frame) → Some g ≡ next_frame f → g ∷ fs ≡ part_taken f fs
  part_more g e = sym (taken ∙ ap onto (sym e))

stacked-next : (m : List ℕ) (t : ℕ) → 0 < t → stacked m t ≡ frame_at m (t - 1) ∷ stacked m (t - 1)
unfolding stacked
stacked-next m zero h = absurd (omega arith)
stacked-next m (suc t) h = ap (λ s. frame_at m s ∷ stacked m s) (let z : t ≡ suc t - 1 = omega arith in z)

-- after an expression without parts
pub leaf_over : (m : List ℕ) (t : ℕ) (us : List ℕ) (go : Walk → Option (List ℕ)) → t ≡ 0 → after_leaf go (stacked m t) us ≡ Some us
unfolding stacked
leaf_over m t us go e = ap (λ s. after_leaf go (stacked m s) us) e

pub leaf_next : (m n : List ℕ) (t left : ℕ) (f : Frame) → 0 < t → f ≡ frame_at m (t - 1) → stacked n left ≡ part_taken f (stacked m (t - 1)) → (go : Walk → Option (List ℕ)) (us : List ℕ) →
    after_leaf go (stacked m t) us ≡ go (walk (Some f.holder) f.around (stacked n left) us)
leaf_next m n t left f h e s go us =
    ap (λ fs. after_leaf go fs us) (stacked-next m t h ∙ ap (λ x. x ∷ stacked m (t - 1)) (sym e)) ∙ ap (λ fs. go (walk (Some f.holder) f.around fs us)) (sym s)

-- a frame for the parts after the first, by whether there is room
module _ (m : List ℕ) (w : code.Walk) (i n : ℕ) (go : Walk → Option (List ℕ)) (us : List ℕ) where
  abbrev opened : Option (List ℕ)
  opened = go (walk (holder_told w.holder) (scope_told w.around) (frame (holder i 1) n (scope_told w.around) ∷ stacked m w.frames) us)

  pub opened_full : 8192 ≤ w.frames → frame_opened go (walk_in m us w) i n ≡ None
  opened_full full = ap (λ t. pick t opened None) (le-ltb (length (stacked m w.frames)) 8192 (omega (arith, stacked_count m w.frames)))

  pub opened_room : (l : List ℕ) → length m ≡ 40960 → w.frames < 8192 → l ≡ frame_put m w.frames (frame (holder i 1) n (scope_told w.around)) →
      frame_opened go (walk_in m us w) i n ≡ go (walk (holder_told w.holder) (scope_told w.around) (stacked l (w.frames + 1)) us)
  opened_room l long room e =
      ap (λ t. pick t opened None) (lt-ltb (length (stacked m w.frames)) 8192 (omega (arith, stacked_count m w.frames)))
      ∙ ap (λ fs. go (walk (holder_told w.holder) (scope_told w.around) fs us))
      (sym (ap₂ stacked e (let z : w.frames + 1 ≡ suc w.frames = omega arith in z) ∙ stacked_more m w.frames (frame (holder i 1) n (scope_told w.around)) long room))

-- after a head of two parts and more
pub head_many : (go : Walk → Option (List ℕ)) (i n k : ℕ) (s : Scope) (fs : List Frame) (us : List ℕ) → n ≡ k → (k ≡ 0 → ⊥) → (k ≡ 1 → ⊥) →
    after_head go i n s fs us ≡ frame_opened go (walk (Some (holder i 0)) s fs us) i k
head_many go i n zero s fs us e a b = absurd (a refl)
head_many go i n (suc zero) s fs us e a b = absurd (b refl)
head_many go i n (suc (suc k)) s fs us e a b = ap (λ m. after_head go i m s fs us) e

-- one turn, by what is seen
module _ (k : ℕ) (bs : List ℕ) (x y : bytes.Name) (w : Walk) (i : ℕ) where
  abbrev pub after_use : Sight → List ℕ → Option (List ℕ)
  after_use s us = after_head (λ v. uses_from k bs x y v s.token.end) i (arity s.token.head) s.scope w.frames us

  abbrev pub after_sight : Sight → Option (List ℕ)
  after_sight s = found (use_listed w.uses (i + 1) s.changes) (after_use s)

  pub uses-turn : uses_from (suc k) bs x y w i ≡ found (sight_of bs x y w.holder w.around i) after_sight
  unfolding uses_from
  uses-turn = go (head_at bs i)
    where
      on : (t : Token) (o : Option Bool) →
          found o (λ c. found (use_listed w.uses (i + 1) c) (λ us. after_head (λ v. uses_from k bs x y v t.end) i (arity t.head) (scope_in bs x y w.holder w.around) w.frames us))
          ≡ found (found o (λ c. Some (sight t (scope_in bs x y w.holder w.around) c))) after_sight
      on t None = refl
      on t (Some c) = refl

      go : (o : Option Token) →
          found o
          (λ t. found (head_changes x y (scope_in bs x y w.holder w.around) t.head)
          (λ c. found (use_listed w.uses (i + 1) c) (λ us. after_head (λ v. uses_from k bs x y v t.end) i (arity t.head) (scope_in bs x y w.holder w.around) w.frames us)))
          ≡ found (found o (λ t. found (head_changes x y (scope_in bs x y w.holder w.around) t.head) (λ c. Some (sight t (scope_in bs x y w.holder w.around) c)))) after_sight
      go None = refl
      go (Some t) = on t (head_changes x y (scope_in bs x y w.holder w.around) t.head)

-- One visit after the other: what is to come from here was to come from the start. Assumes nothing.
use Rattle.std.proofs.Common.{◌≡◌, ℕ, suc, ◌+◌, ◌-◌, ◌<◌, ◌≤◌, Bool, false, List, [], ◌∷◌, length, take, set, Some, None, Option, sym, refl, ap, ◌∙◌, subst, arith}
use Rattle.std.specs.declared.ops.ControlFlow.TheVariants.{Continue, Break}
use Rattle.std.proofs.lemmas.List.{take_more_set}
use Rattle.expr.specs.declared.token.Kind.{Kind}
use Rattle.expr.specs.Node.{holder_told}
use Rattle.expr.specs.Token.{kind_told, kind_arity}
use Rattle.expr.proofs.TokenFacts.{arity-told}
use Rattle.language.specs.Bytes.{Name}
use Rattle.language.specs.Heads.{arity}
use Rattle.language.specs.Reading.{found, token}
use Rattle.language.specs.Uses.{Scope, scope, walk, use_listed, after_head, uses_from, uses_of}
use Rattle.scope.specs.declared.walk.Walk as code
use Rattle.scope.specs.Scopes.{scope_told}
use Rattle.scope.specs.Frames.{stacked}
use Rattle.scope.specs.Walks.{walk_told, sight, sight_of, Visit, led_to, LeadsOn, GoesOn, visited, EndsFew, Visits}
use Rattle.scope.proofs.WalkFacts.{after_sight, uses-turn}

module _ (bs : List ℕ) (x y : Name) (f l : List ℕ) (w : code.Walk) where
  -- nothing is seen
  pub visit_blind : None ≡ sight_of bs x y (holder_told w.holder) (scope_told w.around) w.at → (r : Visit) → r ≡ None → Visits bs x y f l w f l r
  visit_blind e r is = subst (Visits bs x y f l w f l) (sym is) (record { turn = λ k. uses-turn k bs x y (walk_told f l w) w.at ∙ ap (λ o. found o (after_sight k bs x y (walk_told f l w) w.at)) (sym e); few = tt })

  module _ (k : Kind) (end : ℕ) (s : Scope) (c : Bool) (e : Some (sight (token (kind_told bs k) end) s c) ≡ sight_of bs x y (holder_told w.holder) (scope_told w.around) w.at) (l₁ : List ℕ) where
    abbrev on_head : ℕ → List ℕ → Option (List ℕ)
    on_head n us = after_head (λ v. uses_from n bs x y v end) w.at (arity (kind_told bs k)) s (stacked f w.frames) us

    seen_turn : (n : ℕ) → uses_from (suc n) bs x y (walk_told f l w) w.at ≡ found (use_listed (take w.uses l) (w.at + 1) c) (on_head n)
    seen_turn n = uses-turn n bs x y (walk_told f l w) w.at ∙ ap (λ o. found o (after_sight n bs x y (walk_told f l w) w.at)) (sym e)

    -- there is no room to list a use
    pub visit_full : None ≡ use_listed (take w.uses l) (w.at + 1) c → (r : Visit) → r ≡ None → Visits bs x y f l w f l₁ r
    visit_full n r is = subst (Visits bs x y f l w f l₁) (sym is) (record { turn = λ k. seen_turn k ∙ ap (λ o. found o (on_head k)) (sym n); few = tt })

    came-to : (n uses : ℕ) (f₁ : List ℕ) (r : Visit) → LeadsOn end uses r → led_to (λ v. uses_from n bs x y v end) (take uses l₁) f₁ r ≡ visited n bs x y f₁ l₁ r
    came-to n uses f₁ (Some (Continue v)) o = λ i. uses_from n bs x y (walk (holder_told v.holder) (scope_told v.around) (stacked f₁ v.frames) (take (sym o.1 i) l₁)) (sym o.0 i)
    came-to n uses f₁ (Some (Break k)) o = ap (λ j. Some (take j l₁)) (sym o)
    came-to n uses f₁ None o = refl

    came-few : (uses : ℕ) (r : Visit) → uses ≤ 8192 → LeadsOn end uses r → EndsFew r
    came-few uses (Some (Continue v)) h o = tt
    came-few uses (Some (Break k)) h o = omega arith
    came-few uses None h o = tt

    pub visit_on : (uses : ℕ) → uses ≤ 8192 → Some (take uses l₁) ≡ use_listed (take w.uses l) (w.at + 1) c → (f₁ : List ℕ) (r : Visit) →
        GoesOn f₁ end uses (λ go us. after_head go w.at (kind_arity k) s (stacked f w.frames) us) r → Visits bs x y f l w f₁ l₁ r
    visit_on uses few n f₁ r g =
        record {
          turn = λ k₁.
              seen_turn k₁ ∙ ap (λ o. found o (on_head k₁)) (sym n)
              ∙ ap (λ a. after_head (λ v. uses_from k₁ bs x y v end) w.at a s (stacked f w.frames) (take uses l₁)) (arity-told bs k)
              ∙ g.to (λ v. uses_from k₁ bs x y v end) (take uses l₁) ∙ came-to k₁ uses f₁ r g.on;
          few = came-few uses r few g.on;
        }

-- so many nodes were visited; w comes next
module _ (bs : List ℕ) (x y : Name) (f₀ l₀ : List ℕ) (w₀ : code.Walk) where
  abbrev pub Walked : ℕ → List ℕ → List ℕ → code.Walk → Type 0
  Walked turn f l w = uses_from (length bs) bs x y (walk_told f₀ l₀ w₀) w₀.at ≡ uses_from (length bs - turn) bs x y (walk_told f l w) w.at

  pub walked_none : Walked 0 f₀ l₀ w₀
  walked_none = ap (λ k. uses_from k bs x y (walk_told f₀ l₀ w₀) w₀.at) (let z : length bs ≡ length bs - 0 = omega arith in z)

  -- one visit more
  pub walked_to : (turn : ℕ) (f l : List ℕ) (w : code.Walk) → Walked turn f l w → turn < length bs → (f₁ l₁ : List ℕ) (r s : Visit) → Visits bs x y f l w f₁ l₁ r → r ≡ s →
      uses_from (length bs) bs x y (walk_told f₀ l₀ w₀) w₀.at ≡ visited (length bs - (turn + 1)) bs x y f₁ l₁ s
  walked_to turn f l w so_far more f₁ l₁ r s v is =
      so_far ∙ ap (λ k. uses_from k bs x y (walk_told f l w) w.at) (let z : length bs - turn ≡ suc (length bs - (turn + 1)) = omega arith in z) ∙ v.turn (length bs - (turn + 1))
      ∙ ap (visited (length bs - (turn + 1)) bs x y f₁ l₁) is

  pub walked_out : (turn : ℕ) (f l : List ℕ) (w : code.Walk) → Walked turn f l w → length bs ≤ turn → None ≡ uses_from (length bs) bs x y (walk_told f₀ l₀ w₀) w₀.at
  unfolding uses_from
  walked_out turn f l w so_far over = sym (so_far ∙ ap (λ k. uses_from k bs x y (walk_told f l w) w.at) (let z : length bs - turn ≡ 0 = omega arith in z))

-- the binder's own name is listed first
pub uses_begin : (bs : List ℕ) (x y : Name) (f l : List ℕ) (w : code.Walk) (k n : ℕ) → 0 < length l → w.holder ≡ None → scope_told w.around ≡ scope false false → w.frames ≡ 0 → w.uses ≡ 1 → n ≡ k →
    uses_from (length bs) bs x y (walk_told f (set l 0 n) w) w.at ≡ uses_of bs x y k w.at
unfolding stacked
uses_begin bs x y f l w k n some h s e u is =
    ap (λ v. uses_from (length bs) bs x y v w.at)
    ((λ i. walk (holder_told (h i)) (s i) (stacked f (e i)) (take (u i) (set l 0 n))) ∙ ap (λ us. walk None (scope false false) [] us) (take_more_set l 0 n some ∙ ap (λ j. j ∷ []) is))

-- The scope of a node along who holds it, case by case. Assumes nothing.
use Rattle.std.proofs.Common.{◌≡◌, ℕ, Bool, true, false, eqb, List, Some, None, Option, sym, refl, ap, ◌∙◌, subst, eq-eqb, ne_eqb, eqb-true}
use Rattle.std.proofs.lemmas.Bool.{eqb-false}
use Rattle.std.specs.Bool.{then_some}
use Rattle.std.specs.Prelude.{MatchOption, ⊤}
use Rattle.expr.specs.declared.node.Holder.{Holder}
use Rattle.expr.specs.declared.token.Span.{Span}
use Rattle.expr.specs.declared.token.Kind.{Kind}
use Rattle.expr.specs.declared.token.Kind.TheVariants.{Number, Name, Binary, Call, Let, If, Tell}
use Rattle.expr.specs.Node.{holder_told}
use Rattle.expr.specs.Token.{kind_told, spelled_in}
use Rattle.language.specs.Basics.{pick}
use Rattle.language.specs.Bytes as bytes
use Rattle.language.specs.Reading.{Token, head_at}
use Rattle.language.specs.Uses.{Scope, let_scope, head_scope, token_scope, scope_in}

module _ (bs : List ℕ) (x y : bytes.Name) (h : Option Holder) (s : Scope) where
  -- where the walk begins
  pub scope-first : h ≡ None → s ≡ scope_in bs x y (holder_told h) s
  unfolding scope_in
  scope-first e = ap (λ k. scope_in bs x y (holder_told k) s) (sym e)

  module _ (k : Holder) (e : h ≡ Some k) where
    held : scope_in bs x y (holder_told h) s ≡ pick (eqb k.part 1) (token_scope x y s (head_at bs k.at)) s
    unfolding scope_in
    held = ap (λ k. scope_in bs x y (holder_told k) s) e

    -- a part that is not the second
    pub scope_other : (k.part ≡ 1 → ⊥) → s ≡ scope_in bs x y (holder_told h) s
    scope_other n = sym (held ∙ ap (λ t. pick t (token_scope x y s (head_at bs k.at)) s) (ne_eqb k.part 1 n))

    -- the second part, by the holder's head
    pub scope-second : k.part ≡ 1 → (o : Option Token) → o ≡ head_at bs k.at → (r : Scope) → r ≡ token_scope x y s o → r ≡ scope_in bs x y (holder_told h) s
    scope-second p o f r q =
        q ∙ ap (token_scope x y s) f ∙ sym (held ∙ ap (λ t. pick t (token_scope x y s (head_at bs k.at)) s) (eq-eqb k.part 1 p))

some_not_none : (k : Holder) → None ≡ Some k → ⊥
some_not_none k e = subst (λ (o : Option Holder). MatchOption o ⊥ (λ x. ⊤)) (sym e) tt

abbrev part_of : Option Holder → ℕ
part_of None = 0
part_of (Some k) = k.part

-- the holder of a second part, as a filter gives it
module _ (R : Holder → Bool → Type 0) (told : (k : Holder) (b : Bool) → R k b → b ≡ eqb k.part 1) (h r : Option Holder) where
  abbrev Filtered : Option Holder → Type 0
  Filtered o = MatchOption o (r ≡ None) (λ k. (b : Bool) × R k b × (r ≡ then_some b k))

  pub some_second : Filtered h → (k : Holder) → r ≡ Some k → (h ≡ Some k) × (k.part ≡ 1)
  some_second f k e = go h refl f
    where
      by : (l : Holder) (b : Bool) → b ≡ eqb l.part 1 → r ≡ then_some b l → h ≡ Some l → (h ≡ Some k) × (k.part ≡ 1)
      by l true t q is = (is ∙ sym q ∙ e, sym (ap part_of (sym q ∙ e)) ∙ eqb-true l.part 1 (sym t))
      by l false t q is = absurd (some_not_none k (sym q ∙ e))

      go : (o : Option Holder) → h ≡ o → Filtered o → (h ≡ Some k) × (k.part ≡ 1)
      go None is m = absurd (some_not_none k (sym m ∙ e))
      go (Some l) is m = by l m.0 (told l m.0 m.1) m.2 is

  pub none_second : (bs : List ℕ) (x y : bytes.Name) (s : Scope) → Filtered h → r ≡ None → s ≡ scope_in bs x y (holder_told h) s
  none_second bs x y s f e = go h refl f
    where
      by : (l : Holder) (b : Bool) → b ≡ eqb l.part 1 → r ≡ then_some b l → h ≡ Some l → s ≡ scope_in bs x y (holder_told h) s
      by l true t q is = absurd (some_not_none l (sym e ∙ q))
      by l false t q is = scope_other bs x y h s l is (eqb-false l.part 1 (sym t))

      go : (o : Option Holder) → h ≡ o → Filtered o → s ≡ scope_in bs x y (holder_told h) s
      go None is m = scope-first bs x y h s is
      go (Some l) is m = by l m.0 (told l m.0 m.1) m.2 is

-- only a let gives a name
pub not_let : (bs : List ℕ) (x y : bytes.Name) (s : Scope) (k : Kind) → ((n : Span) → k ≡ Let n → ⊥) → s ≡ head_scope x y s (kind_told bs k)
not_let bs x y s (Number n) h = refl
not_let bs x y s (Name n) h = refl
not_let bs x y s (Binary o) h = refl
not_let bs x y s (Call n v) h = refl
not_let bs x y s (Let n) h = absurd (h n refl)
not_let bs x y s If h = refl
not_let bs x y s Tell h = refl

pub is_let : (bs : List ℕ) (x y : bytes.Name) (s : Scope) (k : Kind) (n : Span) → k ≡ Let n → let_scope x y s (spelled_in bs n) ≡ head_scope x y s (kind_told bs k)
is_let bs x y s k n e = ap (λ l. head_scope x y s (kind_told bs l)) (sym e)

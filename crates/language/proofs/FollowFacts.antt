-- A place followed one part after the other. Assumes nothing.
use Rattle.std.proofs.Common.{◌≡◌, ℕ, ◌<◌, Bool, true, false, ltb, List, length, get_or, Some, None, Option, refl, ap, ◌∙◌, ap₂}
use Rattle.std.specs.List.{between}
use Rattle.std.proofs.lemmas.Slice.{first_rest}
use Rattle.std.proofs.lemmas.List.{nil_from_length}
use Rattle.language.specs.Basics.{pick}
use Rattle.language.specs.Heads.{arity}
use Rattle.language.specs.Reading.{found, Token, head_at, ends, place_at}
use Rattle.language.proofs.ReadingFacts.{pick-found}

pub place_here : (bs ks : List ℕ) (i : ℕ) → length ks ≡ 0 → place_at bs ks i ≡ Some i
unfolding place_at
place_here bs ks i h = ap (λ l. place_at bs l i) (nil_from_length ks h)

module _ (bs ks : List ℕ) (i : ℕ) (h : 0 < length ks) where
  -- what the next part gives
  after_head : Token → Option ℕ
  after_head t =
      pick (ltb (get_or ks 0 0) (arity t.head)) (found (ends (get_or ks 0 0) (length bs) bs t.end) (λ j. place_at bs (between 1 (length ks) ks) j)) None

  turn : place_at bs ks i ≡ found (head_at bs i) after_head
  unfolding place_at after_head
  turn = ap (λ l. place_at bs l i) (first_rest ks 0 h)

  pub place_none : head_at bs i ≡ None → place_at bs ks i ≡ None
  place_none e = turn ∙ ap (λ o. found o after_head) e

  at-token : (t : Token) → head_at bs i ≡ Some t → place_at bs ks i ≡ after_head t
  at-token t e = turn ∙ ap (λ o. found o after_head) e

  pub place-cut : (t : Token) → head_at bs i ≡ Some t → pick (ltb (get_or ks 0 0) (arity t.head)) (ends (get_or ks 0 0) (length bs) bs t.end) None ≡ None → place_at bs ks i ≡ None
  unfolding after_head
  place-cut t e p = at-token t e ∙ over (ltb (get_or ks 0 0) (arity t.head)) (ends (get_or ks 0 0) (length bs) bs t.end) ∙ ap (λ o. found o (λ j. place_at bs (between 1 (length ks) ks) j)) p
    where
      over : (b : Bool) (o : Option ℕ) → pick b (found o (λ j. place_at bs (between 1 (length ks) ks) j)) None ≡ found (pick b o None) (λ j. place_at bs (between 1 (length ks) ks) j)
      over true o = refl
      over false o = refl

  pub place_more : (t : Token) (j : ℕ) → head_at bs i ≡ Some t → pick (ltb (get_or ks 0 0) (arity t.head)) (ends (get_or ks 0 0) (length bs) bs t.end) None ≡ Some j →
      place_at bs ks i ≡ place_at bs (between 1 (length ks) ks) j
  unfolding after_head
  place_more t j e p =
      let kept = pick-found _ _ _ p in
      at-token t e ∙ ap₂ (λ b o. pick b (found o (λ j. place_at bs (between 1 (length ks) ks) j)) None) kept.0 kept.1

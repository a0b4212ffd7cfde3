-- Where what stands at a place begins, in the bytes of an expression, and those bytes with something else put there. By induction on the place:
-- a part begins after its head and the parts before it, and something else put for it keeps the head and the other parts. Assumes nothing.
use Rattle.std.proofs.Common.{◌≡◌, ℕ, zero, suc, ◌+◌, ◌<◌, ◌≤◌, true, ltb, List, [], ◌∷◌, ◌++◌, length, take, Some, None, sym, refl, ap, ◌∙◌, subst, ap₂, add-zero, arith, le-ltb, lt-ltb}
use mathlib.Core.List.{nil≢cons}
use Rattle.std.proofs.lemmas.List.{append_assoc, append-nil, length-append, length-take-le}
use Rattle.language.specs.Basics.{pick, flat}
use Rattle.language.specs.Expr.{Expr, parts}
use Rattle.language.specs.Places.{nth_expr, in_some, at_place, with_part, put_at}
use Rattle.language.specs.Spelling.{expr_spelled}
use Rattle.language.specs.Fits.{an_expr}
use Rattle.language.specs.Heads.{head_of, arity, head_spelled}
use Rattle.language.specs.Reading.{found, Token, token, head_at, ends, place_at}
use Rattle.language.proofs.ListFacts.{every_take}
use Rattle.language.proofs.StandsFacts.{Stands, stands-first, stands-second}
use Rattle.language.proofs.HeadFacts.{head-stands}
use Rattle.language.proofs.NodeFacts.{spelled_node, parts-arity, head-fits}
use Rattle.language.proofs.ExprFacts.{ends_stand}
use Rattle.language.proofs.PlaceFacts.{before_part, after_part, put_part_spelled, part-spelled, within, put_same}
use Rattle.language.proofs.PlaceFits.{nth_fit, at_fit}

-- there are more parts than k where there is a kth, and else no more
nth_below : (es : List Expr) (k : ℕ) (c : Expr) (cs : List Expr) → nth_expr es k ≡ c ∷ cs → k < length es
unfolding nth_expr
nth_below [] k c cs h = absurd (nil≢cons h)
nth_below (e ∷ es) zero c cs h = omega arith
nth_below (e ∷ es) (suc k) c cs h = omega (arith, nth_below es k c cs h)

nth_past : (es : List Expr) (k : ℕ) → nth_expr es k ≡ [] → length es ≤ k
unfolding nth_expr
nth_past [] k h = omega arith
nth_past (e ∷ es) zero h = absurd (nil≢cons (sym h))
nth_past (e ∷ es) (suc k) h = omega (arith, nth_past es k h)

-- one number of a place is followed to the part it says
place-turn : (bs : List ℕ) (k : ℕ) (ks : List ℕ) (i : ℕ) (t : Token) → head_at bs i ≡ Some t →
    place_at bs (k ∷ ks) i ≡ pick (ltb k (arity t.head)) (found (ends k (length bs) bs t.end) (λ j. place_at bs ks j)) None
unfolding place_at
place-turn bs k ks i t e = grind arith

-- the head of an expression that stands there is read
pub head_read : (bs : List ℕ) (i : ℕ) (e : Expr) → an_expr e ≡ true → Stands bs i (expr_spelled e) →
    head_at bs i ≡ Some (token (head_of e) (i + length (head_spelled (head_of e))))
head_read bs i e fit s = grind (arith, head-stands, head-fits, stands-first, spelled_node)

module _ (bs : List ℕ) (i : ℕ) (e : Expr) (fit : an_expr e ≡ true) (s : Stands bs i (expr_spelled e)) (k : ℕ) (ks : List ℕ) where
  place_past : nth_expr (parts e) k ≡ [] → place_at bs (k ∷ ks) i ≡ None
  place_past h =
      place-turn bs k ks i (token (head_of e) (i + length (head_spelled (head_of e)))) (head_read bs i e fit s)
      ∙ ap (λ t. pick t (found (ends k (length bs) bs (i + length (head_spelled (head_of e)))) (λ j. place_at bs ks j)) None)
      (le-ltb k (arity (head_of e)) (omega (arith, nth_past (parts e) k h, parts-arity e)))

  module _ (c : Expr) (cs : List Expr) (h : nth_expr (parts e) k ≡ c ∷ cs) where
    part-fits : an_expr c ≡ true
    part-fits = nth_fit (parts e) k c cs (head-fits e fit).1 h

    part-stands : Stands bs (i + length (before_part e k)) (expr_spelled c)
    part-stands =
        stands-first bs (i + length (before_part e k)) (expr_spelled c) (after_part e k)
        (stands-second bs i (before_part e k) (expr_spelled c ++ after_part e k) (subst (Stands bs i) (part-spelled e k c cs h) s))

    before_stands : Stands bs (i + length (head_spelled (head_of e))) (flat expr_spelled (take k (parts e)))
    before_stands = grind (arith, stands-second, stands-first, before_part, after_part, part-spelled)

    before-skipped : ends k (length bs) bs (i + length (head_spelled (head_of e))) ≡ Some (i + length (before_part e k))
    before-skipped =
        ap (λ n. ends n (length bs) bs (i + length (head_spelled (head_of e)))) (sym (length-take-le k (parts e) (omega (arith, nth_below (parts e) k c cs h))))
        ∙ ends_stand (length bs) bs (i + length (head_spelled (head_of e))) (take k (parts e)) (every_take an_expr k (parts e) (head-fits e fit).1) before_stands (omega arith)
        ∙ ap Some (omega (arith, length-append (head_spelled (head_of e)) (flat expr_spelled (take k (parts e)))))

    place-part : place_at bs (k ∷ ks) i ≡ place_at bs ks (i + length (before_part e k))
    place-part =
        place-turn bs k ks i (token (head_of e) (i + length (head_spelled (head_of e)))) (head_read bs i e fit s)
        ∙ ap₂ (λ t o. pick t (found o (λ j. place_at bs ks j)) None)
        (lt-ltb _ _ (omega (arith, nth_below (parts e) k c cs h, parts-arity e))) before-skipped

-- where nothing stands, none is found
pub place_none : (bs ks : List ℕ) (i : ℕ) (e : Expr) → an_expr e ≡ true → Stands bs i (expr_spelled e) → at_place e ks ≡ [] → place_at bs ks i ≡ None
unfolding at_place
place_none bs [] i e fit s h = absurd (nil≢cons (sym h))
place_none bs (k ∷ ks) i e fit s h = go (nth_expr (parts e) k) refl h (λ c. place_none bs ks (i + length (before_part e k)) c)
  where
    go : (cs : List Expr) → nth_expr (parts e) k ≡ cs → in_some cs (λ c. at_place c ks) ≡ [] →
        ((c : Expr) → an_expr c ≡ true → Stands bs (i + length (before_part e k)) (expr_spelled c) → at_place c ks ≡ [] →
        place_at bs ks (i + length (before_part e k)) ≡ None) →
        place_at bs (k ∷ ks) i ≡ None
    go [] p h ih = place_past bs i e fit s k ks p
    go (c ∷ cs) p h ih = grind (arith, place-part, part-fits, part-stands)

-- c stands at a place of e, which stands at i: where it begins, what is around it, and that this stays where something else is put there
pub record Placed (bs : List ℕ) (i : ℕ) (e : Expr) (ks : List ℕ) (c : Expr) : Type 0 where
  pub before : List ℕ
  pub after : List ℕ
  pub split : expr_spelled e ≡ before ++ (expr_spelled c ++ after)
  pub at_is : place_at bs ks i ≡ Some (i + length before)
  pub stands : Stands bs (i + length before) (expr_spelled c)
  pub fits : an_expr c ≡ true
  pub put : (d : Expr) → expr_spelled (put_at e ks d) ≡ before ++ (expr_spelled d ++ after)

-- the rest follows from where it begins and what is around it
placed : (bs : List ℕ) (i : ℕ) (e : Expr) (ks : List ℕ) (c : Expr) (cs : List Expr) → an_expr e ≡ true → Stands bs i (expr_spelled e) → at_place e ks ≡ c ∷ cs →
    (before after : List ℕ) → place_at bs ks i ≡ Some (i + length before) → ((d : Expr) → expr_spelled (put_at e ks d) ≡ before ++ (expr_spelled d ++ after)) →
    Placed bs i e ks c
placed bs i e ks c cs fit s h before after is put =
    record { before = before; after = after; split = split; at_is = is; stands = stands; fits = at_fit ks e c cs fit h; put = put }
  where
    split : expr_spelled e ≡ before ++ (expr_spelled c ++ after)
    split = ap expr_spelled (sym (put_same ks e c cs h)) ∙ put c

    stands : Stands bs (i + length before) (expr_spelled c)
    stands =
        stands-first bs (i + length before) (expr_spelled c) after
        (stands-second bs i before (expr_spelled c ++ after) (subst (Stands bs i) split s))

around : (a b x c d : List ℕ) → a ++ ((b ++ (x ++ c)) ++ d) ≡ (a ++ b) ++ (x ++ (c ++ d))
around a b x c d = simp append_assoc

-- a place within the kth part: the bytes around that part come around what is around it there
module _ (bs : List ℕ) (i : ℕ) (e : Expr) (fit : an_expr e ≡ true) (s : Stands bs i (expr_spelled e)) (k : ℕ) (ks : List ℕ) (a : Expr) (as₁ : List Expr)
    (h : nth_expr (parts e) k ≡ a ∷ as₁) (c : Expr) (r : Placed bs (i + length (before_part e k)) a ks c) where
  begins_within : place_at bs (k ∷ ks) i ≡ Some (i + length (before_part e k ++ r.before))
  begins_within = grind (arith, place-part, length-append, before_part)

  put_within : (d : Expr) → expr_spelled (with_part e k (put_at a ks d)) ≡ (before_part e k ++ r.before) ++ (expr_spelled d ++ (r.after ++ after_part e k))
  put_within d = grind (arith, put_part_spelled, around)

pub place_some : (bs ks : List ℕ) (i : ℕ) (e c : Expr) (cs : List Expr) → an_expr e ≡ true → Stands bs i (expr_spelled e) → at_place e ks ≡ c ∷ cs →
    Placed bs i e ks c
unfolding at_place put_at place_at
place_some bs [] i e c cs fit s h =
    placed bs i e [] c cs fit s h [] [] (ap Some (sym (add-zero i))) (λ d. sym (append-nil (expr_spelled d)))
place_some bs (k ∷ ks) i e c cs fit s h =
    let r = within e k ks c cs h in
    let q = place_some bs ks (i + length (before_part e k)) r.part c cs (part-fits bs i e fit s k ks r.part r.others r.is_part) (part-stands bs i e fit s k ks r.part r.others r.is_part) r.stands in
    placed bs i e (k ∷ ks) c cs fit s h (before_part e k ++ q.before) (q.after ++ after_part e k) (begins_within bs i e fit s k ks r.part r.others r.is_part c q)
    (λ d. ap expr_spelled (r.put d) ∙ put_within bs i e fit s k ks r.part r.others r.is_part c q d)

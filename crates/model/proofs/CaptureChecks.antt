-- The check of a renaming at each place is the model's test of bare forms: for a let at a place, and for a function's own name. Assumes nothing.
use Rattle.std.proofs.Common.{◌≡◌, ℕ, zero, suc, ◌<◌, ◌≤◌, Bool, true, false, not, ◌&&◌, List, [], ◌∷◌, ◌++◌, length, sym, refl, ap, ◌∙◌, ap₂, subst₂, arith, length-append}
use mathlib.Core.Path.{subst₃}
use mathlib.Core.List.{nil≢cons}
use Rattle.std.proofs.lemmas.Bool.{and_parts, not-true}
use Rattle.language.specs.Basics.{or, same}
use Rattle.language.specs.Bytes.{Name}
use Rattle.language.specs.Expr.{Expr, bind}
use Rattle.language.specs.Places.{put_at}
use Rattle.language.specs.Names.{has, distinct}
use Rattle.language.specs.Bare.{b_bind, bare, alike}
use Rattle.language.specs.Spelling.{expr_spelled}
use Rattle.language.specs.Fits.{a_name, an_expr}
use Rattle.language.proofs.NameFacts.{same_sym, or_left_false, or_false, not_or, has-append}
use Rattle.language.proofs.BareSpelling.{alike-bare, bare_alike}
use Rattle.language.proofs.HeadFacts.{name_short}
use Rattle.language.proofs.FitFacts.{bind_fit, fit_bind, bind-long}
use Rattle.language.proofs.PlaceFits.{at_fit, put_fit}
use Rattle.language.proofs.PlaceLengths.{put_long, at_short}
use Rattle.model.specs.Rename.{renamed, put_name, nth_name}
use Rattle.model.specs.Extract.{given_at}
use Rattle.model.specs.Capture.{clear, under, others, BindClear, OwnClear}
use Rattle.model.proofs.Says.{Says, says_map, says_same}
use Rattle.model.proofs.RenameFacts.{renamed_fit, renamed-long}
use Rattle.model.proofs.CaptureFacts.{under-renamed, clear_says}
use Rattle.model.proofs.PlaceSays.{place_says}

alike_says : (xs ys : List Name) (a b : Expr) → an_expr a ≡ true → an_expr b ≡ true → length xs ≤ 16 → length ys ≤ 16 →
    length (expr_spelled a) < 18446744073709551616 → length (expr_spelled b) < 18446744073709551616 → Says (alike xs a ys b) (bare xs a ≡ bare ys b)
alike_says xs ys a b fit-a fit-b few-xs few-ys short-a short-b = grind (arith, alike-bare, bare_alike)

-- where neither name is given on the way
clear-renamed : (e : Expr) (x y : Name) (outer zs : List Name) → has zs x ≡ false → has zs y ≡ false →
    Says (clear x y false false e) (bare (zs ++ x ∷ outer) e ≡ bare (zs ++ y ∷ outer) (renamed x y e))
clear-renamed e x y outer zs not_x not-y =
    let by : Bool → Bool → Type 0 = λ hx hy. Says (clear x y hx hy e) (bare (zs ++ x ∷ outer) e ≡ bare (zs ++ y ∷ outer) (under x y hx e)) in
    rw (under-renamed e x y) at (subst₂ by not_x not-y (clear_says e x y outer zs))

bind_says : (gs : List Name) (x y : Name) (a b : Expr) → Says (clear x y false false b) (bare gs (bind x a b) ≡ bare gs (bind y a (renamed x y b)))
unfolding bare
bind_says gs x y a b = says_map _ (ap (b_bind (bare gs a))) (λ e. cc) (clear-renamed b x y gs [] refl refl)

pub bind-clear : BindClear
bind-clear ps body ks x y a b es fit fit_y few short stands =
    let new = bind y a (renamed x y b) in
    let was = bind_fit x a b (at_fit ks body (bind x a b) es fit stands) in
    let fit_new = put_fit ks body new fit (fit_bind y a (renamed x y b) fit_y was.1 (renamed_fit b x y fit_y was.2)) in
    let few_bytes : length (expr_spelled (put_at body ks new)) < 18446744073709551616 =
    omega (
      arith,
      put_long ks body (bind x a b) es new stands,
      bind-long x a b,
      bind-long y a (renamed x y b),
      name_short y fit_y,
      renamed-long b x y (name_short y fit_y).1,
      at_short ks body (bind x a b) es stands,
    ) in
    says_same (alike ps body ps (put_at body ks new)) (clear x y false false b)
    (alike_says ps ps body (put_at body ks new) fit fit_new few few (omega arith) few_bytes)
    (place_says (clear x y false false b) ks ps body (bind x a b) es new stands (bind_says (given_at ps body ks) x y a b))

-- own names around the ith
pub record Split (ps : List Name) (i : ℕ) (x : Name) : Type 0 where
  pub left : List Name
  pub right : List Name
  pub place : length left ≡ i
  pub whole : ps ≡ left ++ x ∷ right
  pub put : (y : Name) → put_name ps i y ≡ left ++ y ∷ right
  pub rest : others ps i ≡ left ++ right

pub split_at : (ps : List Name) (i : ℕ) (x : Name) (xs : List Name) → nth_name ps i ≡ x ∷ xs → Split ps i x
unfolding nth_name put_name others
split_at [] i x xs h = absurd (nil≢cons h)
split_at (p ∷ ps) zero x xs h = record { left = []; right = ps; place = refl; whole = ap (λ z. z ∷ ps) (cc); put = λ y. refl; rest = refl }
split_at (p ∷ ps) (suc i) x xs h =
    let s = split_at ps i x xs h in
    record { left = p ∷ s.left; right = s.right; place = ap suc s.place; whole = ap (◌∷◌ p) s.whole; put = λ y. ap (◌∷◌ p) (s.put y); rest = ap (◌∷◌ p) s.rest }

pub none_at : (ps : List Name) (i : ℕ) → nth_name ps i ≡ [] → length ps ≤ i
unfolding nth_name
none_at [] i h = omega arith
none_at (p ∷ ps) zero h = absurd (nil≢cons (sym h))
none_at (p ∷ ps) (suc i) h = omega (arith, none_at ps i h)

-- none of a row with x in it is p
apart : (left right : List Name) (x p : Name) → has (left ++ x ∷ right) p ≡ false → (has left p ≡ false) × (same p x ≡ false) × (has right p ≡ false)
apart left right x p h = grind (arith, has-append)

none_before : (left right : List Name) (x : Name) → distinct (left ++ x ∷ right) ≡ true → has left x ≡ false
unfolding distinct
none_before [] right x d = refl
none_before (p ∷ left) right x d =
    let both = and_parts _ _ d in
    let other = (apart left right x p (not-true _ both.0)).1 in
    ap (λ t. or t (has left x)) (same_sym x p ∙ other) ∙ none_before left right x both.1

-- another name in x's stead: different from all the others is what it has to be
distinct_put : (left right : List Name) (x y : Name) → distinct (left ++ x ∷ right) ≡ true → distinct (left ++ y ∷ right) ≡ not (has (left ++ right) y)
unfolding distinct
distinct_put [] right x y d = grind arith
distinct_put (p ∷ left) right x y d =
    ap₂ (λ s t. not s && t) only_y (distinct_put left right x y both.1) ∙ not_or (same y p) (has (left ++ right) y)
  where
    both : (not (has (left ++ x ∷ right) p) ≡ true) × (distinct (left ++ x ∷ right) ≡ true)
    both = and_parts _ _ d

    only_y : has (left ++ y ∷ right) p ≡ same y p
    only_y =
        let other = apart left right x p (not-true _ both.0) in
        has-append left (y ∷ right) p ∙ ap₂ (λ s t. or s (or (same p y) t)) other.0 other.2 ∙ or_false (same p y) ∙ same_sym p y

module _ (left right : List Name) (body : Expr) (x y : Name) where
  abbrev old : List Name
  old = left ++ x ∷ right

  abbrev new : List Name
  new = left ++ y ∷ right

  few-new : length old ≤ 16 → length new ≤ 16
  few-new h = omega (arith, length-append left (x ∷ right), length-append left (y ∷ right))

  -- where y is none of the others
  own-alike : an_expr body ≡ true → a_name y ≡ true → length old ≤ 16 → length (expr_spelled body) ≤ 65536 → distinct old ≡ true →
      has (left ++ right) y ≡ false → alike old body new (renamed x y body) ≡ clear x y false false body
  own-alike fit fit_y few short apart-all other = grind (arith, says_same, alike_says, renamed_fit, few-new, renamed-long, name_short, clear-renamed, right, left, none_before, or_left_false, has-append)

  own_split : an_expr body ≡ true → a_name y ≡ true → length old ≤ 16 → length (expr_spelled body) ≤ 65536 → distinct old ≡ true →
      (distinct new && alike old body new (renamed x y body)) ≡ (not (has (left ++ right) y) && clear x y false false body)
  own_split fit fit_y few short apart-all = grind (arith, distinct_put, left, right, own-alike)

pub own-clear : OwnClear
own-clear ps body i x y xs fit fit_y few short found apart-all =
    subst₃ (λ ls ns os. (distinct ns && alike ls body ns (renamed x y body)) ≡ (not (has os y) && clear x y false false body))
    (sym s.whole) (sym (s.put y)) (sym s.rest)
    (own_split s.left s.right body x y fit fit_y (omega (arith, ap length s.whole)) short (ap distinct (sym s.whole) ∙ apart-all))
  where
    s : Split ps i x
    s = split_at ps i x xs found

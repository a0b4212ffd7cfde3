-- Checking a renaming at each place decides whether every name still means what it meant.
-- One induction gives both directions: what the check says is what the bare forms say. Assumes nothing.
use Rattle.std.proofs.Common.{◌≡◌, ℕ, suc, Bool, true, false, not, ◌&&◌, List, [], ◌∷◌, ◌++◌, length, sym, refl, ap, ◌∙◌, ap₂, append-nil, arith}
use mathlib.Core.Bool.{and-true, and-false}
use borrow.Author.Tests.{clash}
use Rattle.std.proofs.lemmas.Bool.{not-true}
use Rattle.language.specs.Basics.{pick, or, same}
use Rattle.language.specs.Bytes.{Name}
use Rattle.language.specs.Expr.{Expr, num, var, bin, call, bind, choice, tell, Exprs, no_exprs, expr_and}
use Rattle.language.specs.Names.{has}
use Rattle.language.specs.Bare.{Bare, b_near, b_bin, b_call, b_bind, b_choice, b_tell, bare_and, how_near, near_or_far, bare, bare_all}
use Rattle.language.proofs.NameFacts.{same_refl, same_eq}
use Rattle.language.proofs.NearFacts.{near_in, near_out, near_low, near_below}
use Rattle.model.specs.Rename.{renamed, renamed_all}
use Rattle.model.proofs.Says.{Says, says_true, says_map, two_says}
use Rattle.model.specs.Capture.{clear, clear_all, under, under_all}

-- nothing is renamed where x is given anew
mutual
  unfolding under under_all

  under_hidden : (e : Expr) (x y : Name) → under x y true e ≡ e
  under_hidden (num n) x y = refl
  under_hidden (var z) x y = ap (λ t. var (pick t y z)) (and-false (same x z))
  under_hidden (bin k a b) x y = ap₂ (bin k) (under_hidden a x y) (under_hidden b x y)
  under_hidden (call f es) x y = ap (call f) (all_hidden es x y)
  under_hidden (bind z a b) x y = grind (arith, under_hidden a x y, under_hidden b x y)
  under_hidden (choice c a b) x y = λ i. choice (under_hidden c x y i) (under_hidden a x y i) (under_hidden b x y i)
  under_hidden (tell a) x y = ap tell (under_hidden a x y)

  all_hidden : (es : Exprs) (x y : Name) → under_all x y true es ≡ es
  all_hidden no_exprs x y = refl
  all_hidden (expr_and e es) x y = ap₂ expr_and (under_hidden e x y) (all_hidden es x y)

under-bind : (t : Bool) (b : Expr) (x y : Name) → under x y false b ≡ renamed x y b → under x y (or t false) b ≡ pick t b (renamed x y b)
under-bind true b x y h = under_hidden b x y
under-bind false b x y h = h

mutual
  unfolding under under_all renamed renamed_all

  pub under-renamed : (e : Expr) (x y : Name) → under x y false e ≡ renamed x y e
  under-renamed (num n) x y = refl
  under-renamed (var z) x y = ap (λ t. var (pick t y z)) (and-true (same x z))
  under-renamed (bin k a b) x y = ap₂ (bin k) (under-renamed a x y) (under-renamed b x y)
  under-renamed (call f es) x y = ap (call f) (all_renamed es x y)
  under-renamed (bind z a b) x y = ap₂ (bind z) (under-renamed a x y) (under-bind (same x z) b x y (under-renamed b x y))
  under-renamed (choice c a b) x y = λ i. choice (under-renamed c x y i) (under-renamed a x y i) (under-renamed b x y i)
  under-renamed (tell a) x y = ap tell (under-renamed a x y)

  all_renamed : (es : Exprs) (x y : Name) → under_all x y false es ≡ renamed_all x y es
  all_renamed no_exprs x y = refl
  all_renamed (expr_and e es) x y = ap₂ expr_and (under-renamed e x y) (all_renamed es x y)

-- a name's bare form
abbrev near : List Name → Name → Bare
near us z = near_or_far (how_near us z 0) z

-- behind zs, by whether the next name is the one
behind : (zs outer : List Name) (u z : Name) (t : Bool) → has zs z ≡ false → same u z ≡ t →
    near (zs ++ u ∷ outer) z ≡ near_or_far (pick t (length zs ∷ []) (how_near outer z (suc (length zs)))) z
unfolding how_near
behind zs outer u z t h e = grind (arith, near_out)

near-there : (zs outer : List Name) (u z : Name) → has zs z ≡ false → same u z ≡ true → near (zs ++ u ∷ outer) z ≡ b_near (length zs)
unfolding near_or_far
near-there zs outer u z h e = behind zs outer u z true h e

near_past : (zs outer : List Name) (u z : Name) → has zs z ≡ false → same u z ≡ false →
    near (zs ++ u ∷ outer) z ≡ near_or_far (how_near outer z (suc (length zs))) z
near_past zs outer u z h e = behind zs outer u z false h e

not_that_near : (ks : List ℕ) (x : Name) (n : ℕ) → ((j : ℕ) (js : List ℕ) → ks ≡ j ∷ js → j ≡ n → ⊥) → near_or_far ks x ≡ b_near n → ⊥
unfolding near_or_far
not_that_near [] x n h e = let z : ◌≡◌ {A = ℕ} 0 1 = cc in omega arith
not_that_near (k ∷ ks) x n h e = h k ks refl (cc)

-- a name that one of zs is, is nearer than what lies behind them
nearer : (zs ys : List Name) (y : Name) → has zs y ≡ true → near (zs ++ ys) y ≡ b_near (length zs) → ⊥
nearer zs ys y h =
    not_that_near (how_near (zs ++ ys) y 0) y (length zs)
    (λ j js e n. let below = near_below zs y 0 j js (ap (λ us. how_near us y 0) (sym (append-nil zs)) ∙ near_in zs [] ys y 0 h ∙ e) in omega arith)

-- what lies behind one more is farther
farther : (ys : List Name) (x : Name) (n : ℕ) → near_or_far (how_near ys x (suc n)) x ≡ b_near n → ⊥
farther ys x n = not_that_near (how_near ys x (suc n)) x n (λ j js e m. let low = near_low ys x (suc n) j js e in omega arith)

module _ (x y : Name) (outer zs : List Name) where
  -- a use of what is renamed
  renamed_says : (z : Name) → same x z ≡ true → has zs x ≡ false → Says (not (has zs y)) (near (zs ++ x ∷ outer) z ≡ near (zs ++ y ∷ outer) y)
  renamed_says z e h = grind (arith, near-there, same_eq, nearer, same_refl)

  -- a use of something that is given on the way
  inside_says : (z : Name) → has zs z ≡ true → Says (not (same y z && not (has zs y))) (near (zs ++ x ∷ outer) z ≡ near (zs ++ y ∷ outer) z)
  inside_says z h = grind (arith, near_in, same_eq)

  -- a use of something that is not
  outside_says : (z : Name) → has zs z ≡ false → same x z ≡ false →
      Says (not (same y z && not (has zs y))) (near (zs ++ x ∷ outer) z ≡ near (zs ++ y ∷ outer) z)
  outside_says z h e = grind (arith, same_eq, farther, near_past, near-there)

  other_says : (z : Name) → (same x z && not (has zs x)) ≡ false →
      Says (not (same y z && not (has zs y))) (near (zs ++ x ∷ outer) z ≡ near (zs ++ y ∷ outer) z)
  other_says z other = grind (arith, inside_says, clash, same_eq, outside_says)

  var_says : (z : Name) →
      Says (clear x y (has zs x) (has zs y) (var z)) (bare (zs ++ x ∷ outer) (var z) ≡ bare (zs ++ y ∷ outer) (under x y (has zs x) (var z)))
  unfolding clear bare under
  var_says z = grind (arith, renamed_says, not-true, other_says)

choice_says : (r s t : Bool) {a b c d e f : Bare} → Says r (a ≡ d) → Says s (b ≡ e) → Says t (c ≡ f) →
    Says (r && (s && t)) (b_choice a b c ≡ b_choice d e f)
choice_says r s t {a} {b} {c} {d} {e} {f} in_a in_b in_c = grind arith

-- The check says whether the bare forms are the same, under whatever is given on the way and around.
mutual
  unfolding clear clear_all under under_all bare bare_all

  pub clear_says : (e : Expr) (x y : Name) (outer zs : List Name) →
      Says (clear x y (has zs x) (has zs y) e) (bare (zs ++ x ∷ outer) e ≡ bare (zs ++ y ∷ outer) (under x y (has zs x) e))
  clear_says (num n) x y outer zs = says_true true refl refl
  clear_says (var z) x y outer zs = var_says x y outer zs z
  clear_says (bin k a b) x y outer zs = two_says _ _ (b_bin k) (λ e. ((cc), (cc))) (clear_says a x y outer zs) (clear_says b x y outer zs)
  clear_says (call f es) x y outer zs = says_map _ (ap (b_call f)) (λ e. cc) (all_says es x y outer zs)
  clear_says (bind z a b) x y outer zs = two_says _ _ b_bind (λ e. ((cc), (cc))) (clear_says a x y outer zs) (clear_says b x y outer (z ∷ zs))
  clear_says (choice c a b) x y outer zs =
      choice_says _ _ _ (clear_says c x y outer zs) (clear_says a x y outer zs) (clear_says b x y outer zs)
  clear_says (tell a) x y outer zs = says_map _ (ap b_tell) (λ e. cc) (clear_says a x y outer zs)

  all_says : (es : Exprs) (x y : Name) (outer zs : List Name) →
      Says (clear_all x y (has zs x) (has zs y) es) (bare_all (zs ++ x ∷ outer) es ≡ bare_all (zs ++ y ∷ outer) (under_all x y (has zs x) es))
  all_says no_exprs x y outer zs = says_true true refl refl
  all_says (expr_and e es) x y outer zs = two_says _ _ bare_and (λ e. ((cc), (cc))) (clear_says e x y outer zs) (all_says es x y outer zs)

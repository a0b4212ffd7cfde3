-- How many binds lie between a name and the one that gives it: within a row, behind one, and the bounds of it. Assumes nothing.
use Rattle.std.proofs.Common.{◌≡◌, ℕ, suc, ◌+◌, ◌<◌, ◌≤◌, true, false, List, [], ◌∷◌, ◌++◌, length, ap, ◌∙◌, arith}
use mathlib.Core.List.{nil≢cons}
use borrow.Author.Tests.{clash}
use Rattle.language.specs.Basics.{pick}
use Rattle.language.specs.Bytes.{Name}
use Rattle.language.specs.Names.{has}
use Rattle.language.specs.Bare.{how_near}
use Rattle.language.proofs.NameFacts.{same_sym, or_left_false, or_right_false}

-- a bind is nearer than there are names
pub near_below : (xs : List Name) (x : Name) (k j : ℕ) (js : List ℕ) → how_near xs x k ≡ j ∷ js → j < k + length xs
unfolding how_near
near_below [] x k j js h = absurd (nil≢cons h)
near_below (y ∷ ys) x k j js h = grind (arith, near_below ys x (suc k) j js)

-- a name that one of zs is, whatever comes behind
pub near_in : (zs ys us : List Name) (x : Name) (k : ℕ) → has zs x ≡ true → how_near (zs ++ ys) x k ≡ how_near (zs ++ us) x k
unfolding how_near
near_in [] ys us x k h = absurd (clash h)
near_in (z ∷ zs) ys us x k h = grind (arith, same_sym, near_in zs ys us x (suc k))

-- a name that none of zs is
pub near_out : (zs ys : List Name) (x : Name) (k : ℕ) → has zs x ≡ false → how_near (zs ++ ys) x k ≡ how_near ys x (k + length zs)
unfolding how_near
near_out [] ys x k h = ap (how_near ys x) (omega arith)
near_out (z ∷ zs) ys x k h =
    ap (λ t. pick t (k ∷ []) (how_near (zs ++ ys) x (suc k))) (same_sym z x ∙ or_left_false _ _ h)
    ∙ near_out zs ys x (suc k) (or_right_false _ _ h) ∙ ap (how_near ys x) (omega arith)

-- no bind is nearer than where the count begins
pub near_low : (ys : List Name) (x : Name) (k j : ℕ) (js : List ℕ) → how_near ys x k ≡ j ∷ js → k ≤ j
unfolding how_near
near_low [] x k j js h = absurd (nil≢cons h)
near_low (y ∷ ys) x k j js h = grind (arith, near_low ys x (suc k) j js)

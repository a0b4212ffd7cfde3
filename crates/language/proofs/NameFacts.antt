-- Names that are the same, and which names a row has. Assumes nothing.
use Rattle.std.proofs.Common.{rules, arith, ◌≡◌, Bool, true, false, not, ◌&&◌, List, [], ◌∷◌, ◌++◌, sym, refl, ap, ◌∙◌}
use Rattle.std.specs.Bool.{Decides}
use borrow.Author.Tests.{clash}
use Rattle.std.proofs.lemmas.Bool.{and_parts}
use Rattle.language.specs.Basics.{pick, or, every, same}
use Rattle.language.specs.Bytes.{Name}
use Rattle.language.specs.Names.{has, joined, less}

same_decides : (x y : Name) → Decides (same x y) (x ≡ y)
unfolding same
same_decides = search rules

pub same_refl : (x : Name) → same x x ≡ true
same_refl x = (same_decides x x).1 refl

pub same_eq : (x y : Name) → same x y ≡ true → x ≡ y
same_eq x y = (same_decides x y).0

pub same_sym : (x y : Name) → same x y ≡ same y x
same_sym x y = go (same x y) (same y x) refl refl
  where
    go : (s t : Bool) → same x y ≡ s → same y x ≡ t → s ≡ t
    go true true p q = refl
    go false false p q = refl
    go true false p q = absurd (clash (sym q ∙ ap (λ z. same z x) (sym (same_eq x y p)) ∙ same_refl x))
    go false true p q = grind (arith, same_eq)

pub or_false : (a : Bool) → or a false ≡ a
or_false true = refl
or_false false = refl

pub or_left_true : (a b : Bool) → a ≡ true → or a b ≡ true
or_left_true true b h = refl
or_left_true false b h = absurd (clash h)

pub or_right_true : (a b : Bool) → b ≡ true → or a b ≡ true
or_right_true true b h = refl
or_right_true false b h = h

pub or_left_false : (a b : Bool) → or a b ≡ false → a ≡ false
or_left_false true b h = h
or_left_false false b h = refl

pub or_right_false : (a b : Bool) → or a b ≡ false → b ≡ false
or_right_false true b h = absurd (clash (sym h))
or_right_false false b h = h

pub not_or : (a b : Bool) → (not a && not b) ≡ not (or a b)
not_or true b = refl
not_or false b = refl

pub has-append : (xs ys : List Name) (x : Name) → has (xs ++ ys) x ≡ or (has xs x) (has ys x)
has-append [] ys x = refl
has-append (z ∷ zs) ys x = grind (arith, has-append zs ys x)

-- a name that is put in only if it is not there yet
pub has_put : (xs : List Name) (y x : Name) → has (pick (has xs y) xs (xs ++ y ∷ [])) x ≡ or (has xs x) (same x y)
has_put xs y x = go (has xs y) (same x y) refl refl
  where
    go : (t s : Bool) → has xs y ≡ t → same x y ≡ s → has (pick t xs (xs ++ y ∷ [])) x ≡ or (has xs x) s
    go true true h k = grind (arith, same_eq)
    go true false h k = sym (or_false (has xs x))
    go false s h k = grind (arith, has-append)

pub has-joined : (xs ys : List Name) (x : Name) → has (joined xs ys) x ≡ or (has xs x) (has ys x)
unfolding joined
has-joined xs [] x = sym (or_false (has xs x))
has-joined xs (y ∷ ys) x = grind (arith, has_put, has-joined (pick (has xs y) xs (xs ++ y ∷ [])) ys x)

pub has-less : (y : Name) (xs : List Name) (x : Name) → has (less y xs) x ≡ (not (same y x) && has xs x)
has-less y [] x = grind arith
has-less y (z ∷ zs) x = grind (arith, same_eq, has-less y zs x)

-- names of which xs has each
pub every-has : (xs ys : List Name) → every (has xs) ys ≡ true → (y : Name) → has ys y ≡ true → has xs y ≡ true
every-has xs [] h y k = absurd (clash k)
every-has xs (z ∷ zs) h y k = go (same y z) refl k (every-has xs zs (and_parts _ _ h).1 y)
  where
    go : (t : Bool) → same y z ≡ t → or t (has zs y) ≡ true → (has zs y ≡ true → has xs y ≡ true) → has xs y ≡ true
    go true e k ih = ap (has xs) (same_eq y z e) ∙ (and_parts _ _ h).0
    go false e k ih = ih k

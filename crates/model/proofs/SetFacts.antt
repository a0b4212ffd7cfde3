-- Which functions a program has after one of them was set. Assumes nothing.
use Rattle.std.proofs.Common.{arith, ◌≡◌, Bool, true, false, List, [], ◌∷◌, length, refl, ap}
use mathlib.Core.List.{nil≢cons}
use Rattle.language.specs.Basics.{pick, same}
use Rattle.language.specs.Bytes.{Name}
use Rattle.language.specs.Expr.{Fun, Program}
use Rattle.language.specs.Meaning.{fun_of}
use Rattle.language.proofs.ListFacts.{each_long}
use Rattle.language.proofs.NameFacts.{same_refl, same_eq}
use Rattle.model.specs.State.{set_fun}

pub pick_left : {A : Type 0} (t : Bool) (a b : A) → t ≡ true → pick t a b ≡ a
pick_left t a b h = ap (λ s. pick s a b) h

pub pick_right : {A : Type 0} (t : Bool) (a b : A) → t ≡ false → pick t a b ≡ b
pick_right t a b h = ap (λ s. pick s a b) h

pub found_name : (p : Program) (x : Name) (f : Fun) (fs : List Fun) → fun_of p x ≡ f ∷ fs → f.name ≡ x
unfolding fun_of
found_name [] x f fs h = absurd (nil≢cons h)
found_name (g ∷ gs) x f fs h = grind (arith, same_eq, found_name gs x f fs)

pub set_long : (p : Program) (x : Name) (g : Fun) → length (set_fun p x g) ≡ length p
set_long p x g = each_long (λ f. pick (same f.name x) g f) p

pub set_other : (p : Program) (x y : Name) (g : Fun) → g.name ≡ x → same x y ≡ false → fun_of (set_fun p x g) y ≡ fun_of p y
unfolding fun_of
set_other [] x y g n d = refl
set_other (f ∷ fs) x y g n d = grind (arith, same_eq, set_other fs x y g n d)

pub set_here : (p : Program) (x : Name) (f : Fun) (fs : List Fun) (g : Fun) → g.name ≡ x → fun_of p x ≡ f ∷ fs → fun_of (set_fun p x g) x ≡ g ∷ []
unfolding fun_of
set_here [] x f fs g n h = absurd (nil≢cons h)
set_here (k ∷ ks) x f fs g n h = grind (arith, same_refl, set_here ks x f fs g n)

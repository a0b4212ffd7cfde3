-- How a turn ends that leaves what the program means as it was: refused, or with a program that means the same. Assumes nothing.
use Rattle.std.proofs.Common.{◌≡◌, ℕ, ◌≤◌, Bool, true, false, List, ◌∷◌, length}
use Rattle.language.specs.Basics.{pick}
use Rattle.language.specs.Bytes.{Name}
use Rattle.language.specs.Expr.{Expr, Fun, Program}
use Rattle.language.specs.Meaning.{fun_of}
use Rattle.language.specs.Places.{at_place}
use Rattle.language.specs.Spelling.{program_spelled}
use Rattle.language.specs.Equivalence.{MeanSame}
use Rattle.language.proofs.MeanFacts.{mean_refl}
use Rattle.model.specs.State.{Plain, Turn, no, now_is, at_fun, at_expr}
use Rattle.model.proofs.TurnWalk.{walk-pick, walk-now, walk-fun, walk_expr}

-- what stands after a turn means what stood before it
abbrev pub Kept : Plain → Turn → Type 0
Kept w t = MeanSame w.now t.next.now

pub kept-refused : (w : Plain) (k : ℕ) → Kept w (no k w)
kept-refused w k = mean_refl w.now

pub kept-pick : (w : Plain) (t : Bool) (a b : Turn) → (t ≡ true → Kept w a) → (t ≡ false → Kept w b) → Kept w (pick t a b)
kept-pick w = walk-pick (Kept w)

-- a program that is not too large
pub kept-now : (w : Plain) (p : Program) → (length (program_spelled p) ≤ 65536 → MeanSame w.now p) → Kept w (now_is w p)
kept-now w p h = walk-now (Kept w) w p (kept-refused w 7) (λ few short. h short)

-- what is done with a function that there is
pub kept-fun : (w : Plain) (x : Name) (h : Fun → Turn) →
    ((f : Fun) (fs : List Fun) → fun_of w.now x ≡ f ∷ fs → Kept w (h f)) → Kept w (at_fun w x h)
kept-fun w x h = walk-fun (Kept w) w x h (kept-refused w 3)

-- what is done with what stands at a place of it
pub kept_expr : (w : Plain) (f : Fun) (ks : List ℕ) (h : Expr → Turn) →
    ((e : Expr) (es : List Expr) → at_place f.body ks ≡ e ∷ es → Kept w (h e)) → Kept w (at_expr w f ks h)
kept_expr w f ks h = walk_expr (Kept w) w f ks h (kept-refused w 3)

-- Walking into a turn: what holds of its refusals and of what is done at its end holds of the whole. Assumes nothing.
use Rattle.std.proofs.Common.{◌≡◌, ℕ, ◌≤◌, Bool, true, false, ◌&&◌, leb, List, [], ◌∷◌, length, take, refl, leb-true}
use Rattle.std.proofs.lemmas.Bool.{and_parts}
use Rattle.language.specs.Basics.{pick}
use Rattle.language.specs.Bytes.{Name}
use Rattle.language.specs.Expr.{Expr, Fun, Program}
use Rattle.language.specs.Meaning.{fun_of}
use Rattle.language.specs.Places.{at_place}
use Rattle.language.specs.Spelling.{program_spelled}
use Rattle.model.specs.State.{Plain, Turn, no, yes_with, now_is, at_first_fun, at_fun, of_some, at_expr}

-- a program in place of the one that stands, which can be gone back to
abbrev pub changed : Plain → Program → Turn
changed w p = yes_with [] (record { now = p; before = take 8 (w.now ∷ w.before) })

module _ (P : Turn → Type 0) where
  pub walk-pick : (t : Bool) (a b : Turn) → (t ≡ true → P a) → (t ≡ false → P b) → P (pick t a b)
  walk-pick true a b h k = h refl
  walk-pick false a b h k = k refl

  -- a program that is not too large, or 7
  pub walk-now : (w : Plain) (p : Program) → P (no 7 w) → (length p ≤ 1024 → length (program_spelled p) ≤ 65536 → P (changed w p)) → P (now_is w p)
  walk-now w p large h =
      let few = leb (length p) 1024 in
      let short = leb (length (program_spelled p)) 65536 in
      walk-pick (few && short) (changed w p) (no 7 w)
      (λ e. h (leb-true _ _ (and_parts _ _ e).0) (leb-true _ _ (and_parts _ _ e).1))
      (λ e. large)

  -- what is done with a function that there is, or 3
  pub walk-fun : (w : Plain) (x : Name) (h : Fun → Turn) → P (no 3 w) →
      ((f : Fun) (fs : List Fun) → fun_of w.now x ≡ f ∷ fs → P (h f)) → P (at_fun w x h)
  unfolding at_first_fun
  walk-fun w x h none k = go (fun_of w.now x) refl
    where
      go : (fs : List Fun) → fun_of w.now x ≡ fs → P (at_first_fun w fs h)
      go [] found = none
      go (f ∷ fs) found = k f fs found

  -- what is done with what stands at a place of it, or 3
  pub walk_expr : (w : Plain) (f : Fun) (ks : List ℕ) (h : Expr → Turn) → P (no 3 w) →
      ((e : Expr) (es : List Expr) → at_place f.body ks ≡ e ∷ es → P (h e)) → P (at_expr w f ks h)
  unfolding of_some
  walk_expr w f ks h none k = go (at_place f.body ks) refl
    where
      go : (es : List Expr) → at_place f.body ks ≡ es → P (of_some w es h)
      go [] stands = none
      go (e ∷ es) stands = k e es stands

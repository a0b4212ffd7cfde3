-- A machine whose memories hold what stands in the model does what the model does, whatever is said. Assumes nothing.
use Rattle.std.proofs.Common.{ℕ, Bool, List, [], ◌∷◌, refl}
use Rattle.model.specs.Command.{Command}
use Rattle.model.specs.State.{Plain}
use Rattle.model.specs.Engine.{said, Engine, runs, Steady}
use Rattle.model.specs.Whole.{Right, Means, Whole}
use Rattle.model.specs.Simulation.{Simulates}

module _ (known : Command → Bool) (e : Engine) (Holds : List ℕ → Plain → Type 0) (s : Simulates known e Holds) where
  pub right_from : (ts : List (List ℕ)) (m : List ℕ) (w : Plain) → Holds m w → Right known e m w ts
  unfolding Right
  right_from [] m w h = refl
  right_from (t ∷ ts) m w h =
      let a = s.answers m w t h in
      (a.steps, a.after, a.may, right_from ts (runs a.steps e m (said t) []).memory a.after a.holds)

  pub whole_from : Steady e → Means known → Whole known e
  unfolding Whole
  whole_from steady means = (steady, λ ts few. right_from ts e.start _ s.starts, means)

-- How a machine is shown to do what the model does: its memories hold what stands in the model, at the start and after every text.
-- Assumes nothing: these are definitions.
use Rattle.std.specs.Prelude.{ℕ, Bool, List, []}
use Rattle.model.specs.Command.{Command}
use Rattle.model.specs.State.{Plain, at_first}
use Rattle.model.specs.Engine.{said, Engine, runs}
use Rattle.model.specs.Whole.{May}

-- a text ends as the model has it, and what stands then is held
pub record Answered (known : Command → Bool) (e : Engine) (Holds : List ℕ → Plain → Type 0) (m : List ℕ) (w : Plain) (t : List ℕ) : Type 0 where
  pub steps : ℕ
  pub after : Plain
  pub may : May known w t (runs steps e m (said t) []) after
  pub holds : Holds (runs steps e m (said t) []).memory after

pub record Simulates (known : Command → Bool) (e : Engine) (Holds : List ℕ → Plain → Type 0) : Type 0 where
  pub starts : Holds e.start at_first
  pub answers : (m : List ℕ) (w : Plain) (t : List ℕ) → Holds m w → Answered known e Holds m w t

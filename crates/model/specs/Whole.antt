-- What a machine promises: that it does what the model does, and that the model leaves what programs mean as it was.
-- Assumes nothing: these are definitions.
use Rattle.std.specs.Prelude.{◌≡◌, ℕ, zero, suc, ◌≤◌, Bool, true, false, ◌⊎◌, List, [], ◌∷◌, length}
use Rattle.language.specs.Fits.{a_program}
use Rattle.language.specs.Equivalence.{MeanSame}
use Rattle.model.specs.Command.{Command, spelled, fits}
use Rattle.model.specs.State.{Plain, at_first, fine}
use Rattle.model.specs.Model.{turn, keeps}
use Rattle.model.specs.Engine.{said, Engine, Ran, runs, Steady}

abbrev pub Never : Type 0
Never = zero ≡ suc zero

unfoldable pub Said : List ℕ → Command → Type 0
Said text c = (spelled c ≡ text) × (fits c ≡ true)

-- How a command may end, and what stands then: as the model has it; or with 2, one that is not known; or with 1, no command.
unfoldable pub May : (Command → Bool) → Plain → List ℕ → Ran → Plain → Type 0
May known w text r w₁ =
    ((a : Command) × Said text a × (known a ≡ true) × (r.end ≡ (turn w a).reply) × (r.showed ≡ (turn w a).shows) × (w₁ ≡ (turn w a).next))
    ⊎ (((a : Command) × Said text a × (known a ≡ false) × (r.end ≡ 2) × (r.showed ≡ []) × (w₁ ≡ w))
    ⊎ (((a : Command) → Said text a → Never) × (r.end ≡ 1) × (r.showed ≡ []) × (w₁ ≡ w)))

-- What is said, one text after the other: each ends so.
unfoldable pub Right : (Command → Bool) → Engine → List ℕ → Plain → List (List ℕ) → Type 0
Right known e m w [] = zero ≡ zero
Right known e m w (t ∷ ts) =
    (n : ℕ) × (w₁ : Plain) × May known w t (runs n e m (said t) []) w₁ × Right known e (runs n e m (said t) []).memory w₁ ts

-- What every command that is known, loading and going back aside, leaves as it was: what the program means.
abbrev pub Means : (Command → Bool) → Type 0
Means known =
    (w : Plain) (c : Command) → known c ≡ true → keeps c ≡ true → fits c ≡ true → fine w.now ≡ true → a_program w.now ≡ true →
    MeanSame w.now (turn w c).next.now

-- THE MAIN PROMISE: the machine does what the model does, whatever is said; and what the model does leaves every program's meaning as it was.
unfoldable pub Whole : (Command → Bool) → Engine → Type 0
Whole known e =
    Steady e
    × ((ts : List (List ℕ)) → length ts ≤ 4294967296 → Right known e e.start at_first ts)
    × Means known

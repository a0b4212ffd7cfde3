-- What is true of the model: each statement is a type, and a function of this crate has it for its contract.
-- Assumes nothing: these are definitions.
use Rattle.std.specs.Prelude.{◌≡◌, ℕ, ◌<◌, ◌≤◌, true, false, List, [], length, nat_le, nat_lt}
use Rattle.language.specs.Basics.{every}
use Rattle.language.specs.Bytes.{Name}
use Rattle.language.specs.Expr.{Expr, Program}
use Rattle.language.specs.Meaning.{came, eval}
use Rattle.language.specs.Spelling.{program_spelled}
use Rattle.language.specs.Fits.{a_program}
use Rattle.language.specs.Equivalence.{is_deep}
use Rattle.language.specs.Statements.{values_in}
use Rattle.model.specs.Command.{Command, undo, spelled, fits}
use Rattle.model.specs.State.{Plain, fine}
use Rattle.model.specs.Inline.{quiet}
use Rattle.model.specs.Model.{turn, changes}

-- No two commands are spelled alike.
abbrev pub SpelledOnce : Type 0
SpelledOnce = (a c : Command) → fits a ≡ true → fits c ≡ true → spelled a ≡ spelled c → a ≡ c

-- What is quiet tells nothing and doesn't go wrong.
abbrev pub QuietQuiet : Type 0
QuietQuiet =
    (p : Program) (xs : List Name) (vs : List ℕ) (e : Expr) (n : ℕ) → length xs ≡ length vs → every (λ v. nat_lt v 4611686018427387904) vs ≡ true →
    quiet xs e ≡ true → is_deep (eval n p (values_in xs vs) e) ≡ false → (v : ℕ) × (eval n p (values_in xs vs) e ≡ came v [])

-- A program stays fine and never becomes too large.
abbrev pub StaysFine : Type 0
StaysFine =
    (w : Plain) (c : Command) → fits c ≡ true → fine w.now ≡ true → length (program_spelled w.now) ≤ 65536 →
    every fine w.before ≡ true → every (λ p. nat_le (length (program_spelled p)) 65536) w.before ≡ true →
    (fine (turn w c).next.now ≡ true) × (length (program_spelled (turn w c).next.now) ≤ 65536)

-- What is made of a program that fits is a program that fits.
abbrev pub StaysProgram : Type 0
StaysProgram =
    (w : Plain) (c : Command) → fits c ≡ true → a_program w.now ≡ true → every a_program w.before ≡ true →
    a_program (turn w c).next.now ≡ true

-- What is refused changes nothing.
abbrev pub RefusedSame : Type 0
RefusedSame = (w : Plain) (c : Command) → 0 < (turn w c).reply → (turn w c).next ≡ w

-- Going back after a change is as before it.
abbrev pub BackAgain : Type 0
BackAgain =
    (w : Plain) (c : Command) → changes c ≡ true → (turn w c).reply ≡ 0 → (turn (turn w c).next undo).next.now ≡ w.now

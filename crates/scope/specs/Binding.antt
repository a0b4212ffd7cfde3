-- What a binder that was found stands for. Assumes nothing: these are definitions.
use Rattle.std.specs.Prelude.{ℕ, ◌-◌, ◌≤◌, List, Some, None, Option}
use Rattle.expr.specs.Token.{spelled_in}
use Rattle.language.specs.Binders.{Binder, binder}
use Rattle.scope.specs.declared.binder.Binder as code

abbrev pub binder_of : List ℕ → code.Binder → Binder
binder_of bs b = binder (spelled_in bs b.name) (b.name.from - 8) b.body

abbrev pub binder_told : List ℕ → Option code.Binder → Option Binder
binder_told bs None = None
binder_told bs (Some b) = Some (binder_of bs b)

-- its name lies within a row of that length, and has its length before it
abbrev pub BinderLies : Option code.Binder → ℕ → Type 0
BinderLies None high = Unit {0}
BinderLies (Some b) high = (8 ≤ b.name.from) × (b.name.from ≤ b.name.to) × (b.name.to ≤ high)

-- What is written where a binder gets a new name. Assumes nothing: these are definitions.
use Rattle.std.specs.Prelude.{◌≡◌, ℕ, ◌<◌, ◌≤◌, List, length, Some, None, Option, Ok, Err, Result}
use Rattle.language.specs.Bytes.{Name}
use Rattle.language.specs.Splice.{names_replaced}
use Rattle.language.specs.Uses.{uses_of}
use Rattle.memory.specs.Layout.{slot_filled}
use Rattle.machine.specs.declared.told.Refusal.{Refusal}
use Rattle.machine.specs.declared.told.Refusal.TheVariants.{Captured, TooLarge}

abbrev pub with_names : List ℕ → Name → Name → Option (List ℕ) → Option (List ℕ)
with_names bs x y None = None
with_names bs x y (Some us) = Some (names_replaced bs x y us)

-- the program in which the binder whose name x stands at k, and gives it to the expression at i, is called y; none where a use would be captured
abbrev pub program_renamed : List ℕ → Name → Name → ℕ → ℕ → Option (List ℕ)
program_renamed bs x y k i = with_names bs x y (uses_of bs x y k i)

-- it was written into the area, or why it was not
abbrev pub Written : Option (List ℕ) → Result ℕ Refusal → List ℕ → Type 0
Written None (Ok k) a = ⊥
Written None (Err w) a = w ≡ Captured
Written (Some new) (Ok k) a = (k ≡ length new) × (length new ≤ 65536) × (a ≡ slot_filled new)
Written (Some new) (Err w) a = (w ≡ TooLarge) × (65536 < length new)

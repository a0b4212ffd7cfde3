-- The program with a new name, written whole. Assumes nothing: these are definitions.
use Rattle.std.specs.Prelude.{◌≡◌, ℕ, ◌<◌, List, length, Some, None, Option}
use Rattle.memory.specs.Layout.{slot_filled}

-- the whole program was written, or there is no room for it
abbrev pub Replaced : List ℕ → Option ℕ → List ℕ → Type 0
Replaced new None n = 65536 < length new
Replaced new (Some k) n = (k ≡ length new) × (n ≡ slot_filled new)

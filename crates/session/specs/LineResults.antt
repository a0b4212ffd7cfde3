-- What the reader of lines answers.
use Rattle.std.specs.Prelude.{◌≡◌, ℕ, ◌+◌, ◌<◌, true, false, List, length, Some, None, Ok, Err, vec_items, Option, Result, Vec}
use Rattle.session.specs.declared.hex.HexError.{HexError}
use Rattle.session.specs.declared.hex.HexError.TheVariants.{NotADigit, MissingDigit, OutOfMemory}
use Rattle.std.specs.declared.alloc.Global.{Global}
use Rattle.session.specs.Hex.{digits_in}
use Rattle.session.specs.HexResults.{RefusesHex}
use Rattle.session.specs.Lines.{margin_of, body, skipped, dash, command_of}

-- what is between the blanks of a line says nothing, a command, or is refused
abbrev pub ReadsBody : List ℕ → Result (Option (Vec ℕ Global)) HexError → Type 0
ReadsBody cs (Ok None) = skipped cs ≡ true
ReadsBody cs (Ok (Some v)) = (skipped cs ≡ false) × (command_of cs ≡ Some (vec_items v))
ReadsBody cs (Err error) = (skipped cs ≡ false) × (dash cs ≡ false) × RefusesHex cs error

abbrev pub NoCommand : List ℕ → Type 0
NoCommand line = (skipped (body line) ≡ false) × (command_of (body line) ≡ None)

-- a line that is refused is no command, at its first byte that is no digit or at its end where they are all digits
abbrev pub RefusesLine : List ℕ → HexError → Type 0
RefusesLine line (NotADigit i) = NoCommand line × (i ≡ margin_of line + digits_in (body line)) × (digits_in (body line) < length (body line))
RefusesLine line (MissingDigit i) = NoCommand line × (i ≡ margin_of line + length (body line)) × (digits_in (body line) ≡ length (body line))
RefusesLine line OutOfMemory = Unit {0}

abbrev pub ReadsLine : List ℕ → Result (Option (Vec ℕ Global)) HexError → Type 0
ReadsLine line (Ok None) = skipped (body line) ≡ true
ReadsLine line (Ok (Some v)) = (skipped (body line) ≡ false) × (command_of (body line) ≡ Some (vec_items v))
ReadsLine line (Err error) = RefusesLine line error

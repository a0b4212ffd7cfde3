-- What the reader and the writer of hex answer.
use Rattle.std.specs.Prelude.{◌≡◌, ℕ, ◌+◌, ◌^◌, ◌<◌, ◌≤◌, List, [], ◌∷◌, ◌++◌, length, take, Some, None, Ok, Err, vec_items, Result, Vec, slice_index}
use Rattle.std.specs.declared.alloc.AllocError.{AllocError}
use Rattle.std.specs.declared.alloc.Global.{Global}
use Rattle.session.specs.declared.hex.HexError.{HexError}
use Rattle.session.specs.declared.hex.HexError.TheVariants.{NotADigit, MissingDigit, OutOfMemory}
use Rattle.session.specs.Hex.{hex_of, digit_value, digits_in, bytes_of}

-- what stands at a position of text, which may be past its end
abbrev pub DigitAt : List ℕ → ℕ → Result ℕ HexError → Type 0
DigitAt text at (Ok value) = (at < length text) × (digit_value (slice_index text at) ≡ Some value) × (value < 16)
DigitAt text at (Err (NotADigit i)) = (at < length text) × (digit_value (slice_index text at) ≡ None) × (i ≡ at)
DigitAt text at (Err (MissingDigit i)) = (length text ≤ at) × (i ≡ at)
DigitAt text at (Err OutOfMemory) = ⊥

-- text is refused at its first byte that is no digit, or at its end where they are all digits
abbrev pub RefusesHex : List ℕ → HexError → Type 0
RefusesHex text (NotADigit i) = (bytes_of text ≡ None) × (i ≡ digits_in text) × (i < length text)
RefusesHex text (MissingDigit i) = (bytes_of text ≡ None) × (i ≡ digits_in text) × (i ≡ length text)
RefusesHex text OutOfMemory = Unit {0}

-- at most two bytes of text are one byte, or are refused
abbrev pub ReadsByte : List ℕ → Result ℕ HexError → Type 0
ReadsByte pair (Ok byte) = bytes_of pair ≡ Some (byte ∷ [])
ReadsByte pair (Err (NotADigit i)) = RefusesHex pair (NotADigit i)
ReadsByte pair (Err (MissingDigit i)) = RefusesHex pair (MissingDigit i)
ReadsByte pair (Err OutOfMemory) = ⊥

abbrev pub ReadsHex : List ℕ → Result (Vec ℕ Global) HexError → Type 0
ReadsHex text (Ok v) = bytes_of text ≡ Some (vec_items v)
ReadsHex text (Err error) = RefusesHex text error

-- a position that is moved on fits its type
abbrev pub FitsBeyond : ℕ → HexError → Type 0
FitsBeyond margin (NotADigit i) = margin + i < 2 ^ 64
FitsBeyond margin (MissingDigit i) = margin + i < 2 ^ 64
FitsBeyond margin OutOfMemory = Unit {0}

abbrev pub moved : ℕ → HexError → HexError
moved margin (NotADigit i) = NotADigit (margin + i)
moved margin (MissingDigit i) = MissingDigit (margin + i)
moved margin OutOfMemory = OutOfMemory

-- the digits of bytes are appended to old, all of them or, where memory fails, those of some first bytes
abbrev pub WritesHex : List ℕ → List ℕ → List ℕ → Result (Unit {0}) AllocError → Type 0
WritesHex old bytes new (Ok _) = new ≡ old ++ hex_of bytes
WritesHex old bytes new (Err _) = (n : ℕ) × (n ≤ length bytes) × (new ≡ old ++ hex_of (take n bytes))

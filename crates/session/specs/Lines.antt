-- What a line of a session says: nothing, or a command. Assumes nothing: these are definitions.
use Rattle.std.specs.Prelude.{ℕ, ◌-◌, Bool, cond, ◌&&◌, ◌||◌, List, [], length, take, drop, Some, Option, ◌==◌, slice_index}
use Rattle.std.specs.List.{prefix_len, suffix_len}
use Rattle.session.specs.Hex.{bytes_of}

-- a space, a tab, or a part of a line's end
abbrev pub blank : ℕ → Bool
blank c = ((c == 32 || c == 9) || c == 13) || c == 10

-- how many blanks stand before the line
abbrev pub margin_of : List ℕ → ℕ
margin_of line = prefix_len blank line

abbrev pub without_end : List ℕ → List ℕ
without_end line = take (length line - suffix_len blank line) line

-- the line without the blanks around it
abbrev pub body : List ℕ → List ℕ
body line = without_end (drop (margin_of line) line)

-- nothing, or a comment, which begins with #
abbrev pub skipped : List ℕ → Bool
skipped cs = length cs == 0 || slice_index cs 0 == 35

-- a lone - is the command of no bytes
abbrev pub dash : List ℕ → Bool
dash cs = length cs == 1 && slice_index cs 0 == 45

abbrev pub command_of : List ℕ → Option (List ℕ)
command_of cs = cond (dash cs) (Some []) (bytes_of cs)

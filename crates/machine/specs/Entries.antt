-- Entries of the table of functions, two words for each. Assumes nothing: these are definitions.
use Rattle.std.specs.Prelude.{ℕ, List}
use Rattle.language.specs.Basics.{flat}

-- the words of the entries, one after the other
abbrev pub entries : List (List ℕ) → List ℕ
entries t = flat (λ e. e) t

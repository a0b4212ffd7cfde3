-- Bytes in which some rows of one width are replaced by another row. Total: any positions give something definite.
-- Assumes nothing: these are definitions.
use Rattle.std.specs.Prelude.{ℕ, ◌+◌, List, [], ◌∷◌, ◌++◌, length, drop}
use Rattle.std.specs.List.{between}
use Rattle.language.specs.Bytes.{Name, with_length}

-- from j on: `new` for the `width` bytes at each of the positions, which are in order
unfoldable pub spliced_from : List ℕ → List ℕ → ℕ → List ℕ → ℕ → List ℕ
spliced_from bs new width [] j = drop j bs
spliced_from bs new width (k ∷ ks) j = between j k bs ++ (new ++ spliced_from bs new width ks (k + width))

-- the name x, which stands at these positions, is y
abbrev pub names_replaced : List ℕ → Name → Name → List ℕ → List ℕ
names_replaced bs x y ks = spliced_from bs (with_length y) (8 + length x) ks 0

-- A table of two words for each function, a number that its name comes to and where it begins, so that most names are told apart by one
-- comparison of numbers. Assumes nothing: these are definitions.
use Rattle.std.specs.Prelude.{ℕ, zero, suc, ◌+◌, ◌*◌, ◌%◌, Bool, true, not, ◌&&◌, List, [], ◌∷◌, ◌==◌}
use Rattle.std.specs.List.{between}
use Rattle.language.specs.Basics.{same}
use Rattle.language.specs.Bytes.{Name}
use Rattle.language.specs.Reading.{name_end, fun_end}
use Rattle.language.specs.Contents.{listed, name_there}

unfoldable pub hashed : ℕ → List ℕ → ℕ
hashed h [] = h
hashed h (b ∷ bs) = hashed ((h * 1099511628211 + b) % 18446744073709551616) bs

-- names that are the same come to the same number
abbrev pub hash : Name → ℕ
hash x = hashed 0 x

-- the table of so many functions
unfoldable pub table_from : ℕ → List ℕ → ℕ → List ℕ
table_from zero bs i = []
table_from (suc n) bs i = listed (name_end bs i) (λ j. hash (between (i + 8) j bs) ∷ i ∷ listed (fun_end bs i) (λ k. table_from n bs k))

-- no function of the table has the name that stands at o and comes to h
unfoldable pub none_like : List ℕ → ℕ → ℕ → List ℕ → Bool
none_like bs h o [] = true
none_like bs h o (g ∷ []) = true
none_like bs h o (g ∷ p ∷ t) = not (h == g && same (name_there bs o) (name_there bs p)) && none_like bs h o t

-- no two functions of the table have one name
unfoldable pub all_differ : List ℕ → List ℕ → Bool
all_differ bs [] = true
all_differ bs (h ∷ []) = true
all_differ bs (h ∷ o ∷ t) = none_like bs h o t && all_differ bs t

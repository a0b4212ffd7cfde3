-- What a program's spelling has: its functions' names, where a function stands, and whether names differ. Total, as all reading is.
-- Assumes nothing: these are definitions.
use Rattle.std.specs.Prelude.{ℕ, zero, suc, ◌+◌, Bool, true, ◌&&◌, List, [], ◌∷◌, Some, None, Option}
use Rattle.std.specs.List.{between}
use Rattle.language.specs.Basics.{pick, same}
use Rattle.language.specs.Bytes.{Name}
use Rattle.language.specs.Names.{distinct}
use Rattle.language.specs.Reading.{found, number_at, name_end, params_end, fun_end}

abbrev pub listed : {A : Type 0} → Option ℕ → (ℕ → List A) → List A
listed None f = []
listed (Some j) f = f j

abbrev pub passed : Option ℕ → (ℕ → Bool) → Bool
passed None f = true
passed (Some j) f = f j

-- the bytes of the name there; none where no name stands
abbrev pub name_there : List ℕ → ℕ → Name
name_there bs i = listed (name_end bs i) (λ j. between (i + 8) j bs)

-- so many names, one after the other
unfoldable pub names_from : ℕ → List ℕ → ℕ → List Name
names_from zero bs i = []
names_from (suc n) bs i = listed (name_end bs i) (λ j. between (i + 8) j bs ∷ names_from n bs j)

-- the own names of the function there
abbrev pub own_names : List ℕ → ℕ → List Name
own_names bs i = listed (name_end bs i) (λ j. listed (number_at bs j) (λ n. names_from n bs (j + 8)))

-- the names of so many functions
unfoldable pub fun_names : ℕ → List ℕ → ℕ → List Name
fun_names zero bs i = []
fun_names (suc n) bs i = listed (name_end bs i) (λ j. between (i + 8) j bs ∷ listed (fun_end bs i) (λ k. fun_names n bs k))

-- the own names of each of so many functions differ
unfoldable pub owns_differ : ℕ → List ℕ → ℕ → Bool
owns_differ zero bs i = true
owns_differ (suc n) bs i = distinct (own_names bs i) && passed (fun_end bs i) (λ k. owns_differ n bs k)

abbrev pub names_differ : List ℕ → ℕ → Bool
names_differ bs n = distinct (fun_names n bs 8) && owns_differ n bs 8

-- no two functions have one name, and no function has two own names that are one
unfoldable pub is_fine : List ℕ → Bool
is_fine bs = passed (number_at bs 0) (λ n. names_differ bs n)

-- where the function of that name begins, among so many
unfoldable pub find_from : ℕ → List ℕ → Name → ℕ → Option ℕ
find_from zero bs x i = None
find_from (suc n) bs x i =
    found (name_end bs i) (λ j. pick (same (between (i + 8) j bs) x) (Some i) (found (fun_end bs i) (λ k. find_from n bs x k)))

abbrev pub find_function : List ℕ → Name → Option ℕ
find_function bs x = found (number_at bs 0) (λ n. find_from n bs x 8)

-- where the body of the function there begins
abbrev pub body_of : List ℕ → ℕ → Option ℕ
body_of bs i = found (name_end bs i) (λ j. params_end bs j)

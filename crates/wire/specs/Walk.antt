-- Names, and functions, that stand one after the other: where each begins. Assumes nothing: these are definitions.
use Rattle.std.specs.Prelude.{◌≡◌, ℕ, zero, suc, ◌+◌, List, [], ◌∷◌, Some, None, Option}
use Rattle.std.specs.Iterator.{YieldsFirst}
use Rattle.language.specs.Bytes.{Name}
use Rattle.language.specs.Reading.{number_at, name_end, fun_end}
use Rattle.language.specs.Contents.{listed, names_from}
use Rattle.wire.specs.declared.functions.Function.{Function}
use Rattle.wire.specs.declared.functions.Functions.{Functions}
use Rattle.wire.specs.declared.names.Names.{Names}

-- a call from s gave the first of what was left, or nothing where nothing was left, and kept the row that is read
abbrev pub YieldsFirstOf : {S A R : Type 0} → (S → List A) → (S → R) → S → Option A → S → Type 0
YieldsFirstOf rest row s r t = YieldsFirst rest s r t × (row t ≡ row s)

-- where each of so many names begins
unfoldable pub name_places : ℕ → List ℕ → ℕ → List ℕ
name_places zero bs i = []
name_places (suc n) bs i = listed (name_end bs i) (λ j. i ∷ name_places n bs j)

-- where each of those begins that are left, and what they are
abbrev pub places_left : {R : Type 0} → (R → List ℕ) → Names R → List ℕ
places_left bytes s = name_places s.count (bytes s.src.now) s.at

abbrev pub names_left : {R : Type 0} → (R → List ℕ) → Names R → List Name
names_left bytes s = names_from s.count (bytes s.src.now) s.at

-- the names behind their count, which stands there
abbrev pub names_counted : List ℕ → ℕ → List Name
names_counted bs i = listed (number_at bs i) (λ n. names_from n bs (i + 8))

abbrev pub names_told : {R : Type 0} → (R → List ℕ) → Option (Names R) → List Name
names_told bytes None = []
names_told bytes (Some s) = names_left bytes s

-- so many functions: where each begins, and where its name ends
unfoldable pub functions_from : ℕ → List ℕ → ℕ → List Function
functions_from zero bs i = []
functions_from (suc n) bs i = listed (name_end bs i) (λ j. record { at = i; params = j } ∷ listed (fun_end bs i) (λ k. functions_from n bs k))

-- where the next function begins: after the one before it, or where the first does
abbrev pub next_place : List ℕ → ℕ → Option ℕ → Option ℕ
next_place bs i None = Some i
next_place bs i (Some o) = fun_end bs o

abbrev pub functions_left : {R : Type 0} → (R → List ℕ) → Functions R → List Function
functions_left bytes s = listed (next_place (bytes s.src.now) s.first s.before) (λ k. functions_from s.count (bytes s.src.now) k)

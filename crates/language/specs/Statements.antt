-- What is true of the language: each statement is a type, and a function of this crate has it for its contract.
-- Assumes nothing: these are definitions.
use Rattle.std.specs.Prelude.{◌≡◌, ℕ, ◌+◌, false, List, [], ◌∷◌, length}
use Rattle.language.specs.Bytes.{Name}
use Rattle.language.specs.Expr.{Expr, Program}
use Rattle.language.specs.Meaning.{Bound, eval}
use Rattle.language.specs.Places.{at_place, put_at}
use Rattle.language.specs.Names.{has, free}
use Rattle.language.specs.Bare.{bare}
use Rattle.language.specs.Equivalence.{is_deep}

-- What a run came to, it comes to however deep it may go.
abbrev pub DeeperSame : Type 0
DeeperSame =
    (p : Program) (bs : List Bound) (e : Expr) (n k : ℕ) → is_deep (eval n p bs e) ≡ false → eval (k + n) p bs e ≡ eval n p bs e

-- names with a value each
unfoldable pub values_in : List Name → List ℕ → List Bound
values_in [] vs = []
values_in (x ∷ xs) [] = []
values_in (x ∷ xs) (v ∷ vs) = record { name = x; value = v } ∷ values_in xs vs

-- Expressions that differ only in the names that they choose come to the same.
abbrev pub AlikeSame : Type 0
AlikeSame =
    (p : Program) (xs ys : List Name) (vs : List ℕ) (a b : Expr) (n : ℕ) → length xs ≡ length vs → length ys ≡ length vs →
    bare xs a ≡ bare ys b → eval n p (values_in xs vs) a ≡ eval n p (values_in ys vs) b

-- Only names that are free matter.
abbrev pub FreeMatter : Type 0
FreeMatter =
    (p : Program) (bs : List Bound) (x : Name) (v n : ℕ) (e : Expr) → has (free e) x ≡ false →
    eval n p (record { name = x; value = v } ∷ bs) e ≡ eval n p bs e

-- What was put at a place is there.
abbrev pub ThereAgain : Type 0
ThereAgain = (a e b : Expr) (ks : List ℕ) → at_place a ks ≡ b ∷ [] → at_place (put_at a ks e) ks ≡ e ∷ []

-- Looking a name up among names of its own length. Assumes nothing: these are definitions.
use Rattle.std.specs.Prelude.{◌≡◌, ℕ, zero, suc, ◌/◌, ◌%◌, List, [], ◌∷◌, length, take, drop, Some, None, Ok, Option, Result, IsErrAnd, ◌==◌, nat_le, nat_lt}
use Rattle.language.specs.Basics.{pick}
use Rattle.language.specs.Bare.{how_near}
use Rattle.expr.specs.declared.look.LookError.{LookError}
use Rattle.expr.specs.declared.look.LookError.TheVariants.{EmptyName, BrokenNames}

-- so many names of so many bytes each, one after the other
unfoldable pub cut : ℕ → ℕ → List ℕ → List (List ℕ)
cut zero w bs = []
cut (suc n) w bs = take w bs ∷ cut n w (drop w bs)

-- why none is looked for: 1, a name has no bytes; 2, the names are not whole; 0 if one is
abbrev pub refusal : List ℕ → List ℕ → ℕ
refusal names name = pick (nat_le 1 (length name)) (pick (length names % (length name) == 0) 0 2) 1

-- the number of each
abbrev pub error_number : LookError → ℕ
error_number EmptyName = 1
error_number BrokenNames = 2

abbrev pub reply_of : List ℕ → Option ℕ
reply_of [] = None
reply_of (k ∷ ks) = Some k

abbrev pub LookSays : List ℕ → List ℕ → ℕ → Result (Option ℕ) LookError → Type 0
LookSays names name zero r = r ≡ Ok (reply_of (how_near (cut (length names / (length name)) (length name) names) name 0))
LookSays names name (suc k) r = IsErrAnd r (λ e. error_number e ≡ suc k)

abbrev pub smaller : ℕ → ℕ → ℕ
smaller a b = pick (nat_lt a b) a b

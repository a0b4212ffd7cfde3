-- When two programs mean the same. Assumes nothing: these are definitions.
use Rattle.std.specs.Prelude.{◌≡◌, ℕ, Bool, true, false, List, nat_lt}
use Rattle.language.specs.Basics.{every}
use Rattle.language.specs.Expr.{Program, main}
use Rattle.language.specs.Meaning.{Came, came, wrong, deep, apply}

unfoldable pub is_deep : Came → Bool
is_deep (came v ts) = false
is_deep (wrong k ts) = false
is_deep deep = true

-- Whatever numbers main is called with: what it comes to in p, it comes to in q, however deep each has to go for it.
unfoldable pub AsDeep : Program → Program → Type 0
AsDeep p q =
    (vs : List ℕ) (n : ℕ) → every (λ v. nat_lt v 4611686018427387904) vs ≡ true → is_deep (apply n p main vs) ≡ false →
    (m : ℕ) × (apply m q main vs ≡ apply n p main vs)

unfoldable pub MeanSame : Program → Program → Type 0
MeanSame p q = AsDeep p q × AsDeep q p

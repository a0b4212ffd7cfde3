-- Names that are free in an expression, in order of their first use; rows of different names.
-- Assumes nothing: these are definitions.
use Rattle.std.specs.Prelude.{Bool, true, not, ◌&&◌, List, [], ◌∷◌, ◌++◌}
use Rattle.language.specs.Basics.{pick, any, those, same}
use Rattle.language.specs.Bytes.{Name}
use Rattle.language.specs.Expr.{Expr, num, var, bin, call, bind, choice, tell, Exprs, no_exprs, expr_and}

abbrev pub has : List Name → Name → Bool
has xs x = any (same x) xs

unfoldable pub joined : List Name → List Name → List Name
joined xs [] = xs
joined xs (y ∷ ys) = joined (pick (has xs y) xs (xs ++ y ∷ [])) ys

abbrev pub less : Name → List Name → List Name
less x xs = those (λ y. not (same x y)) xs

unfoldable mutual
  pub free : Expr → List Name
  free (num n) = []
  free (var x) = x ∷ []
  free (bin k a b) = joined (free a) (free b)
  free (call f es) = free_all es
  free (bind x a b) = joined (free a) (less x (free b))
  free (choice c a b) = joined (joined (free c) (free a)) (free b)
  free (tell a) = free a

  pub free_all : Exprs → List Name
  free_all no_exprs = []
  free_all (expr_and e es) = joined (free e) (free_all es)

-- no name comes twice
unfoldable pub distinct : List Name → Bool
distinct [] = true
distinct (x ∷ xs) = not (has xs x) && distinct xs

-- Places: an expression within another, by the numbers of parts from the outside. Assumes nothing: these are definitions.
use Rattle.std.specs.Prelude.{ℕ, zero, suc, List, [], ◌∷◌, ◌==◌}
use Rattle.language.specs.Basics.{pick}
use Rattle.language.specs.Expr.{Expr, num, var, bin, call, bind, choice, tell, Exprs, no_exprs, expr_and, parts}

unfoldable pub nth_expr : List Expr → ℕ → List Expr
nth_expr [] k = []
nth_expr (e ∷ es) zero = e ∷ []
nth_expr (e ∷ es) (suc k) = nth_expr es k

abbrev pub in_some : List Expr → (Expr → List Expr) → List Expr
in_some [] f = []
in_some (e ∷ es) f = f e

unfoldable pub at_place : Expr → List ℕ → List Expr
at_place e [] = e ∷ []
at_place e (k ∷ ks) = in_some (nth_expr (parts e) k) (λ a. at_place a ks)

unfoldable pub put_nth : Exprs → ℕ → Expr → Exprs
put_nth no_exprs k e = no_exprs
put_nth (expr_and a as₁) zero e = expr_and e as₁
put_nth (expr_and a as₁) (suc k) e = expr_and a (put_nth as₁ k e)

-- the kth part put in place
unfoldable pub with_part : Expr → ℕ → Expr → Expr
with_part (num n) k e = num n
with_part (var x) k e = var x
with_part (bin o a b) k e = pick (k == 0) (bin o e b) (bin o a e)
with_part (call f es) k e = call f (put_nth es k e)
with_part (bind x a b) k e = pick (k == 0) (bind x e b) (bind x a e)
with_part (choice c a b) k e = pick (k == 0) (choice e a b) (pick (k == 1) (choice c e b) (choice c a e))
with_part (tell a) k e = tell e

abbrev pub put_some : Expr → ℕ → List Expr → (Expr → Expr) → Expr
put_some a j [] f = a
put_some a j (b ∷ bs) f = with_part a j (f b)

unfoldable pub put_at : Expr → List ℕ → Expr → Expr
put_at a [] e = e
put_at a (k ∷ ks) e = put_some a k (nth_expr (parts a) k) (λ b. put_at b ks e)

-- What holds of an expression if it holds of its parts holds of every expression; and every expression is spelled with nine bytes at least.
-- Assumes nothing.
use Rattle.std.proofs.Common.{◌≤◌, length, arith}
use Rattle.std.specs.List.{AllByRecursion}
use Rattle.language.specs.Expr.{Expr, num, var, bin, call, bind, choice, tell, Exprs, no_exprs, expr_and, exprs_in, parts}
use Rattle.language.specs.Spelling.{expr_spelled}
use Rattle.language.proofs.FitFacts.{num-long, var-long, bin-long, call_long, bind-long, choice-long, tell-long}

mutual
  unfolding parts

  pub by_parts : (P : Expr → Type 0) → ((e : Expr) → AllByRecursion P (parts e) → P e) → (e : Expr) → P e
  by_parts P step (num n) = step (num n) tt
  by_parts P step (var x) = step (var x) tt
  by_parts P step (bin k a b) = step (bin k a b) (by_parts P step a, (by_parts P step b, tt))
  by_parts P step (call f es) = step (call f es) (all_by_parts P step es)
  by_parts P step (bind x a b) = step (bind x a b) (by_parts P step a, (by_parts P step b, tt))
  by_parts P step (choice c a b) = step (choice c a b) (by_parts P step c, (by_parts P step a, (by_parts P step b, tt)))
  by_parts P step (tell a) = step (tell a) (by_parts P step a, tt)

  all_by_parts : (P : Expr → Type 0) → ((e : Expr) → AllByRecursion P (parts e) → P e) → (es : Exprs) → AllByRecursion P (exprs_in es)
  all_by_parts P step no_exprs = tt
  all_by_parts P step (expr_and e es) = (by_parts P step e, all_by_parts P step es)

pub spelled_nine : (e : Expr) → 9 ≤ length (expr_spelled e)
spelled_nine (num n) = omega (arith, num-long n)
spelled_nine (var x) = omega (arith, var-long x)
spelled_nine (bin k a b) = omega (arith, bin-long k a b, spelled_nine a)
spelled_nine (call f es) = omega (arith, call_long f es)
spelled_nine (bind x a b) = omega (arith, bind-long x a b)
spelled_nine (choice c a b) = omega (arith, choice-long c a b, spelled_nine c)
spelled_nine (tell a) = omega (arith, tell-long a, spelled_nine a)

-- Expressions, functions and programs as bytes. Assumes nothing: these are definitions.
use Rattle.std.specs.Prelude.{ℕ, List, [], ◌∷◌, ◌++◌, length}
use Rattle.language.specs.Basics.{flat}
use Rattle.language.specs.Bytes.{eight, with_length}
use Rattle.language.specs.Expr.{Expr, num, var, bin, call, bind, choice, tell, Exprs, no_exprs, expr_and, Fun, Program, count_exprs}

unfoldable mutual
  pub expr_spelled : Expr → List ℕ
  expr_spelled (num n) = 0 ∷ eight n
  expr_spelled (var x) = 1 ∷ with_length x
  expr_spelled (bin k a b) = 2 ∷ k ∷ expr_spelled a ++ expr_spelled b
  expr_spelled (call f es) = 3 ∷ with_length f ++ (count_exprs es) ∷ exprs_spelled es
  expr_spelled (bind x a b) = 4 ∷ with_length x ++ expr_spelled a ++ expr_spelled b
  expr_spelled (choice c a b) = 5 ∷ expr_spelled c ++ expr_spelled a ++ expr_spelled b
  expr_spelled (tell a) = 6 ∷ expr_spelled a

  pub exprs_spelled : Exprs → List ℕ
  exprs_spelled no_exprs = []
  exprs_spelled (expr_and e es) = expr_spelled e ++ exprs_spelled es

abbrev pub fun_spelled : Fun → List ℕ
fun_spelled f = with_length f.name ++ eight (length f.params) ++ flat with_length f.params ++ expr_spelled f.body

abbrev pub program_spelled : Program → List ℕ
program_spelled p = eight (length p) ++ flat fun_spelled p

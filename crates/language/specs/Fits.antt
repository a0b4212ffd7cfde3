-- Which names, expressions, functions and programs there may be. Assumes nothing: these are definitions.
use Rattle.std.specs.Prelude.{Bool, true, ◌&&◌, length, nat_le, nat_lt}
use Rattle.language.specs.Basics.{every}
use Rattle.language.specs.Bytes.{all_bytes, Name}
use Rattle.language.specs.Expr.{limit, Expr, num, var, bin, call, bind, choice, tell, Exprs, no_exprs, expr_and, Fun, Program, count_exprs}
use Rattle.language.specs.Spelling.{program_spelled}

-- 1 to 32 bytes
abbrev pub a_name : Name → Bool
a_name x = (nat_le 1 (length x) && nat_le (length x) 32) && all_bytes x

unfoldable mutual
  pub an_expr : Expr → Bool
  an_expr (num n) = nat_lt n limit
  an_expr (var x) = a_name x
  an_expr (bin k a b) = nat_lt k 6 && (an_expr a && an_expr b)
  an_expr (call f es) = (a_name f && nat_le (count_exprs es) 16) && all_exprs es
  an_expr (bind x a b) = a_name x && (an_expr a && an_expr b)
  an_expr (choice c a b) = an_expr c && (an_expr a && an_expr b)
  an_expr (tell a) = an_expr a

  pub all_exprs : Exprs → Bool
  all_exprs no_exprs = true
  all_exprs (expr_and e es) = an_expr e && all_exprs es

-- at most 16 own names
abbrev pub a_fun : Fun → Bool
a_fun f = (a_name f.name && (nat_le (length f.params) 16 && every a_name f.params)) && an_expr f.body

-- at most 1,024 functions and 65,536 bytes
abbrev pub a_program : Program → Bool
a_program p = (nat_le (length p) 1024 && every a_fun p) && nat_le (length (program_spelled p)) 65536

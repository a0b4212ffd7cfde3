-- Turning an if the other way round. Assumes nothing: these are definitions.
use Rattle.std.specs.Prelude.{ℕ, List}
use Rattle.language.specs.Expr.{Expr, num, var, bin, call, bind, choice, tell, Fun}
use Rattle.model.specs.State.{Plain, Turn, no, put_in}

-- the condition is compared with 0, and the branches change places
abbrev pub if_turned : Expr → Expr → Expr → Expr
if_turned c a b = choice (bin 4 c (num 0)) b a

unfoldable pub cond_turned : Plain → Fun → List ℕ → Expr → Turn
cond_turned w f ks (num n) = no 6 w
cond_turned w f ks (var x) = no 6 w
cond_turned w f ks (bin k a b) = no 6 w
cond_turned w f ks (call g es) = no 6 w
cond_turned w f ks (bind x a b) = no 6 w
cond_turned w f ks (choice c a b) = put_in w f ks (if_turned c a b)
cond_turned w f ks (tell a) = no 6 w

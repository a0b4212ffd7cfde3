-- Renaming what a let gives, or a function's own name. Assumes nothing: these are definitions.
use Rattle.std.specs.Prelude.{ℕ, zero, suc, ◌&&◌, List, [], ◌∷◌}
use Rattle.language.specs.Basics.{pick, same}
use Rattle.language.specs.Bytes.{Name}
use Rattle.language.specs.Expr.{Expr, num, var, bin, call, bind, choice, tell, Exprs, no_exprs, expr_and, Fun}
use Rattle.language.specs.Places.{put_at}
use Rattle.language.specs.Names.{distinct}
use Rattle.language.specs.Bare.{alike}
use Rattle.model.specs.State.{Plain, Turn, no, now_is, set_fun, put_in}

-- a name's uses, but not where it is given anew
unfoldable mutual
  pub renamed : Name → Name → Expr → Expr
  renamed x y (num n) = num n
  renamed x y (var z) = var (pick (same x z) y z)
  renamed x y (bin k a b) = bin k (renamed x y a) (renamed x y b)
  renamed x y (call f es) = call f (renamed_all x y es)
  renamed x y (bind z a b) = bind z (renamed x y a) (pick (same x z) b (renamed x y b))
  renamed x y (choice c a b) = choice (renamed x y c) (renamed x y a) (renamed x y b)
  renamed x y (tell a) = tell (renamed x y a)

  pub renamed_all : Name → Name → Exprs → Exprs
  renamed_all x y no_exprs = no_exprs
  renamed_all x y (expr_and e es) = expr_and (renamed x y e) (renamed_all x y es)

-- the same, if every name still means what it meant
abbrev pub put_alike : Plain → Fun → List ℕ → Expr → Turn
put_alike w f ks e =
    pick (alike f.params f.body f.params (put_at f.body ks e)) (put_in w f ks e) (no 5 w)

-- 6: it's not of the kind that's asked for
unfoldable pub bind_renamed : Plain → Fun → List ℕ → Name → Expr → Turn
bind_renamed w f ks y (num n) = no 6 w
bind_renamed w f ks y (var x) = no 6 w
bind_renamed w f ks y (bin k a b) = no 6 w
bind_renamed w f ks y (call g es) = no 6 w
bind_renamed w f ks y (bind x a b) = put_alike w f ks (bind y a (renamed x y b))
bind_renamed w f ks y (choice c a b) = no 6 w
bind_renamed w f ks y (tell a) = no 6 w

unfoldable pub put_name : List Name → ℕ → Name → List Name
put_name [] i y = []
put_name (x ∷ xs) zero y = y ∷ xs
put_name (x ∷ xs) (suc i) y = x ∷ put_name xs i y

unfoldable pub nth_name : List Name → ℕ → List Name
nth_name [] i = []
nth_name (x ∷ xs) zero = x ∷ []
nth_name (x ∷ xs) (suc i) = nth_name xs i

unfoldable pub param_renamed : Plain → Fun → ℕ → Name → List Name → Turn
param_renamed w f i y [] = no 3 w
param_renamed w f i y (x ∷ xs) =
    pick (distinct (put_name f.params i y) && alike f.params f.body (put_name f.params i y) (renamed x y f.body))
    (now_is w (set_fun w.now f.name (record { name = f.name; params = put_name f.params i y; body = renamed x y f.body })))
    (no 5 w)

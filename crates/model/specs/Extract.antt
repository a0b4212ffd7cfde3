-- Making a function of what stands at a place. Assumes nothing: these are definitions.
use Rattle.std.specs.Prelude.{ℕ, List, [], ◌∷◌, ◌++◌, length, ◌==◌, nat_le}
use Rattle.language.specs.Basics.{pick, every}
use Rattle.language.specs.Bytes.{Name}
use Rattle.language.specs.Expr.{Expr, num, var, bin, call, bind, choice, tell, Exprs, no_exprs, expr_and, Fun, parts}
use Rattle.language.specs.Places.{nth_expr, put_at}
use Rattle.language.specs.Names.{has, free}
use Rattle.model.specs.State.{Plain, Turn, no, now_is, with_body, set_fun}

-- which names are given at a place: those of the function and of binds around it
abbrev pub given_in : List Name → Expr → ℕ → List Name
given_in xs (num n) k = xs
given_in xs (var x) k = xs
given_in xs (bin o a b) k = xs
given_in xs (call f es) k = xs
given_in xs (bind x a b) k = pick (k == 1) (x ∷ xs) xs
given_in xs (choice c a b) k = xs
given_in xs (tell a) k = xs

unfoldable pub given_to : List Name → List Expr → (List Name → Expr → List Name) → List Name
given_to xs [] f = xs
given_to xs (e ∷ es) f = f xs e

unfoldable pub given_at : List Name → Expr → List ℕ → List Name
given_at xs e [] = xs
given_at xs e (k ∷ ks) = given_to (given_in xs e k) (nth_expr (parts e) k) (λ ys a. given_at ys a ks)

unfoldable pub vars : List Name → Exprs
vars [] = no_exprs
vars (x ∷ xs) = expr_and (var x) (vars xs)

abbrev pub made_fun : Name → Expr → Fun
made_fun g e = record { name = g; params = free e; body = e }

abbrev pub extracted : Plain → Fun → List ℕ → Name → Expr → Turn
extracted w f ks g e =
    pick (every (has (given_at f.params f.body ks)) (free e))
    (pick (nat_le (length (free e)) 16)
    (now_is w (set_fun w.now f.name (with_body f (put_at f.body ks (call g (vars (free e))))) ++ made_fun g e ∷ []))
    (no 7 w))
    (no 5 w)

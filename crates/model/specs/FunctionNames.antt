-- Renaming and dropping functions. Assumes nothing: these are definitions.
use Rattle.std.specs.Prelude.{Bool, not, ◌&&◌, List, [], ◌∷◌}
use Rattle.language.specs.Basics.{pick, or, any, each, those, none_of, same}
use Rattle.language.specs.Bytes.{Name}
use Rattle.language.specs.Expr.{Expr, num, var, bin, call, bind, choice, tell, Exprs, no_exprs, expr_and, Fun, Program, main}
use Rattle.language.specs.Meaning.{fun_of}
use Rattle.language.specs.Names.{has, joined}
use Rattle.model.specs.State.{Plain, Turn, no, now_is}

unfoldable mutual
  pub recalled : Name → Name → Expr → Expr
  recalled f g (num n) = num n
  recalled f g (var x) = var x
  recalled f g (bin k a b) = bin k (recalled f g a) (recalled f g b)
  recalled f g (call h es) = call (pick (same f h) g h) (recalled_all f g es)
  recalled f g (bind x a b) = bind x (recalled f g a) (recalled f g b)
  recalled f g (choice c a b) = choice (recalled f g c) (recalled f g a) (recalled f g b)
  recalled f g (tell a) = tell (recalled f g a)

  pub recalled_all : Name → Name → Exprs → Exprs
  recalled_all f g no_exprs = no_exprs
  recalled_all f g (expr_and e es) = expr_and (recalled f g e) (recalled_all f g es)

abbrev pub there : Program → Name → Bool
there p x = not (none_of (fun_of p x))

abbrev pub fun_renamed : Name → Name → Fun → Fun
fun_renamed x y f = record { name = pick (same f.name x) y f.name; params = f.params; body = recalled x y f.body }

-- which functions are called in an expression
unfoldable mutual
  pub calls : Expr → List Name
  calls (num n) = []
  calls (var x) = []
  calls (bin k a b) = joined (calls a) (calls b)
  calls (call f es) = joined (f ∷ []) (calls_all es)
  calls (bind x a b) = joined (calls a) (calls b)
  calls (choice c a b) = joined (joined (calls c) (calls a)) (calls b)
  calls (tell a) = calls a

  pub calls_all : Exprs → List Name
  calls_all no_exprs = []
  calls_all (expr_and e es) = joined (calls e) (calls_all es)

-- a name that a new function can't have: "main", one that a function has, or one that is called
abbrev pub taken : Program → Name → Bool
taken p y = or (same y main) (or (there p y) (any (λ h. has (calls h.body) y) p))

abbrev pub fun_called : Plain → Name → Name → Fun → Turn
fun_called w x y f = pick (same x main) (no 6 w) (pick (taken w.now y) (no 4 w) (now_is w (each (fun_renamed x y) w.now)))

-- another function than x calls x
abbrev pub still_called : Program → Name → Bool
still_called p x = any (λ h. not (same h.name x) && has (calls h.body) x) p

abbrev pub fun_dropped : Plain → Name → Fun → Turn
fun_dropped w x f =
    pick (or (same x main) (still_called w.now x)) (no 6 w) (now_is w (those (λ h. not (same h.name x)) w.now))

-- What stands between two commands, how a command ends, and what every refactoring uses of it. Assumes nothing: these are definitions.
use Rattle.std.specs.Prelude.{ℕ, Bool, ◌&&◌, List, [], ◌∷◌, length, take, nat_le}
use Rattle.language.specs.Basics.{pick, every, each, same}
use Rattle.language.specs.Bytes.{Name}
use Rattle.language.specs.Expr.{Expr, Fun, Program}
use Rattle.language.specs.Meaning.{fun_of}
use Rattle.language.specs.Places.{at_place, put_at}
use Rattle.language.specs.Names.{distinct}
use Rattle.language.specs.Spelling.{program_spelled}

pub record Plain : Type 0 where
  pub now : Program
  pub before : List Program  -- the newest first, up to eight

-- no functions, and nothing to go back to
abbrev pub at_first : Plain
at_first = record { now = []; before = [] }

pub record Turn : Type 0 where
  pub reply : ℕ
  pub shows : List (List ℕ)
  pub next : Plain

abbrev pub no : ℕ → Plain → Turn
no k w = record { reply = k; shows = []; next = w }

abbrev pub yes_with : List (List ℕ) → Plain → Turn
yes_with ss w = record { reply = 0; shows = ss; next = w }

abbrev pub now_is : Plain → Program → Turn
now_is w p =
    pick (nat_le (length p) 1024 && nat_le (length (program_spelled p)) 65536) (yes_with [] (record { now = p; before = take 8 (w.now ∷ w.before) })) (no 7 w)

abbrev pub with_body : Fun → Expr → Fun
with_body f e = record { name = f.name; params = f.params; body = e }

abbrev pub set_fun : Program → Name → Fun → Program
set_fun p x g = each (λ f. pick (same f.name x) g f) p

unfoldable pub at_first_fun : Plain → List Fun → (Fun → Turn) → Turn
at_first_fun w [] h = no 3 w
at_first_fun w (f ∷ fs) h = h f

abbrev pub at_fun : Plain → Name → (Fun → Turn) → Turn
at_fun w x h = at_first_fun w (fun_of w.now x) h

unfoldable pub of_some : Plain → List Expr → (Expr → Turn) → Turn
of_some w [] h = no 3 w
of_some w (e ∷ es) h = h e

-- what stands at a place, or 3
abbrev pub at_expr : Plain → Fun → List ℕ → (Expr → Turn) → Turn
at_expr w f ks h = of_some w (at_place f.body ks) h

-- a function's body with something else at a place
abbrev pub put_in : Plain → Fun → List ℕ → Expr → Turn
put_in w f ks e = now_is w (set_fun w.now f.name (with_body f (put_at f.body ks e)))

-- different names for functions, and for each function's own
abbrev pub fine : Program → Bool
fine p = distinct (each (λ f. f.name) p) && every (λ f. distinct f.params) p

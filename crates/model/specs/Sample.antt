-- What samples of programs are written with: letters as names, and short forms. Assumes nothing: these are definitions.
use Rattle.std.specs.Prelude.{List, [], ◌∷◌}
use Rattle.language.specs.Bytes.{Name}
use Rattle.language.specs.Expr.{Expr, Exprs, no_exprs, expr_and, Fun, Program}
use Rattle.model.specs.State.{Plain}

abbrev pub a : Name
a = 97 ∷ []

abbrev pub b : Name
b = 98 ∷ []

abbrev pub d : Name
d = 100 ∷ []

abbrev pub f : Name
f = 102 ∷ []

abbrev pub g : Name
g = 103 ∷ []

abbrev pub x : Name
x = 120 ∷ []

abbrev pub y : Name
y = 121 ∷ []

abbrev pub z : Name
z = 122 ∷ []

-- values of a call
abbrev pub one : Expr → Exprs
one e = expr_and e no_exprs

abbrev pub two : Expr → Expr → Exprs
two e k = expr_and e (one k)

-- a function: its name, its own names, and what it comes to
abbrev pub fun : Name → List Name → Expr → Fun
fun n ps e = record { name = n; params = ps; body = e }

-- a program that was just loaded
abbrev pub loaded : Program → Plain
loaded p = record { now = p; before = [] }

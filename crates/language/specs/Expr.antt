-- Expressions, functions and programs. Assumes nothing: these are definitions.
use Rattle.std.specs.Prelude.{ℕ, suc, List, [], ◌∷◌}
use Rattle.language.specs.Bytes.{Name}

-- numbers of the language are below this
abbrev pub limit : ℕ
limit = 4611686018427387904

mutual
  pub data Expr : Type 0 where
    num : ℕ → Expr
    var : Name → Expr
    bin : ℕ → Expr → Expr → Expr  -- 0 sum, 1 difference, 2 product, 3 quotient, 4 equal, 5 below
    call : Name → Exprs → Expr
    bind : Name → Expr → Expr → Expr  -- a name for what the first comes to, in the second
    choice : Expr → Expr → Expr → Expr
    tell : Expr → Expr  -- what it comes to is told

  pub data Exprs : Type 0 where
    no_exprs : Exprs
    expr_and : Expr → Exprs → Exprs

pub record Fun : Type 0 where
  pub name : Name
  pub params : List Name
  pub body : Expr

abbrev pub Program : Type 0
Program = List Fun

abbrev pub exprs_in : Exprs → List Expr
exprs_in no_exprs = []
exprs_in (expr_and e es) = e ∷ exprs_in es

unfoldable pub count_exprs : Exprs → ℕ
count_exprs no_exprs = 0
count_exprs (expr_and e es) = suc (count_exprs es)

-- the parts of an expression, in order
unfoldable pub parts : Expr → List Expr
parts (num n) = []
parts (var x) = []
parts (bin k a b) = a ∷ b ∷ []
parts (call f es) = exprs_in es
parts (bind x a b) = a ∷ b ∷ []
parts (choice c a b) = c ∷ a ∷ b ∷ []
parts (tell a) = a ∷ []

-- the function that is called from outside
abbrev pub main : Name
main = 109 ∷ 97 ∷ 105 ∷ 110 ∷ []

-- One formula, worked: what is refused of it, what is done to it, and what it comes to all along. Assumes nothing: these are definitions.
use Rattle.std.specs.Prelude.{◌≡◌, [], ◌∷◌}
use Rattle.language.specs.Bytes.{Name}
use Rattle.language.specs.Expr.{Expr, num, var, bin, call, bind, choice, tell, Fun, Program, main}
use Rattle.language.specs.Meaning.{came, apply}
use Rattle.model.specs.Command.{rename_bind, rename_param, rename_fun, extract}
use Rattle.model.specs.State.{Plain, no, yes_with}
use Rattle.model.specs.Model.{turn}
use Rattle.model.specs.Sample.{a, b, d, x, y, two, fun, loaded}

abbrev pub twice : Name
twice = 116 ∷ 119 ∷ 105 ∷ 99 ∷ 101 ∷ []

abbrev pub far : Name
far = 102 ∷ 97 ∷ 114 ∷ []

-- let n be x - 2 in if y < n then k else x
abbrev formula : Name → Expr → Expr
formula n k = bind n (bin 1 (var x) (num 2)) (choice (bin 5 (var y) (var n)) k (var x))

-- twice(tell n, y)
abbrev twice_told : Name → Expr
twice_told n = call twice (two (tell (var n)) (var y))

-- twice(a, b) is a * 2 + b
abbrev twice_fun : Fun
twice_fun = fun twice (a ∷ b ∷ []) (bin 0 (bin 2 (var a) (num 2)) (var b))

-- main(x, y) is let a be x - 2 in if y < a then twice(tell a, y) else x; twice(a, b) is a * 2 + b
abbrev pub first : Program
first = fun main (x ∷ y ∷ []) (formula a (twice_told a)) ∷ twice_fun ∷ []

-- main(x, y) is let d be x - 2 in if y < d then twice(tell d, y) else x; twice(a, b) is a * 2 + b
abbrev pub second : Program
second = fun main (x ∷ y ∷ []) (formula d (twice_told d)) ∷ twice_fun ∷ []

-- main(x, y) is let d be x - 2 in if y < d then far(d, y) else x; twice(a, b) is a * 2 + b; far(d, y) is twice(tell d, y)
abbrev pub third : Program
third =
    fun main (x ∷ y ∷ []) (formula d (call far (two (var d) (var y)))) ∷ twice_fun ∷ fun far (d ∷ y ∷ []) (twice_told d) ∷ []

abbrev pub after_loading : Plain
after_loading = loaded first

abbrev pub after_renaming : Plain
after_renaming = record { now = second; before = first ∷ [] }

abbrev pub after_extracting : Plain
after_extracting = record { now = third; before = second ∷ first ∷ [] }

-- a is not renamed to x: the x after else would be what is let
abbrev pub AToX : Type 0
AToX = turn after_loading (rename_bind main [] x) ≡ no 5 after_loading

-- a is renamed to d: let d be x - 2 in if y < d then twice(tell d, y) else x
abbrev pub AToD : Type 0
AToD = turn after_loading (rename_bind main [] d) ≡ yes_with [] after_renaming

-- the a of twice(a, b) is not renamed to b: its own names would be the same
abbrev pub OwnToB : Type 0
OwnToB = turn after_loading (rename_param twice 0 b) ≡ no 5 after_loading

-- the call after then becomes a function far, the last: far(d, y) is twice(tell d, y), and what stands there is far(d, y)
abbrev pub ThenToFar : Type 0
ThenToFar = turn after_renaming (extract main (1 ∷ 1 ∷ []) far) ≡ yes_with [] after_extracting

-- twice is not called far: there is a far
abbrev pub TwiceToFar : Type 0
TwiceToFar = turn after_extracting (rename_fun twice far) ≡ no 4 after_extracting

-- main(5, 0) comes to 6, and tells 3
abbrev pub Six : Program → Type 0
Six p = apply 8 p main (5 ∷ 0 ∷ []) ≡ came 6 (3 ∷ [])

-- | what is asked                             | what comes of it |
-- | a to x, at the start                      | refused, 5       |
-- | a to d, at the start                      | done             |
-- | twice's a to b, at the start              | refused, 5       |
-- | what is after then made far, after a to d | done             |
-- | twice to far, after that                  | refused, 4       |
-- | main(5, 0), at the start and after both   | 6, and tells 3   |
abbrev pub WorkedTable : Type 0
WorkedTable = AToX × AToD × OwnToB × ThenToFar × TwiceToFar × Six first × Six second × Six third

-- What refusals guard: for each a small program on which the command, done anyway, would change what main comes to or tells.
-- A row's words have main and the others before and after; what main comes to then is in the row. Assumes nothing: these are definitions.
use Rattle.std.specs.Prelude.{◌≡◌, ℕ, true, not, List, [], ◌∷◌, ◌++◌}
use Rattle.language.specs.Basics.{each, those, same}
use Rattle.language.specs.Bytes.{Name}
use Rattle.language.specs.Expr.{Expr, num, var, bin, call, bind, choice, tell, no_exprs, Program, main}
use Rattle.language.specs.Meaning.{Came, came, wrong, apply}
use Rattle.language.specs.Places.{put_at}
use Rattle.language.specs.Names.{free}
use Rattle.language.specs.Fits.{a_program}
use Rattle.language.specs.Equivalence.{MeanSame}
use Rattle.model.specs.Command.{Command, rename_bind, rename_param, rename_fun, extract, inline_bind, inline_call, drop_fun, fits}
use Rattle.model.specs.State.{no, fine}
use Rattle.model.specs.Rename.{renamed, put_name}
use Rattle.model.specs.FunctionNames.{fun_renamed}
use Rattle.model.specs.Extract.{vars, made_fun}
use Rattle.model.specs.Model.{turn}
use Rattle.model.specs.Sample.{a, b, f, g, x, z, one, two, fun, loaded}

-- Of a program and a command that there may be: the command is refused with k. Done anyway it would make q of p, and main would come to s where
-- it comes to r: another meaning.
pub record Guarded (p : Program) (c : Command) (k : ℕ) (q : Program) (vs : List ℕ) (r s : Came) : Type 0 where
  pub program_fits : a_program p ≡ true
  pub program_fine : fine p ≡ true
  pub command_fits : fits c ≡ true
  pub refusal : turn (loaded p) c ≡ no k (loaded p)
  pub comes_to : apply 8 p main vs ≡ r
  pub would_come_to : apply 8 q main vs ≡ s
  pub other_meaning : MeanSame p q → ⊥

-- main alone: its own names, and what it comes to
abbrev sole : List Name → Expr → Program
sole ps e = fun main ps e ∷ []

-- what is done anyway, by the model's own definitions: a let of n renamed to m, own names so, and a function made of what stands at a place
abbrev let_renamed : Name → Name → Expr → Expr → Expr
let_renamed n m e k = bind m e (renamed n m k)

abbrev own_renamed : List Name → ℕ → Name → Name → Expr → Program
own_renamed ps i n m e = sole (put_name ps i m) (renamed n m e)

abbrev made_of : Name → List Name → Expr → List ℕ → Name → Expr → Program → Program
made_of h ps e ks n k others = fun h ps (put_at e ks (call n (vars (free k)))) ∷ others ++ made_fun n k ∷ []

abbrev without : Name → Program → Program
without n p = those (λ h. not (same h.name n)) p

-- 5 of renaming a let: main(x) is let a be 1 in x
-- a to x:              main(x) is let x be 1 in x
abbrev pub LetTakes : Type 0
LetTakes =
    Guarded (sole (x ∷ []) (bind a (num 1) (var x))) (rename_bind main [] x) 5 (sole (x ∷ []) (let_renamed a x (num 1) (var x)))
    (5 ∷ []) (came 5 []) (came 1 [])

-- 5 of renaming a let: main(x) is let a be x in let b be 1 in a
-- a to b:              main(x) is let b be x in let b be 1 in b
abbrev pub LetTaken : Type 0
LetTaken =
    Guarded (sole (x ∷ []) (bind a (var x) (bind b (num 1) (var a)))) (rename_bind main [] b) 5
    (sole (x ∷ []) (let_renamed a b (var x) (bind b (num 1) (var a)))) (5 ∷ []) (came 5 []) (came 1 [])

-- 5 of renaming an own name: main(a, b) is a - b
-- a to b:                    main(b, b) is b - b
abbrev pub OwnTwice : Type 0
OwnTwice =
    Guarded (sole (a ∷ b ∷ []) (bin 1 (var a) (var b))) (rename_param main 0 b) 5 (own_renamed (a ∷ b ∷ []) 0 a b (bin 1 (var a) (var b)))
    (5 ∷ 3 ∷ []) (came 2 []) (came 0 [])

-- 5 of renaming an own name: main(a) is let b be 1 in a
-- a to b:                    main(b) is let b be 1 in b
abbrev pub OwnTaken : Type 0
OwnTaken =
    Guarded (sole (a ∷ []) (bind b (num 1) (var a))) (rename_param main 0 b) 5 (own_renamed (a ∷ []) 0 a b (bind b (num 1) (var a)))
    (5 ∷ []) (came 5 []) (came 1 [])

-- 4 of renaming a function: f() is 1, and there is no main
-- f to main:                main() is 1
abbrev pub FunToMain : Type 0
FunToMain =
    let p : Program = fun f [] (num 1) ∷ [] in
    Guarded p (rename_fun f main) 4 (each (fun_renamed f main) p) [] (wrong 2 []) (came 1 [])

-- 4 of renaming a function: main() is g(); f() is 1; g() is 2
-- f to g:                   main() is g(); g() is 1; g() is 2
abbrev pub FunToOther : Type 0
FunToOther =
    let p : Program = fun main [] (call g no_exprs) ∷ fun f [] (num 1) ∷ fun g [] (num 2) ∷ [] in
    Guarded p (rename_fun f g) 4 (each (fun_renamed f g) p) [] (came 2 []) (came 1 [])

-- 4 of renaming a function: main() is g(); f() is 1
-- f to g:                   main() is g(); g() is 1
abbrev pub FunToCalled : Type 0
FunToCalled =
    let p : Program = fun main [] (call g no_exprs) ∷ fun f [] (num 1) ∷ [] in
    Guarded p (rename_fun f g) 4 (each (fun_renamed f g) p) [] (wrong 2 []) (came 1 [])

-- 6 of renaming a function: main() is 1
-- main to f:                f() is 1, and there is no main
abbrev pub MainToFun : Type 0
MainToFun =
    let p : Program = fun main [] (num 1) ∷ [] in
    Guarded p (rename_fun main f) 6 (each (fun_renamed main f) p) [] (came 1 []) (wrong 2 [])

-- 4 of making a function: f() is 1, and there is no main
-- of 1, as main:          f() is main(); main() is 1
abbrev pub MadeAsMain : Type 0
MadeAsMain = Guarded (fun f [] (num 1) ∷ []) (extract f [] main) 4 (made_of f [] (num 1) [] main (num 1) []) [] (wrong 2 []) (came 1 [])

-- 4 of making a function: main(x) is if x then g() else 1; g() is 2
-- of 1, as g:             main(x) is if x then g() else g(); g() is 2; g() is 1
abbrev pub MadeAsOther : Type 0
MadeAsOther =
    let e : Expr = choice (var x) (call g no_exprs) (num 1) in
    let others : Program = fun g [] (num 2) ∷ [] in
    Guarded (sole (x ∷ []) e ++ others) (extract main (2 ∷ []) g) 4 (made_of main (x ∷ []) e (2 ∷ []) g (num 1) others)
    (0 ∷ []) (came 1 []) (came 2 [])

-- 4 of making a function: main(x) is if x then g() else 1
-- of 1, as g:             main(x) is if x then g() else g(); g() is 1
abbrev pub MadeAsCalled : Type 0
MadeAsCalled =
    let e : Expr = choice (var x) (call g no_exprs) (num 1) in
    Guarded (sole (x ∷ []) e) (extract main (2 ∷ []) g) 4 (made_of main (x ∷ []) e (2 ∷ []) g (num 1) []) (1 ∷ []) (wrong 2 []) (came 1 [])

-- 5 of making a function: main() is if 0 then z else 2
-- of all of it, as g:     main() is g(z); g(z) is if 0 then z else 2
abbrev pub MadeOfUnused : Type 0
MadeOfUnused =
    let e : Expr = choice (num 0) (var z) (num 2) in
    Guarded (sole [] e) (extract main [] g) 5 (made_of main [] e [] g e []) [] (came 2 []) (wrong 1 [])

-- 5 of making a function: main() is tell 1 + z
-- of all of it, as g:     main() is g(z); g(z) is tell 1 + z
abbrev pub MadeOfTold : Type 0
MadeOfTold =
    let e : Expr = bin 0 (tell (num 1)) (var z) in
    Guarded (sole [] e) (extract main [] g) 5 (made_of main [] e [] g e []) [] (wrong 1 (1 ∷ [])) (wrong 1 [])

-- 5 of putting a let in place: main(x) is let a be tell x in a + a
-- a put in place:              main(x) is tell x + tell x
abbrev pub LetToldTwice : Type 0
LetToldTwice =
    Guarded (sole (x ∷ []) (bind a (tell (var x)) (bin 0 (var a) (var a)))) (inline_bind main []) 5
    (sole (x ∷ []) (bin 0 (tell (var x)) (tell (var x)))) (5 ∷ []) (came 10 (5 ∷ [])) (came 10 (5 ∷ 5 ∷ []))

-- 5 of putting a let in place: main(x) is let a be 1 / 0 in x
-- a put in place:              main(x) is x
abbrev pub LetWrongUnused : Type 0
LetWrongUnused =
    Guarded (sole (x ∷ []) (bind a (bin 3 (num 1) (num 0)) (var x))) (inline_bind main []) 5 (sole (x ∷ []) (var x)) (5 ∷ []) (wrong 4 []) (came 5 [])

-- 5 of putting a let in place: main(x) is let a be z in x
-- a put in place:              main(x) is x
abbrev pub LetOfNothing : Type 0
LetOfNothing =
    Guarded (sole (x ∷ []) (bind a (var z) (var x))) (inline_bind main []) 5 (sole (x ∷ []) (var x)) (5 ∷ []) (wrong 1 []) (came 5 [])

-- 5 of putting a let in place: main(x) is let a be x in let x be 1 in a
-- a put in place:              main(x) is let x be 1 in x
abbrev pub LetUnderLet : Type 0
LetUnderLet =
    Guarded (sole (x ∷ []) (bind a (var x) (bind x (num 1) (var a)))) (inline_bind main []) 5 (sole (x ∷ []) (bind x (num 1) (var x)))
    (5 ∷ []) (came 5 []) (came 1 [])

-- 5 of putting a call in place: main(a) is f(1, a); f(a, b) is a - b
-- its values as lets:           main(a) is let a be 1 in let b be a in a - b; f(a, b) is a - b
abbrev pub CallTaken : Type 0
CallTaken =
    let difference : Expr = bin 1 (var a) (var b) in
    let others : Program = fun f (a ∷ b ∷ []) difference ∷ [] in
    Guarded (sole (a ∷ []) (call f (two (num 1) (var a))) ++ others) (inline_call main []) 5
    (sole (a ∷ []) (bind a (num 1) (bind b (var a) difference)) ++ others) (0 ∷ []) (came 1 []) (came 0 [])

-- 5 of putting a call in place: main() is f(tell 2); f() is 1
-- as it stands:                 main() is 1; f() is 1
abbrev pub CallOfTooMany : Type 0
CallOfTooMany =
    let others : Program = fun f [] (num 1) ∷ [] in
    Guarded (sole [] (call f (one (tell (num 2)))) ++ others) (inline_call main []) 5 (sole [] (num 1) ++ others) [] (wrong 3 (2 ∷ [])) (came 1 [])

-- 5 of putting a call in place: main(x) is f(); f() is x
-- as it stands:                 main(x) is x; f() is x
abbrev pub CallOfOpen : Type 0
CallOfOpen =
    let others : Program = fun f [] (var x) ∷ [] in
    Guarded (sole (x ∷ []) (call f no_exprs) ++ others) (inline_call main []) 5 (sole (x ∷ []) (var x) ++ others) (5 ∷ []) (wrong 1 []) (came 5 [])

-- 6 of dropping a function: main() is f(); f() is 1
-- without f:                main() is f()
abbrev pub DropCalled : Type 0
DropCalled =
    let p : Program = fun main [] (call f no_exprs) ∷ fun f [] (num 1) ∷ [] in
    Guarded p (drop_fun f) 6 (without f p) [] (came 1 []) (wrong 2 [])

-- 6 of dropping a function: main() is 1
-- without main:             nothing
abbrev pub DropMain : Type 0
DropMain =
    let p : Program = fun main [] (num 1) ∷ [] in
    Guarded p (drop_fun main) 6 (without main p) [] (came 1 []) (wrong 2 [])

abbrev pub GuardsRenaming : Type 0
GuardsRenaming = LetTakes × LetTaken × OwnTwice × OwnTaken × FunToMain × FunToOther × FunToCalled × MainToFun

abbrev pub GuardsMaking : Type 0
GuardsMaking = MadeAsMain × MadeAsOther × MadeAsCalled × MadeOfUnused × MadeOfTold

abbrev pub GuardsPlacing : Type 0
GuardsPlacing =
    LetToldTwice × LetWrongUnused × LetOfNothing × LetUnderLet × CallTaken × CallOfTooMany × CallOfOpen

abbrev pub GuardsDropping : Type 0
GuardsDropping = DropCalled × DropMain

-- every row
abbrev pub Guards : Type 0
Guards = GuardsRenaming × GuardsMaking × GuardsPlacing × GuardsDropping

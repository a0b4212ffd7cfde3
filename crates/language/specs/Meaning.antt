-- What programs mean. Assumes nothing: these are definitions.
use Rattle.std.specs.Prelude.{ℕ, zero, suc, ◌+◌, ◌-◌, ◌*◌, ◌/◌, Bool, true, false, List, [], ◌∷◌, ◌++◌, length, ◌==◌, nat_lt}
use Rattle.language.specs.Basics.{pick, same}
use Rattle.language.specs.Bytes.{Name}
use Rattle.language.specs.Expr.{limit, Expr, num, var, bin, call, bind, choice, tell, Exprs, no_exprs, expr_and, Fun, Program}

-- what a run came to: a number and what was told, or that it went wrong after that was told: 1 no such name, 2 no such function, 3 not as many as it
-- takes, 4 a quotient by 0, 5 a number of 2^62 or more; or that it went too deep
pub data Came : Type 0 where
  came : ℕ → List ℕ → Came
  wrong : ℕ → List ℕ → Came
  deep : Came

pub record Bound : Type 0 where
  pub name : Name
  pub value : ℕ

unfoldable pub look : List Bound → Name → List ℕ
look [] x = []
look (b ∷ bs) x = pick (same b.name x) (b.value ∷ []) (look bs x)

unfoldable pub fun_of : Program → Name → List Fun
fun_of [] x = []
fun_of (f ∷ fs) x = pick (same f.name x) (f ∷ []) (fun_of fs x)

abbrev pub small : ℕ → Came
small n = pick (nat_lt n limit) (came n []) (wrong 5 [])

abbrev pub truth : Bool → ℕ
truth true = 1
truth false = 0

-- differences aren't below 0
abbrev pub reckon : ℕ → ℕ → ℕ → Came
reckon k a b =
    pick (k == 0) (small (a + b)) (pick (k == 1) (came (a - b) []) (pick (k == 2) (small (a * b))
    (pick (k == 3) (pick (b == 0) (wrong 4 []) (came (a / b) [])) (pick (k == 4) (came (truth (a == b)) []) (came (truth (nat_lt a b)) [])))))

-- what was told before comes first
unfoldable pub after_telling : List ℕ → Came → Came
after_telling ts (came v us) = came v (ts ++ us)
after_telling ts (wrong k us) = wrong k (ts ++ us)
after_telling ts deep = deep

unfoldable pub then : Came → (ℕ → Came) → Came
then (came v ts) f = after_telling ts (f v)
then (wrong k ts) f = wrong k ts
then deep f = deep

unfoldable pub looked : List ℕ → Came
looked [] = wrong 1 []
looked (v ∷ vs) = came v []

unfoldable pub binds : List Name → List ℕ → List Bound
binds [] vs = []
binds (x ∷ xs) [] = []
binds (x ∷ xs) (v ∷ vs) = record { name = x; value = v } ∷ binds xs vs

pub data Cames : Type 0 where
  cames : List ℕ → List ℕ → Cames
  wrongs : ℕ → List ℕ → Cames
  deeps : Cames

abbrev pub more_cames : ℕ → List ℕ → Cames → Cames
more_cames v ts (cames vs us) = cames (v ∷ vs) (ts ++ us)
more_cames v ts (wrongs k us) = wrongs k (ts ++ us)
more_cames v ts deeps = deeps

abbrev pub and_cames : Came → (ℕ → List ℕ → Cames) → Cames
and_cames (came v ts) f = f v ts
and_cames (wrong k ts) f = wrongs k ts
and_cames deep f = deeps

abbrev pub Ev : Type 0
Ev = List Bound → Expr → Came

unfoldable pub eval_all : (Expr → Came) → Exprs → Cames
eval_all ev no_exprs = cames [] []
eval_all ev (expr_and e es) = and_cames (ev e) (λ v ts. more_cames v ts (eval_all ev es))

unfoldable pub called : Ev → List Fun → Cames → Came
called ev [] (cames vs ts) = wrong 2 ts
called ev [] (wrongs k ts) = wrong k ts
called ev [] deeps = deep
called ev (f ∷ fs) (cames vs ts) =
    pick (length vs == length f.params) (after_telling ts (ev (binds f.params vs) f.body)) (wrong 3 ts)
called ev (f ∷ fs) (wrongs k ts) = wrong k ts
called ev (f ∷ fs) deeps = deep

unfoldable pub step : Program → Ev → List Bound → Expr → Came
step p ev bs (num n) = small n
step p ev bs (var x) = looked (look bs x)
step p ev bs (bin k a b) = then (ev bs a) (λ v. then (ev bs b) (λ w. reckon k v w))
step p ev bs (call f es) = called ev (fun_of p f) (eval_all (ev bs) es)
step p ev bs (bind x a b) = then (ev bs a) (λ v. ev (record { name = x; value = v } ∷ bs) b)
step p ev bs (choice c a b) = then (ev bs c) (λ v. pick (v == 0) (ev bs b) (ev bs a))
step p ev bs (tell a) = then (ev bs a) (λ v. came v (v ∷ []))

-- the first number bounds how deep it goes; nothing rests on which it is
unfoldable pub eval : ℕ → Program → List Bound → Expr → Came
eval zero p bs e = deep
eval (suc n) p bs e = step p (λ cs f. eval n p cs f) bs e

-- a run of a function
abbrev pub apply : ℕ → Program → Name → List ℕ → Came
apply n p f vs = called (λ cs e. eval n p cs e) (fun_of p f) (cames vs [])

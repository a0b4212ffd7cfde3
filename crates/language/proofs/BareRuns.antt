-- A run of an expression is a run of its bare form: so what is alike without its names comes to the same, in programs that are alike too.
-- Bare forms are evaluated here with a row of values in place of names; each step of that is a step of the meaning. Assumes nothing.
use Rattle.std.proofs.Common.{arith, ◌≡◌, ℕ, zero, suc, eqb, List, [], ◌∷◌, length, sym, refl, ap, ◌∙◌, ap₂}
use mathlib.Core.Path.{fun_ext}
use Rattle.language.specs.Basics.{pick, each, same}
use Rattle.language.specs.Bytes.{Name}
use Rattle.language.specs.Expr.{Expr, num, var, bin, call, bind, choice, tell, Exprs, no_exprs, expr_and, Fun, Program}
use Rattle.language.specs.Meaning.{Came, came, wrong, deep, look, fun_of, small, reckon, after_telling, then, looked, binds, Cames, cames, wrongs, deeps, more_cames, and_cames, Ev, eval_all, called, step, eval, apply}
use Rattle.language.specs.Bare.{Bare, b_num, b_near, b_far, b_bin, b_call, b_bind, b_choice, b_tell, Bares, no_bares, bare_and, how_near, near_or_far, bare, bare_all}
use Rattle.language.specs.Statements.{values_in, AlikeSame}

-- a function without its own names
pub record BareFun : Type 0 where
  pub name : Name
  pub takes : ℕ
  pub body : Bare

abbrev pub bare_fun : Fun → BareFun
bare_fun f = record { name = f.name; takes = length f.params; body = bare f.params f.body }

nth_value : List ℕ → ℕ → List ℕ
nth_value [] k = []
nth_value (v ∷ vs) zero = v ∷ []
nth_value (v ∷ vs) (suc k) = nth_value vs k

bare-fun_of : List BareFun → Name → List BareFun
bare-fun_of [] x = []
bare-fun_of (f ∷ fs) x = pick (same f.name x) (f ∷ []) (bare-fun_of fs x)

abbrev BareEv : Type 0
BareEv = List ℕ → Bare → Came

bare-eval_all : (Bare → Came) → Bares → Cames
bare-eval_all ev no_bares = cames [] []
bare-eval_all ev (bare_and b bs) = and_cames (ev b) (λ v ts. more_cames v ts (bare-eval_all ev bs))

bare-called : BareEv → List BareFun → Cames → Came
bare-called ev [] (cames vs ts) = wrong 2 ts
bare-called ev [] (wrongs k ts) = wrong k ts
bare-called ev [] deeps = deep
bare-called ev (f ∷ fs) (cames vs ts) = pick (eqb (length vs) f.takes) (after_telling ts (ev vs f.body)) (wrong 3 ts)
bare-called ev (f ∷ fs) (wrongs k ts) = wrong k ts
bare-called ev (f ∷ fs) deeps = deep

bare_step : List BareFun → BareEv → List ℕ → Bare → Came
bare_step fs ev vs (b_num n) = small n
bare_step fs ev vs (b_near k) = looked (nth_value vs k)
bare_step fs ev vs (b_far x) = looked []
bare_step fs ev vs (b_bin k a b) = then (ev vs a) (λ v. then (ev vs b) (λ w. reckon k v w))
bare_step fs ev vs (b_call f es) = bare-called ev (bare-fun_of fs f) (bare-eval_all (ev vs) es)
bare_step fs ev vs (b_bind a b) = then (ev vs a) (λ v. ev (v ∷ vs) b)
bare_step fs ev vs (b_choice c a b) = then (ev vs c) (λ v. pick (eqb v 0) (ev vs b) (ev vs a))
bare_step fs ev vs (b_tell a) = then (ev vs a) (λ v. came v (v ∷ []))

pub bare-eval : ℕ → List BareFun → List ℕ → Bare → Came
bare-eval zero fs vs b = deep
bare-eval (suc n) fs vs b = bare_step fs (λ ws c. bare-eval n fs ws c) vs b

pub binds_values : (xs : List Name) (vs : List ℕ) → binds xs vs ≡ values_in xs vs
unfolding binds values_in
binds_values [] vs = refl
binds_values (x ∷ xs) [] = refl
binds_values (x ∷ xs) (v ∷ vs) = ap (◌∷◌ (record { name = x; value = v })) (binds_values xs vs)

near_later : (xs : List Name) (x : Name) (k : ℕ) → how_near xs x (suc k) ≡ each suc (how_near xs x k)
unfolding how_near
near_later [] x k = refl
near_later (y ∷ ys) x k = grind (arith, near_later ys x (suc k))

-- the value that is so near
at-near : List ℕ → List ℕ → List ℕ
at-near vs [] = []
at-near vs (k ∷ ks) = nth_value vs k

look-near : (xs : List Name) (vs : List ℕ) (x : Name) → look (values_in xs vs) x ≡ at-near vs (how_near xs x 0)
unfolding look values_in how_near at-near nth_value
look-near [] vs x = refl
look-near (y ∷ ys) [] x = grind arith
look-near (y ∷ ys) (v ∷ vs) x = grind (arith, near_later, look-near ys vs x)

looked-near : (fs : List BareFun) (ev : BareEv) (vs ks : List ℕ) (x : Name) → looked (at-near vs ks) ≡ bare_step fs ev vs (near_or_far ks x)
unfolding at-near bare_step near_or_far
looked-near fs ev vs [] x = refl
looked-near fs ev vs (k ∷ ks) x = refl

fun-bare : (p : Program) (x : Name) → bare-fun_of (each bare_fun p) x ≡ each bare_fun (fun_of p x)
unfolding fun_of bare-fun_of
fun-bare [] x = refl
fun-bare (f ∷ fs) x = grind (arith, fun-bare fs x)

-- an evaluation and one of bare forms come to the same
SameEv : Ev → BareEv → Type 0
SameEv ev bev = (xs : List Name) (vs : List ℕ) (e : Expr) → ev (values_in xs vs) e ≡ bev vs (bare xs e)

all-bare : (ev : Ev) (bev : BareEv) → SameEv ev bev → (xs : List Name) (vs : List ℕ) (es : Exprs) →
    eval_all (ev (values_in xs vs)) es ≡ bare-eval_all (bev vs) (bare_all xs es)
unfolding SameEv eval_all bare-eval_all bare_all
all-bare ev bev same-ev xs vs no_exprs = refl
all-bare ev bev same-ev xs vs (expr_and e es) = grind (arith, all-bare ev bev same-ev xs vs es)

called-bare : (ev : Ev) (bev : BareEv) → SameEv ev bev → (fs : List Fun) (cs : Cames) → called ev fs cs ≡ bare-called bev (each bare_fun fs) cs
unfolding SameEv called bare-called
called-bare ev bev same-ev [] (cames vs ts) = refl
called-bare ev bev same-ev [] (wrongs k ts) = refl
called-bare ev bev same-ev [] deeps = refl
called-bare ev bev same-ev (f ∷ fs) (cames vs ts) = grind (arith, binds_values)
called-bare ev bev same-ev (f ∷ fs) (wrongs k ts) = refl
called-bare ev bev same-ev (f ∷ fs) deeps = refl

step-bare : (p : Program) (ev : Ev) (bev : BareEv) → SameEv ev bev → SameEv (step p ev) (bare_step (each bare_fun p) bev)
unfolding SameEv step bare_step bare values_in
step-bare p ev bev same-ev xs vs (num n) = refl
step-bare p ev bev same-ev xs vs (var x) = ap looked (look-near xs vs x) ∙ looked-near (each bare_fun p) bev vs (how_near xs x 0) x
step-bare p ev bev same-ev xs vs (bin k a b) =
    ap₂ then (same-ev xs vs a) (fun_ext λ v. ap (λ c. then c (λ w. reckon k v w)) (same-ev xs vs b))
step-bare p ev bev same-ev xs vs (call f es) =
    ap (called ev (fun_of p f)) (all-bare ev bev same-ev xs vs es) ∙ called-bare ev bev same-ev (fun_of p f) (bare-eval_all (bev vs) (bare_all xs es))
    ∙ ap (λ fs. bare-called bev fs (bare-eval_all (bev vs) (bare_all xs es))) (sym (fun-bare p f))
step-bare p ev bev same-ev xs vs (bind x a b) = ap₂ then (same-ev xs vs a) (fun_ext λ v. same-ev (x ∷ xs) (v ∷ vs) b)
step-bare p ev bev same-ev xs vs (choice c a b) =
    ap₂ then (same-ev xs vs c) (fun_ext λ v. ap₂ (pick (eqb v 0)) (same-ev xs vs b) (same-ev xs vs a))
step-bare p ev bev same-ev xs vs (tell a) = ap (λ c. then c (λ v. came v (v ∷ []))) (same-ev xs vs a)

pub eval-bare : (n : ℕ) (p : Program) (xs : List Name) (vs : List ℕ) (e : Expr) →
    eval n p (values_in xs vs) e ≡ bare-eval n (each bare_fun p) vs (bare xs e)
unfolding eval bare-eval SameEv
eval-bare zero p xs vs e = refl
eval-bare (suc n) p xs vs e = grind (arith, step-bare, eval-bare n p)

-- in two programs whose functions differ only in their own names
pub alike_in_both : (n : ℕ) (p q : Program) → each bare_fun p ≡ each bare_fun q → (xs ys : List Name) (vs : List ℕ) (a b : Expr) →
    bare xs a ≡ bare ys b → eval n p (values_in xs vs) a ≡ eval n q (values_in ys vs) b
alike_in_both n p q h xs ys vs a b k = grind (arith, eval-bare)

pub alike_same : AlikeSame
alike_same p xs ys vs a b n h k e = alike_in_both n p p refl xs ys vs a b e

pub apply-bare : (n : ℕ) (p q : Program) → each bare_fun p ≡ each bare_fun q → (f : Name) (vs : List ℕ) → apply n p f vs ≡ apply n q f vs
unfolding SameEv
apply-bare n p q h f vs = run p ∙ ap (λ fs. bare-called (bare-eval n fs) (bare-fun_of fs f) (cames vs [])) h ∙ sym (run q)
  where
    run : (r : Program) → apply n r f vs ≡ bare-called (bare-eval n (each bare_fun r)) (bare-fun_of (each bare_fun r) f) (cames vs [])
    run r = grind (arith, called-bare, eval-bare, fun-bare)

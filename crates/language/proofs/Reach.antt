-- What one run comes to another does, once it may go deep enough: `Run`. It holds of whole expressions if it holds of their parts, and of two
-- programs if it holds of their functions' bodies in the second of them. Assumes nothing.
use Rattle.std.proofs.Common.{◌≡◌, ℕ, zero, suc, ◌≤◌, max, Bool, true, false, eqb, List, [], ◌∷◌, length, refl, arith, eqb-true}
use Rattle.language.specs.Basics.{pick}
use Rattle.language.specs.Bytes.{Name}
use Rattle.language.specs.Expr.{Expr, num, var, bin, call, bind, choice, tell, Exprs, no_exprs, expr_and, Fun, Program, main}
use Rattle.language.specs.Meaning.{Came, came, wrong, deep, Bound, fun_of, small, reckon, after_telling, then, looked, look, binds, Cames, cames, wrongs, deeps, more_cames, and_cames, eval_all, called, step, eval, apply}
use Rattle.language.specs.Equivalence.{AsDeep}
use Rattle.language.proofs.Depth.{Under, Unders, under_refl, unders_refl, under_trans, under_same, after-under, more_under, eval_up}

-- from some depth on, what c came to
pub record Reach (c : Came) (G : ℕ → Came) : Type 0 where
  pub from : ℕ
  pub under : (k : ℕ) → from ≤ k → Under c (G k)

pub record Reaches (c : Cames) (G : ℕ → Cames) : Type 0 where
  pub from : ℕ
  pub under : (k : ℕ) → from ≤ k → Unders c (G k)

-- what the first comes to at depth n, the second comes to
abbrev pub Run : ℕ → Program → List Bound → Expr → Program → List Bound → Expr → Type 0
Run n p bs a q cs b = Reach (eval n p bs a) (λ m. eval m q cs b)

abbrev pub Runs : ℕ → Program → List Bound → Exprs → Program → List Bound → Exprs → Type 0
Runs n p bs es q cs ds = Reaches (eval_all (λ e. eval n p bs e) es) (λ m. eval_all (λ e. eval m q cs e) ds)

pub reach_deep : (G : ℕ → Came) → Reach deep G
reach_deep G = record { from = 0; under = λ k h. tt }

pub still : (c : Came) → Reach c (λ m. c)
still c = record { from = 0; under = λ k h. under_refl c }

pub stills : (c : Cames) → Reaches c (λ m. c)
stills c = record { from = 0; under = λ k h. unders_refl c }

pub later : (c : Came) (G : ℕ → Came) → Reach c (λ m. G (suc m)) → Reach c G
later c G r = record { from = suc r.from; under = go }
  where
    go : (k : ℕ) → suc r.from ≤ k → Under c (G k)
    go zero h = absurd (omega arith)
    go (suc k) h = r.under k (omega arith)

pub sooner : (c : Came) (G : ℕ → Came) → Reach c G → Reach c (λ m. G (suc m))
sooner c G r = record { from = r.from; under = λ k h. r.under (suc k) (omega arith) }

pub reach_on : (a : Came) (G H : ℕ → Came) → Reach a G → ((n : ℕ) → Reach (G n) H) → Reach a H
reach_on a G H r s =
    record { from = (s r.from).from; under = λ k h. under_trans a (G r.from) (H k) (r.under r.from (omega arith)) ((s r.from).under k h) }

pub after_reach : (ts : List ℕ) (c : Came) (G : ℕ → Came) → Reach c G → Reach (after_telling ts c) (λ m. after_telling ts (G m))
after_reach ts c G r = record { from = r.from; under = λ k h. after-under ts c (G k) (r.under k h) }

pub then_reach : (c : Came) (f : ℕ → Came) (G : ℕ → Came) (g : ℕ → ℕ → Came) → Reach c G → ((v : ℕ) → Reach (f v) (λ m. g m v)) →
    Reach (then c f) (λ m. then (G m) (g m))
unfolding then
then_reach (came v ts) f G g r s = record { from = max r.from (s v).from; under = go }
  where
    go : (k : ℕ) → max r.from (s v).from ≤ k → Under (after_telling ts (f v)) (then (G k) (g k))
    go k h = grind (arith, after-under)
then_reach (wrong i ts) f G g r s = record { from = r.from; under = λ k h. rw (r.under k h) refl }
then_reach deep f G g r s = reach_deep (λ m. then (G m) (g m))

pub pick_reach : (t : Bool) (a b : Came) (G H : ℕ → Came) → Reach a G → Reach b H → Reach (pick t a b) (λ m. pick t (G m) (H m))
pick_reach true a b G H r s = r
pick_reach false a b G H r s = s

pub and_reach : (c : Came) (f : ℕ → List ℕ → Cames) (G : ℕ → Came) (g : ℕ → ℕ → List ℕ → Cames) → Reach c G →
    ((v : ℕ) (ts : List ℕ) → Reaches (f v ts) (λ m. g m v ts)) → Reaches (and_cames c f) (λ m. and_cames (G m) (g m))
and_reach (came v ts) f G g r s = record { from = max r.from (s v ts).from; under = go }
  where
    go : (k : ℕ) → max r.from (s v ts).from ≤ k → Unders (f v ts) (and_cames (G k) (g k))
    go k h = grind arith
and_reach (wrong i ts) f G g r s = record { from = r.from; under = λ k h. rw (r.under k h) refl }
and_reach deep f G g r s = record { from = 0; under = λ k h. tt }

pub more_reach : (v : ℕ) (ts : List ℕ) (c : Cames) (G : ℕ → Cames) → Reaches c G → Reaches (more_cames v ts c) (λ m. more_cames v ts (G m))
more_reach v ts c G r = record { from = r.from; under = λ k h. more_under v ts c (G k) (r.under k h) }

-- once the values are there, only what is done with them matters
pub values_reach : (c : Came) (vs ts : List ℕ) (C : ℕ → Cames) (F : ℕ → Cames → Came) → Reaches (cames vs ts) C → Reach c (λ m. F m (cames vs ts)) →
    Reach c (λ m. F m (C m))
values_reach c vs ts C F r s = record { from = max r.from s.from; under = λ k h. rw (r.under k (omega arith)) (s.under k (omega arith)) }

-- functions of which the second does what the first does
abbrev pub Paired : ℕ → Program → Program → List Fun → List Fun → Type 0
Paired n p q [] [] = Unit {0}
Paired n p q [] (g ∷ gs) = ⊥
Paired n p q (f ∷ fs) [] = ⊥
Paired n p q (f ∷ fs) (g ∷ gs) =
    (length f.params ≡ length g.params)
    × ((vs : List ℕ) → length vs ≡ length f.params → Run n p (binds f.params vs) f.body q (binds g.params vs) g.body)

pub called_reach : (n : ℕ) (p q : Program) (fs gs : List Fun) → Paired n p q fs gs → (c : Cames) (C : ℕ → Cames) → Reaches c C →
    Reach (called (λ cs e. eval n p cs e) fs c) (λ m. called (λ cs e. eval m q cs e) gs (C m))
unfolding called
called_reach n p q [] [] h (cames vs ts) C r = record { from = r.from; under = λ k l. rw (r.under k l) refl }
called_reach n p q [] [] h (wrongs i ts) C r = record { from = r.from; under = λ k l. rw (r.under k l) refl }
called_reach n p q [] [] h deeps C r = reach_deep (λ m. called (λ cs e. eval m q cs e) [] (C m))
called_reach n p q [] (g ∷ gs) h c C r = absurd h
called_reach n p q (f ∷ fs) [] h c C r = absurd h
called_reach n p q (f ∷ fs) (g ∷ gs) h (cames vs ts) C r =
    values_reach (called (λ cs e. eval n p cs e) (f ∷ fs) (cames vs ts)) vs ts C (λ m c. called (λ cs e. eval m q cs e) (g ∷ gs) c) r
    (rw (← h.0) (go (eqb (length vs) (length f.params)) refl))
  where
    go : (t : Bool) → eqb (length vs) (length f.params) ≡ t →
        Reach (pick t (after_telling ts (eval n p (binds f.params vs) f.body)) (wrong 3 ts))
        (λ m. pick t (after_telling ts (eval m q (binds g.params vs) g.body)) (wrong 3 ts))
    go true e =
        after_reach ts (eval n p (binds f.params vs) f.body) (λ m. eval m q (binds g.params vs) g.body)
        (h.1 vs (eqb-true _ _ e))
    go false e = still (wrong 3 ts)
called_reach n p q (f ∷ fs) (g ∷ gs) h (wrongs i ts) C r = record { from = r.from; under = λ k l. rw (r.under k l) refl }
called_reach n p q (f ∷ fs) (g ∷ gs) h deeps C r = reach_deep (λ m. called (λ cs e. eval m q cs e) (g ∷ gs) (C m))

pub run_zero : (p q : Program) (bs cs : List Bound) (a b : Expr) → Run zero p bs a q cs b
unfolding eval
run_zero p q bs cs a b = reach_deep (λ m. eval m q cs b)

pub run_self : (n : ℕ) (p : Program) (bs : List Bound) (e : Expr) → Run n p bs e p bs e
run_self n p bs e = record { from = n; under = λ k h. eval_up n k p bs e h }

pub run_on : (n : ℕ) (p q r : Program) (as₁ bs cs : List Bound) (a b c : Expr) → Run n p as₁ a q bs b → ((m : ℕ) → Run m q bs b r cs c) →
    Run n p as₁ a r cs c
run_on n p q r as₁ bs cs a b c s t = reach_on (eval n p as₁ a) (λ m. eval m q bs b) (λ m. eval m r cs c) s t

-- what a deeper run reaches
pub run_down : (n m : ℕ) (p : Program) (bs : List Bound) (e : Expr) (G : ℕ → Came) → n ≤ m → Reach (eval m p bs e) G → Reach (eval n p bs e) G
run_down n m p bs e G h r =
    record { from = r.from; under = λ k l. under_trans (eval n p bs e) (eval m p bs e) (G k) (eval_up n m p bs e h) (r.under k l) }

pub runs_none : (n : ℕ) (p q : Program) (bs cs : List Bound) → Runs n p bs no_exprs q cs no_exprs
unfolding eval_all
runs_none n p q bs cs = stills (cames [] [])

pub runs_and : (n : ℕ) (p q : Program) (bs cs : List Bound) (a b : Expr) (es ds : Exprs) → Run n p bs a q cs b → Runs n p bs es q cs ds →
    Runs n p bs (expr_and a es) q cs (expr_and b ds)
unfolding eval_all
runs_and n p q bs cs a b es ds r s =
    and_reach (eval n p bs a) (λ v ts. more_cames v ts (eval_all (λ e. eval n p bs e) es)) (λ m. eval m q cs b)
    (λ m v ts. more_cames v ts (eval_all (λ e. eval m q cs e) ds)) r
    (λ v ts. more_reach v ts (eval_all (λ e. eval n p bs e) es) (λ m. eval_all (λ e. eval m q cs e) ds) s)

pub runs-all : (n : ℕ) (p q : Program) (bs cs : List Bound) → ((e : Expr) → Run n p bs e q cs e) → (es : Exprs) → Runs n p bs es q cs es
runs-all n p q bs cs h no_exprs = runs_none n p q bs cs
runs-all n p q bs cs h (expr_and e es) = runs_and n p q bs cs e e es es (h e) (runs-all n p q bs cs h es)

module _ (n : ℕ) (p q : Program) (bs cs : List Bound) where
  pub run_num : (i : ℕ) → Run (suc n) p bs (num i) q cs (num i)
  unfolding eval step
  run_num i = later (small i) (λ m. eval m q cs (num i)) (still (small i))

  pub run_var : (x y : Name) → look bs x ≡ look cs y → Run (suc n) p bs (var x) q cs (var y)
  unfolding eval step
  run_var x y h = later (looked (look bs x)) (λ m. eval m q cs (var y)) (rw h (still (looked (look cs y))))

  pub run_bin : (k : ℕ) (a b c d : Expr) → Run n p bs a q cs c → Run n p bs b q cs d → Run (suc n) p bs (bin k a b) q cs (bin k c d)
  unfolding eval step
  run_bin k a b c d r s =
      later (eval (suc n) p bs (bin k a b)) (λ m. eval m q cs (bin k c d))
      (then_reach (eval n p bs a) (λ v. then (eval n p bs b) (λ w. reckon k v w)) (λ m. eval m q cs c)
      (λ m v. then (eval m q cs d) (λ w. reckon k v w)) r
      (λ v. then_reach (eval n p bs b) (λ w. reckon k v w) (λ m. eval m q cs d) (λ m w. reckon k v w) s (λ w. still (reckon k v w))))

  pub run_bind : (x y : Name) (a b c d : Expr) → Run n p bs a q cs c →
      ((v : ℕ) → Run n p (record { name = x; value = v } ∷ bs) b q (record { name = y; value = v } ∷ cs) d) →
      Run (suc n) p bs (bind x a b) q cs (bind y c d)
  unfolding eval step
  run_bind x y a b c d r s =
      later (eval (suc n) p bs (bind x a b)) (λ m. eval m q cs (bind y c d))
      (then_reach (eval n p bs a) (λ v. eval n p (record { name = x; value = v } ∷ bs) b) (λ m. eval m q cs c)
      (λ m v. eval m q (record { name = y; value = v } ∷ cs) d) r s)

  pub run_choice : (c a b d e f : Expr) → Run n p bs c q cs d → Run n p bs a q cs e → Run n p bs b q cs f →
      Run (suc n) p bs (choice c a b) q cs (choice d e f)
  unfolding eval step
  run_choice c a b d e f r s t =
      later (eval (suc n) p bs (choice c a b)) (λ m. eval m q cs (choice d e f))
      (then_reach (eval n p bs c) (λ v. pick (eqb v 0) (eval n p bs b) (eval n p bs a)) (λ m. eval m q cs d)
      (λ m v. pick (eqb v 0) (eval m q cs f) (eval m q cs e)) r
      (λ v. pick_reach (eqb v 0) (eval n p bs b) (eval n p bs a) (λ m. eval m q cs f) (λ m. eval m q cs e) t s))

  pub run_tell : (a b : Expr) → Run n p bs a q cs b → Run (suc n) p bs (tell a) q cs (tell b)
  unfolding eval step
  run_tell a b r =
      later (eval (suc n) p bs (tell a)) (λ m. eval m q cs (tell b))
      (then_reach (eval n p bs a) (λ v. came v (v ∷ [])) (λ m. eval m q cs b) (λ m v. came v (v ∷ [])) r (λ v. still (came v (v ∷ []))))

  pub run_call : (f g : Name) (es ds : Exprs) → Paired n p q (fun_of p f) (fun_of q g) → Runs n p bs es q cs ds →
      Run (suc n) p bs (call f es) q cs (call g ds)
  unfolding eval step
  run_call f g es ds h r =
      later (eval (suc n) p bs (call f es)) (λ m. eval m q cs (call g ds))
      (called_reach n p q (fun_of p f) (fun_of q g) h (eval_all (λ e. eval n p bs e) es) (λ m. eval_all (λ e. eval m q cs e) ds) r)

pub self_paired : (n : ℕ) (q : Program) (fs : List Fun) → Paired n q q fs fs
self_paired n q [] = tt
self_paired n q (f ∷ fs) = (refl, λ vs h. run_self n q (binds f.params vs) f.body)

-- a call of a program's own, with arguments that do what others do
pub run_call_self : (n : ℕ) (q : Program) (bs cs : List Bound) (f : Name) (es ds : Exprs) → Runs n q bs es q cs ds →
    Run (suc n) q bs (call f es) q cs (call f ds)
run_call_self n q bs cs f es ds r = run_call n q q bs cs f f es ds (self_paired n q (fun_of q f)) r

-- Each function of q does there what the body of p's does there.
abbrev pub Bodies : Program → Program → Type 0
Bodies p q = (x : Name) (n : ℕ) → Paired n q q (fun_of p x) (fun_of q x)

-- the body of one program's function in the other, then the other's body
pub paired_on : (n : ℕ) (p q : Program) (fs gs : List Fun) → ((bs : List Bound) (e : Expr) → Run n p bs e q bs e) →
    ((m : ℕ) → Paired m q q fs gs) → Paired n p q fs gs
paired_on n p q [] [] h k = tt
paired_on n p q [] (g ∷ gs) h k = k n
paired_on n p q (f ∷ fs) [] h k = k n
paired_on n p q (f ∷ fs) (g ∷ gs) h k = (
  (k n).0,
  λ vs l. run_on n p q q (binds f.params vs) (binds f.params vs) (binds g.params vs) f.body f.body g.body
      (h (binds f.params vs) f.body) (λ m. (k m).1 vs l),
)

pub bodies_reach : (p q : Program) → Bodies p q → (n : ℕ) (bs : List Bound) (e : Expr) → Run n p bs e q bs e
bodies_reach p q h zero bs e = run_zero p q bs bs e e
bodies_reach p q h (suc n) bs (num i) = run_num n p q bs bs i
bodies_reach p q h (suc n) bs (var x) = run_var n p q bs bs x x refl
bodies_reach p q h (suc n) bs (bin k a b) =
    run_bin n p q bs bs k a b a b (bodies_reach p q h n bs a) (bodies_reach p q h n bs b)
bodies_reach p q h (suc n) bs (call f es) =
    run_call n p q bs bs f f es es (paired_on n p q (fun_of p f) (fun_of q f) (bodies_reach p q h n) (h f))
    (runs-all n p q bs bs (bodies_reach p q h n bs) es)
bodies_reach p q h (suc n) bs (bind x a b) =
    run_bind n p q bs bs x x a b a b (bodies_reach p q h n bs a) (λ v. bodies_reach p q h n (record { name = x; value = v } ∷ bs) b)
bodies_reach p q h (suc n) bs (choice c a b) =
    run_choice n p q bs bs c a b c a b (bodies_reach p q h n bs c) (bodies_reach p q h n bs a) (bodies_reach p q h n bs b)
bodies_reach p q h (suc n) bs (tell a) = run_tell n p q bs bs a a (bodies_reach p q h n bs a)

pub bodies_as_deep : (p q : Program) → Bodies p q → AsDeep p q
unfolding AsDeep
bodies_as_deep p q h vs n small-enough d =
    let r : Reach (apply n p main vs) (λ m. apply m q main vs) =
    called_reach n p q (fun_of p main) (fun_of q main) (paired_on n p q (fun_of p main) (fun_of q main) (bodies_reach p q h n) (h main))
    (cames vs []) (λ m. cames vs []) (stills (cames vs []))
    in
    (r.from, under_same (apply n p main vs) (apply r.from q main vs) (r.under r.from (omega arith)) d)

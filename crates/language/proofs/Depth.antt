-- What a run came to, it comes to however deep it may go: each step of a run keeps `Under`, so by induction on the depth a run does.
-- Assumes nothing.
use Rattle.std.proofs.Common.{◌≡◌, ℕ, zero, suc, ◌+◌, ◌≤◌, false, List, [], ◌∷◌, ◌++◌, sym, refl, ap, append_assoc, arith}
use borrow.Author.Tests.{clash}
use Rattle.language.specs.Expr.{Expr, num, var, bin, call, bind, choice, tell, Exprs, no_exprs, expr_and, Fun, Program}
use Rattle.language.specs.Meaning.{Came, came, wrong, deep, Bound, small, after_telling, then, looked, look, Cames, cames, wrongs, deeps, more_cames, Ev, eval_all, called, step, eval}
use Rattle.language.specs.Equivalence.{is_deep}
use Rattle.language.specs.Statements.{DeeperSame}

-- what the first came to, so did the second; of one that went too deep nothing is asked
abbrev pub Under : Came → Came → Type 0
Under (came v ts) b = b ≡ came v ts
Under (wrong k ts) b = b ≡ wrong k ts
Under deep b = Unit {0}

abbrev pub Unders : Cames → Cames → Type 0
Unders (cames vs ts) b = b ≡ cames vs ts
Unders (wrongs k ts) b = b ≡ wrongs k ts
Unders deeps b = Unit {0}

pub under_refl : (a : Came) → Under a a
under_refl (came v ts) = refl
under_refl (wrong k ts) = refl
under_refl deep = tt

pub unders_refl : (a : Cames) → Unders a a
unders_refl (cames vs ts) = refl
unders_refl (wrongs k ts) = refl
unders_refl deeps = tt

pub under_trans : (a b c : Came) → Under a b → Under b c → Under a c
under_trans (came v ts) b c h k = rw h at k
under_trans (wrong i ts) b c h k = rw h at k
under_trans deep b c h k = tt

pub under_same : (a b : Came) → Under a b → is_deep a ≡ false → b ≡ a
unfolding is_deep
under_same (came v ts) b h d = h
under_same (wrong k ts) b h d = h
under_same deep b h d = absurd (clash (sym d))

pub after_none : (c : Came) → after_telling [] c ≡ c
unfolding after_telling
after_none (came v ts) = refl
after_none (wrong k ts) = refl
after_none deep = refl

pub after-twice : (ts us : List ℕ) (c : Came) → after_telling (ts ++ us) c ≡ after_telling ts (after_telling us c)
unfolding after_telling
after-twice ts us (came v ws) = ap (came v) (append_assoc ts us ws)
after-twice ts us (wrong k ws) = ap (wrong k) (append_assoc ts us ws)
after-twice ts us deep = refl

pub after-under : (ts : List ℕ) (a b : Came) → Under a b → Under (after_telling ts a) (after_telling ts b)
unfolding after_telling
after-under ts (came v us) b h = ap (after_telling ts) h
after-under ts (wrong k us) b h = ap (after_telling ts) h
after-under ts deep b h = tt

pub then-under : (a b : Came) (f g : ℕ → Came) → Under a b → ((v : ℕ) → Under (f v) (g v)) → Under (then a f) (then b g)
unfolding then
then-under (came v ts) b f g h k = rw h (after-under ts (f v) (g v) (k v))
then-under (wrong i ts) b f g h k = rw h refl
then-under deep b f g h k = tt

pub more_under : (v : ℕ) (ts : List ℕ) (a b : Cames) → Unders a b → Unders (more_cames v ts a) (more_cames v ts b)
more_under v ts (cames vs us) b h = ap (more_cames v ts) h
more_under v ts (wrongs k us) b h = ap (more_cames v ts) h
more_under v ts deeps b h = tt

pub all_under : (ev ew : Expr → Came) → ((e : Expr) → Under (ev e) (ew e)) → (es : Exprs) → Unders (eval_all ev es) (eval_all ew es)
unfolding eval_all
all_under ev ew h no_exprs = refl
all_under ev ew h (expr_and e es) = grind (arith, all_under ev ew h es)

pub called-under : (ev ew : Ev) → ((bs : List Bound) (e : Expr) → Under (ev bs e) (ew bs e)) → (fs : List Fun) (a b : Cames) → Unders a b →
    Under (called ev fs a) (called ew fs b)
unfolding called
called-under ev ew h [] (cames vs ts) b k = rw k refl
called-under ev ew h [] (wrongs i ts) b k = rw k refl
called-under ev ew h [] deeps b k = tt
called-under ev ew h (f ∷ fs) (cames vs ts) b k = grind (arith, after-under)
called-under ev ew h (f ∷ fs) (wrongs i ts) b k = rw k refl
called-under ev ew h (f ∷ fs) deeps b k = tt

pub step-under : (p : Program) (ev ew : Ev) → ((bs : List Bound) (e : Expr) → Under (ev bs e) (ew bs e)) → (bs : List Bound) (e : Expr) →
    Under (step p ev bs e) (step p ew bs e)
unfolding step
step-under p ev ew h bs (num n) = under_refl (small n)
step-under p ev ew h bs (var x) = under_refl (looked (look bs x))
step-under p ev ew h bs (bin k a b) = grind (arith, then-under)
step-under p ev ew h bs (call f es) = grind (arith, called-under, all_under)
step-under p ev ew h bs (bind x a b) = grind (arith, then-under)
step-under p ev ew h bs (choice c a b) = grind (arith, then-under)
step-under p ev ew h bs (tell a) = grind (arith, then-under)

pub eval_up : (n m : ℕ) (p : Program) (bs : List Bound) (e : Expr) → n ≤ m → Under (eval n p bs e) (eval m p bs e)
unfolding eval
eval_up zero m p bs e h = tt
eval_up (suc n) zero p bs e h = absurd (omega arith)
eval_up (suc n) (suc m) p bs e h =
    step-under p (λ cs f. eval n p cs f) (λ cs f. eval m p cs f) (λ cs f. eval_up n m p cs f (omega arith)) bs e

pub deeper_same : DeeperSame
deeper_same p bs e n k d = under_same (eval n p bs e) (eval (k + n) p bs e) (eval_up n (k + n) p bs e (omega arith)) d

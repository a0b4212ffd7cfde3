-- When two programs mean the same: if they run alike at every depth, and so if their functions differ only in their own names; and then
-- whatever their mains come to is the same.
-- Assumes nothing.
use Rattle.std.proofs.Common.{◌≡◌, ℕ, ◌+◌, ◌≤◌, true, false, ltb, List, sym, refl, ap, ◌∙◌, arith}
use Rattle.language.specs.Basics.{every, each}
use Rattle.language.specs.Bytes.{Name}
use Rattle.language.specs.Expr.{limit, Program, main}
use Rattle.language.specs.Meaning.{apply}
use Rattle.language.specs.Equivalence.{is_deep, AsDeep, MeanSame}
use Rattle.language.proofs.BareRuns.{bare_fun, apply-bare}
use Rattle.language.proofs.Depth.{under_same, called-under, eval_up}

as_deep_same : (p q : Program) → ((n : ℕ) (vs : List ℕ) → apply n p main vs ≡ apply n q main vs) → AsDeep p q
unfolding AsDeep
as_deep_same p q h vs n small ends = (n, sym (h n vs))

pub mean_same_deep : (p q : Program) → ((n : ℕ) (vs : List ℕ) → apply n p main vs ≡ apply n q main vs) → MeanSame p q
unfolding MeanSame
mean_same_deep p q h = (as_deep_same p q h, as_deep_same q p (λ n vs. sym (h n vs)))

pub mean_refl : (p : Program) → MeanSame p p
mean_refl p = mean_same_deep p p (λ n vs. refl)

pub mean_bare : (p q : Program) → each bare_fun p ≡ each bare_fun q → MeanSame p q
mean_bare p q h = mean_same_deep p q (λ n vs. apply-bare n p q h main vs)

as_deep_on : (p q r : Program) → AsDeep p q → AsDeep q r → AsDeep p r
unfolding AsDeep
as_deep_on p q r h k vs n small ends =
    let in_q = h vs n small ends in
    let in_r = k vs in_q.0 small (ap is_deep in_q.1 ∙ ends) in
    (in_r.0, in_r.1 ∙ in_q.1)

pub mean_trans : (p q r : Program) → MeanSame p q → MeanSame q r → MeanSame p r
unfolding MeanSame
mean_trans p q r h k = (as_deep_on p q r h.0 k.0, as_deep_on r q p k.1 h.1)

-- what a function came to, it comes to however deep it may go
pub apply_deeper : (n m : ℕ) (p : Program) (f : Name) (vs : List ℕ) → n ≤ m → is_deep (apply n p f vs) ≡ false → apply m p f vs ≡ apply n p f vs
apply_deeper n m p f vs h ends = grind (arith, under_same, called-under, eval_up)

-- mains of programs that mean the same come to the same, whenever both come to something
pub mean_apply : (p q : Program) (n m : ℕ) (vs : List ℕ) → every (λ v. ltb v limit) vs ≡ true → MeanSame p q → is_deep (apply n p main vs) ≡ false →
    is_deep (apply m q main vs) ≡ false → apply n p main vs ≡ apply m q main vs
unfolding MeanSame AsDeep
mean_apply p q n m vs small same-mean ends-p ends-q =
    let in_q = same-mean.0 vs n small ends-p in
    let k = in_q.0 in
    sym in_q.1 ∙ sym (apply_deeper k (k + m) q main vs (omega arith) (ap is_deep in_q.1 ∙ ends-p))
    ∙ apply_deeper m (k + m) q main vs (omega arith) ends-q

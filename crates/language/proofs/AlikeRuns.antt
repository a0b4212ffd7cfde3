-- Expressions that run alike in one program: each comes to what the other does. It holds of whole expressions if it holds of their parts.
-- Assumes nothing.
use Rattle.std.proofs.Common.{◌≡◌, ℕ, zero, suc, List, ◌∷◌, sym, subst}
use mathlib.Core.Path.{fun_ext}
use Rattle.language.specs.Bytes.{Name}
use Rattle.language.specs.Expr.{Expr, num, var, bin, call, bind, choice, tell, Exprs, no_exprs, expr_and, Program}
use Rattle.language.specs.Meaning.{Bound, look, eval}
use Rattle.language.proofs.Reach.{Reach, Run, Runs, run_zero, run_self, run_on, run_num, run_var, run_bin, run_bind, run_choice, run_tell, run_call_self, runs_none, runs_and}

abbrev pub AlikeRun : Program → List Bound → Expr → List Bound → Expr → Type 0
AlikeRun r bs a cs b = (n : ℕ) → Run n r bs a r cs b × Run n r cs b r bs a

abbrev pub AlikeRuns : Program → List Bound → Exprs → List Bound → Exprs → Type 0
AlikeRuns r bs es cs ds = (n : ℕ) → Runs n r bs es r cs ds × Runs n r cs ds r bs es

pub alike_on : (r : Program) (as₁ bs cs : List Bound) (a b c : Expr) → AlikeRun r as₁ a bs b → AlikeRun r bs b cs c → AlikeRun r as₁ a cs c
alike_on r as₁ bs cs a b c h k n =
    (run_on n r r r as₁ bs cs a b c (h n).0 (λ m. (k m).0), run_on n r r r cs bs as₁ c b a (k n).1 (λ m. (h m).1))

pub alike-eval : (r : Program) (bs cs : List Bound) (a b : Expr) → ((n : ℕ) → eval n r bs a ≡ eval n r cs b) → AlikeRun r bs a cs b
alike-eval r bs cs a b h n = (
  subst (λ G. Reach (eval n r bs a) G) (fun_ext h) (run_self n r bs a),
  subst (λ G. Reach (eval n r cs b) G) (fun_ext λ m. sym (h m)) (run_self n r cs b),
)

pub alikes_none : (r : Program) (bs cs : List Bound) → AlikeRuns r bs no_exprs cs no_exprs
alikes_none r bs cs n = (runs_none n r r bs cs, runs_none n r r cs bs)

pub alikes_and : (r : Program) (bs cs : List Bound) (a b : Expr) (es ds : Exprs) → AlikeRun r bs a cs b → AlikeRuns r bs es cs ds →
    AlikeRuns r bs (expr_and a es) cs (expr_and b ds)
alikes_and r bs cs a b es ds h k n = (runs_and n r r bs cs a b es ds (h n).0 (k n).0, runs_and n r r cs bs b a ds es (h n).1 (k n).1)

module _ (r : Program) (bs cs : List Bound) where
  too_deep : (a b : Expr) → Run zero r bs a r cs b × Run zero r cs b r bs a
  too_deep a b = (run_zero r r bs cs a b, run_zero r r cs bs b a)

  pub alike-num : (i : ℕ) → AlikeRun r bs (num i) cs (num i)
  alike-num i zero = too_deep (num i) (num i)
  alike-num i (suc n) = (run_num n r r bs cs i, run_num n r r cs bs i)

  pub alike-var : (x y : Name) → look bs x ≡ look cs y → AlikeRun r bs (var x) cs (var y)
  alike-var x y h zero = too_deep (var x) (var y)
  alike-var x y h (suc n) = (run_var n r r bs cs x y h, run_var n r r cs bs y x (sym h))

  pub alike-bin : (k : ℕ) (a b c d : Expr) → AlikeRun r bs a cs c → AlikeRun r bs b cs d → AlikeRun r bs (bin k a b) cs (bin k c d)
  alike-bin k a b c d h g zero = too_deep (bin k a b) (bin k c d)
  alike-bin k a b c d h g (suc n) =
      (run_bin n r r bs cs k a b c d (h n).0 (g n).0, run_bin n r r cs bs k c d a b (h n).1 (g n).1)

  pub alike-call : (f : Name) (es ds : Exprs) → AlikeRuns r bs es cs ds → AlikeRun r bs (call f es) cs (call f ds)
  alike-call f es ds h zero = too_deep (call f es) (call f ds)
  alike-call f es ds h (suc n) = (run_call_self n r bs cs f es ds (h n).0, run_call_self n r cs bs f ds es (h n).1)

  pub alike-bind : (x y : Name) (a b c d : Expr) → AlikeRun r bs a cs c →
      ((v : ℕ) → AlikeRun r (record { name = x; value = v } ∷ bs) b (record { name = y; value = v } ∷ cs) d) →
      AlikeRun r bs (bind x a b) cs (bind y c d)
  alike-bind x y a b c d h g zero = too_deep (bind x a b) (bind y c d)
  alike-bind x y a b c d h g (suc n) =
      (run_bind n r r bs cs x y a b c d (h n).0 (λ v. (g v n).0), run_bind n r r cs bs y x c d a b (h n).1 (λ v. (g v n).1))

  pub alike-choice : (c a b d e f : Expr) → AlikeRun r bs c cs d → AlikeRun r bs a cs e → AlikeRun r bs b cs f →
      AlikeRun r bs (choice c a b) cs (choice d e f)
  alike-choice c a b d e f h g k zero = too_deep (choice c a b) (choice d e f)
  alike-choice c a b d e f h g k (suc n) =
      (run_choice n r r bs cs c a b d e f (h n).0 (g n).0 (k n).0, run_choice n r r cs bs d e f c a b (h n).1 (g n).1 (k n).1)

  pub alike-tell : (a b : Expr) → AlikeRun r bs a cs b → AlikeRun r bs (tell a) cs (tell b)
  alike-tell a b h zero = too_deep (tell a) (tell b)
  alike-tell a b h (suc n) = (run_tell n r r bs cs a b (h n).0, run_tell n r r cs bs b a (h n).1)

-- An if turned the other way round means the same: its condition is told from 0 once more, and its arms change places. Assumes nothing.
use Rattle.std.proofs.Common.{rules, ◌≡◌, ℕ, suc, eqb, List, ◌∷◌, sym, subst, arith}
use mathlib.Core.Path.{fun_ext}
use Rattle.language.specs.Basics.{pick}
use Rattle.language.specs.Bytes.{Name}
use Rattle.language.specs.Expr.{Expr, num, var, bin, call, bind, choice, tell, Fun, Program}
use Rattle.language.specs.Meaning.{Bound, fun_of, after_telling, then, step, eval}
use Rattle.language.specs.Places.{at_place}
use Rattle.language.proofs.Reach.{Reach, Run, later, sooner, then_reach, pick_reach, run_self, run_down}
use Rattle.model.specs.Command.{turn_cond}
use Rattle.model.specs.State.{Plain}
use Rattle.model.specs.Invert.{if_turned, cond_turned}
use Rattle.model.specs.Model.{turn}
use Rattle.model.proofs.Kept.{Kept, kept-refused}
use Rattle.model.proofs.KeptPlace.{kept_at, kept_put}

-- the condition, and then the same arm
turned : (m : ℕ) (r : Program) (ds : List Bound) (c a b : Expr) →
    eval (suc (suc (suc m))) r ds (if_turned c a b)
    ≡ then (eval (suc m) r ds c) (λ v. pick (eqb v 0) (eval (suc (suc m)) r ds b) (eval (suc (suc m)) r ds a))
unfolding eval step then after_telling
turned m r ds c a b = search rules

module _ (r : Program) (n : ℕ) (ds : List Bound) (c a b : Expr) where
  reach_turned : Reach (eval (suc n) r ds (choice c a b)) (λ m. eval (suc (suc (suc m))) r ds (if_turned c a b))
  unfolding eval step
  reach_turned =
      subst (λ G. Reach (eval (suc n) r ds (choice c a b)) G) (fun_ext λ m. sym (turned m r ds c a b))
      (then_reach (eval n r ds c) (λ v. pick (eqb v 0) (eval n r ds b) (eval n r ds a)) (λ m. eval (suc m) r ds c)
      (λ m v. pick (eqb v 0) (eval (suc (suc m)) r ds b) (eval (suc (suc m)) r ds a)) (sooner _ (λ m. eval m r ds c) (run_self n r ds c))
      (λ v. pick_reach (eqb v 0) (eval n r ds b) (eval n r ds a) (λ m. eval (suc (suc m)) r ds b) (λ m. eval (suc (suc m)) r ds a)
      (twice_sooner b) (twice_sooner a)))
    where
      twice_sooner : (e : Expr) → Reach (eval n r ds e) (λ m. eval (suc (suc m)) r ds e)
      twice_sooner e = sooner (eval n r ds e) (λ m. eval (suc m) r ds e) (sooner (eval n r ds e) (λ m. eval m r ds e) (run_self n r ds e))

  turned_reach : Reach (eval (suc (suc (suc n))) r ds (if_turned c a b)) (λ m. eval (suc m) r ds (choice c a b))
  unfolding eval step
  turned_reach =
      subst (λ o. Reach o (λ m. eval (suc m) r ds (choice c a b))) (sym (turned n r ds c a b))
      (then_reach (eval (suc n) r ds c) (λ v. pick (eqb v 0) (eval (suc (suc n)) r ds b) (eval (suc (suc n)) r ds a)) (λ m. eval m r ds c)
      (λ m v. pick (eqb v 0) (eval m r ds b) (eval m r ds a)) (run_self (suc n) r ds c)
      (λ v. pick_reach (eqb v 0) (eval (suc (suc n)) r ds b) (eval (suc (suc n)) r ds a) (λ m. eval m r ds b) (λ m. eval m r ds a)
      (run_self (suc (suc n)) r ds b) (run_self (suc (suc n)) r ds a)))

  turn_forth : Run n r ds (choice c a b) r ds (if_turned c a b)
  turn_forth =
      run_down n (suc n) r ds (choice c a b) (λ m. eval m r ds (if_turned c a b)) (omega arith)
      (later _ _ (later _ _ (later _ _ reach_turned)))

  turn_back : Run n r ds (if_turned c a b) r ds (choice c a b)
  turn_back =
      run_down n (suc (suc (suc n))) r ds (if_turned c a b) (λ m. eval m r ds (choice c a b)) (omega arith) (later _ _ turned_reach)

pub cond_mean : (w : Plain) (x : Name) (ks : List ℕ) → Kept w (turn w (turn_cond x ks))
unfolding turn cond_turned
cond_mean w x ks = kept_at w x ks (λ f e. cond_turned w f ks e) go
  where
    go : (f : Fun) (fs : List Fun) (e : Expr) (es : List Expr) → fun_of w.now f.name ≡ f ∷ fs → at_place f.body ks ≡ e ∷ es →
        Kept w (cond_turned w f ks e)
    go f fs (num n) es found stands = kept-refused w 6
    go f fs (var y) es found stands = kept-refused w 6
    go f fs (bin k a b) es found stands = kept-refused w 6
    go f fs (call g as₁) es found stands = kept-refused w 6
    go f fs (bind y a b) es found stands = kept-refused w 6
    go f fs (choice c a b) es found stands =
        kept_put w f fs ks (choice c a b) es (if_turned c a b) found stands (λ r ds g n. (turn_forth r n ds c a b, turn_back r n ds c a b))
    go f fs (tell a) es found stands = kept-refused w 6

-- A let put in place leaves what the program means: what it gives is quiet, so it ends with the value of the let's name. Assumes nothing.
use Rattle.std.proofs.Common.{◌≡◌, ℕ, zero, suc, true, List, [], ◌∷◌, subst}
use Rattle.language.specs.Basics.{same}
use Rattle.language.specs.Bytes.{Name}
use Rattle.language.specs.Expr.{Expr, num, var, bin, call, bind, choice, tell, Fun, Program}
use Rattle.language.specs.Meaning.{came, Bound, look, fun_of, then, step, eval}
use Rattle.language.specs.Places.{at_place}
use Rattle.language.specs.Names.{free}
use Rattle.language.proofs.NameFacts.{same_refl}
use Rattle.language.proofs.Depth.{after_none, Under, under_refl, under_trans, then-under, eval_up}
use Rattle.language.proofs.Reach.{Reach, Run, later, then_reach, run_self, run_zero}
use Rattle.language.proofs.AlikeRuns.{AlikeRun, alike_on}
use Rattle.model.specs.Command.{inline_bind}
use Rattle.model.specs.State.{Plain, no}
use Rattle.model.specs.Extract.{given_at}
use Rattle.model.specs.Inline.{quiet, put_for, put_if, bind_inlined}
use Rattle.model.specs.Model.{turn}
use Rattle.model.proofs.SetFacts.{pick_left, pick_right}
use Rattle.model.proofs.PlaceMeaning.{Given}
use Rattle.model.proofs.Kept.{Kept, kept-refused, kept-pick}
use Rattle.model.proofs.KeptPlace.{kept_at, kept_put}
use Rattle.model.proofs.QuietFacts.{Ends, ends-under, quiet-ends}
use Rattle.model.proofs.PutForRuns.{First, first-map, Stands, put_run}

-- a let of what ends runs as its expression does where the name has that number
module _ (r : Program) (ds : List Bound) (x : Name) (a b : Expr) (v : ℕ) (end : Ends r ds a v) where
  abbrev with_x : ℕ → List Bound
  with_x u = record { name = x; value = u } ∷ ds

  let_forth : (n : ℕ) → Run n r ds (bind x a b) r (with_x v) b
  unfolding eval step then
  let_forth zero = run_zero r r ds (with_x v) (bind x a b) b
  let_forth (suc n) =
      record {
        from = n;
        under = λ k l. under_trans (eval (suc n) r ds (bind x a b)) (eval n r (with_x v) b) (eval k r (with_x v) b)
            (subst (Under (eval (suc n) r ds (bind x a b))) (after_none (eval n r (with_x v) b))
            (then-under (eval n r ds a) (came v []) (λ u. eval n r (with_x u) b) (λ u. eval n r (with_x u) b) (ends-under r ds a v end n)
            (λ u. under_refl (eval n r (with_x u) b)))) (eval_up n k r (with_x v) b l);
      }

  let_back : (n : ℕ) → Run n r (with_x v) b r ds (bind x a b)
  unfolding eval step then
  let_back n =
      later (eval n r (with_x v) b) (λ m. eval m r ds (bind x a b))
      (subst (λ c. Reach c (λ m. eval (suc m) r ds (bind x a b))) (after_none (eval n r (with_x v) b))
      (then_reach (came v []) (λ u. eval n r (with_x u) b) (λ m. eval m r ds a) (λ m u. eval m r (with_x u) b) end (λ u. run_self n r (with_x u) b)))

  pub let-alike : AlikeRun r ds (bind x a b) (with_x v) b
  let-alike n = (let_forth n, let_back n)

-- a let, and what is made of it
let_put : (gs : List Name) (x : Name) (a b : Expr) → quiet gs a ≡ true → (r : Program) (ds : List Bound) → Given gs ds →
    First (AlikeRun r ds (bind x a b) ds) (put_for x a b)
unfolding look
let_put gs x a b q r ds g =
    first-map (AlikeRun r inner b ds) (AlikeRun r ds (bind x a b) ds)
    (λ c h. alike_on r ds inner ds (bind x a b) b c (let-alike r ds x a b v end.1) h) (put_for x a b) (put_run r x a v b inner ds stands)
  where
    end : (v : ℕ) × Ends r ds a v
    end = quiet-ends r gs ds g a q

    v : ℕ
    v = end.0

    inner : List Bound
    inner = record { name = x; value = v } ∷ ds

    stands : Stands r x a v (free b) inner ds
    stands =
        record {
          here = pick_left (same x x) (v ∷ []) (look ds x) (same_refl x);
          others = λ z d. pick_right (same x z) (v ∷ []) (look ds z) d;
          ends = λ h. end.1;
        }

-- what is put in place, if there is something, runs as what stood there
pub kept-put_if : (w : Plain) (f : Fun) (fs : List Fun) (ks : List ℕ) (old : Expr) (os : List Expr) → fun_of w.now f.name ≡ f ∷ fs →
    at_place f.body ks ≡ old ∷ os → (l : List Expr) →
    ((r : Program) (ds : List Bound) → Given (given_at f.params f.body ks) ds → First (AlikeRun r ds old ds) l) → Kept w (put_if w f ks l)
kept-put_if w f fs ks old os found stands [] h = kept-refused w 5
kept-put_if w f fs ks old os found stands (new ∷ news) h = kept_put w f fs ks old os new found stands h

pub inline_mean : (w : Plain) (x : Name) (ks : List ℕ) → Kept w (turn w (inline_bind x ks))
unfolding turn bind_inlined
inline_mean w x ks = kept_at w x ks (λ f e. bind_inlined w f ks e) go
  where
    go : (f : Fun) (fs : List Fun) (e : Expr) (es : List Expr) → fun_of w.now f.name ≡ f ∷ fs → at_place f.body ks ≡ e ∷ es →
        Kept w (bind_inlined w f ks e)
    go f fs (num n) es found stands = kept-refused w 6
    go f fs (var y) es found stands = kept-refused w 6
    go f fs (bin k a b) es found stands = kept-refused w 6
    go f fs (call g as₁) es found stands = kept-refused w 6
    go f fs (bind y a b) es found stands =
        kept-pick w (quiet (given_at f.params f.body ks) a) (put_if w f ks (put_for y a b)) (no 5 w)
        (λ q. kept-put_if w f fs ks (bind y a b) es found stands (put_for y a b) (let_put (given_at f.params f.body ks) y a b q))
        (λ q. kept-refused w 5)
    go f fs (choice c a b) es found stands = kept-refused w 6
    go f fs (tell a) es found stands = kept-refused w 6

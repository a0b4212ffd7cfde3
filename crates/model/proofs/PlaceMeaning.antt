-- Something else put at a place: what runs as it does there runs as it does around it, and so the program means the same. Assumes nothing.
use Rattle.std.proofs.Common.{◌≡◌, ℕ, zero, suc, ◌≤◌, Bool, true, false, List, [], ◌∷◌, length, sym, refl, ap, ◌∙◌, subst, subst₂, arith}
use mathlib.Core.List.{nil≢cons}
use borrow.Author.Tests.{clash}
use Rattle.language.specs.Basics.{pick, or, same}
use Rattle.language.specs.Bytes.{Name}
use Rattle.language.specs.Expr.{Expr, num, var, bin, call, bind, choice, tell, Exprs, no_exprs, expr_and, Fun, Program, parts}
use Rattle.language.specs.Meaning.{Bound, look, fun_of, binds}
use Rattle.language.specs.Places.{nth_expr, at_place, put_nth, with_part, put_some, put_at}
use Rattle.language.specs.Names.{has}
use Rattle.language.specs.Equivalence.{MeanSame}
use Rattle.language.proofs.NameFacts.{same_eq, same_sym}
use Rattle.language.proofs.PlaceFacts.{put_same}
use Rattle.language.proofs.Reach.{Run, Runs, Paired, Bodies, run_zero, run_self, run_bin, run_bind, run_choice, run_tell, run_call_self, runs_none, runs_and, runs-all, self_paired, bodies_as_deep}
use Rattle.model.specs.State.{with_body, set_fun}
use Rattle.model.proofs.SetFacts.{set_other, set_here}
use Rattle.model.specs.Extract.{given_in, given_to, given_at}

-- each of these names has a value
abbrev pub Given : List Name → List Bound → Type 0
Given xs bs = (x : Name) → has xs x ≡ true → (v : ℕ) × (look bs x ≡ v ∷ [])

pub given-bind : (xs : List Name) (bs : List Bound) (x : Name) (v : ℕ) → Given xs bs → Given (x ∷ xs) (record { name = x; value = v } ∷ bs)
unfolding look
given-bind xs bs x v g y h = go (same x y) refl
  where
    go : (t : Bool) → same x y ≡ t → (w : ℕ) × (pick t (v ∷ []) (look bs y) ≡ w ∷ [])
    go true e = (v, refl)
    go false e = g y (sym (ap (λ s. or s (has xs y)) (same_sym y x ∙ e)) ∙ h)

pub given-binds : (xs : List Name) (vs : List ℕ) → length vs ≡ length xs → Given xs (binds xs vs)
unfolding binds
given-binds [] vs l y h = absurd (clash h)
given-binds (x ∷ xs) [] l y h = absurd (omega arith)
given-binds (x ∷ xs) (v ∷ vs) l y h = given-bind xs (binds xs vs) x v (given-binds xs vs (omega arith)) y h

nth_runs : (n : ℕ) (q : Program) (bs : List Bound) (es : Exprs) (k : ℕ) (a b : Expr) → Run n q bs a q bs b →
    Runs n q bs (put_nth es k a) q bs (put_nth es k b)
unfolding put_nth
nth_runs n q bs no_exprs k a b r = runs_none n q q bs bs
nth_runs n q bs (expr_and e es) zero a b r = runs_and n q q bs bs a b es es r (runs-all n q q bs bs (run_self n q bs) es)
nth_runs n q bs (expr_and e es) (suc k) a b r =
    runs_and n q q bs bs e e (put_nth es k a) (put_nth es k b) (run_self n q bs e) (nth_runs n q bs es k a b r)

-- a part, where its names are given
part_run : (n : ℕ) (q : Program) (e : Expr) (k : ℕ) (c : Expr) (cs : List Expr) → nth_expr (parts e) k ≡ c ∷ cs →
    (xs : List Name) (bs : List Bound) → Given xs bs → (a b : Expr) → ((ds : List Bound) → Given (given_in xs e k) ds → Run n q ds a q ds b) →
    Run (suc n) q bs (with_part e k a) q bs (with_part e k b)
unfolding nth_expr parts with_part
part_run n q (num i) k c cs h xs bs g a b r = run_self (suc n) q bs (num i)
part_run n q (var x) k c cs h xs bs g a b r = run_self (suc n) q bs (var x)
part_run n q (bin o d e) zero c cs h xs bs g a b r = run_bin n q q bs bs o a e b e (r bs g) (run_self n q bs e)
part_run n q (bin o d e) (suc zero) c cs h xs bs g a b r = run_bin n q q bs bs o d a d b (run_self n q bs d) (r bs g)
part_run n q (bin o d e) (suc (suc k)) c cs h xs bs g a b r = absurd (nil≢cons h)
part_run n q (call f es) k c cs h xs bs g a b r =
    run_call_self n q bs bs f (put_nth es k a) (put_nth es k b) (nth_runs n q bs es k a b (r bs g))
part_run n q (bind x d e) zero c cs h xs bs g a b r =
    run_bind n q q bs bs x x a e b e (r bs g) (λ v. run_self n q (record { name = x; value = v } ∷ bs) e)
part_run n q (bind x d e) (suc zero) c cs h xs bs g a b r =
    run_bind n q q bs bs x x d a d b (run_self n q bs d) (λ v. r (record { name = x; value = v } ∷ bs) (given-bind xs bs x v g))
part_run n q (bind x d e) (suc (suc k)) c cs h xs bs g a b r = absurd (nil≢cons h)
part_run n q (choice f d e) zero c cs h xs bs g a b r =
    run_choice n q q bs bs a d e b d e (r bs g) (run_self n q bs d) (run_self n q bs e)
part_run n q (choice f d e) (suc zero) c cs h xs bs g a b r =
    run_choice n q q bs bs f a e f b e (run_self n q bs f) (r bs g) (run_self n q bs e)
part_run n q (choice f d e) (suc (suc zero)) c cs h xs bs g a b r =
    run_choice n q q bs bs f d a f d b (run_self n q bs f) (run_self n q bs d) (r bs g)
part_run n q (choice f d e) (suc (suc (suc k))) c cs h xs bs g a b r = absurd (nil≢cons h)
part_run n q (tell d) k c cs h xs bs g a b r = run_tell n q q bs bs a b (r bs g)

-- a runs as b does, where these names are given, as deep as n
abbrev pub RunsGiven : ℕ → Program → List Name → Expr → Expr → Type 0
RunsGiven n q xs a b = (k : ℕ) → k ≤ n → (ds : List Bound) → Given xs ds → Run k q ds a q ds b

-- what runs at a place as the other does, runs around it so
pub place_run : (q : Program) (a b : Expr) (ks : List ℕ) (e : Expr) (xs : List Name) (bs : List Bound) → Given xs bs → (n : ℕ) →
    RunsGiven n q (given_at xs e ks) a b → Run n q bs (put_at e ks a) q bs (put_at e ks b)
unfolding put_at given_at given_to
place_run q a b [] e xs bs g n r = r n (omega arith) bs g
place_run q a b (k ∷ ks) e xs bs g zero r = run_zero q q bs bs (put_at e (k ∷ ks) a) (put_at e (k ∷ ks) b)
place_run q a b (k ∷ ks) e xs bs g (suc n) r = go (nth_expr (parts e) k) refl r (λ c ys ds d. place_run q a b ks c ys ds d n)
  where
    go : (cs : List Expr) → nth_expr (parts e) k ≡ cs →
        RunsGiven (suc n) q (given_to (given_in xs e k) cs (λ ys c. given_at ys c ks)) a b →
        ((c : Expr) (ys : List Name) (ds : List Bound) → Given ys ds → RunsGiven n q (given_at ys c ks) a b →
        Run n q ds (put_at c ks a) q ds (put_at c ks b)) →
        Run (suc n) q bs (put_some e k cs (λ c. put_at c ks a)) q bs (put_some e k cs (λ c. put_at c ks b))
    go [] h r ih = run_self (suc n) q bs e
    go (c ∷ cs) h r ih =
        part_run n q e k c cs h xs bs g (put_at c ks a) (put_at c ks b)
        (λ ds d. ih c (given_in xs e k) ds d (λ j l. r j (omega arith)))

-- programs that differ in one function do the same, if that one does
pub one_fun_bodies : (p q : Program) (x : Name) (fs gs : List Fun) → ((y : Name) → same x y ≡ false → fun_of q y ≡ fun_of p y) →
    fun_of p x ≡ fs → fun_of q x ≡ gs → ((n : ℕ) → Paired n q q fs gs) → Bodies p q
one_fun_bodies p q x fs gs others h k r y n = go (same x y) refl
  where
    go : (t : Bool) → same x y ≡ t → Paired n q q (fun_of p y) (fun_of q y)
    go true e =
        subst₂ (λ hs ks. Paired n q q hs ks) (sym h ∙ ap (fun_of p) (same_eq x y e)) (sym k ∙ ap (fun_of q) (same_eq x y e)) (r n)
    go false e = subst (λ ks. Paired n q q (fun_of p y) ks) (sym (others y e)) (self_paired n q (fun_of p y))

-- What stands at a place runs in the new program as what is put there, and that in the old one as what stood there: so they mean the same.
module _ (p : Program) (f : Fun) (fs : List Fun) (found : fun_of p f.name ≡ f ∷ fs) (ks : List ℕ) (old : Expr) (os : List Expr) (new : Expr)
    (stands : at_place f.body ks ≡ old ∷ os) where
  abbrev made : Fun
  made = with_body f (put_at f.body ks new)

  abbrev after : Program
  after = set_fun p f.name made

  others : (y : Name) → same f.name y ≡ false → fun_of after y ≡ fun_of p y
  others y = set_other p f.name y made refl

  there-now : fun_of after f.name ≡ made ∷ []
  there-now = set_here p f.name f fs made refl found

  pub body_run : (q : Program) (n : ℕ) → RunsGiven n q (given_at f.params f.body ks) old new →
      (gs hs : List Fun) → Paired n q q (f ∷ gs) (made ∷ hs)
  body_run q n forth gs hs = (
    refl,
    λ vs l. subst (λ e. Run n q (binds f.params vs) e q (binds f.params vs) made.body) (put_same ks f.body old os stands)
        (place_run q old new ks f.body f.params (binds f.params vs) (given-binds f.params vs l) n forth),
  )

  pub run_body : (q : Program) (n : ℕ) → RunsGiven n q (given_at f.params f.body ks) new old →
      (gs hs : List Fun) → Paired n q q (made ∷ gs) (f ∷ hs)
  run_body q n back gs hs = (
    refl,
    λ vs l. subst (λ e. Run n q (binds f.params vs) made.body q (binds f.params vs) e) (put_same ks f.body old os stands)
        (place_run q new old ks f.body f.params (binds f.params vs) (given-binds f.params vs l) n back),
  )

  pub place_mean : ((n : ℕ) → RunsGiven n after (given_at f.params f.body ks) old new) →
      ((n : ℕ) → RunsGiven n p (given_at f.params f.body ks) new old) → MeanSame p after
  unfolding MeanSame
  place_mean forth back = (
    bodies_as_deep p after
        (one_fun_bodies p after f.name (f ∷ fs) (made ∷ []) others found there-now
        (λ n. body_run after n (forth n) fs [])),
    bodies_as_deep after p
        (one_fun_bodies after p f.name (made ∷ []) (f ∷ fs) (λ y e. sym (others y e)) there-now found
        (λ n. run_body p n (back n) [] fs)),
  )

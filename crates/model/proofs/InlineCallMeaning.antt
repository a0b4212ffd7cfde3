-- A call put in place leaves what the program means. If a function is put into itself, the call and the lets run alike only if its old body and its
-- new one do: each is shown of the other at the depths below. Assumes nothing.
use Rattle.std.proofs.Common.{◌≡◌, ℕ, zero, suc, ◌<◌, ◌≤◌, Bool, true, false, ◌&&◌, eqb, List, [], ◌∷◌, length, sym, refl, ap, ◌∙◌, arith, eqb-true}
use Rattle.std.proofs.lemmas.Bool.{and_parts}
use Rattle.language.specs.Basics.{every, same}
use Rattle.language.specs.Bytes.{Name}
use Rattle.language.specs.Expr.{Expr, num, var, bin, call, bind, choice, tell, Exprs, Fun, Program, exprs_in}
use Rattle.language.specs.Meaning.{Bound, fun_of, binds}
use Rattle.language.specs.Places.{at_place, put_at}
use Rattle.language.specs.Names.{has, free, distinct}
use Rattle.language.specs.Equivalence.{MeanSame}
use Rattle.language.proofs.NameFacts.{same_eq}
use Rattle.language.proofs.ProgramFits.{found-every}
use Rattle.language.proofs.Reach.{Run, run_zero, run_self}
use Rattle.model.specs.Command.{inline_call}
use Rattle.model.specs.State.{Plain, no, with_body, set_fun, fine}
use Rattle.model.specs.Inline.{binds_of, put_if, inlined_by, call_inlined}
use Rattle.model.specs.Model.{turn}
use Rattle.model.proofs.SetFacts.{set_other, set_here}
use Rattle.model.proofs.PlaceMeaning.{body_run, run_body, place_mean}
use Rattle.model.proofs.Kept.{Kept, kept-refused, kept-pick, kept-now}
use Rattle.model.proofs.KeptPlace.{kept_at}
use Rattle.model.proofs.PutForRuns.{first-at}
use Rattle.model.proofs.LetsRuns.{call_forth, call_back}

-- f with a call of itself put in place, in a program q that has it so
module _ (p q : Program) (f : Fun) (fs : List Fun) (found : fun_of p f.name ≡ f ∷ fs) (g : Name) (ks : List ℕ) (es : Exprs) (os : List Expr)
    (stands : at_place f.body ks ≡ call g es ∷ os) (new : Expr) (news : List Expr)
    (made_of : binds_of f.params (exprs_in es) f.body ≡ new ∷ news)
    (found_new : fun_of q g ≡ with_body f (put_at f.body ks new) ∷ [])
    (as_many : length (exprs_in es) ≡ length f.params) (apart : distinct f.params ≡ true)
    (closed : every (has f.params) (free f.body) ≡ true) where
  abbrev made : Fun
  made = with_body f (put_at f.body ks new)

  abbrev ToNew : ℕ → Type 0
  ToNew n = (vs : List ℕ) → length vs ≡ length f.params → Run n q (binds f.params vs) f.body q (binds f.params vs) made.body

  abbrev ToOld : ℕ → Type 0
  ToOld n = (vs : List ℕ) → length vs ≡ length f.params → Run n q (binds f.params vs) made.body q (binds f.params vs) f.body

  call_lets : (n : ℕ) → ((j : ℕ) → j < n → ToOld j) → (k : ℕ) → k ≤ n → (ds : List Bound) → Run k q ds (call g es) q ds new
  call_lets n olds zero l ds = run_zero q q ds ds (call g es) new
  call_lets n olds (suc k) l ds =
      first-at (Run (suc k) q ds (call g es) q ds) (binds_of f.params (exprs_in es) f.body) new news made_of
      (call_forth q g made [] found_new es f.body as_many apart closed k ds (olds k l))

  lets_call : (n : ℕ) → ((j : ℕ) → j ≤ n → ToNew j) → (k : ℕ) → k ≤ n → (ds : List Bound) → Run k q ds new q ds (call g es)
  lets_call n news-run k l ds =
      first-at (λ c. Run k q ds c q ds (call g es)) (binds_of f.params (exprs_in es) f.body) new news made_of
      (call_back q g made [] found_new es f.body as_many apart closed k ds (news-run k l))

  to-new : (n : ℕ) → ((j : ℕ) → j < n → ToOld j) → ToNew n
  to-new n olds = (body_run p f fs found ks (call g es) os new stands q n (λ k l ds given. call_lets n olds k l ds) [] []).1

  to-old : (n : ℕ) → ((j : ℕ) → j ≤ n → ToNew j) → ToOld n
  to-old n news-run = (run_body p f fs found ks (call g es) os new stands q n (λ k l ds given. lets_call n news-run k l ds) [] []).1

  olds_below : (n j : ℕ) → j < n → ToOld j
  olds_below zero j l = absurd (omega arith)
  olds_below (suc n) j l = to-old j (λ i m. to-new i (λ k o. olds_below n k (omega arith)))

  self_forth : (n : ℕ) (ds : List Bound) → Run n q ds (call g es) q ds new
  self_forth n ds = call_lets n (olds_below n) n (omega arith) ds

-- a call of h put in place in f
module _ (p : Program) (f : Fun) (fs : List Fun) (found : fun_of p f.name ≡ f ∷ fs) (g : Name) (h : Fun) (hs : List Fun)
    (found_called : fun_of p g ≡ h ∷ hs) (ks : List ℕ) (es : Exprs) (os : List Expr) (stands : at_place f.body ks ≡ call g es ∷ os) (new : Expr)
    (news : List Expr) (made_of : binds_of h.params (exprs_in es) h.body ≡ new ∷ news)
    (as_many : length (exprs_in es) ≡ length h.params) (apart : distinct h.params ≡ true)
    (closed : every (has h.params) (free h.body) ≡ true) where
  abbrev after : Program
  after = set_fun p f.name (with_body f (put_at f.body ks new))

  back : (n : ℕ) (ds : List Bound) → Run n p ds new p ds (call g es)
  back n ds =
      first-at (λ c. Run n p ds c p ds (call g es)) (binds_of h.params (exprs_in es) h.body) new news made_of
      (call_back p g h hs found_called es h.body as_many apart closed n ds (λ vs l. run_self n p (binds h.params vs) h.body))

  other_forth : same f.name g ≡ false → (n : ℕ) (ds : List Bound) → Run n after ds (call g es) after ds new
  other_forth d zero ds = run_zero after after ds ds (call g es) new
  other_forth d (suc n) ds =
      first-at (Run (suc n) after ds (call g es) after ds) (binds_of h.params (exprs_in es) h.body) new news made_of
      (call_forth after g h hs (set_other p f.name g (with_body f (put_at f.body ks new)) refl d ∙ found_called) es h.body as_many apart closed n
      ds (λ vs l. run_self n after (binds h.params vs) h.body))

  same_forth : same f.name g ≡ true → (n : ℕ) (ds : List Bound) → Run n after ds (call g es) after ds new
  same_forth d n ds =
      self_forth p after f fs found g ks es os stands new news (ap (λ k. binds_of k.params (exprs_in es) k.body) (sym it) ∙ made_of)
      (ap (fun_of after) (sym (same_eq f.name g d)) ∙ set_here p f.name f fs (with_body f (put_at f.body ks new)) refl found)
      (as_many ∙ ap (λ k. length k.params) it) (ap (λ k. distinct k.params) (sym it) ∙ apart)
      (ap (λ k. every (has k.params) (free k.body)) (sym it) ∙ closed) n ds
    where
      it : h ≡ f
      it = grind (arith, same_eq)

  forth : (t : Bool) → same f.name g ≡ t → (n : ℕ) (ds : List Bound) → Run n after ds (call g es) after ds new
  forth true d = same_forth d
  forth false d = other_forth d

  call_place_mean : MeanSame p after
  call_place_mean =
      place_mean p f fs found ks (call g es) os new stands (λ n k l ds given. forth (same f.name g) refl k ds)
      (λ n k l ds given. back k ds)

-- what is refused, or the lets
kept_lets : (w : Plain) (f : Fun) (fs : List Fun) → fun_of w.now f.name ≡ f ∷ fs → (g : Name) (h : Fun) (hs : List Fun) →
    fun_of w.now g ≡ h ∷ hs → (ks : List ℕ) (es : Exprs) (os : List Expr) → at_place f.body ks ≡ call g es ∷ os →
    length (exprs_in es) ≡ length h.params → distinct h.params ≡ true → every (has h.params) (free h.body) ≡ true → (l : List Expr) →
    binds_of h.params (exprs_in es) h.body ≡ l → Kept w (put_if w f ks l)
kept_lets w f fs found g h hs found_called ks es os stands as_many apart closed [] e = kept-refused w 5
kept_lets w f fs found g h hs found_called ks es os stands as_many apart closed (new ∷ news) e =
    kept-now w _ (λ small. call_place_mean w.now f fs found g h hs found_called ks es os stands new news e as_many apart closed)

kept_inlined : (w : Plain) → fine w.now ≡ true → (f : Fun) (fs : List Fun) → fun_of w.now f.name ≡ f ∷ fs → (g : Name) (ks : List ℕ) (es : Exprs)
    (os : List Expr) → at_place f.body ks ≡ call g es ∷ os → (hs : List Fun) → fun_of w.now g ≡ hs → Kept w (inlined_by w f ks es hs)
unfolding inlined_by
kept_inlined w good f fs found g ks es os stands [] found_called = kept-refused w 5
kept_inlined w good f fs found g ks es os stands (h ∷ hs) found_called =
    kept-pick w (eqb (length (exprs_in es)) (length h.params) && every (has h.params) (free h.body))
    (put_if w f ks (binds_of h.params (exprs_in es) h.body)) (no 5 w)
    (λ t. kept_lets w f fs found g h hs found_called ks es os stands (eqb-true _ _ (both t).0)
    (found-every (λ k. distinct k.params) w.now g h hs params_differ found_called) (both t).1
    (binds_of h.params (exprs_in es) h.body) refl)
    (λ t. kept-refused w 5)
  where
    params_differ : every (λ k. distinct k.params) w.now ≡ true
    params_differ = grind arith

    both : (eqb (length (exprs_in es)) (length h.params) && every (has h.params) (free h.body)) ≡ true →
        (eqb (length (exprs_in es)) (length h.params) ≡ true) × (every (has h.params) (free h.body) ≡ true)
    both t = and_parts _ _ t

pub call_mean : (w : Plain) (x : Name) (ks : List ℕ) → fine w.now ≡ true → Kept w (turn w (inline_call x ks))
unfolding turn call_inlined
call_mean w x ks good = kept_at w x ks (λ f e. call_inlined w f ks e) go
  where
    go : (f : Fun) (fs : List Fun) (e : Expr) (es : List Expr) → fun_of w.now f.name ≡ f ∷ fs → at_place f.body ks ≡ e ∷ es →
        Kept w (call_inlined w f ks e)
    go f fs (num n) es found stands = kept-refused w 6
    go f fs (var y) es found stands = kept-refused w 6
    go f fs (bin k a b) es found stands = kept-refused w 6
    go f fs (call g as₁) es found stands = kept_inlined w good f fs found g ks as₁ es stands (fun_of w.now g) refl
    go f fs (bind y a b) es found stands = kept-refused w 6
    go f fs (choice c a b) es found stands = kept-refused w 6
    go f fs (tell a) es found stands = kept-refused w 6

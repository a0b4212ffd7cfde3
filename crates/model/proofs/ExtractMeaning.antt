-- What stands at a place made a function leaves what the program means. The new function is added first, which nothing calls yet; then its call is
-- put at the place, and runs as what stood there does wherever the names are given. Assumes nothing.
use Rattle.std.proofs.Common.{◌≡◌, ℕ, suc, Bool, true, false, eqb, leb, List, [], ◌∷◌, ◌++◌, length, sym, refl, ap, ◌∙◌, subst, ap₂, arith}
use mathlib.Core.Path.{fun_ext}
use borrow.Author.Tests.{clash}
use Rattle.std.proofs.lemmas.Bool.{eq-eqb}
use Rattle.language.specs.Basics.{pick, or, any, every, same}
use Rattle.language.specs.Bytes.{Name}
use Rattle.language.specs.Expr.{Expr, call, Fun, Program, main}
use Rattle.language.specs.Meaning.{wrong, Bound, look, fun_of, looked, binds, cames, more_cames, and_cames, eval_all, called, step, eval}
use Rattle.language.specs.Places.{at_place, put_at}
use Rattle.language.specs.Names.{has, free}
use Rattle.language.specs.Equivalence.{MeanSame}
use Rattle.language.proofs.NameFacts.{same_refl, same_eq, same_sym, or_left_true, or_right_true, or_left_false, or_right_false, every-has}
use Rattle.language.proofs.FreeFacts.{Agree, eval_agree}
use Rattle.language.proofs.MeanFacts.{mean_same_deep, mean_trans}
use Rattle.language.proofs.Depth.{after_none}
use Rattle.language.proofs.Reach.{Reach, later, sooner, run_self, run_down}
use Rattle.language.proofs.AlikeRuns.{AlikeRun}
use Rattle.model.specs.Command.{extract}
use Rattle.model.specs.State.{Plain, no, with_body, set_fun}
use Rattle.model.specs.FunctionNames.{there, taken}
use Rattle.model.specs.Extract.{given_at, vars, made_fun, extracted}
use Rattle.model.specs.Model.{turn}
use Rattle.model.proofs.SetFacts.{pick_left, pick_right, set_other}
use Rattle.model.proofs.PlaceMeaning.{Given, place_mean}
use Rattle.model.proofs.Kept.{Kept, kept-refused, kept-pick, kept-now}
use Rattle.model.proofs.KeptPlace.{kept_at}
use Rattle.model.proofs.FunctionNamesFacts.{calling, Recalls, apply-recalled, each_self}
use Rattle.model.proofs.FunctionNamesMeaning.{found_none}

-- the values of some names, each a variable's
record Values (r : Program) (ds : List Bound) (xs : List Name) : Type 0 where
  values : List ℕ
  as_many : length values ≡ length xs
  run : (n : ℕ) → eval_all (λ e. eval (suc n) r ds e) (vars xs) ≡ cames values []
  agree : Agree (binds xs values) ds xs

values_and : (r : Program) (ds : List Bound) (x : Name) (xs : List Name) (v : ℕ) → look ds x ≡ v ∷ [] → Values r ds xs → Values r ds (x ∷ xs)
unfolding eval_all vars binds look eval step looked
values_and r ds x xs v here rest =
    record {
      values = v ∷ rest.values;
      as_many = ap suc rest.as_many;
      run = λ n. ap₂ (λ vs c. and_cames (looked vs) (λ u ts. more_cames u ts c)) here (rest.run n);
      agree = λ y h. go y (same x y) refl h;
    }
  where
    go : (y : Name) (t : Bool) → same x y ≡ t → or (same y x) (has xs y) ≡ true → pick t (v ∷ []) (look (binds xs rest.values) y) ≡ look ds y
    go y true e h = sym here ∙ ap (look ds) (same_eq x y e)
    go y false e h = grind (arith, same_sym)

values_of : (r : Program) (ds : List Bound) (xs : List Name) → Given xs ds → Values r ds xs
unfolding eval_all vars
values_of r ds [] g = record { values = []; as_many = refl; run = λ n. refl; agree = λ x h. absurd (clash h) }
values_of r ds (x ∷ xs) g =
    let first = g x (or_left_true (same x x) (has xs x) (same_refl x)) in
    values_and r ds x xs first.0 first.1 (values_of r ds xs (λ y h. g y (or_right_true (same y x) (has xs y) h)))

-- The call of a function made of e runs as e does, where e's names are given.
module _ (r : Program) (y : Name) (e : Expr) (gs : List Fun) (found : fun_of r y ≡ made_fun y e ∷ gs) (ds : List Bound) (given : Given (free e) ds) where
  abbrev its_call : Expr
  its_call = call y (vars (free e))

  call-made : (n : ℕ) → eval (suc (suc n)) r ds its_call ≡ eval (suc n) r ds e
  call-made n =
      unfold eval step in
      ap₂ (called (λ cs c. eval (suc n) r cs c)) found (vs.run n)
      ∙ unfold called in pick_left (eqb (length vs.values) (length (free e))) _ (wrong 3 [])
      (eq-eqb _ _ vs.as_many)
      ∙ after_none (eval (suc n) r (binds (free e) vs.values) e)
      ∙ eval_agree (suc n) r (binds (free e) vs.values) ds e vs.agree
    where
      vs : Values r ds (free e)
      vs = values_of r ds (free e) given

  made_alike : AlikeRun r ds e ds its_call
  made_alike n = (
    later (eval n r ds e) (λ m. eval m r ds its_call) (later (eval n r ds e) (λ m. eval (suc m) r ds its_call)
        (subst (λ G. Reach (eval n r ds e) G) (fun_ext λ m. sym (call-made m)) (sooner (eval n r ds e) (λ m. eval m r ds e) (run_self n r ds e)))),
    run_down n (suc (suc n)) r ds its_call (λ m. eval m r ds e) (omega arith)
        (subst (λ c. Reach c (λ m. eval m r ds e)) (sym (call-made n)) (run_self (suc n) r ds e)),
  )

-- a function added behind the others
found_other : (p : Program) (g : Fun) (h : Name) → same g.name h ≡ false → fun_of (p ++ g ∷ []) h ≡ fun_of p h
unfolding fun_of
found_other [] g h d = pick_right (same g.name h) (g ∷ []) [] d
found_other (f ∷ fs) g h d = ap (pick (same f.name h) (f ∷ [])) (found_other fs g h d)

found-added : (p : Program) (g : Fun) → there p g.name ≡ false → fun_of (p ++ g ∷ []) g.name ≡ g ∷ []
unfolding fun_of
found-added [] g d = grind (arith, same_refl)
found-added (f ∷ fs) g d = grind (arith, found-added fs g)

set-added : (p : Program) (x : Name) (g h : Fun) → same h.name x ≡ false → set_fun (p ++ h ∷ []) x g ≡ set_fun p x g ++ h ∷ []
set-added [] x g h d = ap (λ k. k ∷ []) (pick_right (same h.name x) g h d)
set-added (f ∷ fs) x g h d = grind (arith, set-added fs x g h d)

-- nothing calls what is added, so it is no matter
added_mean : (p : Program) (g : Fun) → taken p g.name ≡ false → MeanSame p (p ++ g ∷ [])
added_mean p g new =
    mean_same_deep p (p ++ g ∷ []) (λ n vs. apply-recalled y y p (p ++ g ∷ []) recalls n main vs not_main not_main)
  where
    y : Name
    y = g.name

    not_main : same y main ≡ false
    not_main = or_left_false _ _ new

    not_known : or (there p y) (any (calling y) p) ≡ false
    not_known = grind arith

    recalls : Recalls y y p (p ++ g ∷ [])
    recalls =
        record {
          finds = λ h other.
              ap (fun_of (p ++ g ∷ [])) (pick_right (same y h) y h other) ∙ found_other p g h other ∙ sym (each_self y (fun_of p h));
          uncalled = λ h other. found_none (calling y) p h (or_right_false (there p y) (any (calling y) p) not_known);
        }

module _ (p : Program) (f : Fun) (fs : List Fun) (found : fun_of p f.name ≡ f ∷ fs) (ks : List ℕ) (e : Expr) (es : List Expr)
    (stands : at_place f.body ks ≡ e ∷ es) (y : Name) (new : taken p y ≡ false)
    (closed : every (has (given_at f.params f.body ks)) (free e) ≡ true) where
  abbrev added : Program
  added = p ++ made_fun y e ∷ []

  abbrev calling_it : Fun
  calling_it = with_body f (put_at f.body ks (call y (vars (free e))))

  not_there : there p y ≡ false
  not_there = or_left_false _ _ (or_right_false _ _ new)

  other : same y f.name ≡ false
  other = grind (arith, same_eq)

  in_added : fun_of added y ≡ made_fun y e ∷ []
  in_added = found-added p (made_fun y e) not_there

  in_after : fun_of (set_fun added f.name calling_it) y ≡ made_fun y e ∷ []
  in_after = grind (arith, set_other, same_sym, other, in_added)

  its_names : (ds : List Bound) → Given (given_at f.params f.body ks) ds → Given (free e) ds
  its_names ds given x h = given x (every-has (given_at f.params f.body ks) (free e) closed x h)

  extracted_mean : MeanSame p (set_fun p f.name calling_it ++ made_fun y e ∷ [])
  extracted_mean =
      subst (MeanSame p) (set-added p f.name calling_it (made_fun y e) other)
      (mean_trans p added (set_fun added f.name calling_it) (added_mean p (made_fun y e) new)
      (place_mean added f fs (found_other p (made_fun y e) f.name other ∙ found) ks e es (call y (vars (free e))) stands
      (λ n k l ds given. (made_alike (set_fun added f.name calling_it) y e [] in_after ds (its_names ds given) k).0)
      (λ n k l ds given. (made_alike added y e [] in_added ds (its_names ds given) k).1)))

pub extract_mean : (w : Plain) (x : Name) (ks : List ℕ) (y : Name) → Kept w (turn w (extract x ks y))
unfolding turn
extract_mean w x ks y = kept_at w x ks (λ f e. pick (taken w.now y) (no 4 w) (extracted w f ks y e)) go
  where
    go : (f : Fun) (fs : List Fun) (e : Expr) (es : List Expr) → fun_of w.now f.name ≡ f ∷ fs → at_place f.body ks ≡ e ∷ es →
        Kept w (pick (taken w.now y) (no 4 w) (extracted w f ks y e))
    go f fs e es found stands =
        kept-pick w (taken w.now y) (no 4 w) (extracted w f ks y e) (λ t. kept-refused w 4)
        (λ new. kept-pick w (every (has (given_at f.params f.body ks)) (free e)) _ (no 5 w)
        (λ closed. kept-pick w (leb (length (free e)) 16) _ (no 7 w)
        (λ few. kept-now w _ (λ small. extracted_mean w.now f fs found ks e es stands y new closed)) (λ many. kept-refused w 7))
        (λ open-names. kept-refused w 5))

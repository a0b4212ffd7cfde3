-- Calling a function something else, and dropping one that nothing calls, leave what the program means as it was: at every depth
-- the new program's main comes to what the old one's did. Assumes nothing.
use Rattle.std.proofs.Common.{arith, ◌≡◌, Bool, true, false, not, List, [], ◌∷◌, sym, refl, ap, ◌∙◌}
use Rattle.language.specs.Basics.{pick, or, any, each, those, same}
use Rattle.language.specs.Bytes.{Name}
use Rattle.language.specs.Expr.{Fun, Program, main}
use Rattle.language.specs.Meaning.{fun_of}
use Rattle.language.proofs.NameFacts.{same_refl, same_eq, same_sym, or_left_false, or_right_false}
use Rattle.language.proofs.MeanFacts.{mean_same_deep}
use Rattle.model.specs.Command.{rename_fun, drop_fun}
use Rattle.model.specs.State.{Plain, no, now_is}
use Rattle.model.specs.FunctionNames.{there, fun_renamed, taken, still_called}
use Rattle.model.specs.Model.{turn}
use Rattle.model.proofs.SetFacts.{pick_right}
use Rattle.model.proofs.Kept.{Kept, kept-refused, kept-pick, kept-now, kept-fun}
use Rattle.model.proofs.FunctionNamesFacts.{calling, Recalls, apply-recalled, each_self}

pub found_none : (P : Fun → Bool) (p : Program) (x : Name) → any P p ≡ false → any P (fun_of p x) ≡ false
unfolding fun_of
found_none P [] x h = refl
found_none P (f ∷ fs) x h = go (same f.name x) (found_none P fs x (or_right_false _ _ h))
  where
    go : (t : Bool) → any P (fun_of fs x) ≡ false → any P (pick t (f ∷ []) (fun_of fs x)) ≡ false
    go true ih = ap (λ t. or t false) (or_left_false _ _ h)
    go false ih = ih

-- no function is called so: neither the first nor one of the others
pub none_there : (f : Fun) (fs : List Fun) (y : Name) → there (f ∷ fs) y ≡ false → (same f.name y ≡ false) × (there fs y ≡ false)
unfolding fun_of
none_there f fs y h = grind arith

-- names that are not y are as different as before where x is called y
pub renamed_apart : (x y g h : Name) → same g y ≡ false → same y h ≡ false → same (pick (same g x) y g) (pick (same x h) y h) ≡ same g h
renamed_apart x y g h not-g not-h = grind (arith, same_refl, same_eq)

found-renamed : (p : Program) (x y h : Name) → there p y ≡ false → same y h ≡ false →
    fun_of (each (fun_renamed x y) p) (pick (same x h) y h) ≡ each (fun_renamed x y) (fun_of p h)
unfolding fun_of
found-renamed [] x y h new other = refl
found-renamed (g ∷ gs) x y h new other = grind (arith, renamed_apart, found-renamed gs x y h (none_there g gs y new).1)

renamed_recalls : (p : Program) (x y : Name) → there p y ≡ false → any (calling y) p ≡ false → Recalls x y p (each (fun_renamed x y) p)
renamed_recalls p x y new uncalled =
    record { finds = λ h other. found-renamed p x y h new other; uncalled = λ h other. found_none (calling y) p h uncalled }

pub fun_mean : (w : Plain) (x y : Name) → Kept w (turn w (rename_fun x y))
unfolding turn
fun_mean w x y = kept-fun w x _ (λ f fs found. kept-pick w (same x main) (no 6 w) _ (λ e. kept-refused w 6) (λ not_main. free-name not_main))
  where
    p : Program
    p = w.now

    q : Program
    q = each (fun_renamed x y) w.now

    means : same x main ≡ false → taken p y ≡ false → Kept w (now_is w q)
    means not_main free =
        let new = or_right_false (same y main) (or (there p y) (any (calling y) p)) free in
        let to = renamed_recalls p x y (or_left_false (there p y) (any (calling y) p) new) (or_right_false (there p y) (any (calling y) p) new) in
        kept-now w q (λ small. mean_same_deep p q (λ n vs. apply-recalled x y p q to n main vs not_main (or_left_false _ _ free)))

    free-name : same x main ≡ false → Kept w (pick (taken p y) (no 4 w) (now_is w q))
    free-name not_main = kept-pick w (taken p y) (no 4 w) (now_is w q) (λ e. kept-refused w 4) (means not_main)

without : Name → Program → Program
without x p = those (λ h. not (same h.name x)) p

found-without : (p : Program) (x h : Name) → same x h ≡ false → fun_of (without x p) h ≡ fun_of p h
unfolding fun_of without
found-without [] x h other = refl
found-without (g ∷ gs) x h other = grind (arith, same_eq, found-without gs x h other)

without_uncalled : (p : Program) (x h : Name) → same x h ≡ false → still_called p x ≡ false → any (calling x) (fun_of p h) ≡ false
unfolding fun_of
without_uncalled [] x h other free = refl
without_uncalled (g ∷ gs) x h other free =
    go (same g.name h) refl (without_uncalled gs x h other (or_right_false _ _ free))
  where
    own : same g.name h ≡ true → calling x g ≡ false
    own e = grind (arith, same_eq, same_sym)

    go : (t : Bool) → same g.name h ≡ t → any (calling x) (fun_of gs h) ≡ false → any (calling x) (pick t (g ∷ []) (fun_of gs h)) ≡ false
    go true e ih = ap (λ t. or t false) (own e)
    go false e ih = ih

dropped_recalls : (p : Program) (x : Name) → still_called p x ≡ false → Recalls x x p (without x p)
dropped_recalls p x free =
    record {
      finds = λ h other.
          ap (fun_of (without x p)) (pick_right (same x h) x h other) ∙ found-without p x h other ∙ sym (each_self x (fun_of p h));
      uncalled = λ h other. without_uncalled p x h other free;
    }

pub drop_mean : (w : Plain) (x : Name) → Kept w (turn w (drop_fun x))
unfolding turn without
drop_mean w x =
    kept-fun w x _ (λ f fs found. kept-pick w (or (same x main) (still_called w.now x)) (no 6 w) _ (λ e. kept-refused w 6) means)
  where
    means : or (same x main) (still_called w.now x) ≡ false → Kept w (now_is w (without x w.now))
    means free =
        let not_main = or_left_false _ _ free in
        let to = dropped_recalls w.now x (or_right_false (same x main) (still_called w.now x) free) in
        kept-now w (without x w.now)
        (λ small. mean_same_deep w.now (without x w.now) (λ n vs. apply-recalled x x w.now (without x w.now) to n main vs not_main not_main))

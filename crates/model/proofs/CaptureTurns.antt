-- What a renaming does to what stands, by the check at each place: once the function and the place are found, it is one test. Assumes nothing.
use Rattle.std.proofs.Common.{arith, ◌≡◌, ℕ, true, false, not, ◌&&◌, List, ◌∷◌}
use Rattle.language.specs.Basics.{pick}
use Rattle.language.specs.Bytes.{Name}
use Rattle.language.specs.Expr.{Expr, bind, Fun}
use Rattle.language.specs.Meaning.{fun_of}
use Rattle.language.specs.Places.{at_place}
use Rattle.language.specs.Names.{has}
use Rattle.language.specs.Fits.{a_name, a_program}
use Rattle.language.proofs.ProgramFits.{found-every, found-fits}
use Rattle.std.proofs.lemmas.Bool.{and_parts}
use Rattle.model.specs.Command.{rename_bind, rename_param}
use Rattle.model.specs.State.{Plain, no, now_is, set_fun, put_in, at_first_fun, of_some, fine}
use Rattle.model.specs.Rename.{bind_renamed, put_name, nth_name, param_renamed}
use Rattle.model.specs.Capture.{clear, under, others}
use Rattle.model.specs.Model.{turn}
use Rattle.model.proofs.CaptureFacts.{under-renamed}
use Rattle.model.proofs.CaptureChecks.{bind-clear, own-clear}

module _ (w : Plain) (x : Name) (f : Fun) (fs : List Fun) (fit : a_program w.now ≡ true) (found : fun_of w.now x ≡ f ∷ fs)
    (y : Name) (fit_y : a_name y ≡ true) where
  pub bind-turn : (ks : List ℕ) (z : Name) (a b : Expr) (es : List Expr) → at_place f.body ks ≡ bind z a b ∷ es →
      turn w (rename_bind x ks y) ≡ pick (clear z y false false b) (put_in w f ks (bind y a (under z y false b))) (no 5 w)
  unfolding turn at_first_fun of_some bind_renamed
  bind-turn ks z a b es stands = grind (arith, found-fits, bind-clear, under-renamed)

  pub param_turn : fine w.now ≡ true → (i : ℕ) (z : Name) (zs : List Name) → nth_name f.params i ≡ z ∷ zs →
      turn w (rename_param x i y)
      ≡ pick (not (has (others f.params i) y) && clear z y false false f.body)
      (now_is w (set_fun w.now f.name (record { name = f.name; params = put_name f.params i y; body = under z y false f.body })))
      (no 5 w)
  unfolding turn at_first_fun param_renamed
  param_turn is_fine i z zs stands = grind (arith, found-fits, and_parts, found-every, own-clear, under-renamed)

-- Renaming what is bound leaves what the program means as it was: a function is put in place of one that is alike without names,
-- so the program's bare form is what it was. Assumes nothing.
use Rattle.std.proofs.Common.{◌≡◌, ℕ, ◌≤◌, true, ◌&&◌, List, [], ◌∷◌, length, sym, refl, ap, ◌∙◌, arith}
use Rattle.std.proofs.lemmas.Bool.{and_parts}
use Rattle.language.specs.Bytes.{Name}
use Rattle.language.specs.Expr.{Expr, num, var, bin, call, bind, choice, tell, Fun}
use Rattle.language.specs.Meaning.{fun_of}
use Rattle.language.specs.Places.{at_place, put_at}
use Rattle.language.specs.Names.{distinct}
use Rattle.language.specs.Bare.{alike}
use Rattle.language.specs.Spelling.{expr_spelled, program_spelled}
use Rattle.language.specs.Fits.{a_name, an_expr, a_program}
use Rattle.language.proofs.MeanFacts.{mean_bare}
use Rattle.language.proofs.BareRuns.{bare_fun}
use Rattle.language.proofs.BareSpelling.{alike-bare}
use Rattle.language.proofs.FitFacts.{bind_fit, fit_bind}
use Rattle.language.proofs.PlaceFits.{at_fit, put_fit}
use Rattle.language.proofs.ProgramFits.{body_short, found-fits}
use Rattle.model.specs.Command.{rename_bind, rename_param, fits}
use Rattle.model.specs.State.{Plain, no, now_is, with_body, set_fun, put_in, fine}
use Rattle.model.specs.Rename.{renamed, bind_renamed, put_name, nth_name, param_renamed}
use Rattle.model.specs.Model.{turn}
use Rattle.model.proofs.SetFacts.{found_name, set_here}
use Rattle.model.proofs.Kept.{Kept, kept-refused, kept-pick, kept-now, kept-fun, kept_expr}
use Rattle.model.proofs.RenameFacts.{set-bare, renamed_fit, put_name-long}

module _ (w : Plain) (x : Name) (f : Fun) (fs : List Fun) (is_fine : fine w.now ≡ true) (fit : a_program w.now ≡ true)
    (found : fun_of w.now x ≡ f ∷ fs) where
  own_fit : (length f.params ≤ 16) × (an_expr f.body ≡ true) × (length (expr_spelled f.body) ≤ 65536)
  own_fit = found-fits w.now x f fs fit found

  found-own : fun_of w.now f.name ≡ f ∷ fs
  found-own = ap (fun_of w.now) (found_name w.now x f fs found) ∙ found

  alike-fun : (g : Fun) → g.name ≡ f.name → length g.params ≡ length f.params → an_expr g.body ≡ true →
      alike f.params f.body g.params g.body ≡ true → length (program_spelled (set_fun w.now f.name g)) ≤ 65536 →
      bare_fun g ≡ bare_fun f
  alike-fun g named as_many fit-body same-bare small = λ i. record { name = named i; takes = as_many i; body = bodies i }
    where
      bodies : (bare_fun g).body ≡ (bare_fun f).body
      bodies =
          let new_short = body_short (set_fun w.now f.name g) f.name g [] (set_here w.now f.name f fs g named found-own) in
          sym (alike-bare f.params g.params f.body g.body own_fit.1 fit-body own_fit.0 (omega (arith, own_fit))
          (omega (arith, own_fit)) (omega (arith, new_short, small)) same-bare)

  -- a function that is alike without its names, put in place
  set-kept : (g : Fun) → g.name ≡ f.name → length g.params ≡ length f.params → an_expr g.body ≡ true →
      alike f.params f.body g.params g.body ≡ true → Kept w (now_is w (set_fun w.now f.name g))
  set-kept g named as_many fit-body same-bare =
      kept-now w (set_fun w.now f.name g)
      (λ small. mean_bare w.now (set_fun w.now f.name g) (sym (set-bare w.now f.name f fs g
      (and_parts _ _ is_fine).0 found-own
      (alike-fun g named as_many fit-body same-bare small))))

  bind-kept : (ks : List ℕ) (y : Name) → a_name y ≡ true → (e : Expr) (es : List Expr) → at_place f.body ks ≡ e ∷ es →
      Kept w (bind_renamed w f ks y e)
  unfolding bind_renamed
  bind-kept ks y fit_y (num n) es stands = kept-refused w 6
  bind-kept ks y fit_y (var z) es stands = kept-refused w 6
  bind-kept ks y fit_y (bin k a b) es stands = kept-refused w 6
  bind-kept ks y fit_y (call g as₁) es stands = kept-refused w 6
  bind-kept ks y fit_y (bind z a b) es stands =
      let new = bind y a (renamed z y b) in
      let was = bind_fit z a b (at_fit ks f.body (bind z a b) es own_fit.1 stands) in
      let fit_new = put_fit ks f.body new own_fit.1 (fit_bind y a (renamed z y b) fit_y was.1 (renamed_fit b z y fit_y was.2)) in
      kept-pick w (alike f.params f.body f.params (put_at f.body ks new)) (put_in w f ks new) (no 5 w)
      (set-kept (with_body f (put_at f.body ks new)) refl refl fit_new) (λ e. kept-refused w 5)
  bind-kept ks y fit_y (choice c a b) es stands = kept-refused w 6
  bind-kept ks y fit_y (tell a) es stands = kept-refused w 6

  param_kept : (i : ℕ) (y : Name) → a_name y ≡ true → (zs : List Name) → Kept w (param_renamed w f i y zs)
  unfolding param_renamed
  param_kept i y fit_y [] = kept-refused w 3
  param_kept i y fit_y (z ∷ zs) =
      let g : Fun = record { name = f.name; params = put_name f.params i y; body = renamed z y f.body } in
      kept-pick w (distinct g.params && alike f.params f.body g.params g.body) (now_is w (set_fun w.now f.name g)) (no 5 w)
      (λ e. set-kept g refl (put_name-long f.params i y) (renamed_fit f.body z y fit_y own_fit.1)
      (and_parts _ _ e).1) (λ e. kept-refused w 5)

pub bind_mean : (w : Plain) (x : Name) (ks : List ℕ) (y : Name) → fits (rename_bind x ks y) ≡ true → fine w.now ≡ true → a_program w.now ≡ true →
    Kept w (turn w (rename_bind x ks y))
unfolding turn fits
bind_mean w x ks y fit-c is_fine fit =
    let fit_y = (and_parts _ _ (and_parts _ _ fit-c).0).1 in
    kept-fun w x _ (λ f fs found. kept_expr w f ks _ (bind-kept w x f fs is_fine fit found ks y fit_y))

pub param_mean : (w : Plain) (x : Name) (i : ℕ) (y : Name) → fits (rename_param x i y) ≡ true → fine w.now ≡ true → a_program w.now ≡ true →
    Kept w (turn w (rename_param x i y))
unfolding turn fits
param_mean w x i y fit-c is_fine fit =
    let fit_y = (and_parts _ _ (and_parts _ _ fit-c).0).1 in
    kept-fun w x _ (λ f fs found. param_kept w x f fs is_fine fit found i y fit_y (nth_name f.params i))

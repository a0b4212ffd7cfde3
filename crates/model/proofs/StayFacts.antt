-- What is made of a program that fits is a program that fits: every function of it does, and a turn tests how large it is. So do the programs that
-- can be gone back to, of which there are at most eight. Assumes nothing.
use Rattle.std.proofs.Common.{◌≡◌, ℕ, ◌≤◌, Bool, true, leb, List, [], ◌∷◌, length, sym, refl, ap, ◌∙◌, arith, length-take}
use Rattle.std.proofs.lemmas.Bool.{and_parts, and_from}
use Rattle.language.specs.Basics.{every}
use Rattle.language.specs.Bytes.{in_bytes, Name}
use Rattle.language.specs.Expr.{Expr, num, bin, call, bind, choice, Fun, Program, parts}
use Rattle.language.specs.Places.{put_at}
use Rattle.language.specs.Names.{free, distinct}
use Rattle.language.specs.Spelling.{program_spelled}
use Rattle.language.specs.Fits.{a_name, an_expr, a_fun, a_program}
use Rattle.language.proofs.ListFacts.{every_append, every-those, every_so, every-each}
use Rattle.language.proofs.FitFacts.{bind_fit, choice_fit, fit_bin, fit_bind, fit_choice}
use Rattle.language.proofs.NodeFacts.{head-fits}
use Rattle.language.proofs.PlaceFits.{at_fit, put_fit}
use Rattle.language.proofs.ProgramFits.{found-every, fun-fits, fit_fun, program_fits, fit_program}
use Rattle.model.specs.Command.{Command, load, show, names, rename_bind, rename_param, rename_fun, extract, inline_bind, inline_call, turn_cond, drop_fun, undo, fits}
use Rattle.model.specs.State.{Plain, at_first, Turn, with_body, fine}
use Rattle.model.specs.Rename.{renamed}
use Rattle.model.specs.FunctionNames.{fun_renamed}
use Rattle.model.specs.Extract.{vars, made_fun}
use Rattle.model.specs.Inline.{put_for, binds_of}
use Rattle.model.specs.Model.{turn}
use Rattle.model.specs.Statements.{StaysProgram}
use Rattle.model.proofs.RenameFacts.{renamed_fit, put_name-long}
use Rattle.model.proofs.PutForRuns.{first-at}
use Rattle.model.proofs.FineFacts.{set-every, stays_fine}
use Rattle.model.proofs.MadeFits.{Fit, put_name_fit, recalled_fit, free_fit, call_vars_fit, put_for_fit, lets_fit}
use Rattle.model.proofs.TurnFacts.{Found, Standing, put_body, own_renamed, Made, MadeBind, MadeParam, MadeExtract, MadeInline, MadeCall, MadeCond, Ended, refuses, looks, loads, goes_back, makes, turn-ends}

-- every function of a program that stands fits
module _ (p : Program) (funs : every a_fun p ≡ true) where
  found_fit : (x : Name) (at : Found p x) → a_fun at.fun ≡ true
  found_fit x at = found-every a_fun p x at.fun at.rest funs at.found

  place_fit : (x : Name) (ks : List ℕ) (at : Standing p x ks) → a_fun at.fun ≡ true
  place_fit x ks at = found-every a_fun p x at.fun at.rest funs at.found

  standing_fit : (x : Name) (ks : List ℕ) (at : Standing p x ks) → Fit at.expr
  standing_fit x ks at = at_fit ks at.fun.body at.expr at.others (fun-fits at.fun (place_fit x ks at)).3 at.stands

  -- what stands there, if it is known what
  standing_is : (x : Name) (ks : List ℕ) (at : Standing p x ks) (e : Expr) → at.expr ≡ e → Fit e
  standing_is x ks at e is = ap an_expr (sym is) ∙ standing_fit x ks at

  put_funs : (x : Name) (ks : List ℕ) (at : Standing p x ks) (e : Expr) → Fit e → every a_fun (put_body p at.fun ks e) ≡ true
  put_funs x ks at e fit =
      let own = fun-fits at.fun (place_fit x ks at) in
      let new = with_body at.fun (put_at at.fun.body ks e) in
      set-every a_fun p at.fun.name new funs (fit_fun new own.0 own.1 own.2 (put_fit ks at.fun.body e own.3 fit))

module _ (w : Plain) (funs : every a_fun w.now ≡ true) where
  bind_funs : (x : Name) (ks : List ℕ) (y : Name) (p : Program) → a_name y ≡ true → MadeBind w x ks y p → every a_fun p ≡ true
  bind_funs x ks y p named m =
      let was = bind_fit m.from m.value m.inside (standing_is w.now funs x ks m.at _ m.is_let) in
      ap (every a_fun) m.made
      ∙ put_funs w.now funs x ks m.at (bind y m.value (renamed m.from y m.inside))
      (fit_bind y m.value (renamed m.from y m.inside) named was.1 (renamed_fit m.inside m.from y named was.2))

  param_funs : (x : Name) (i : ℕ) (y : Name) (p : Program) → a_name y ≡ true → MadeParam w x i y p → every a_fun p ≡ true
  param_funs x i y p named m =
      let f = m.at.fun in
      let own = fun-fits f (found_fit w.now funs x m.at) in
      let new = own_renamed f i m.from y in
      ap (every a_fun) m.made
      ∙ set-every a_fun w.now f.name new funs
      (fit_fun new own.0 (omega (arith, own.1, put_name-long f.params i y)) (put_name_fit f.params i y own.2 named)
      (renamed_fit f.body m.from y named own.3))

  fun_funs : (x y : Name) → a_name y ≡ true → (f : Fun) → a_fun f ≡ true → a_fun (fun_renamed x y f) ≡ true
  fun_funs x y named f h = grind (arith, recalled_fit)

  extract_funs : (x : Name) (ks : List ℕ) (y : Name) (p : Program) → a_name y ≡ true → MadeExtract w x ks y p → every a_fun p ≡ true
  extract_funs x ks y p named m =
      let e = m.at.expr in
      let fit = standing_fit w.now funs x ks m.at in
      let own = free_fit e fit in
      let caller = put_body w.now m.at.fun ks (call y (vars (free e))) in
      ap (every a_fun) m.made
      ∙ every_append a_fun caller (made_fun y e ∷ [])
      (put_funs w.now funs x ks m.at (call y (vars (free e))) (call_vars_fit y (free e) named m.few own))
      (and_from _ _ (fit_fun (made_fun y e) named m.few own fit) refl)

  inline_funs : (x : Name) (ks : List ℕ) (p : Program) → MadeInline w x ks p → every a_fun p ≡ true
  inline_funs x ks p m =
      let was = bind_fit m.name m.value m.inside (standing_is w.now funs x ks m.at _ m.is_let) in
      ap (every a_fun) m.made
      ∙ put_funs w.now funs x ks m.at m.new
      (first-at Fit (put_for m.name m.value m.inside) m.new m.news m.put (put_for_fit m.inside m.name m.value was.1 was.2))

  call_funs : (x : Name) (ks : List ℕ) (p : Program) → MadeCall w x ks p → every a_fun p ≡ true
  unfolding parts
  call_funs x ks p m =
      let g = m.called.fun in
      let own = fun-fits g (found_fit w.now funs m.name m.called) in
      let values = (head-fits (call m.name m.values) (standing_is w.now funs x ks m.at _ m.is_call)).1 in
      ap (every a_fun) m.made
      ∙ put_funs w.now funs x ks m.at m.new
      (first-at Fit (binds_of g.params _ g.body) m.new m.news m.lets (lets_fit g.params _ g.body own.2 values own.3))

  cond_funs : (x : Name) (ks : List ℕ) (p : Program) → MadeCond w x ks p → every a_fun p ≡ true
  unfolding an_expr
  cond_funs x ks p m =
      let was = choice_fit m.test m.yes m.other (standing_is w.now funs x ks m.at _ m.is_choice) in
      ap (every a_fun) m.made
      ∙ put_funs w.now funs x ks m.at (choice (bin 4 m.test (num 0)) m.other m.yes)
      (fit_choice (bin 4 m.test (num 0)) m.other m.yes (fit_bin 4 m.test (num 0) refl was.0 refl) was.2 was.1)

  made_funs : (c : Command) (p : Program) → fits c ≡ true → Made w c p → every a_fun p ≡ true
  unfolding fits
  made_funs (load q) p fit m = absurd m
  made_funs (show x) p fit m = absurd m
  made_funs names p fit m = absurd m
  made_funs (rename_bind x ks y) p fit m =
      bind_funs x ks y p (and_parts _ _ (and_parts _ _ fit).0).1 m
  made_funs (rename_param x i y) p fit m =
      param_funs x i y p (and_parts _ _ (and_parts _ _ fit).0).1 m
  made_funs (rename_fun x y) p fit m = grind (arith, every-each, fun_funs, and_parts)
  made_funs (extract x ks y) p fit m =
      extract_funs x ks y p (and_parts _ _ (and_parts _ _ fit).0).1 m
  made_funs (inline_bind x ks) p fit m = inline_funs x ks p m
  made_funs (inline_call x ks) p fit m = call_funs x ks p m
  made_funs (turn_cond x ks) p fit m = cond_funs x ks p m
  made_funs (drop_fun x) p fit m = grind (arith, every-those)
  made_funs undo p fit m = absurd m

pub stays_program : StaysProgram
stays_program w c fit fit-now fit-before = go (turn-ends w c)
  where
    go : {t : Turn} → Ended w c t → a_program t.next.now ≡ true
    go (refuses k h) = fit-now
    go (looks ss h) = fit-now
    go (loads p is h) = unfold fits in (sym (ap fits is) ∙ fit)
    go (goes_back p ps is was) = grind arith
    go (makes p m few short) = fit_program p few (made_funs w (program_fits w.now fit-now).1 c p fit m) short

-- What holds of what stands and of what can be gone back to, holds after a turn of what can be gone back to.
pub before_stays : (P : Program → Bool) (w : Plain) (c : Command) → P w.now ≡ true → every P w.before ≡ true → every P (turn w c).next.before ≡ true
before_stays P w c now-holds before-hold = go (turn-ends w c)
  where
    go : {t : Turn} → Ended w c t → every P t.next.before ≡ true
    go (refuses k h) = before-hold
    go (looks ss h) = before-hold
    go (loads p is h) = refl
    go (goes_back p ps is was) = (and_parts _ _ (ap (every P) (sym was) ∙ before-hold)).1
    go (makes p m few short) = grind arith

pub before-few : (w : Plain) (c : Command) → length w.before ≤ 8 → length (turn w c).next.before ≤ 8
before-few w c eight = go (turn-ends w c)
  where
    go : {t : Turn} → Ended w c t → length t.next.before ≤ 8
    go (refuses k h) = eight
    go (looks ss h) = eight
    go (loads p is h) = omega arith
    go (goes_back p ps is was) = omega (arith, ap length was)
    go (makes p m few short) = omega (arith, length-take 8 (w.now ∷ w.before))

-- what stands between two commands: programs that fit and are fine, and at most eight that can be gone back to
pub record Sound (w : Plain) : Type 0 where
  pub now-fits : a_program w.now ≡ true
  pub now-fine : fine w.now ≡ true
  pub before_fit : every a_program w.before ≡ true
  pub before-fine : every fine w.before ≡ true
  pub few-before : length w.before ≤ 8

pub sound_start : Sound at_first
unfolding in_bytes distinct
sound_start = record { now-fits = refl; now-fine = refl; before_fit = refl; before-fine = refl; few-before = omega arith }

pub sound_stays : (w : Plain) (c : Command) → fits c ≡ true → Sound w → Sound (turn w c).next
sound_stays w c fit s =
    record {
      now-fits = stays_program w c fit s.now-fits s.before_fit;
      now-fine = (stays_fine w c fit s.now-fine (program_fits w.now s.now-fits).2 s.before-fine short).0;
      before_fit = before_stays a_program w c s.now-fits s.before_fit;
      before-fine = before_stays fine w c s.now-fine s.before-fine;
      few-before = before-few w c s.few-before;
    }
  where
    short : every (λ p. leb (length (program_spelled p)) 65536) w.before ≡ true
    short = grind (arith, every_so, and_parts)

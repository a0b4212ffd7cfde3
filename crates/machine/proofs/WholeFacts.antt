-- The machine does what the model does, whatever is said. Assumes nothing.
use Rattle.std.proofs.Common.{◌≡◌, ℕ, true, false, List, [], set, Some, None, Option, sym, refl, ap, ◌∙◌, subst, inl, inr, arith}
use Rattle.model.specs.Command.{Command, load, show, names, rename_bind, rename_param, rename_fun, extract, inline_bind, inline_call, turn_cond, drop_fun, undo}
use Rattle.model.specs.Known.{basics}
use Rattle.model.specs.State.{Plain}
use Rattle.model.specs.Engine.{said, refused, Ran, ran, refusal_end, runs}
use Rattle.model.specs.Reading.{Ask, loading, asking, Asks, asked}
use Rattle.model.specs.Whole.{Never, Said, May, Whole}
use Rattle.model.specs.Simulation.{Answered, Simulates}
use Rattle.model.proofs.SimulationFacts.{whole_from}
use Rattle.model.proofs.AskedFacts.{said-asked, asked-said, load-asked}
use Rattle.model.proofs.EveryMeaning.{every_means}
use Rattle.machine.specs.Machine.{stepped, load_step, command_step, obeyed, own}
use Rattle.machine.proofs.SteadyFacts.{steady}
use Rattle.machine.proofs.HoldsFacts.{Holds, holds_marked, holds-start}
use Rattle.machine.proofs.Runs.{run, run_refused, run_said, Obeys, obeys_answered}
use Rattle.machine.proofs.CommandRuns.{obeys_undo, obeys_load, obeys_show, obeys_names}

-- a text that ends at once with a refusal changes nothing but the mark
module _ (m : List ℕ) (w : Plain) (t : List ℕ) (h : Holds m w) where
  marked_held : Holds (set m 0 0) w
  marked_held = holds_marked m w 0 (omega arith) h

  ends-refused : (k : ℕ) → obeyed (set m 0 0) (asked t) ≡ stepped (set m 0 0) (refused k) → runs 1 own m (said t) [] ≡ ran (set m 0 0) [] (refusal_end k)
  ends-refused k e = run_said 0 m t h.fits ∙ ap (λ s. run 0 s []) e ∙ run_refused 0 (set m 0 0) k []

  refused_answer : (k : ℕ) → obeyed (set m 0 0) (asked t) ≡ stepped (set m 0 0) (refused k) → May basics w t (ran (set m 0 0) [] (refusal_end k)) w → Answered basics own Holds m w t
  refused_answer k e may =
      let r = ends-refused k e in
      record {
        steps = 1;
        after = w;
        may = subst (λ (x : Ran). May basics w t x w) (sym r) may;
        holds = subst (λ n. Holds n w) (sym (ap (λ (x : Ran). x.memory) r)) marked_held;
      }

  no_command : asked t ≡ None → Answered basics own Holds m w t
  unfolding May
  no_command e = refused_answer 1 (ap (obeyed (set m 0 0)) e) (inr (inr ((λ c s. never c s), refl, refl, refl)))
    where
      never : (c : Command) → Said t c → Never
      never c s = let a = said-asked t c s in let z : ◌≡◌ {A = ℕ} 0 1 = cc a.1 in absurd (omega arith)

  not_known : (c : Command) → asked t ≡ Some (asking c) → Said t c → basics c ≡ false → command_step (set m 0 0) c ≡ stepped (set m 0 0) (refused 2) → Answered basics own Holds m w t
  unfolding May
  not_known c e s k u = refused_answer 2 (ap (obeyed (set m 0 0)) e ∙ u) (inr (inl (c, s, k, refl, refl, refl)))

  is_known : (c : Command) → asked t ≡ Some (asking c) → Said t c → basics c ≡ true → Obeys w c (command_step (set m 0 0) c) → Answered basics own Holds m w t
  is_known c e s k o = obeys_answered basics m w t c h s k (subst (Obeys w c) (sym (ap (obeyed (set m 0 0)) e)) o)

  -- by what the text asks for
  command_answer : (c : Command) → asked t ≡ Some (asking c) → Said t c → Answered basics own Holds m w t
  unfolding basics
  command_answer (load p) e s = let z : ◌≡◌ {A = ℕ} 0 1 = cc (load-asked t p s) in absurd (omega arith)
  command_answer (show x) e s = is_known (show x) e s refl (obeys_show (set m 0 0) w x marked_held)
  command_answer names e s = is_known names e s refl (obeys_names (set m 0 0) w marked_held)
  command_answer (rename_bind x ks y) e s = not_known (rename_bind x ks y) e s refl refl
  command_answer (rename_param x i y) e s = not_known (rename_param x i y) e s refl refl
  command_answer (rename_fun x y) e s = not_known (rename_fun x y) e s refl refl
  command_answer (extract x ks y) e s = not_known (extract x ks y) e s refl refl
  command_answer (inline_bind x ks) e s = not_known (inline_bind x ks) e s refl refl
  command_answer (inline_call x ks) e s = not_known (inline_call x ks) e s refl refl
  command_answer (turn_cond x ks) e s = not_known (turn_cond x ks) e s refl refl
  command_answer (drop_fun x) e s = not_known (drop_fun x) e s refl refl
  command_answer undo e s = is_known undo e s refl (obeys_undo (set m 0 0) w marked_held)

  ask_answer : (a : Option Ask) → asked t ≡ a → Answered basics own Holds m w t
  unfolding Asks basics
  ask_answer None e = no_command e
  ask_answer (Some (loading bs)) e =
      let c = asked-said t (loading bs) e in
      let p = c.2 in
      obeys_answered basics m w t (load p.0) h (subst (Said t) p.3 c.1) refl
      (subst (Obeys w (load p.0)) (ap (load_step (set m 0 0)) p.1 ∙ sym (ap (obeyed (set m 0 0)) e)) (obeys_load (set m 0 0) w p.0 p.2 marked_held))
  ask_answer (Some (asking c)) e =
      let d = asked-said t (asking c) e in
      command_answer c e (subst (Said t) d.2 d.1)

simulates : Simulates basics own Holds
simulates = record { starts = holds-start; answers = λ m w t h. ask_answer m w t h (asked t) refl }

pub whole : Whole basics own
whole = whole_from basics own Holds simulates steady (λ w c known. every_means w c refl)

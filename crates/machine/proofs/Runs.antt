-- A command from its first step to its end, and that it ends as the model has it. Assumes nothing.
use Rattle.std.proofs.Common.{◌≡◌, ℕ, suc, Bool, true, List, [], ◌∷◌, ◌++◌, set, sym, refl, ap, ◌∙◌, subst, inl}
use Rattle.language.specs.Basics.{pick}
use Rattle.model.specs.Command.{Command}
use Rattle.model.specs.State.{Plain, Turn}
use Rattle.model.specs.Model.{turn}
use Rattle.model.specs.Engine.{Event, said, next, shows, done, refused, Step, Ran, ran, refusal_end, one_act, runs}
use Rattle.model.specs.Whole.{Said, May}
use Rattle.model.specs.Reading.{asked}
use Rattle.model.specs.Simulation.{Answered}
use Rattle.memory.specs.Layout.{memory_fits}
use Rattle.machine.specs.Machine.{stepped, obeyed, gone_on, by_event, own}
use Rattle.machine.proofs.HoldsFacts.{Holds}

-- what becomes of a step that was made, in so many more
pub run : ℕ → Step → List (List ℕ) → Ran
run n s ss = one_act (λ m ts. runs n own m next ts) ss s.memory s.act

pub run_done : (n : ℕ) (m : List ℕ) (ss : List (List ℕ)) → run n (stepped m done) ss ≡ ran m ss 0
unfolding run one_act
run_done n m ss = refl

pub run_refused : (n : ℕ) (m : List ℕ) (k : ℕ) (ss : List (List ℕ)) → run n (stepped m (refused k)) ss ≡ ran m ss (refusal_end k)
unfolding run one_act
run_refused n m k ss = refl

step_fit : (m : List ℕ) (ev : Event) → memory_fits m ≡ true → own.step m ev ≡ by_event m ev
unfolding own
step_fit m ev f = ap (λ t. pick t (by_event m ev) (stepped m (refused 0))) f

-- a row, and then what going on does
pub run_row : (n : ℕ) (m s : List ℕ) (ss : List (List ℕ)) → memory_fits m ≡ true → run (suc n) (stepped m (shows s)) ss ≡ run n (gone_on m) (ss ++ s ∷ [])
unfolding run one_act runs
run_row n m s ss f = ap (λ (x : Step). one_act (λ m ts. runs n own m next ts) (ss ++ s ∷ []) x.memory x.act) (step_fit m next f)

pub run_said : (n : ℕ) (m t : List ℕ) → memory_fits m ≡ true → runs (suc n) own m (said t) [] ≡ run n (obeyed (set m 0 0) (asked t)) []
unfolding run runs
run_said n m t f = ap (λ (x : Step). one_act (λ m ts. runs n own m next ts) [] x.memory x.act) (step_fit m (said t) f)

-- a step after which a command ends as the model has it
pub record Obeys (w : Plain) (c : Command) (s : Step) : Type 0 where
  pub more : ℕ
  pub after : List ℕ
  pub ran_so : run more s [] ≡ ran after (turn w c).shows (turn w c).reply
  pub holds : Holds after (turn w c).next

-- the same, for a turn that is known
pub obeys_turn : (w : Plain) (c : Command) (s : Step) (t : Turn) (more : ℕ) (after : List ℕ) → turn w c ≡ t → run more s [] ≡ ran after t.shows t.reply → Holds after t.next → Obeys w c s
obeys_turn w c s t more after e r h =
    record {
      more = more;
      after = after;
      ran_so = r ∙ ap (λ (u : Turn). ran after u.shows u.reply) (sym e);
      holds = subst (λ (u : Turn). Holds after u.next) (sym e) h;
    }

pub obeys_answered : (known : Command → Bool) (m : List ℕ) (w : Plain) (t : List ℕ) (c : Command) → Holds m w → Said t c → known c ≡ true → Obeys w c (obeyed (set m 0 0) (asked t)) →
    Answered known own Holds m w t
unfolding May
obeys_answered known m w t c h said-so is_Known o =
    let r = run_said o.more m t h.fits ∙ o.ran_so in
    record {
      steps = suc o.more;
      after = (turn w c).next;
      may = subst (λ (x : Ran). May known w t x (turn w c).next) (sym r) (inl (c, said-so, is_Known, refl, refl, refl));
      holds = subst (λ n. Holds n (turn w c).next) (sym (ap (λ (x : Ran). x.memory) r)) o.holds;
    }

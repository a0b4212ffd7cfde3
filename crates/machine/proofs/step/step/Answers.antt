-- Each way out is misuse, or what the machine's own step tells. What is lent is the memory, and the front of the row.
use Rattle.std.proofs.Common.{◌≡◌, ◌≤◌, length, take, sym, subst, ap, ◌∙◌, rules, refl}
use Rattle.model.specs.Engine.{said}
use Rattle.memory.specs.Layout.{memory_fits}
use Rattle.machine.specs.Machine.{gone_on, by_event}
use Rattle.machine.specs.Told.{Tells}
use Rattle.machine.proofs.StepFacts.{kind_unfit, row_unfit, memory_short, memory_unfit, said-told, next-told, kept_whole, lent_back, front_told}
use Rattle.machine.proofs.ShortFacts.{next_short, said_short}
use Rattle.machine.proofs.WholeFacts.{whole}
use Rattle.machine.proofs.step.step.Goals as goal

pub returns-in_err-kind : goal.returns-in_err-kind
returns-in_err-kind c = record { says = kind_unfit _ _ _ _ _ (search rules) (search rules); whole = whole }

pub returns-in_err-row : goal.returns-in_err-row
returns-in_err-row c = record { says = row_unfit _ _ _ _ _ (search rules) (search rules); whole = whole }

pub returns-in_err-memory : goal.returns-in_err-memory
returns-in_err-memory c =
    let long : 131072 ≤ length c.args.out.now = search rules in
    let front : c.in_ok-row.row.now ≡ take 131072 c.args.out.now = search rules in
    record {
      says = lent_back _ _ _ _ _ _ _ _ refl (kept_whole _ _ long front) (memory_short _ _ _ _ _ (search rules) (search rules));
      whole = whole;
    }

pub returns-then-not-memory_fits : goal.returns-then-not-memory_fits
returns-then-not-memory_fits c =
    let long : 131072 ≤ length c.args.out.now = search rules in
    let front : c.in_ok-row.row.now ≡ take 131072 c.args.out.now = search rules in
    let same : c.in_ok-memory.memory.now ≡ c.args.memory.now = search rules in
    record {
      says =
          lent_back _ _ _ _ _ _ _ _ same (kept_whole _ _ long front)
          (memory_unfit _ _ _ _ _ refl (sym (ap memory_fits same) ∙ sym c.if-not-memory_fits.ensures));
      whole = whole;
    }

pub returns-in-GoOn : goal.returns-in-GoOn
returns-in-GoOn c =
    let long : 131072 ≤ length c.args.out.now = search rules in
    let front : c.in_ok-row.row.now ≡ take 131072 c.args.out.now = search rules in
    let same : c.in_ok-memory.memory.now ≡ c.args.memory.now = search rules in
    record {
      says =
          next-told _ _ _ _ _ _ _ long (sym (ap memory_fits same) ∙ sym c.if-not-memory_fits.ensures) (search rules)
          (front_told _ _ long front _ _ _ _ (next_short _) (subst (λ m. Tells (gone_on m) c.go_on.result c.in_ok-row.row.now c.go_on.new.memory c.go_on.new.out) same c.go_on.ensures));
      whole = whole;
    }

pub returns-in-Said : goal.returns-in-Said
returns-in-Said c =
    let long : 131072 ≤ length c.args.out.now = search rules in
    let front : c.in_ok-row.row.now ≡ take 131072 c.args.out.now = search rules in
    let same : c.in_ok-memory.memory.now ≡ c.args.memory.now = search rules in
    record {
      says =
          said-told _ _ _ _ _ _ _ long (sym (ap memory_fits same) ∙ sym c.if-not-memory_fits.ensures) (search rules)
          (front_told _ _ long front _ _ _ _ (said_short _ _)
          (subst (λ m. Tells (by_event m (said c.args.text.now)) c.obey.result c.in_ok-row.row.now c.obey.new.memory c.obey.new.out) same c.obey.ensures));
      whole = whole;
    }

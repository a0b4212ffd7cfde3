-- What was found in the current program is the row, or the answer ends.
use Rattle.std.proofs.Common.{rules, arith}
use Rattle.machine.proofs.AnswerFacts.{told_as, within_met, names-end, names-cut, names_lost, names-row}
use Rattle.memory.proofs.LayoutFacts.{held_short}
use Rattle.machine.proofs.StepFacts.{met}
use Rattle.machine.proofs.answers.show_name.Goals as goal

pub returns-then-at-len : goal.returns-then-at-len
returns-then-at-len c = names-end _ _ _ _ c.current-program.ensures (omega arith)

pub returns-in_err-to : goal.returns-in_err-to
returns-in_err-to c = names-cut _ _ _ _ c.current-program.ensures _ (omega arith) (search rules) (search rules)

pub returns-in_err-next : goal.returns-in_err-next
returns-in_err-next c = names_lost _ _ _ _ c.current-program.ensures _ c.in_ok-to.to (omega arith) (search rules) (search rules) (search rules)

pub overflow_add-memory : goal.overflow_add-memory
overflow_add-memory c =
    omega (
      arith,
      within_met _ _ _ _ (met _ _ _ c.ok_or-2.ensures.ok_part c.in_ok-next.was) c.skip_function.ensures.within,
      held_short c.args.memory.now _ c.current-program.ensures,
    )

pub returns : goal.returns
returns c =
    told_as _ _ _ _ _ _ c.shown.ensures
    (names-row _ _ _ _ c.current-program.ensures _ c.in_ok-next.next _ (omega arith) (search rules) (search rules) (search rules) c.copy_row.ensures)

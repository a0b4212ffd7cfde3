-- What was found in the current program is the row.
use Rattle.std.proofs.Common.{rules, arith}
use Rattle.std.proofs.lemmas.List.Edits.{length-between}
use Rattle.machine.proofs.AnswerFacts.{told_as, within_met, show_none, show-cut, show-row}
use Rattle.memory.proofs.LayoutFacts.{held_short}
use Rattle.machine.proofs.StepFacts.{met}
use Rattle.machine.proofs.answers.show.Goals as goal

pub returns-in_err-from : goal.returns-in_err-from
returns-in_err-from c = show_none _ _ _ _ c.current-program.ensures _ (search rules) (search rules)

pub returns-in_err-to : goal.returns-in_err-to
returns-in_err-to c = show-cut _ _ _ _ c.current-program.ensures _ c.in_ok-from.from (search rules) (search rules) (search rules)

pub copy_row-requires : goal.copy_row-requires
copy_row-requires c =
    let end = within_met _ _ _ _ (met _ _ _ c.ok_or-2.ensures.ok_part c.in_ok-to.was) c.skip_function.ensures.within in
    omega (arith, length-between _ c.in_ok-from.from c.in_ok-to.to end.1, held_short c.args.memory.now _ c.current-program.ensures)

pub returns : goal.returns
returns c =
    told_as _ _ _ _ _ _ c.shown.ensures (show-row _ _ _ _ c.current-program.ensures _ _ _ (search rules) (search rules) (search rules) c.copy_row.ensures)

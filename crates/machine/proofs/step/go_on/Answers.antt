use Rattle.std.proofs.Common.{refl}
use Rattle.machine.proofs.StepFacts.{on_none, on_next}
use Rattle.machine.proofs.step.go_on.Goals as goal

pub returns-then-mark-eq0 : goal.returns-then-mark-eq0
returns-then-mark-eq0 c = on_none _ _ _ c.if-mark-eq0.true refl

pub returns : goal.returns
returns c = on_next _ _ _ _ _ c.if-mark-eq0.false c.show_name.ensures

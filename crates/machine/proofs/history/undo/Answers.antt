use Rattle.std.proofs.Common.{refl}
use Rattle.machine.specs.History.{gone_back}
use Rattle.machine.proofs.AnswerFacts.{undo_none, undo-done}
use Rattle.machine.proofs.history.undo.Goals as goal

pub returns-then-older-eq0 : goal.returns-then-older-eq0
returns-then-older-eq0 c = undo_none _ _ c.if-older-eq0.true refl

pub returns : goal.returns
unfolding gone_back
returns c = undo-done _ _ c.if-older-eq0.false c.move_down.ensures

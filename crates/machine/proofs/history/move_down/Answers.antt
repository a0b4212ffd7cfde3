use Rattle.std.proofs.Common.{drop, ap, ◌∙◌}
use lib.Seq.{paste}
use Rattle.machine.specs.History.{moved_down}
use Rattle.machine.proofs.history.move_down.Goals as goal

pub returns : goal.returns
unfolding moved_down
returns c = c.copy_within-2.ensures.after ∙ ap (λ n. paste n 16 (drop 8208 n) 65536) c.copy_within.ensures.after

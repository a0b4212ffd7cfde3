use Rattle.std.proofs.Common.{drop, ap, ◌∙◌}
use lib.Seq.{paste}
use Rattle.machine.specs.History.{moved_up}
use Rattle.machine.proofs.history.move_up.Goals as goal

pub returns : goal.returns
unfolding moved_up
returns c = c.copy_within-2.ensures.after ∙ ap (λ n. paste n 8208 (drop 16 n) 65536) c.copy_within.ensures.after

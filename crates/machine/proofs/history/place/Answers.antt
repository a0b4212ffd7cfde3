use Rattle.std.proofs.Common.{drop, set, ap, ◌∙◌}
use lib.Seq.{paste}
use Rattle.machine.specs.History.{placed}
use Rattle.machine.proofs.history.place.Goals as goal

pub returns : goal.returns
unfolding placed
returns c = c.copy_within.ensures.after ∙ ap (λ n. paste (set c.args.memory.now 2 n) 16 (drop 73744 (set c.args.memory.now 2 n)) 8192) c.saturating_sub.ensures

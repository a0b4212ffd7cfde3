use Rattle.std.proofs.Common.{length}
use Rattle.expr.proofs.place.+follow.Given as goal

abbrev pub decreases-follow : goal.decreases-follow
decreases-follow g l = length l.place.now

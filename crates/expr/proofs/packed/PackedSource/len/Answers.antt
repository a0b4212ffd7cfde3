-- The smaller of what is asked and what there is.
use Rattle.std.proofs.Common.{arith}
use Rattle.language.proofs.PackedFacts.{front_length}
use Rattle.expr.proofs.packed.PackedSource.len.Goals as goal

pub returns : goal.returns
returns c = omega (arith, front_length c.args.self.now.words.now c.args.self.now.len)

use Rattle.std.proofs.Common.{sym, ◌∙◌, arith}
use Rattle.scope.proofs.WalkFacts.{head_many}
use Rattle.scope.proofs.uses.advance.Goals as goal

pub returns : goal.returns
returns c = record { to = λ go us. head_many go _ _ _ _ _ us (sym c.arity-parts.ensures) (omega arith) (omega arith) ∙ c.open_frame.ensures.to go us; on = c.open_frame.ensures.on }

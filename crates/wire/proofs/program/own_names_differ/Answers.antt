use Rattle.wire.proofs.WalkFacts.{none_differ}
use Rattle.wire.proofs.program.own_names_differ.Goals as goal

pub returns-in-None : goal.returns-in-None
returns-in-None g c = none_differ _ c.in-None.ensures.value

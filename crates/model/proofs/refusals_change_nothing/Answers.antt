use Rattle.model.proofs.refusals_change_nothing.Goals as goal
use Rattle.model.proofs.TurnFacts.{refused-same}

pub returns : goal.returns
returns c = refused-same

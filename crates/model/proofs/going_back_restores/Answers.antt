use Rattle.model.proofs.going_back_restores.Goals as goal
use Rattle.model.proofs.TurnFacts.{back_again}

pub returns : goal.returns
returns c = back_again

use Rattle.model.proofs.refusals_guard_meaning.Goals as goal
use Rattle.model.proofs.GuardFacts.{guards}

pub returns : goal.returns
returns c = guards

use Rattle.model.proofs.programs_stay_fine.Goals as goal
use Rattle.model.proofs.FineFacts.{stays_fine}

pub returns : goal.returns
returns c = stays_fine

use Rattle.model.proofs.programs_stay_programs.Goals as goal
use Rattle.model.proofs.StayFacts.{stays_program}

pub returns : goal.returns
returns c = stays_program

use Rattle.model.proofs.worked_formula.Goals as goal
use Rattle.model.proofs.WorkedFacts.{worked_table}

pub returns : goal.returns
returns c = worked_table

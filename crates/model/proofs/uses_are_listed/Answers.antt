use Rattle.model.proofs.UsesFacts.{uses-listed}
use Rattle.model.proofs.uses_are_listed.Goals as goal

pub returns : goal.returns
returns c = uses-listed

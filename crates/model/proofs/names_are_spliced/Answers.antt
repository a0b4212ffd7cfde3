use Rattle.model.proofs.SpliceFacts.{names_spliced}
use Rattle.model.proofs.names_are_spliced.Goals as goal

pub returns : goal.returns
returns c = names_spliced

use Rattle.language.proofs.only_free_names_matter.Goals as goal
use Rattle.language.proofs.FreeFacts.{free_matter}

pub returns : goal.returns
returns c = free_matter

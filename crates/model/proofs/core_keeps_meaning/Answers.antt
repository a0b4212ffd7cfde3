use Rattle.model.proofs.EveryMeaning.{core_means}
use Rattle.model.proofs.core_keeps_meaning.Goals as goal

pub returns : goal.returns
returns c = core_means

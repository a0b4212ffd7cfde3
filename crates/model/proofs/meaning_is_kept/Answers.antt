use Rattle.model.proofs.EveryMeaning.{every_means}
use Rattle.model.proofs.meaning_is_kept.Goals as goal

pub returns : goal.returns
returns c = every_means

use Rattle.model.proofs.QuietFacts.{quiet-quiet}
use Rattle.model.proofs.quiet_is_quiet.Goals as goal

pub returns : goal.returns
returns c = quiet-quiet

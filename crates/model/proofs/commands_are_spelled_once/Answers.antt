use Rattle.model.proofs.SpelledOnce.{spelled_once}
use Rattle.model.proofs.commands_are_spelled_once.Goals as goal

pub returns : goal.returns
returns c = spelled_once

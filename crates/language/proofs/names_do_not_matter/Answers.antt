use Rattle.language.proofs.names_do_not_matter.Goals as goal
use Rattle.language.proofs.BareRuns.{alike_same}

pub returns : goal.returns
returns c = alike_same

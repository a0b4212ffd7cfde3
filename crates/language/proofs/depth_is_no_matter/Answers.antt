use Rattle.language.proofs.Depth.{deeper_same}
use Rattle.language.proofs.depth_is_no_matter.Goals as goal

pub returns : goal.returns
returns c = deeper_same

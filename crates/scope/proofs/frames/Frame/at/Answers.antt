use Rattle.std.proofs.Common.{refl}
use Rattle.scope.specs.Frames.{frame_at}
use Rattle.scope.proofs.frames.Frame.at.Goals as goal

pub returns : goal.returns
unfolding frame_at
returns c = refl

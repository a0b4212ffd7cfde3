use Rattle.std.proofs.Common.{refl, arith}
use Rattle.scope.proofs.WalkFacts.{opened_full, opened_room}
use Rattle.scope.proofs.uses.open_frame.Goals as goal

pub returns-then-first-ge-MAX_FRAMES : goal.returns-then-first-ge-MAX_FRAMES
returns-then-first-ge-MAX_FRAMES c = record { to = λ go us. opened_full c.args.frames.now c.args.first _ _ go us (omega arith); on = tt }

pub returns : goal.returns
returns c = record { to = λ go us. opened_room c.args.frames.now c.args.first _ _ go us _ (omega arith) (omega arith) c.put.ensures; on = (refl, refl) }

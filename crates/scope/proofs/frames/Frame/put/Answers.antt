use Rattle.std.proofs.Common.{◌≡◌, Bool, true, false, refl, ◌∙◌, ap₂}
use mir.Val.{bool_byte}
use Rattle.scope.specs.Frames.{flag, frame_put}
use Rattle.scope.proofs.FrameFacts.{put_flags}
use Rattle.scope.proofs.frames.Frame.put.Goals as goal

byte_flag : (b : Bool) → bool_byte b ≡ flag b
byte_flag true = refl
byte_flag false = refl

pub returns : goal.returns
unfolding frame_put
returns c =
    ap₂ (put_flags c.args.frames.now c.args.index c.args.self.holder.at c.args.self.holder.part c.args.self.parts) (c.from.ensures ∙ byte_flag c.args.self.around.old)
    (c.from-2.ensures ∙ byte_flag c.args.self.around.new)

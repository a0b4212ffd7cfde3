use Rattle.std.proofs.Common.{◌≡◌, ◌+◌, set, ap, ◌∙◌, arith}
use Rattle.expr.specs.Look.{smaller}
use Rattle.memory.specs.Layout.{older}
use Rattle.machine.proofs.ChangeFacts.{smaller_min}
use Rattle.machine.specs.History.{moved_up, placed, committed}
use Rattle.machine.proofs.history.commit.Goals as goal

pub returns : goal.returns
unfolding committed
returns c =
    c.place.ensures ∙ ap (λ n. placed n c.args.len) (c.move_up.ensures ∙ ap (λ k. moved_up (set c.args.memory.now 1 k)) one_more)
  where
    one_more : c.min.result ≡ smaller 8 (older c.args.memory.now + 1)
    one_more = omega (arith, c.min.ensures, c.saturating_add.ensures, smaller_min 8 (older c.args.memory.now + 1))

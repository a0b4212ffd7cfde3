-- The whole memory is filled with 0.
use Rattle.std.proofs.Common.{replicate, refl, ap, ◌∙◌}
use Rattle.std.proofs.lemmas.List.{take_at}
use Rattle.replay.proofs.player.Player.start.Goals as goal

pub returns : goal.returns
returns c = record {
  memory =
      take_at c.fill.new.self _ _ (c.fill.ensures.len ∙ c.as_mut_slice.ensures.len)
      ∙ c.fill.ensures.after (λ y e. e)
      ∙ ap (λ n. replicate n 0) c.as_mut_slice.ensures.len;
  line = refl;
}

use Rattle.std.proofs.Common.{ap, ◌∙◌}
use Rattle.memory.specs.Layout.{build_at, put_words, zero_words}
use Rattle.machine.specs.History.{committed, accepted}
use Rattle.machine.proofs.rename.accept.Goals as goal

pub returns : goal.returns
unfolding accepted
returns c =
    c.clear-2.ensures
    ∙ ap (λ n. put_words n build_at (zero_words 8192)) (c.commit.ensures ∙ ap (λ n. committed n c.args.len) c.clear.ensures)

use Rattle.std.proofs.Common.{◌≡◌, length, ap, ◌∙◌, arith}
use Rattle.memory.specs.Layout.{zero_words}
use Rattle.memory.proofs.build.Writer.begin.Goals as goal

pub returns-clause-after : goal.returns-clause-after
returns-clause-after c = c.fill.ensures.after (λ y e. e) ∙ ap zero_words (let long : length c.args.area.now ≡ 8192 = omega arith in long)

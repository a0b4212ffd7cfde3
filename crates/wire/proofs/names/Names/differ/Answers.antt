-- One name after the other: it is none of those after it.
use Rattle.std.proofs.Common.{sym, ap, ◌∙◌, not, ◌&&◌}
use Rattle.language.specs.Names.{distinct}
use Rattle.wire.specs.Walk.{names_left}
use Rattle.wire.proofs.WalkFacts.{differ_more, differ_end}
use Rattle.wire.proofs.names.Names.differ.Goals as goal

pub returns-then-has : goal.returns-then-has
returns-then-has g c =
    sym (c.loop-name.invariant ∙ differ_more _ _ _ _ (ap (λ r. g.S.Source.bytes r.now) c.in-Some.ensures.steps.1) _ _ _ c.in-Some.ensures.steps.0
    ∙ ap (λ b. not b && distinct (names_left g.S.Source.bytes c.next.new.self)) (sym c.if-has.ensures))

pub loop-name-preserved : goal.loop-name-preserved
loop-name-preserved g c =
    c.loop-name.invariant ∙ differ_more _ _ _ _ (ap (λ r. g.S.Source.bytes r.now) c.in-Some.ensures.steps.1) _ _ _ c.in-Some.ensures.steps.0
    ∙ ap (λ b. not b && distinct (names_left g.S.Source.bytes c.next.new.self)) (sym c.if-has.ensures)

pub returns : goal.returns
returns g c = sym (c.loop-name.invariant ∙ differ_end _ _ _ c.in_default.ensures.steps.0.0)

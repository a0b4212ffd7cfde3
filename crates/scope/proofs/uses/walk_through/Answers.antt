-- One node after the other.
use Rattle.std.proofs.Common.{Some, sym, refl, ap, ◌∙◌, arith}
use Rattle.scope.specs.Walks.{count_told}
use Rattle.scope.proofs.VisitFacts.{walked_to, walked_out}
use Rattle.scope.proofs.uses.walk_through.Goals as goal

pub returns-in_err-next-clause-value : goal.returns-in_err-next-clause-value
returns-in_err-next-clause-value g c =
    ap (count_told c.visit_next.new.list) c.from_residual.ensures
    ∙ sym (walked_to _ _ _ _ _ c.args.first c.loop.counter _ _ c.loop.walk c.loop.invariant (omega (arith, c.len-end.ensures)) _ _ _ _ c.in_err-next.ensures refl)

pub returns-in-Break-clause-value : goal.returns-in-Break-clause-value
returns-in-Break-clause-value g c =
    sym (walked_to _ _ _ _ _ c.args.first c.loop.counter _ _ c.loop.walk c.loop.invariant (omega (arith, c.len-end.ensures)) _ _ _ _ c.in_ok-next.ensures (ap Some c.in-Break.is))

pub loop-preserved : goal.loop-preserved
loop-preserved g c =
    walked_to _ _ _ _ _ c.args.first c.loop.counter _ _ c.loop.walk c.loop.invariant (omega (arith, c.len-end.ensures)) _ _ _ _ c.in_ok-next.ensures (ap Some c.in-Continue.is)

pub returns-clause-value : goal.returns-clause-value
returns-clause-value g c = walked_out _ _ _ _ _ c.args.first c.loop.counter _ _ c.loop.walk c.loop.invariant (omega (arith, c.len-end.ensures))

use Rattle.scope.proofs.VisitFacts.{visit_blind, visit_full, visit_on}
use Rattle.scope.proofs.uses.visit_next.Goals as goal

pub returns-in_err-seen : goal.returns-in_err-seen
returns-in_err-seen g c = visit_blind _ _ _ _ _ c.args.walk c.in_err-seen.ensures.value _ c.from_residual.ensures

pub returns-in_err-noted : goal.returns-in_err-noted
returns-in_err-noted g c =
    visit_full _ _ _ _ _ c.args.walk c.in_ok-seen.seen.node.kind c.in_ok-seen.seen.node.end _ _ c.in_ok-seen.ensures.value _ c.in_err-noted.ensures.value _ c.from_residual-in_err-noted.ensures

pub returns : goal.returns
returns g c =
    visit_on _ _ _ _ _ c.args.walk c.in_ok-seen.seen.node.kind c.in_ok-seen.seen.node.end _ _ c.in_ok-seen.ensures.value _ _ c.in_ok-noted.ensures.few c.in_ok-noted.ensures.value _ _ c.advance.ensures

-- Where a function's name stands, it is the first of those that are left; where none stands, or none are left to come, none is.
use Rattle.std.proofs.Common.{arith, refl}
use Rattle.wire.specs.Walk.{functions_left}
use Rattle.wire.proofs.WalkFacts.{left_none, left_more, left_cut, one_less}
use Rattle.wire.proofs.functions.FunctionsIterator.next.Goals as goal

pub returns-in_err-self-clause-steps : goal.returns-in_err-self-clause-steps
returns-in_err-self-clause-steps g c =
    let none = left_none (g.S.Source.bytes c.args.self.now.src.now) _ c.args.self.now.count (omega (arith, c.in_err-self.ensures)) in
    rw c.from_residual.ensures ((none, none), refl)

pub returns-in_err-params-clause-steps : goal.returns-in_err-params-clause-steps
returns-in_err-params-clause-steps g c =
    let none = left_cut (g.S.Source.bytes c.args.self.now.src.now) _ c.in_ok-at.at c.in_ok-at.ensures c.in_err-params.ensures.value in
    rw c.from_residual-in_err-params.ensures ((none c.args.self.now.count, none c.in_ok-self.field-0), refl)

pub returns : goal.returns
returns g c =
    let first =
    left_more (g.S.Source.bytes c.args.self.now.src.now) _ c.args.self.now.count c.in_ok-self.field-0 c.in_ok-at.at c.in_ok-params.params
    (omega (arith, c.in_ok-self.ensures)) c.in_ok-at.ensures c.in_ok-params.ensures.value in
    record { steps = (first, refl); goes = one_less (functions_left g.S.Source.bytes) tt first }

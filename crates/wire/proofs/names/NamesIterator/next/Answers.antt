-- Where a name stands, it is the first of those that are left; where none stands, or none are left to come, none is.
use Rattle.std.proofs.Common.{arith, refl}
use Rattle.wire.specs.Walk.{places_left}
use Rattle.wire.proofs.WalkFacts.{places_none, places_cut, places_more, one_less}
use Rattle.wire.proofs.names.NamesIterator.next.Goals as goal

pub returns-in_err-self-clause-steps : goal.returns-in_err-self-clause-steps
returns-in_err-self-clause-steps g c =
    let none = places_none (g.S.Source.bytes c.args.self.now.src.now) c.args.self.now.at c.args.self.now.count (omega (arith, c.in_err-self.ensures)) in
    rw c.from_residual.ensures ((none, none), refl)

pub returns-in_err-self-2-clause-steps : goal.returns-in_err-self-2-clause-steps
returns-in_err-self-2-clause-steps g c =
    let none = places_cut (g.S.Source.bytes c.args.self.now.src.now) c.args.self.now.at c.in_err-self-2.ensures.value in
    rw c.from_residual-in_err-self-2.ensures ((none c.args.self.now.count, none c.in_ok-self.field-0), refl)

pub returns : goal.returns
returns g c =
    let first =
    places_more (g.S.Source.bytes c.args.self.now.src.now) c.args.self.now.at c.args.self.now.count c.in_ok-self.field-0 c.in_ok-self-2.field-0
    (omega (arith, c.in_ok-self.ensures)) c.in_ok-self-2.ensures.value in
    record { steps = (first, refl); goes = one_less (places_left g.S.Source.bytes) tt first }

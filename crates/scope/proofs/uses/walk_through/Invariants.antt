-- What is to come from here was to come from the start.
use Rattle.expr.specs.Token.{spelled_in}
use Rattle.scope.proofs.VisitFacts.{Walked}
use Rattle.scope.proofs.uses.walk_through.Given as goal

abbrev pub invariant-loop : goal.invariant-loop
invariant-loop g l =
    let bs = g.S.Source.bytes l.renaming.program.now in
    Walked bs (spelled_in bs l.renaming.from) l.renaming.to.now l.initial.frames l.initial.list l.initial.walk l.counter l.frames l.list l.walk

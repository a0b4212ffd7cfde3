use Rattle.std.proofs.Common.{◌≡◌}
use Rattle.language.specs.Names.{distinct}
use Rattle.wire.specs.Walk.{names_left}
use Rattle.wire.proofs.names.Names.differ.Given as goal

abbrev pub invariant-loop-name : goal.invariant-loop-name
invariant-loop-name g l = distinct (names_left g.S.Source.bytes l.self) ≡ distinct (names_left g.S.Source.bytes l.later)

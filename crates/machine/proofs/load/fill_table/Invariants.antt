-- The entries written so far, and the functions to come.
use Rattle.std.proofs.Common.{◌≡◌}
use Rattle.wire.specs.Walk.{functions_left}
use Rattle.machine.proofs.EntryFacts.{Filling}
use Rattle.machine.proofs.load.fill_table.Given as goal

abbrev pub invariant-loop-done : goal.invariant-loop-done
invariant-loop-done g l =
    (goal.iterator-loop-done g).can_next l.done-iterator × (goal.iterator-loop-done g).is_finite l.done-iterator × (l.done-iterator.count ≡ l.filled)
    × Filling l.count (g.S.Source.bytes l.src) l.table l.filled (functions_left g.S.Source.bytes l.done-iterator.iter)

-- What is still to come from here is what was to come from the start.
use Rattle.std.proofs.Common.{◌≡◌, ◌-◌}
use Rattle.std.specs.List.{between}
use Rattle.memory.specs.Build.{writing}
use Rattle.memory.proofs.BuildFacts.{Going}
use Rattle.memory.proofs.build.Writer.append.Given as goal

abbrev pub invariant-loop-i : goal.invariant-loop-i
invariant-loop-i g l =
    (l.self.area.ghost_name ≡ l.initial.self.area.ghost_name)
    × Going (writing l.initial.self) (between l.initial.i l.i-end (g.S.Source.bytes l.src)) (l.i - l.initial.i) (writing l.self)

use Rattle.std.proofs.Common.{◌≡◌, ◌-◌}
use Rattle.language.specs.Reading.{times, fun_end}
use Rattle.expr.proofs.skip.skip_functions.Given as goal

abbrev pub invariant-loop : goal.invariant-loop
invariant-loop g l =
    times l.count (fun_end (g.S.Source.bytes l.src)) l.at ≡ times (l.count - l.counter) (fun_end (g.S.Source.bytes l.src)) l.end

use Rattle.std.proofs.Common.{◌≡◌, ◌-◌, ◌≤◌, length}
use Rattle.language.specs.Reading.{times, name_end}
use Rattle.expr.proofs.skip.skip_names.Given as goal

abbrev pub invariant-loop : goal.invariant-loop
invariant-loop g l =
    (times l.count (name_end (g.S.Source.bytes l.src)) l.at ≡ times (l.count - l.counter) (name_end (g.S.Source.bytes l.src)) l.end)
    × (l.at ≤ l.end) × (l.at ≤ length (g.S.Source.bytes l.src) → l.end ≤ length (g.S.Source.bytes l.src))

-- What is written so far, and what stays behind it.
use Rattle.std.proofs.Common.{◌≡◌, ◌++◌, take, drop}
use Rattle.expr.specs.Token.{spelled_in}
use Rattle.machine.proofs.rows.copy_row.Given as goal

abbrev pub invariant-loop-k : goal.invariant-loop-k
invariant-loop-k g l = l.byte-items ≡ take l.k (spelled_in (g.S.Source.bytes l.src) l.span) ++ drop l.k l.initial.byte-items

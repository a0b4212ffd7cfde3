-- What was written, and what is to come from here.
use Rattle.std.proofs.Common.{◌≡◌, ◌+◌, length}
use Rattle.expr.specs.Token.{spelled_in}
use Rattle.language.specs.Bytes.{with_length}
use Rattle.scope.proofs.SpliceFacts.{SplicedTo}
use Rattle.scope.proofs.replace.write_renamed.Given as goal

abbrev pub invariant-loop-at : goal.invariant-loop-at
invariant-loop-at g l =
    let bs = g.S.Source.bytes l.renaming.program.now in
    (l.writer.area.ghost_name ≡ l.initial.writer.area.ghost_name)
    × SplicedTo bs (with_length l.renaming.to.now) (8 + length (spelled_in bs l.renaming.from)) l.uses l.initial.writer l.at-index l.writer l.from

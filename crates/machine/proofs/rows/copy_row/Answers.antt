-- One byte after the other.
use Rattle.std.proofs.Common.{◌++◌, take, drop, length, sym, ap, ap₂, ◌∙◌, arith}
use Rattle.std.proofs.lemmas.List.{append-nil, drop_all, length-take-le}
use Rattle.std.proofs.lemmas.List.Edits.{length-between, get_or-between}
use Rattle.expr.specs.Token.{spelled_in}
use Rattle.language.proofs.ListFacts.{written_more, written_all}
use Rattle.machine.proofs.rows.copy_row.Goals as goal

pub slice_bounds-byte-items-end-2 : goal.slice_bounds-byte-items-end-2
slice_bounds-byte-items-end-2 g c =
    let span = c.within-span.result in
    let long = length-between (g.S.Source.bytes c.args.src.now) span.from span.to (omega (arith, c.len.ensures)) in
    sym (length-take-le c.len-2.result c.args.row.now (omega (arith, long, ap length (c.within-span.ensures.same _ (sym c.len.ensures)))))

pub loop-k-preserved : goal.loop-k-preserved
loop-k-preserved g c =
    let bs = g.S.Source.bytes c.args.src.now in
    let span = c.within-span.result in
    let long = length-between bs span.from span.to (omega (arith, c.len.ensures)) in
    let same = ap length (c.within-span.ensures.same bs (sym c.len.ensures)) in
    let room = length-take-le c.len-2.result c.args.row.now (omega (arith, long, same)) in
    written_more (spelled_in bs span) c.loop-k.byte-items _ c.loop-k.k _ (omega arith) (omega arith) c.loop-k.invariant
    (c.at.ensures ∙ sym (get_or-between bs span.from span.to c.loop-k.k 0 (omega arith)))

pub returns : goal.returns
returns g c =
    let bs = g.S.Source.bytes c.args.src.now in
    let span = c.within-span.result in
    let n = c.len-2.result in
    let long = length-between bs span.from span.to (omega (arith, c.len.ensures)) in
    let spelled = c.within-span.ensures.same bs (sym c.len.ensures) in
    let same = ap length spelled in
    let room = length-take-le n c.args.row.now (omega (arith, long, same)) in
    ap (λ l. l ++ drop n c.args.row.now)
    (written_all (spelled_in bs span) c.loop-k.byte-items _ c.loop-k.k _ c.loop-k.invariant long (omega arith)
    ∙ ap (λ l. spelled_in bs span ++ l) (drop_all _ (take n c.args.row.now) (omega arith))
    ∙ append-nil (spelled_in bs span))
    ∙ ap₂ (λ l k. l ++ drop k c.args.row.now) spelled (omega (arith, long, same))

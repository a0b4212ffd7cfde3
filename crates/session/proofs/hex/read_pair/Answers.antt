-- Two digits are a byte; the first that is none is where the pair is refused.
use Rattle.std.proofs.lemmas.Result.{err_from_is_err_and}
use Rattle.session.proofs.Reading.{reads_two, refuse_first, refuse_second}
use Rattle.session.proofs.hex.read_pair.Goals as goal

pub returns-in_err-high : goal.returns-in_err-high
returns-in_err-high c =
    let p = err_from_is_err_and c.from_residual.result c.from_residual.ensures.1 in
    rw (p.1, p.2) (refuse_first c.args.pair.now c.requires.some _ c.in_err-high.ensures)

pub returns-in_err-low : goal.returns-in_err-low
returns-in_err-low c =
    let p = err_from_is_err_and c.from_residual-in_err-low.result c.from_residual-in_err-low.ensures.1 in
    rw (p.1, p.2) (refuse_second c.args.pair.now _ c.in_ok-high.ensures _ c.in_err-low.ensures)

pub returns : goal.returns
returns c = reads_two c.args.pair.now _ _ c.requires.two c.in_ok-high.ensures c.in_ok-low.ensures

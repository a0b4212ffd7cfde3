-- A pair of digits is one byte more; anything else in its place, and a byte alone, is where the text is refused.
use Rattle.std.proofs.Common.{◌≡◌, ◌*◌, ◌/◌, ◌<◌, length, drop, [], Ok, ap, ◌∙◌, sym, append-nil, rules, arith}
use Rattle.std.specs.Vec.{vec_len}
use Rattle.std.proofs.lemmas.Result.{err_from_is_err_and}
use borrow.Author.Tests.{eqb-true}
use Rattle.std.proofs.lemmas.List.{length-take, length-drop}
use Rattle.session.proofs.Reading.{beyond_err, beyond_ok, so_far_more, refuse_pair, pair_at, pair_then, bytes_of-pair, read_whole}
use Rattle.session.proofs.hex.read_hex.Goals.{then-not-is_empty+in_ok-map_err, else-not-is_empty}
use Rattle.session.proofs.hex.read_hex.Goals as goal

pub returns-in_err-byte-clause-read : goal.returns-in_err-byte-clause-read
returns-in_err-byte-clause-read c =
    let p = err_from_is_err_and c.from_residual-in_err-byte.result c.from_residual-in_err-byte.ensures.1 in
    let m = beyond_err (2 * vec_len c.loop-pair.bytes) c.read_pair.result c.map_err.result _ _ c.in_err-byte.was c.map_err.ensures.cases (λ f g k. search rules) in
    let k = c.loop-pair.pair-index in
    let text = c.args.text.now in
    let pair = pair_at text c.as_chunks.result.0.now k c.as_chunks.ensures.front (omega (arith, c.as_chunks.ensures.front_len)) in
    rw (p.1, p.2, m.2) (refuse_pair c.loop-pair.invariant.0 _ _ (pair_then k text) _ (omega arith) (length-take 2 (drop (2 * k) text)) m.0 (rw (pair, m.1) at c.read_pair.ensures))

pub loop-pair-preserved : goal.loop-pair-preserved
loop-pair-preserved c =
    let read : c.read_pair.result ≡ Ok c.in_ok-byte.byte = beyond_ok c.read_pair.result c.map_err.result _ _ c.in_ok-byte.was c.map_err.ensures.cases in
    let k = c.loop-pair.pair-index in
    let text = c.args.text.now in
    let pair = pair_at text c.as_chunks.result.0.now k c.as_chunks.ensures.front (omega (arith, c.as_chunks.ensures.front_len)) in
    (so_far_more c.loop-pair.invariant.0 _ _ (pair_then k text) _ _ c.in_ok-push.ensures.items (omega (arith, length-take 2 (drop (2 * k) text))) (rw (pair, read) at c.read_pair.ensures), search rules)

pub returns-in_err-map_err-clause-read : goal.returns-in_err-map_err-clause-read
returns-in_err-map_err-clause-read c =
    let p = err_from_is_err_and c.from_residual-in_err-map_err.result c.from_residual-in_err-map_err.ensures.1 in
    let m = beyond_err (2 * vec_len c.loop-pair.bytes) c.read_pair-then-not-is_empty.result c.map_err-then-not-is_empty.result _ _ c.in_err-map_err.was c.map_err-then-not-is_empty.ensures.cases
    (λ f g k. search rules) in
    let text = c.args.text.now in
    let last : length text / 2 * 2 ≡ 2 * c.loop-pair.pair-index = omega (arith, c.as_chunks.ensures.front_len) in
    let alone : c.as_chunks.result.1.now ≡ drop (2 * c.loop-pair.pair-index) text = c.as_chunks.ensures.back ∙ ap (λ n. drop n text) last in
    let short : length (drop (2 * c.loop-pair.pair-index) text) < 2 = omega (arith, length-drop (2 * c.loop-pair.pair-index) text) in
    rw (p.1, p.2, m.2) (refuse_pair c.loop-pair.invariant.0 _ [] (sym (append-nil _)) _ (omega arith) (omega (arith, short)) m.0 (rw (alone, m.1) at c.read_pair-then-not-is_empty.ensures))

pub returns-clause-read : goal.returns-clause-read
returns-clause-read c =
    let none : length c.as_chunks.result.1.now ≡ 0 = elim c.if-not-is_empty.branch [
      | then-not-is_empty+in_ok-map_err w ↦
          let read = beyond_ok w.read_pair-then-not-is_empty.result w.map_err-then-not-is_empty.result _ _ w.in_ok-map_err.was w.map_err-then-not-is_empty.ensures.cases in
          let two = bytes_of-pair c.as_chunks.result.1.now [] _ (omega (arith, c.as_chunks.ensures.back_len)) (rw read at w.read_pair-then-not-is_empty.ensures) in
          absurd (omega (arith, two.1, c.as_chunks.ensures.back_len))
      | else-not-is_empty w ↦ eqb-true _ _ (sym w.if-not-is_empty.ensures)
    ] in
    read_whole c.args.text.now _ _ c.loop-pair.invariant.0 (omega (arith, none, c.as_chunks.ensures.front_len, c.as_chunks.ensures.back_len, length-drop (2 * c.loop-pair.pair-index) c.args.text.now))

-- The bytes of the pairs so far are read, and the rest is to come.
use Rattle.std.proofs.Common.{◌≡◌, ◌*◌, drop, vec_items}
use Rattle.std.specs.Vec.{vec_len}
use Rattle.session.proofs.Reading.{SoFar}
use Rattle.session.proofs.hex.read_hex.Given as goal

abbrev pub invariant-loop-pair : goal.invariant-loop-pair
invariant-loop-pair l = SoFar l.text (vec_items l.bytes) (drop (2 * l.pair-index) l.text) × (vec_len l.bytes ≡ l.pair-index)

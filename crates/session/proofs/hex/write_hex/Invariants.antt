-- What is written so far: the digits of the bytes so far, behind what was there.
use Rattle.std.proofs.Common.{◌≡◌, ◌++◌, take, vec_items}
use Rattle.session.specs.Hex.{hex_of}
use Rattle.session.proofs.hex.write_hex.Given as goal

abbrev pub invariant-loop-byte : goal.invariant-loop-byte
invariant-loop-byte l = vec_items l.out ≡ vec_items l.initial.out ++ hex_of (take l.byte-index l.bytes)

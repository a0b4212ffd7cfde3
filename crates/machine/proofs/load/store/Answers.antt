use Rattle.std.proofs.Common.{◌-◌, length, set, ap, arith}
use Rattle.language.specs.Packed.{packed}
use Rattle.language.proofs.PackedLaws.{length_packed_words}
use Rattle.machine.specs.History.{loaded}
use Rattle.memory.proofs.AreaFacts.{put_in-part}
use Rattle.machine.proofs.LoadFacts.{bytes_short}
use Rattle.machine.proofs.load.store.Goals as goal

pub returns : goal.returns
unfolding loaded
returns c =
    ap (λ m. set (set m 1 0) 2 (length c.args.program.bytes.now - 8))
    (put_in-part 16 8192 _ c.args.memory.now (packed c.args.program.bytes.now) c.pack.new.words (omega arith)
    (omega (arith, bytes_short c.args.program.bytes.now c.args.program.whole)) (length_packed_words c.args.program.bytes.now) c.pack.ensures)

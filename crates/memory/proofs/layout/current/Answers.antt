use Rattle.std.proofs.Common.{◌≡◌, ◌+◌, length, get_or, take, drop, min, sym, ap, ◌∙◌, arith}
use Rattle.std.proofs.lemmas.List.{length-take, take_min}
use Rattle.language.specs.Basics.{flat}
use Rattle.language.specs.Bytes.{eight}
use Rattle.language.proofs.PackedFacts.{length-packed}
use Rattle.memory.specs.Layout.{held, slot}
use Rattle.memory.proofs.layout.current.Goals as goal

pub returns : goal.returns
unfolding held
returns c =
    let bs = flat eight (slot 0 c.args.memory.now) in
    let len = get_or c.args.memory.now 2 0 + 8 in
    let same : min c.min.result (length bs) ≡ min len (length bs) =
    omega (arith, c.saturating_add.ensures, c.min.ensures, length-packed (slot 0 c.args.memory.now), length-take 8192 (drop 16 c.args.memory.now)) in
    sym (take_min c.min.result bs) ∙ ap (λ n. take n bs) same ∙ take_min len bs

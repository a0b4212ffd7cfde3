use Rattle.std.proofs.Common.{◌≡◌, ◌++◌, length, drop, replicate, ap, ◌∙◌}
use Rattle.std.specs.Int.{from_be_bytes}
use mir.Syntax.{w64}
use Rattle.machine.proofs.LoadFacts.{word_padded}
use Rattle.machine.proofs.load.last_word.Goals as goal

pub returns : goal.returns
returns c =
    let padded : c.from_be_bytes.result ≡ from_be_bytes w64 (c.copy_from_slice.new.self ++ drop (length c.args.bytes.now) (replicate 8 0)) = c.from_be_bytes.ensures in
    padded ∙ ap (λ bs. from_be_bytes w64 (bs ++ drop (length c.args.bytes.now) (replicate 8 0))) c.copy_from_slice.ensures.after ∙ word_padded c.args.bytes.now c.requires

use Rattle.std.proofs.Common.{get_or, sym, ap, ◌∙◌}
use Rattle.language.proofs.PackedFacts.{eight_is}
use Rattle.expr.proofs.packed.byte_of.Goals as goal

pub returns : goal.returns
returns c = ap (λ l. get_or l c.args.number 0) (c.to_be_bytes.ensures ∙ sym (eight_is c.args.word))

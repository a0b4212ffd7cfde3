-- The byte of its word.
use Rattle.std.proofs.Common.{◌%◌, get_or, sym, ap, ◌∙◌}
use Rattle.language.specs.Bytes.{eight}
use Rattle.language.proofs.PackedFacts.{front_past, front_at}
use Rattle.expr.proofs.packed.PackedSource.at.Goals as goal

pub returns-then-i-self : goal.returns-then-i-self
returns-then-i-self c = sym (front_past _ _ _ c.if-i-self.true)

pub returns : goal.returns
returns c =
    c.byte_of.ensures ∙ ap (λ w. get_or (eight w) (c.args.i % 8) 0) c.word_at.ensures
    ∙ sym (front_at c.args.self.now.words.now c.args.self.now.len c.args.i c.if-i-self.false)

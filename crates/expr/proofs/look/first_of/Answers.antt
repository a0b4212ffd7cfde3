-- The pieces are gone through from the first on.
use Rattle.std.proofs.Common.{rules, length, ◌/◌, ◌∙◌}
use borrow.Author.Tests.{tests}
use Rattle.std.proofs.lemmas.Iterator.Search.{position_from_yields_List}
use Rattle.std.proofs.lemmas.Iterator.Adapters.{position_from-zero}
use Rattle.language.specs.Basics.{same}
use Rattle.expr.specs.Look.{cut}
use Rattle.expr.proofs.LookFacts.{whole_pieces, near_position}
use Rattle.expr.proofs.look.first_of.Goals as goal

pub returns : goal.returns
returns c =
    let width = length c.args.name.now in
    let names = cut (length c.args.names.now / width) width c.args.names.now in
    position_from_yields_List (λ y. same y c.args.name.now) _ _ c.position.result c.position.ensures.ran
    (whole_pieces width c.requires c.chunks_exact.result c.args.names.now c.chunks_exact.ensures.size c.chunks_exact.ensures.rest)
    (λ x b q k. search (rules, tests))
    ∙ position_from-zero (λ y. same y c.args.name.now) names
    ∙ near_position c.args.name.now names 0

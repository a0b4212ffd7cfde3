-- One entry after the other.
use Rattle.std.proofs.Common.{rules, ◌∙◌}
use borrow.Author.Tests.{tests}
use Rattle.std.proofs.lemmas.Iterator.{YieldsList-from_slice}
use Rattle.std.proofs.lemmas.Iterator.Search.{all_from_yields_List}
use Rattle.machine.proofs.EntryFacts.{apart, like_listed}
use Rattle.machine.proofs.load.none_like.Goals as goal

pub returns : goal.returns
returns g c =
    let bs = g.S.Source.bytes c.args.src.now in
    all_from_yields_List (apart bs c.args.sum c.args.at) _ _ _ c.all.ensures.ran (YieldsList-from_slice c.args.table.now c.iter.ensures.rest)
    (λ e b q k. search (rules, tests))
    ∙ like_listed bs c.args.sum c.args.at c.args.table.now c.told-table

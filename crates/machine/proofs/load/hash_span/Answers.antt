-- One byte after the other.
use Rattle.std.proofs.Common.{rules, ◌-◌, refl, sym, ap, ◌∙◌, arith}
use borrow.Author.Tests.{tests}
use Rattle.std.proofs.lemmas.Iterator.{YieldsList-from_range}
use Rattle.std.proofs.lemmas.Iterator.Consumers.{fold_from_yields_List}
use Rattle.language.specs.Table.{hash}
use Rattle.machine.proofs.LoadFacts.{hashed_at, hash_folded}
use Rattle.machine.proofs.load.hash_span.Goals as goal

pub returns : goal.returns
returns g c =
    let bs = g.S.Source.bytes c.args.src.now in
    let span = c.within-span.result in
    fold_from_yields_List _ (hashed_at bs) 0 c.fold.result c.fold.ensures.ran
    (YieldsList-from_range span.from _ (span.to - span.from) refl refl)
    (λ h at b q k. search (rules, tests))
    ∙ hash_folded bs span.from (span.to - span.from) 0 (omega (arith, c.len.ensures))
    ∙ ap hash (c.within-span.ensures.same bs (sym c.len.ensures))

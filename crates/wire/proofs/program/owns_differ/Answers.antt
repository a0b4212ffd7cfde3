use Rattle.std.proofs.Common.{rules, ap, ◌∙◌}
use Rattle.std.specs.List.{list_all}
use Rattle.std.proofs.lemmas.Iterator.Search.{all_from_yields_List}
use borrow.Author.Tests.{tests}
use Rattle.language.specs.Names.{distinct}
use Rattle.wire.specs.Walk.{functions_left, names_counted}
use Rattle.wire.proofs.WalkFacts.{yields_left, owns_listed}
use Rattle.wire.proofs.program.owns_differ.Goals as goal

pub returns : goal.returns
returns g c =
    let bs = g.S.Source.bytes c.args.src.now in
    let all =
    all_from_yields_List (λ f. distinct (names_counted bs f.params)) _ _ c.all.result c.all.ensures.ran
    (yields_left (functions_left g.S.Source.bytes) (λ s. s.src) c.new.result)
    (λ k b q h. search (rules, tests)) in
    all ∙ ap (list_all (λ f. distinct (names_counted bs f.params))) c.new.ensures ∙ owns_listed bs c.args.count 8

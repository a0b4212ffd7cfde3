-- The functions that are left, at first, are all of them.
use Rattle.std.proofs.Common.{◌≡◌, rules, sym, ap, ◌∙◌}
use Rattle.std.specs.Option.{option_map}
use Rattle.std.specs.List.{find}
use Rattle.std.proofs.lemmas.Iterator.Search.{find_from_yields_List}
use Rattle.std.proofs.lemmas.Iterator.Adapters.{option_map_id}
use borrow.Author.Tests.{tests}
use Rattle.language.specs.Basics.{same}
use Rattle.language.specs.Reading.{found}
use Rattle.language.specs.Contents.{name_there, find_from}
use Rattle.wire.specs.Walk.{functions_left}
use Rattle.wire.proofs.WalkFacts.{yields_left, find_listed}
use Rattle.wire.proofs.program.find_function.Goals as goal

pub returns : goal.returns
returns g c =
    let bs = g.S.Source.bytes c.args.src.now in
    let x = c.args.name.now in
    let first =
    find_from_yields_List (λ f. same (name_there bs f.at) x) _ _ c.find.result c.find.ensures.ran
    (yields_left (functions_left g.S.Source.bytes) (λ s. s.src) c.new.result)
    (λ k b q h. search (rules, tests)) in
    let place : c.map.result ≡ option_map (λ f. f.at) c.find.result = search rules in
    place ∙ ap (option_map (λ f. f.at)) (sym (option_map_id c.find.result) ∙ first ∙ ap (find (λ f. same (name_there bs f.at) x)) c.new.ensures)
    ∙ sym (find_listed bs x c.in_ok-number.field-0 8)
    ∙ ap (λ o. found o (λ n. find_from n bs x 8)) c.in_ok-number.ensures.value

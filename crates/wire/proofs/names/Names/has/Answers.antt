use Rattle.std.proofs.Common.{rules, ap, sym, ◌∙◌}
use Rattle.std.proofs.lemmas.Iterator.Search.{any_from_yields_List}
use borrow.Author.Tests.{tests}
use Rattle.language.specs.Basics.{same}
use Rattle.language.specs.Names.{has}
use Rattle.language.specs.Contents.{name_there}
use Rattle.wire.specs.Walk.{name_places, places_left}
use Rattle.wire.proofs.WalkFacts.{yields_left, names_placed, has_listed}
use Rattle.wire.proofs.names.Names.has.Goals as goal

pub returns : goal.returns
returns g c =
    let bs = g.S.Source.bytes c.args.self.now.src.now in
    let x = name_there bs c.args.at in
    any_from_yields_List (λ k. same x (name_there bs k)) _ _ c.any.result c.any.ensures.ran
    (yields_left (places_left g.S.Source.bytes) (λ s. s.src) c.args.self.now)
    (λ k b q h. search (rules, tests))
    ∙ has_listed (name_there bs) x (name_places c.args.self.now.count bs c.args.self.now.at)
    ∙ sym (ap (λ xs. has xs x) (names_placed bs c.args.self.now.count c.args.self.now.at))

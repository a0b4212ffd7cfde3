-- The own names are gone through with their numbers.
use Rattle.std.proofs.Common.{rules, ap, sym, ◌∙◌, inl, arith}
use Rattle.std.proofs.lemmas.Iterator.Consumers.{YieldsList-from_enumerate}
use Rattle.std.proofs.lemmas.Iterator.Search.{any_from_yields_List}
use borrow.Author.Tests.{tests}
use Rattle.language.specs.Basics.{each}
use Rattle.language.specs.Names.{has}
use Rattle.language.specs.Contents.{name_there, names_from}
use Rattle.model.specs.Capture.{others}
use Rattle.wire.specs.Walk.{name_places, places_left}
use Rattle.wire.proofs.WalkFacts.{yields_left, names_placed, places_short}
use Rattle.scope.proofs.OwnFacts.{Seen, all-unseen, none_other, seen_others}
use Rattle.scope.proofs.binder.other_own_is.Goals as goal

pub returns-in_default : goal.returns-in_default
returns-in_default g c = none_other _ c.args.index c.args.name.now c.in_default.ensures.value

pub any-requires-clause-can : goal.any-requires-clause-can
any-requires-clause-can g c =
    (tt, tt, inl (omega (arith, places_short (g.S.Source.bytes c.enumerate.result.iter.src.now) c.enumerate.result.iter.count c.enumerate.result.iter.at)))

pub returns : goal.returns
returns g c =
    let bs = g.S.Source.bytes c.args.src.now in
    let named = c.in-Some.names in
    any_from_yields_List (Seen (name_there bs) c.args.index c.args.name.now) _ _ c.any.result c.any.ensures.ran
    (YieldsList-from_enumerate (yields_left (places_left g.S.Source.bytes) (λ s. s.src) c.enumerate.result.iter) (cc))
    (λ k b q h. search (rules, tests))
    ∙ seen_others (name_there bs) c.args.index c.args.name.now 0 _
    ∙ ap (λ xs. has xs c.args.name.now) (all-unseen c.args.index _)
    ∙ ap (λ xs. has (others xs c.args.index) c.args.name.now)
    (ap (λ s. each (name_there bs) (name_places s.count (g.S.Source.bytes s.src.now) s.at)) c.enumerate.ensures.source
    ∙ ap (λ r. each (name_there bs) (name_places named.count (g.S.Source.bytes r) named.at)) c.in-Some.ensures.row
    ∙ sym (names_placed bs named.count named.at)
    ∙ ap (λ r. names_from named.count (g.S.Source.bytes r) named.at) (sym c.in-Some.ensures.row)
    ∙ c.in-Some.ensures.value)

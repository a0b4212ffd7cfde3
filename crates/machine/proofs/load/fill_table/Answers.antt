-- One function after the other.
use Rattle.std.proofs.Common.{rules, ◌≡◌, ◌+◌, length, inl, sym, ap, ap₂, ◌∙◌, subst, arith}
use Rattle.std.specs.List.{between}
use Rattle.language.specs.Table.{hash}
use Rattle.wire.specs.Walk.{functions_left, functions_from}
use Rattle.machine.proofs.EntryFacts.{Filling, FirstNamed, first_named, filling_none, filling_more, filling_all, functions_short}
use Rattle.machine.proofs.load.fill_table.Goals as goal

pub loop-done-init : goal.loop-done-init
loop-done-init g c =
    let bs = g.S.Source.bytes c.args.src.now in
    let there = c.into_iter-done-iterator.ensures.into_iter_gives in
    let first : functions_left g.S.Source.bytes c.into_iter-done-iterator.result.iter ≡ functions_from c.args.count bs 8 =
    ap (λ s. functions_left g.S.Source.bytes s.iter) there ∙ ap (functions_left g.S.Source.bytes) c.enumerate-done-items.ensures.source ∙ c.new.ensures in
    let none : c.into_iter-done-iterator.result.count ≡ 0 = ap (λ s. s.count) there ∙ c.enumerate-done-items.ensures.count in
    ((tt, tt, inl (omega (arith, none, ap length first, functions_short bs c.args.count 8, c.ranges.count.fits))), tt, none, filling_none c.args.count bs c.args.table.now _ first)

pub name_of-requires : goal.name_of-requires
name_of-requires g c = subst FirstNamed c.in-Some.ensures.steps.0.0 (first_named _ _ _)

pub loop-done-preserved : goal.loop-done-preserved
loop-done-preserved g c =
    let left = c.in-Some.ensures.steps.0.0 in
    let here : c.in-Some.done ≡ c.loop-done.filled = search rules in
    let on : c.next.new.self.count ≡ c.in-Some.done + 1 = search rules in
    let now = subst (λ k. Filling c.args.count (g.S.Source.bytes c.args.src.now) c.loop-done.table k (functions_left g.S.Source.bytes c.loop-done.done-iterator.iter)) (sym here) c.loop-done.invariant.3 in
    let long : length c.loop-done.table ≡ length c.args.table.now = c.loop-done.auto.table in
    let more =
    filling_more _ _ _ _ _ _ c.in-Some.f c.hash_span.result now left (omega (arith, c.requires, long))
    (c.hash_span.ensures ∙ ap₂ (λ i j. hash (between i j (g.S.Source.bytes c.args.src.now))) c.name_of.ensures.from c.name_of.ensures.to) in
    ((tt, tt, inl (omega (arith, on, more.room, c.ranges.count.fits))), tt, on, more)

pub returns : goal.returns
returns g c =
    record {
      within = omega (arith, c.loop-done.invariant.3.room, c.requires);
      value = filling_all _ _ _ _ _ c.loop-done.invariant.3 (search rules);
    }

-- One byte after the other.
use Rattle.std.proofs.Common.{◌≡◌, ltb, ◌+◌, ◌-◌, get_or, refl, sym, ap, ◌∙◌, subst, arith}
use Rattle.std.specs.List.{between}
use Rattle.language.proofs.ListFacts.{every_from}
use Rattle.std.proofs.lemmas.List.Edits.{length-between, get_or-between}
use Rattle.memory.specs.Build.{writing, Pushed}
use Rattle.memory.proofs.BuildFacts.{Going, going_from, going_more, going_all}
use Rattle.memory.proofs.build.Writer.append.Goals as goal

pub loop-i-init : goal.loop-i-init
loop-i-init g c =
    let inside = c.within-inside.result in
    let start = writing c.args.self.now in
    let bs = between inside.from inside.to (g.S.Source.bytes c.args.src.now) in
    (refl, subst (λ k. Going start bs k start) (let z : 0 ≡ inside.from - inside.from = omega arith in z) (going_from start bs (omega arith)))

pub push-requires : goal.push-requires
push-requires g c = omega (arith, c.loop-i.invariant.1.so_far.count, c.saturating_add.ensures, c.len-2.ensures)

pub loop-i-preserved : goal.loop-i-preserved
loop-i-preserved g c =
    let bs = g.S.Source.bytes c.args.src.now in
    let inside = c.within-inside.result in
    let start = writing c.args.self.now in
    let end = writing c.push.new.self in
    let long = length-between bs inside.from inside.to (omega (arith, c.within-inside.ensures.inside, c.len.ensures)) in
    let here : inside.from + (c.loop-i.i - inside.from) ≡ c.loop-i.i = omega (arith, c.loop-i.auto.i) in (
      c.push.ensures.same_reference ∙ c.loop-i.invariant.0,
      subst (λ k. Going start (between inside.from inside.to bs) k end) (let z : c.loop-i.i - inside.from + 1 ≡ c.loop-i.i + 1 - inside.from = omega (arith, c.loop-i.auto.i) in z)
          (going_more start (writing c.loop-i.self) end (between inside.from inside.to bs) (c.loop-i.i - inside.from) c.at.result c.loop-i.invariant.1
          (omega (arith, long, c.loop-i.auto.i)) c.push.ensures.value
          (c.at.ensures ∙ sym (get_or-between bs inside.from inside.to (c.loop-i.i - inside.from) 0 (omega (arith, c.loop-i.auto.i)) ∙ ap (λ k. get_or bs k 0) here)) c.at.type_inv),
    )

pub returns-clause-value : goal.returns-clause-value
returns-clause-value g c =
    let bs = g.S.Source.bytes c.args.src.now in
    let inside = c.within-inside.result in
    let start = writing c.args.self.now in
    let long = length-between bs inside.from inside.to (omega (arith, c.within-inside.ensures.inside, c.len.ensures)) in
    let same = c.within-inside.ensures.same bs (sym c.len.ensures) in
    subst (λ vs. Pushed c.args.self.now vs c.loop-i.self) same
    (record {
      so = going_all start (writing c.loop-i.self) (between inside.from inside.to bs) (c.loop-i.i - inside.from) c.loop-i.invariant.1 (omega (arith, long));
      room = omega (arith, long, c.saturating_add.ensures, c.len-2.ensures);
      bytes = every_from (λ b. ltb b 256) 0 (between inside.from inside.to bs) (λ k l. c.loop-i.invariant.1.bytes k (omega (arith, long)));
    })

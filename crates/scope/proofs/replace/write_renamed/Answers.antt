-- One name after the other, and then the rest.
use Rattle.std.proofs.Common.{rules, ℕ, ◌+◌, length, min, refl, sym, ap, ◌∙◌, arith}
use Rattle.std.proofs.lemmas.List.Edits.{length-between}
use Rattle.language.specs.Bytes.{with_length}
use Rattle.memory.proofs.BuildFacts.{pushed_then, appends_full, appends_stop}
use Rattle.scope.proofs.SpliceFacts.{splice_none, splice_stop, splice_more, rest_stop, rest_more, replaced_none}
use Rattle.scope.proofs.replace.write_renamed.Goals as goal

pub loop-at-init : goal.loop-at-init
loop-at-init g c = (refl, splice_none _ _ _ _ _ (omega (arith, c.begin-writer.ensures.value.0)))

pub returns-in_err-append-clause-value : goal.returns-in_err-append-clause-value
returns-in_err-append-clause-value g c =
    replaced_none _ _ _ c.from_residual.ensures
    (splice_stop _ _ _ _ _ _ _ _ c.loop-at.invariant.1 (omega arith) _ refl c.begin-writer.ensures.value.0
    (appends_stop c.loop-at.writer _ (with_length c.args.renaming.now.to.now) c.in_err-append.ensures.value.1))

pub returns-in_err-append_name-clause-value : goal.returns-in_err-append_name-clause-value
returns-in_err-append_name-clause-value g c =
    replaced_none _ _ _ c.from_residual-in_err-append_name.ensures
    (splice_stop _ _ _ _ _ _ _ _ c.loop-at.invariant.1 (omega arith) _ refl c.begin-writer.ensures.value.0
    (appends_full _ _ _ (with_length c.args.renaming.now.to.now) c.in_ok-append.ensures.value c.in_err-append_name.ensures.value.1))

pub loop-at-preserved : goal.loop-at-preserved
loop-at-preserved g c =
    let bs = g.S.Source.bytes c.args.renaming.now.program.now in
    let most : ℕ = 18446744073709551615 in (
      c.in_ok-append_name.ensures.same_reference ∙ c.in_ok-append.ensures.same_reference ∙ c.loop-at.invariant.0,
      splice_more _ _ _ _ _ _ _ _ c.loop-at.invariant.1 (omega arith) _ refl _
          (pushed_then _ _ _ (with_length c.args.renaming.now.to.now) c.append_name.new.self c.in_ok-append.ensures.value c.in_ok-append_name.ensures.value)
          _ most c.len-width.result (omega (arith, c.len-len.ensures, c.len-len.type_inv))
          (omega (arith, ap length (c.within.ensures.same bs (sym c.len-len.ensures)), length-between bs c.within.result.from c.within.result.to (omega (arith, c.within.ensures.inside, c.len-len.ensures)), c.len-width.ensures))
          (c.saturating_add-from.ensures ∙ ap (λ k. min (k + c.len-width.result) most) c.saturating_add.ensures),
    )

pub returns-in_err-append-2-clause-value : goal.returns-in_err-append-2-clause-value
returns-in_err-append-2-clause-value g c =
    replaced_none _ _ _ c.from_residual-in_err-append-2.ensures
    (rest_stop _ _ _ _ _ _ _ _ c.loop-at.invariant.1 (omega arith) _ c.len-len.ensures c.begin-writer.ensures.value.0 c.in_err-append-2.ensures.value.1)

pub finish-requires : goal.finish-requires
finish-requires g c =
    (rest_more _ _ _ _ _ _ _ _ c.loop-at.invariant.1 (omega arith) _ c.len-len.ensures _ c.in_ok-append-2.ensures.value c.begin-writer.ensures.value.0 c.begin-writer.ensures.value.1 c.begin-writer.ensures.after).short

pub returns-clause-value : goal.returns-clause-value
returns-clause-value g c =
    let whole = rest_more _ _ _ _ _ _ _ _ c.loop-at.invariant.1 (omega arith) _ c.len-len.ensures _ c.in_ok-append-2.ensures.value c.begin-writer.ensures.value.0 c.begin-writer.ensures.value.1 c.begin-writer.ensures.after in
    let stands = c.finish.ensures.after ∙ whole.stands in
    (c.finish.ensures.value ∙ whole.count, search rules)

pub returns-clause-short : goal.returns-clause-short
returns-clause-short g c =
    let whole = rest_more _ _ _ _ _ _ _ _ c.loop-at.invariant.1 (omega arith) _ c.len-len.ensures _ c.in_ok-append-2.ensures.value c.begin-writer.ensures.value.0 c.begin-writer.ensures.value.1 c.begin-writer.ensures.after in
    omega (arith, c.finish.ensures.value, whole.short)

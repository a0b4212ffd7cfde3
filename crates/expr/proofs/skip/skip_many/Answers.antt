-- Each turn is one step of `ends`, and each way out what `ends` comes to.
use Rattle.std.proofs.Common.{◌-◌, refl, sym, ◌∙◌, arith}
use Rattle.language.proofs.ReadingFacts.{ends-done, ends_out, ends_more}
use Rattle.expr.proofs.SkipFacts.{ends_nowhere}
use Rattle.expr.proofs.TokenFacts.{arity-told}
use Rattle.expr.proofs.skip.skip_many.Goals as goal
use Rattle.expr.proofs.skip.skip_many.Goals.{then-left-parts-via-then-left-parts, then-left-parts-via-else-left-parts+then-left-parts-2}

pub loop-need-init : goal.loop-need-init
loop-need-init g c = record { turns = _; enough = omega arith; same = refl; onward = omega arith; inside = λ z n. omega arith }

pub returns-in_err-token-clause-value : goal.returns-in_err-token-clause-value
returns-in_err-token-clause-value g c =
    c.from_residual.ensures ∙ sym (c.loop-need.invariant.same ∙ ends_nowhere _ _ _ _ (omega arith) (sym c.in_err-token.ensures.value))

pub returns-then-left-parts-clause-value : goal.returns-then-left-parts-clause-value
returns-then-left-parts-clause-value g c =
    let parts = arity-told (g.S.Source.bytes c.args.src.now) c.in_ok-token.token.kind in
    sym (c.loop-need.invariant.same
    ∙ ends_out _ _ _ (c.loop-need.need - 1) _ (c.loop-need.invariant.turns - 1) (omega arith) (omega (arith, c.loop-need.invariant.enough, c.in_ok-token.ensures.within)) _ (sym c.in_ok-token.ensures.value)
    (elim c.then-left-parts.branch [ then-left-parts-via-then-left-parts w ↦ omega arith | then-left-parts-via-else-left-parts+then-left-parts-2 w ↦ omega arith ]))

pub loop-need-preserved : goal.loop-need-preserved
loop-need-preserved g c = record {
  turns = c.loop-need.invariant.turns - 1;
  enough = omega (arith, c.loop-need.invariant.enough, c.in_ok-token.ensures.within);
  same =
      c.loop-need.invariant.same
      ∙ ends_more _ _ _ (c.loop-need.need - 1) _ _ (omega arith) (omega (arith, c.loop-need.invariant.enough, c.in_ok-token.ensures.within)) _ _ (sym c.in_ok-token.ensures.value)
      (omega (arith, arity-told (g.S.Source.bytes c.args.src.now) c.in_ok-token.token.kind)) (omega arith);
  onward = omega (arith, c.loop-need.invariant.onward, c.in_ok-token.ensures.within);
  inside = λ z n. omega (arith, c.in_ok-token.ensures.within);
}

pub returns-clause-value : goal.returns-clause-value
returns-clause-value g c = sym (c.loop-need.invariant.same ∙ ends-done _ _ _ _ (omega arith))

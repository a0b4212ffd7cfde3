use Rattle.std.proofs.Common.{rules, sym, ◌∙◌, arith}
use Rattle.language.proofs.ReadingFacts.{times-done, times_none, times_more}
use Rattle.expr.proofs.skip.skip_names.Goals as goal

pub loop-preserved : goal.loop-preserved
loop-preserved g c = (
  c.loop.invariant.0 ∙ times_more _ _ _ _ _ (omega arith) (sym c.in_ok-end.ensures.value),
  omega (arith, c.in_ok-end.ensures.within),
  λ h. c.in_ok-end.ensures.within.1,
)

pub returns-in_err-end : goal.returns-in_err-end
returns-in_err-end g c =
    record { value = c.from_residual.ensures ∙ sym (c.loop.invariant.0 ∙ times_none _ _ _ (omega arith) (sym c.in_err-end.ensures.value)); within = search rules }

pub returns : goal.returns
returns g c =
    record { value = sym (c.loop.invariant.0 ∙ times-done _ _ _ (omega arith)); within = (c.loop.invariant.1, c.loop.invariant.2) }

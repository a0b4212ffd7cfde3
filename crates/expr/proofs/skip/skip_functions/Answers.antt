use Rattle.std.proofs.Common.{sym, ◌∙◌, arith}
use Rattle.language.proofs.ReadingFacts.{times-done, times_none, times_more}
use Rattle.expr.proofs.skip.skip_functions.Goals as goal

pub loop-preserved : goal.loop-preserved
loop-preserved g c = c.loop.invariant ∙ times_more _ _ _ _ _ (omega arith) (sym c.in_ok-end.ensures.value)

pub returns-in_err-end : goal.returns-in_err-end
returns-in_err-end g c = c.from_residual.ensures ∙ sym (c.loop.invariant ∙ times_none _ _ _ (omega arith) (sym c.in_err-end.ensures.value))

pub returns : goal.returns
returns g c = sym (c.loop.invariant ∙ times-done _ _ _ (omega arith))

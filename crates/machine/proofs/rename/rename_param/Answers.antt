-- Function, own name and the other own names, one after the other, in the current program.
use Rattle.std.proofs.Common.{false, Some, sym, ap, ◌∙◌, refl, rules}
use Rattle.memory.specs.Layout.{held}
use Rattle.scope.specs.Binding.{binder_of, binder_told}
use Rattle.machine.specs.declared.told.Refusal.TheVariants.{Missing, Captured}
use Rattle.machine.proofs.RenameSteps.{by_none, by_some, by_test, param_as}
use Rattle.machine.proofs.StepFacts.{does_no, met, missed}
use Rattle.machine.proofs.rename.rename_param.Goals as goal

pub returns-in_err-at : goal.returns-in_err-at
returns-in_err-at c =
    param_as c.args.memory.now _ c.current-program.ensures c.args.to.now _ _ c.args.function.now c.args.index
    (by_none _ _ _ _ _ (missed _ _ _ c.ok_or.ensures.ok_part c.in_err-at.was ∙ c.find_function.ensures) (does_no _ _ Missing (search rules)))

pub returns-in_err-own : goal.returns-in_err-own
returns-in_err-own c =
    param_as c.args.memory.now _ c.current-program.ensures c.args.to.now _ _ c.args.function.now c.args.index
    (by_some _ _ _ _ _ _ (met _ _ _ c.ok_or.ensures.ok_part c.in_ok-at.was ∙ c.find_function.ensures)
    (by_none _ _ _ _ _ (ap (binder_told _) (missed _ _ _ c.ok_or-2.ensures.ok_part c.in_err-own.was) ∙ c.own_name.ensures.value)
    (does_no _ _ Missing (search rules))))

pub returns-then-other_own_is : goal.returns-then-other_own_is
returns-then-other_own_is c =
    param_as c.args.memory.now _ c.current-program.ensures c.args.to.now _ _ c.args.function.now c.args.index
    (by_some _ _ _ _ _ _ (met _ _ _ c.ok_or.ensures.ok_part c.in_ok-at.was ∙ c.find_function.ensures)
    (by_some _ _ _ _ _ _ (ap (binder_told _) (met _ _ _ c.ok_or-2.ensures.ok_part c.in_ok-own.was) ∙ c.own_name.ensures.value)
    (by_test _ _ _ _ _ _ c.if-other_own_is.ensures (does_no _ _ Captured refl))))

pub returns : goal.returns
returns c =
    param_as c.args.memory.now _ c.current-program.ensures c.args.to.now _ _ c.args.function.now c.args.index
    (by_some _ _ _ _ _ _ (met _ _ _ c.ok_or.ensures.ok_part c.in_ok-at.was ∙ c.find_function.ensures)
    (by_some _ _ _ _ _ (binder_of (held 0 c.args.memory.now) c.in_ok-own.own)
    (sym (ap (λ bs. Some (binder_of bs c.in_ok-own.own)) c.current-program.ensures)
    ∙ ap (binder_told _) (met _ _ _ c.ok_or-2.ensures.ok_part c.in_ok-own.was) ∙ c.own_name.ensures.value)
    (by_test _ _ _ _ _ false c.if-other_own_is.ensures c.rename.ensures)))

-- Function, body, place and let, one after the other, in the current program.
use Rattle.std.proofs.Common.{Some, sym, ap, ◌∙◌, rules}
use Rattle.memory.specs.Layout.{held}
use Rattle.scope.specs.Binding.{binder_of, binder_told}
use Rattle.machine.specs.declared.told.Refusal.TheVariants.{Missing, WrongKind}
use Rattle.machine.proofs.RenameSteps.{by_none, by_some, bind_as}
use Rattle.machine.proofs.StepFacts.{does_no, met, missed}
use Rattle.machine.proofs.rename.rename_bind.Goals as goal

pub returns-in_err-function : goal.returns-in_err-function
returns-in_err-function c =
    bind_as c.args.memory.now _ c.current-program.ensures c.args.to.now _ _ c.args.at.function.now c.args.at.place.now
    (by_none _ _ _ _ _ (missed _ _ _ c.ok_or.ensures.ok_part c.in_err-function.was ∙ c.find_function.ensures) (does_no _ _ Missing (search rules)))

pub returns-in_err-body : goal.returns-in_err-body
returns-in_err-body c =
    bind_as c.args.memory.now _ c.current-program.ensures c.args.to.now _ _ c.args.at.function.now c.args.at.place.now
    (by_some _ _ _ _ _ _ (met _ _ _ c.ok_or.ensures.ok_part c.in_ok-function.was ∙ c.find_function.ensures)
    (by_none _ _ _ _ _ (missed _ _ _ c.ok_or-2.ensures.ok_part c.in_err-body.was ∙ c.body_of.ensures) (does_no _ _ Missing (search rules))))

pub returns-in_err-place : goal.returns-in_err-place
returns-in_err-place c =
    bind_as c.args.memory.now _ c.current-program.ensures c.args.to.now _ _ c.args.at.function.now c.args.at.place.now
    (by_some _ _ _ _ _ _ (met _ _ _ c.ok_or.ensures.ok_part c.in_ok-function.was ∙ c.find_function.ensures)
    (by_some _ _ _ _ _ _ (met _ _ _ c.ok_or-2.ensures.ok_part c.in_ok-body.was ∙ c.body_of.ensures)
    (by_none _ _ _ _ _ (missed _ _ _ c.ok_or-3.ensures.ok_part c.in_err-place.was ∙ c.follow.ensures) (does_no _ _ Missing (search rules)))))

pub returns-in_err-bind : goal.returns-in_err-bind
returns-in_err-bind c =
    bind_as c.args.memory.now _ c.current-program.ensures c.args.to.now _ _ c.args.at.function.now c.args.at.place.now
    (by_some _ _ _ _ _ _ (met _ _ _ c.ok_or.ensures.ok_part c.in_ok-function.was ∙ c.find_function.ensures)
    (by_some _ _ _ _ _ _ (met _ _ _ c.ok_or-2.ensures.ok_part c.in_ok-body.was ∙ c.body_of.ensures)
    (by_some _ _ _ _ _ _ (met _ _ _ c.ok_or-3.ensures.ok_part c.in_ok-place.was ∙ c.follow.ensures)
    (by_none _ _ _ _ _ (ap (binder_told _) (missed _ _ _ c.ok_or-4.ensures.ok_part c.in_err-bind.was) ∙ c.let_at.ensures.value)
    (does_no _ _ WrongKind (search rules))))))

pub returns : goal.returns
returns c =
    bind_as c.args.memory.now _ c.current-program.ensures c.args.to.now _ _ c.args.at.function.now c.args.at.place.now
    (by_some _ _ _ _ _ _ (met _ _ _ c.ok_or.ensures.ok_part c.in_ok-function.was ∙ c.find_function.ensures)
    (by_some _ _ _ _ _ _ (met _ _ _ c.ok_or-2.ensures.ok_part c.in_ok-body.was ∙ c.body_of.ensures)
    (by_some _ _ _ _ _ _ (met _ _ _ c.ok_or-3.ensures.ok_part c.in_ok-place.was ∙ c.follow.ensures)
    (by_some _ _ _ _ _ (binder_of (held 0 c.args.memory.now) c.in_ok-bind.bind)
    (sym (ap (λ bs. Some (binder_of bs c.in_ok-bind.bind)) c.current-program.ensures)
    ∙ ap (binder_told _) (met _ _ _ c.ok_or-4.ensures.ok_part c.in_ok-bind.was) ∙ c.let_at.ensures.value) c.rename.ensures))))

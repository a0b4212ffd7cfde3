use Rattle.std.proofs.Common.{None, Some, rules}
use Rattle.wire.specs.Request.{request_asks}
use Rattle.machine.specs.declared.told.Refusal.TheVariants.{NotACommand}
use Rattle.machine.proofs.StepFacts.{tells_no, obeyed_as}
use Rattle.machine.proofs.step.obey.Goals as goal

pub returns-in_err-request : goal.returns-in_err-request
returns-in_err-request c = obeyed_as _ _ _ None _ _ _ _ c.end_answer.ensures (search rules) (tells_no _ _ _ NotACommand (search rules))

pub returns : goal.returns
returns c = obeyed_as _ _ _ (Some (request_asks c.in_ok-request.request)) _ _ _ _ c.end_answer.ensures (search rules) c.answer.ensures

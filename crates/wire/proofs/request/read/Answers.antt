-- A text of bytes asks for what its first byte and the others ask for; what it asks for is spelled so, and nothing else is.
use Rattle.std.proofs.Common.{ap, ◌∙◌}
use Rattle.wire.specs.Request.{request_told}
use Rattle.wire.proofs.RequestFacts.{asked_none, asked_kind, exact}
use Rattle.wire.proofs.request.read.Goals as goal

pub returns-in_err-kind : goal.returns-in_err-kind
returns-in_err-kind c =
    let told = ap request_told c.from_residual.ensures ∙ asked_none c.args.text.now c.in_err-kind.ensures.cases in
    record { value = told; exact = exact c.args.text.now c.from_residual.result told }

pub returns : goal.returns
returns c =
    let told = asked_kind c.args.text.now _ _ _ c.in_ok-kind.ensures.cases.0 c.type_inv.text c.read_kind.ensures in
    record { value = told; exact = exact c.args.text.now c.read_kind.result told }

-- What is found is the reply.
use Rattle.std.proofs.Common.{rules, ◌≡◌, Ok, ap, ◌∙◌, arith}
use Rattle.expr.proofs.LookFacts.{says_reply}
use Rattle.expr.proofs.look.look.Goals as goal

pub returns : goal.returns
returns c =
    let found : c.map.result ≡ c.first_of.result = search rules in
    says_reply _ _ _ (omega arith) (omega arith) (ap Ok (found ∙ c.first_of.ensures))

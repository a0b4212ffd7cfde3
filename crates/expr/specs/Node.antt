-- What a node that was read stands for, and who holds it. Assumes nothing: these are definitions.
use Rattle.std.specs.Prelude.{◌≡◌, Some, None, Option}
use Rattle.expr.specs.declared.node.Holder as code
use Rattle.expr.specs.declared.node.Node.{Node}
use Rattle.expr.specs.declared.token.Token.{Token}
use Rattle.language.specs.Uses.{Holder, holder}

abbrev pub holder_told : Option code.Holder → Option Holder
holder_told None = None
holder_told (Some h) = Some (holder h.at h.part)

-- its kind and end
abbrev pub node_token : Option Node → Option Token
node_token None = None
node_token (Some n) = Some (record { kind = n.kind; end = n.end })

abbrev pub HeldBy : Option code.Holder → Option Node → Type 0
HeldBy h None = Unit {0}
HeldBy h (Some n) = n.holder ≡ h

-- What fields and requests that were read stand for. Assumes nothing: these are definitions.
use Rattle.std.specs.Borrow.{Bor}
use Rattle.std.specs.Prelude.{ℕ, List, [], ◌∷◌, Some, None, Option}
use Rattle.wire.specs.declared.field.Target as code
use Rattle.wire.specs.declared.request.Request.{Request}
use Rattle.wire.specs.declared.request.Request.TheVariants.{Load, Show, Names, RenameBind, RenameParam, RenameFunction, Extract, InlineBind, InlineCall, TurnIf, DropFunction, Undo}
use Rattle.model.specs.Command.{Command, show, names, rename_bind, rename_param, rename_fun, extract, inline_bind, inline_call, turn_cond, drop_fun, undo}
use Rattle.model.specs.Whole.{Said, Never}
use Rattle.model.specs.Reading.{Ask, loading, asking, Asks, Field, field, Located, located, Target, target}

-- each field that was read, with what is left after it
abbrev pub field_told : Option (Bor (List ℕ)) → List ℕ → Option Field
field_told None rest = None
field_told (Some x) rest = Some (field x.now rest)

abbrev pub index_told : Option ℕ → List ℕ → Option Field
index_told None rest = None
index_told (Some i) rest = Some (field (i ∷ []) rest)

abbrev pub located_told : Option code.Target → List ℕ → Option Located
located_told None rest = None
located_told (Some t) rest = Some (located t.function.now t.place.now rest)

-- the last fields
abbrev pub bytes_told : Option (Bor (List ℕ)) → Option (List ℕ)
bytes_told None = None
bytes_told (Some x) = Some x.now

abbrev pub target_told : Option code.Target → Option Target
target_told None = None
target_told (Some t) = Some (target t.function.now t.place.now)

-- what each request asks for
abbrev pub request_asks : Request → Ask
request_asks (Load p) = loading p.bytes.now
request_asks (Show f) = asking (show f.now)
request_asks Names = asking names
request_asks (RenameBind t y) = asking (rename_bind t.function.now t.place.now y.now)
request_asks (RenameParam f i y) = asking (rename_param f.now i y.now)
request_asks (RenameFunction f g) = asking (rename_fun f.now g.now)
request_asks (Extract t g) = asking (extract t.function.now t.place.now g.now)
request_asks (InlineBind t) = asking (inline_bind t.function.now t.place.now)
request_asks (InlineCall t) = asking (inline_call t.function.now t.place.now)
request_asks (TurnIf t) = asking (turn_cond t.function.now t.place.now)
request_asks (DropFunction f) = asking (drop_fun f.now)
request_asks Undo = asking undo

abbrev pub request_told : Option Request → Option Ask
request_told None = None
request_told (Some r) = Some (request_asks r)

-- no command that fits is spelled so; or one is, and it is what the request asks for
abbrev pub Exact : List ℕ → Option Request → Type 0
Exact text None = (c : Command) → Said text c → Never
Exact text (Some q) = (c : Command) × Said text c × Asks (request_asks q) c

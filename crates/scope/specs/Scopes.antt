-- What scopes of the code stand for. Assumes nothing: these are definitions.
use Rattle.language.specs.Uses.{Scope, scope}
use Rattle.scope.specs.declared.renaming.Scope as code

abbrev pub scope_told : code.Scope → Scope
scope_told s = scope s.old s.new

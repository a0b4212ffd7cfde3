-- How many parts follow a head is told by its kind. Assumes nothing.
use Rattle.std.proofs.Common.{◌≡◌, ℕ, List, refl}
use Rattle.expr.specs.declared.token.Kind.{Kind}
use Rattle.expr.specs.declared.token.Kind.TheVariants.{Number, Name, Binary, Call, Let, If, Tell}
use Rattle.expr.specs.Token.{kind_told, kind_arity}
use Rattle.language.specs.Heads.{arity}

pub arity-told : (bs : List ℕ) (k : Kind) → arity (kind_told bs k) ≡ kind_arity k
unfolding arity
arity-told bs (Number n) = refl
arity-told bs (Name s) = refl
arity-told bs (Binary o) = refl
arity-told bs (Call s k) = refl
arity-told bs (Let s) = refl
arity-told bs If = refl
arity-told bs Tell = refl

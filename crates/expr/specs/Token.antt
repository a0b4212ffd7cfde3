-- What a token that was read stands for. Assumes nothing: these are definitions.
use Rattle.std.specs.Prelude.{◌≡◌, ℕ, ◌+◌, ◌<◌, ◌≤◌, List, length, Some, None, Option, Result, IfSome, MatchResult, nat_le}
use Rattle.std.specs.List.{between}
use Rattle.expr.specs.declared.token.Span.{Span}
use Rattle.expr.specs.declared.token.Operator.{Operator}
use Rattle.expr.specs.declared.token.Operator.TheVariants.{Sum, Difference, Product, Quotient, Equal, Below}
use Rattle.expr.specs.declared.token.NoOperator.{NoOperator}
use Rattle.expr.specs.declared.token.Kind.{Kind}
use Rattle.expr.specs.declared.token.Kind.TheVariants.{Number, Name, Binary, Call, Let, If, Tell}
use Rattle.expr.specs.declared.token.Token as code
use Rattle.language.specs.Heads.{Head, h_num, h_var, h_bin, h_call, h_bind, h_choice, h_tell}
use Rattle.language.specs.Basics.{pick}
use Rattle.language.specs.Reading.{Token, token, found, times, number_at, fun_end}

-- where something was found, there is room for it, and the row is no longer than a row can be
abbrev pub Room : ℕ → Option ℕ → ℕ → Type 0
Room end None high = Unit {0}
Room end (Some n) high = (end ≤ high) × (high < 18446744073709551616)

-- an end that was found lies between these, likewise
abbrev pub Within : ℕ → Option ℕ → ℕ → Type 0
Within low None high = Unit {0}
Within low (Some j) high = (low ≤ j) × (j ≤ high) × (high < 18446744073709551616)

-- an end that was found lies further on, and within the row if the beginning does
abbrev pub Onward : ℕ → Option ℕ → ℕ → Type 0
Onward low None high = Unit {0}
Onward low (Some j) high = (low ≤ j) × (low ≤ high → j ≤ high)

-- an end of so many things that was found lies further on, and within the row if there is one of them
abbrev pub Skipped : ℕ → ℕ → Option ℕ → ℕ → Type 0
Skipped n low None high = Unit {0}
Skipped n low (Some j) high = (low ≤ j) × (0 < n → j ≤ high) × (high < 18446744073709551616)

abbrev pub spelled_in : List ℕ → Span → List ℕ
spelled_in bs s = between s.from s.to bs

abbrev pub span_end : Option Span → Option ℕ
span_end None = None
span_end (Some s) = Some s.to

-- in a row of so many bytes, the same bytes lie in both spans
abbrev pub SameIn : ℕ → Span → Span → Type 0
SameIn n s t = (bs : List ℕ) → length bs ≡ n → spelled_in bs t ≡ spelled_in bs s

-- the number of each operator
abbrev pub operator_told : Operator → ℕ
operator_told Sum = 0
operator_told Difference = 1
operator_told Product = 2
operator_told Quotient = 3
operator_told Equal = 4
operator_told Below = 5

-- the operator of that number, or the number that no operator has
abbrev pub ReadsOperator : ℕ → Result Operator NoOperator → Type 0
ReadsOperator k r = MatchResult r (λ o. operator_told o ≡ k) (λ e. (e.0 ≡ k) × (6 ≤ k))

-- the head of each kind, its names from the row
abbrev pub kind_told : List ℕ → Kind → Head
kind_told bs (Number n) = h_num n
kind_told bs (Name s) = h_var (spelled_in bs s)
kind_told bs (Binary o) = h_bin (operator_told o)
kind_told bs (Call s k) = h_call (spelled_in bs s) k
kind_told bs (Let s) = h_bind (spelled_in bs s)
kind_told bs If = h_choice
kind_told bs Tell = h_tell

abbrev pub told : List ℕ → Option code.Token → Option Token
told bs None = None
told bs (Some t) = Some (token (kind_told bs t.kind) t.end)

-- the name of a head whose other bytes begin at i lies behind its length, up to the head's end; a call has one byte more, its count
abbrev pub NameLies : ℕ → Kind → ℕ → Type 0
NameLies i (Number n) end = Unit {0}
NameLies i (Name s) end = (s.from ≡ i + 8) × (s.to ≡ end)
NameLies i (Binary o) end = Unit {0}
NameLies i (Call s k) end = (s.from ≡ i + 8) × (s.to + 1 ≡ end)
NameLies i (Let s) end = (s.from ≡ i + 8) × (s.to ≡ end)
NameLies i If end = Unit {0}
NameLies i Tell end = Unit {0}

abbrev pub Lies : ℕ → Option code.Token → Type 0
Lies i None = Unit {0}
Lies i (Some t) = NameLies i t.kind t.end

-- the name of a head of this kind is not empty
abbrev pub HasName : Kind → Type 0
HasName (Number n) = Unit {0}
HasName (Name s) = s.from < s.to
HasName (Binary o) = Unit {0}
HasName (Call s k) = s.from < s.to
HasName (Let s) = s.from < s.to
HasName If = Unit {0}
HasName Tell = Unit {0}

abbrev pub token_end : Option code.Token → Option ℕ
token_end None = None
token_end (Some t) = Some t.end

-- what was read behind i ends within a row of that length, and its name lies there and is not empty
pub record LiesBehind (i : ℕ) (r : Option code.Token) (high : ℕ) : Type 0 where
  pub within : Within i (token_end r) high
  pub lies : Lies i r
  pub named : IfSome r (λ t. HasName t.kind)

-- how many parts follow a head of this kind
abbrev pub kind_arity : Kind → ℕ
kind_arity (Number n) = 0
kind_arity (Name s) = 0
kind_arity (Binary o) = 2
kind_arity (Call s k) = k
kind_arity (Let s) = 2
kind_arity If = 3
kind_arity Tell = 1

-- where the functions of a program end, at most 1,024, whose count stands first
abbrev pub program_end : List ℕ → Option ℕ
program_end bs = found (number_at bs 0) (λ n. pick (nat_le n 1024) (times n (fun_end bs) 8) None)

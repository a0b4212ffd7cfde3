-- An expression is a head and its parts: the head is its kind, with what in it is no expression. Assumes nothing: these are definitions.
use Rattle.std.specs.Prelude.{ℕ, Bool, true, ◌&&◌, List, [], ◌∷◌, ◌++◌, nat_le, nat_lt}
use Rattle.language.specs.Bytes.{Name, eight, with_length}
use Rattle.language.specs.Expr.{limit, Expr, num, var, bin, call, bind, choice, tell, count_exprs}
use Rattle.language.specs.Fits.{a_name}

pub data Head : Type 0 where
  h_num : ℕ → Head
  h_var : Name → Head
  h_bin : ℕ → Head
  h_call : Name → ℕ → Head  -- and how many values
  h_bind : Name → Head
  h_choice : Head
  h_tell : Head

unfoldable pub head_of : Expr → Head
head_of (num n) = h_num n
head_of (var x) = h_var x
head_of (bin k a b) = h_bin k
head_of (call f es) = h_call f (count_exprs es)
head_of (bind x a b) = h_bind x
head_of (choice c a b) = h_choice
head_of (tell a) = h_tell

-- how many parts follow
unfoldable pub arity : Head → ℕ
arity (h_num n) = 0
arity (h_var x) = 0
arity (h_bin k) = 2
arity (h_call f k) = k
arity (h_bind x) = 2
arity h_choice = 3
arity h_tell = 1

unfoldable pub head_spelled : Head → List ℕ
head_spelled (h_num n) = 0 ∷ eight n
head_spelled (h_var x) = 1 ∷ with_length x
head_spelled (h_bin k) = 2 ∷ k ∷ []
head_spelled (h_call f k) = 3 ∷ (with_length f ++ k ∷ [])
head_spelled (h_bind x) = 4 ∷ with_length x
head_spelled h_choice = 5 ∷ []
head_spelled h_tell = 6 ∷ []

unfoldable pub a_head : Head → Bool
a_head (h_num n) = nat_lt n limit
a_head (h_var x) = a_name x
a_head (h_bin k) = nat_lt k 6
a_head (h_call f k) = a_name f && nat_le k 16
a_head (h_bind x) = a_name x
a_head h_choice = true
a_head h_tell = true

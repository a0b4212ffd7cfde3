-- What gives a name in a program's bytes: a let, or a function's own names. Total, as all reading is. Assumes nothing: these are definitions.
use Rattle.std.specs.Prelude.{ℕ, ◌+◌, List, Some, None, Option, nat_lt}
use Rattle.std.specs.List.{between}
use Rattle.language.specs.Basics.{pick}
use Rattle.language.specs.Bytes.{Name}
use Rattle.language.specs.Heads.{Head, h_num, h_var, h_bin, h_call, h_bind, h_choice, h_tell}
use Rattle.language.specs.Reading.{found, number_at, name_end, times, head_at, expr_end}
use Rattle.language.specs.Contents.{body_of}

-- what gives a name: the name, where it stands, and where the expression begins that it is given to
pub record Binder : Type 0 where
  pub name : Name
  pub at : ℕ
  pub body : ℕ

abbrev pub binder : Name → ℕ → ℕ → Binder
binder x k i = record { name = x; at = k; body = i }

-- the let of that head, which begins at i and ends at j: its second part begins after the first
abbrev pub let_of : List ℕ → ℕ → ℕ → Head → Option Binder
let_of bs i j (h_num n) = None
let_of bs i j (h_var z) = None
let_of bs i j (h_bin k) = None
let_of bs i j (h_call f k) = None
let_of bs i j (h_bind z) = found (expr_end bs j) (λ b. Some (binder z (i + 1) b))
let_of bs i j h_choice = None
let_of bs i j h_tell = None

abbrev pub let_at : List ℕ → ℕ → Option Binder
let_at bs i = found (head_at bs i) (λ t. let_of bs i t.end t.head)

-- where the ith own name of the function at o stands
abbrev pub own_at : List ℕ → ℕ → ℕ → Option ℕ
own_at bs o i = found (name_end bs o) (λ j. found (number_at bs j) (λ n. pick (nat_lt i n) (times i (name_end bs) (j + 8)) None))

abbrev pub own_binder : List ℕ → ℕ → ℕ → Option Binder
own_binder bs o i =
    found (own_at bs o i) (λ k. found (name_end bs k) (λ j. found (body_of bs o) (λ b. Some (binder (between (k + 8) j bs) k b))))

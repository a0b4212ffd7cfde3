-- Reading spellings: what stands at a place in a row of bytes, and where it ends; None where no such thing stands there.
-- Total: any row and any place give something definite. Assumes nothing: these are definitions.
use Rattle.std.specs.Prelude.{ℕ, zero, suc, ◌+◌, ◌-◌, Bool, false, ◌&&◌, List, [], ◌∷◌, length, take, drop, Some, None, Option, ◌==◌, nat_le, nat_lt, slice_index}
use Rattle.std.specs.List.{between}
use Rattle.std.specs.Int.Digits.{number_from_digits}
use Rattle.language.specs.Basics.{pick}
use Rattle.language.specs.Expr.{limit}
use Rattle.language.specs.Heads.{Head, h_num, h_var, h_bin, h_call, h_bind, h_choice, h_tell, arity}

-- go on with what was found
abbrev pub found : {A B : Type 0} → Option A → (A → Option B) → Option B
found None f = None
found (Some a) f = f a

-- one after the other, so many times
unfoldable pub times : ℕ → (ℕ → Option ℕ) → ℕ → Option ℕ
times zero f i = Some i
times (suc n) f i = found (f i) (λ j. times n f j)

-- eight bytes, the highest first
abbrev pub number_at : List ℕ → ℕ → Option ℕ
number_at bs i = pick (nat_le (i + 8) (length bs)) (Some (number_from_digits 256 (take 8 (drop i bs)))) None

-- where a name ends whose length stands at i; its bytes begin at i + 8
abbrev pub name_end : List ℕ → ℕ → Option ℕ
name_end bs i =
    found (number_at bs i) (λ n. pick ((nat_le 1 n && nat_le n 32) && nat_le (i + 8 + n) (length bs)) (Some (i + 8 + n)) None)

-- a head, and where it ends
pub record Token : Type 0 where
  pub head : Head
  pub end : ℕ

abbrev pub token : Head → ℕ → Token
token h j = record { head = h; end = j }

abbrev pub num_at : List ℕ → ℕ → Option Token
num_at bs i = found (number_at bs i) (λ n. pick (nat_lt n limit) (Some (token (h_num n) (i + 8))) None)

abbrev pub bin_at : List ℕ → ℕ → Option Token
bin_at bs i = pick (nat_lt i (length bs) && nat_lt (slice_index bs i) 6) (Some (token (h_bin (slice_index bs i)) (i + 1))) None

abbrev pub call_at : List ℕ → ℕ → Option Token
call_at bs i =
    found (name_end bs i)
    (λ j. pick (nat_lt j (length bs) && nat_le (slice_index bs j) 16) (Some (token (h_call (between (i + 8) j bs) (slice_index bs j)) (j + 1))) None)

abbrev pub named_at : (List ℕ → Head) → List ℕ → ℕ → Option Token
named_at h bs i = found (name_end bs i) (λ j. Some (token (h (between (i + 8) j bs)) j))

-- a head of kind k whose other bytes begin at i
abbrev pub kind_at : ℕ → List ℕ → ℕ → Option Token
kind_at k bs i =
    pick (k == 0) (num_at bs i) (pick (k == 1) (named_at h_var bs i) (pick (k == 2) (bin_at bs i) (pick (k == 3) (call_at bs i)
    (pick (k == 4) (named_at h_bind bs i) (pick (k == 5) (Some (token h_choice i)) (pick (k == 6) (Some (token h_tell i)) None))))))

abbrev pub head_at : List ℕ → ℕ → Option Token
head_at bs i = pick (nat_lt i (length bs)) (kind_at (slice_index bs i) bs (i + 1)) None

-- where the next n expressions end; the second number bounds how many heads are read. Each part still to come has a byte at least.
unfoldable pub ends : ℕ → ℕ → List ℕ → ℕ → Option ℕ
ends zero f bs i = Some i
ends (suc n) zero bs i = None
ends (suc n) (suc f) bs i =
    found (head_at bs i)
    (λ t. pick (nat_le (arity t.head + n) (length bs - t.end)) (ends (arity t.head + n) f bs t.end) None)

abbrev pub expr_end : List ℕ → ℕ → Option ℕ
expr_end bs i = ends 1 (length bs) bs i

-- a count of at most 16, and so many names
abbrev pub params_end : List ℕ → ℕ → Option ℕ
params_end bs i = found (number_at bs i) (λ k. pick (nat_le k 16) (times k (name_end bs) (i + 8)) None)

abbrev pub fun_end : List ℕ → ℕ → Option ℕ
fun_end bs i = found (name_end bs i) (λ j. found (params_end bs j) (λ k. expr_end bs k))

abbrev pub ends_at : Option ℕ → ℕ → Bool
ends_at None j = false
ends_at (Some i) j = i == j

abbrev pub funs_fill : List ℕ → Option ℕ → Bool
funs_fill bs None = false
funs_fill bs (Some n) = nat_le n 1024 && ends_at (times n (fun_end bs) 8) (length bs)

-- the bytes are a program's spelling, whole
abbrev pub is_program : List ℕ → Bool
is_program bs = nat_le (length bs) 65536 && funs_fill bs (number_at bs 0)

-- where what stands at a place of the expression at i begins: each number says which part, after so many others
unfoldable pub place_at : List ℕ → List ℕ → ℕ → Option ℕ
place_at bs [] i = Some i
place_at bs (k ∷ ks) i =
    found (head_at bs i)
    (λ t. pick (nat_lt k (arity t.head)) (found (ends k (length bs) bs t.end) (λ j. place_at bs ks j)) None)

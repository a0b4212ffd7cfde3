-- Expressions that fit: what their parts are, and how long an expression's spelling is by its parts. Assumes nothing.
use Rattle.std.proofs.Common.{◌≡◌, ℕ, ◌+◌, Bool, true, false, ltb, leb, length, refl, arith, length-append}
use Rattle.language.specs.Basics.{pick}
use Rattle.language.specs.Bytes.{in_bytes, Name}
use Rattle.language.specs.Expr.{Expr, num, var, bin, call, bind, choice, tell, Exprs, expr_and, count_exprs}
use Rattle.language.specs.Spelling.{expr_spelled, exprs_spelled}
use Rattle.language.specs.Fits.{a_name, an_expr, all_exprs}
use Rattle.language.proofs.HeadFacts.{length_with}

pub pick_true : {A : Type 0} (P : A → Bool) (t : Bool) (a b : A) → P a ≡ true → P b ≡ true → P (pick t a b) ≡ true
pick_true P true a b h k = h
pick_true P false a b h k = k

pub bin_fit : (k : ℕ) (a b : Expr) → an_expr (bin k a b) ≡ true → (ltb k 6 ≡ true) × (an_expr a ≡ true) × (an_expr b ≡ true)
unfolding an_expr
bin_fit k a b h = grind arith

pub bind_fit : (x : Name) (a b : Expr) → an_expr (bind x a b) ≡ true → (a_name x ≡ true) × (an_expr a ≡ true) × (an_expr b ≡ true)
unfolding an_expr
bind_fit x a b h = grind arith

pub choice_fit : (c a b : Expr) → an_expr (choice c a b) ≡ true → (an_expr c ≡ true) × (an_expr a ≡ true) × (an_expr b ≡ true)
unfolding an_expr
choice_fit c a b h = grind arith

pub call_fit : (f : Name) (es : Exprs) → an_expr (call f es) ≡ true → (a_name f ≡ true) × (leb (count_exprs es) 16 ≡ true) × (all_exprs es ≡ true)
unfolding an_expr
call_fit f es h = grind arith

pub exprs_fit : (e : Expr) (es : Exprs) → all_exprs (expr_and e es) ≡ true → (an_expr e ≡ true) × (all_exprs es ≡ true)
unfolding all_exprs
exprs_fit e es h = grind arith

pub fit_bin : (k : ℕ) (a b : Expr) → ltb k 6 ≡ true → an_expr a ≡ true → an_expr b ≡ true → an_expr (bin k a b) ≡ true
unfolding an_expr
fit_bin k a b o p q = grind arith

pub fit_bind : (x : Name) (a b : Expr) → a_name x ≡ true → an_expr a ≡ true → an_expr b ≡ true → an_expr (bind x a b) ≡ true
unfolding an_expr
fit_bind x a b o p q = grind arith

pub fit_choice : (c a b : Expr) → an_expr c ≡ true → an_expr a ≡ true → an_expr b ≡ true → an_expr (choice c a b) ≡ true
unfolding an_expr
fit_choice c a b o p q = grind arith

pub fit_call : (f : Name) (es : Exprs) → a_name f ≡ true → leb (count_exprs es) 16 ≡ true → all_exprs es ≡ true → an_expr (call f es) ≡ true
unfolding an_expr
fit_call f es o p q = grind arith

pub num-long : (n : ℕ) → length (expr_spelled (num n)) ≡ 9
unfolding expr_spelled in_bytes
num-long n = refl

pub var-long : (x : Name) → length (expr_spelled (var x)) ≡ length x + 9
unfolding expr_spelled
var-long x = omega (arith, length_with x)

pub bin-long : (k : ℕ) (a b : Expr) → length (expr_spelled (bin k a b)) ≡ length (expr_spelled a) + length (expr_spelled b) + 2
unfolding expr_spelled
bin-long k a b = omega (arith, length-append (expr_spelled a) (expr_spelled b))

pub call_long : (f : Name) (es : Exprs) → length (expr_spelled (call f es)) ≡ length f + length (exprs_spelled es) + 10
unfolding expr_spelled
call_long f es = grind (arith, length_with, length-append)

pub bind-long : (x : Name) (a b : Expr) → length (expr_spelled (bind x a b)) ≡ length x + length (expr_spelled a) + length (expr_spelled b) + 9
unfolding expr_spelled
bind-long x a b = grind (arith, length_with, length-append)

pub choice-long : (c a b : Expr) → length (expr_spelled (choice c a b)) ≡ length (expr_spelled c) + length (expr_spelled a) + length (expr_spelled b) + 1
unfolding expr_spelled
choice-long c a b = grind (arith, length-append)

pub tell-long : (a : Expr) → length (expr_spelled (tell a)) ≡ length (expr_spelled a) + 1
unfolding expr_spelled
tell-long a = omega arith

pub exprs_long : (e : Expr) (es : Exprs) → length (exprs_spelled (expr_and e es)) ≡ length (expr_spelled e) + length (exprs_spelled es)
unfolding exprs_spelled
exprs_long e es = length-append (expr_spelled e) (exprs_spelled es)

-- What fits is spelled in bytes. Assumes nothing.
use Rattle.std.proofs.Common.{◌≡◌, ℕ, zero, suc, ◌/◌, ◌%◌, ◌<◌, Bool, true, ltb, List, [], ◌∷◌, ◌++◌, refl, arith, ltb-true, lt-ltb, leb-true}
use Rattle.std.proofs.lemmas.Bool.{and_parts, and_from}
use Rattle.language.specs.Basics.{every, flat}
use Rattle.language.specs.Bytes.{Name, in_bytes, eight, with_length, all_bytes}
use Rattle.language.specs.Expr.{Expr, Exprs, num, var, bin, call, bind, choice, tell, no_exprs, expr_and, count_exprs, Fun, Program}
use Rattle.language.specs.Spelling.{expr_spelled, exprs_spelled, fun_spelled, program_spelled}
use Rattle.language.specs.Fits.{a_name, an_expr, all_exprs, a_fun, a_program}
use Rattle.language.proofs.ListFacts.{every_append}

pub bytes_append : (xs ys : List ℕ) → all_bytes xs ≡ true → all_bytes ys ≡ true → all_bytes (xs ++ ys) ≡ true
bytes_append = every_append (λ b. ltb b 256)

pub bytes_first : (b : ℕ) (bs : List ℕ) → b < 256 → all_bytes bs ≡ true → all_bytes (b ∷ bs) ≡ true
bytes_first _ _ h k = and_from _ _ (lt-ltb _ _ h) k

pub bytes_in : (k n : ℕ) (bs : List ℕ) → all_bytes bs ≡ true → all_bytes (in_bytes k n bs) ≡ true
unfolding in_bytes
bytes_in zero n bs h = h
bytes_in (suc k) n bs h = bytes_in k (n / 256) (n % 256 ∷ bs) (bytes_first (n % 256) bs (omega arith) h)

pub bytes_eight : (n : ℕ) → all_bytes (eight n) ≡ true
bytes_eight n = bytes_in 8 n [] refl

pub bytes_name : (x : Name) → a_name x ≡ true → all_bytes (with_length x) ≡ true
bytes_name x h = grind (arith, bytes_append, bytes_eight)

mutual
  unfolding expr_spelled an_expr

  pub bytes_expr : (e : Expr) → an_expr e ≡ true → all_bytes (expr_spelled e) ≡ true
  bytes_expr (num n) h = bytes_first 0 (eight n) (omega arith) (bytes_eight n)
  bytes_expr (var x) h = bytes_first 1 (with_length x) (omega arith) (bytes_name x h)
  bytes_expr (bin k a b) h =
      let q = and_parts _ _ h in
      let r = and_parts _ _ q.1 in
      bytes_first 2 (k ∷ (expr_spelled a ++ expr_spelled b)) (omega arith) (bytes_first k (expr_spelled a ++ expr_spelled b) (omega (arith, ltb-true k 6 q.0)) (bytes_append (expr_spelled a) (expr_spelled b) (bytes_expr a r.0) (bytes_expr b r.1)))
  bytes_expr (call f es) h =
      let q = and_parts _ _ h in
      let r = and_parts _ _ q.0 in
      bytes_first 3 (with_length f ++ count_exprs es ∷ exprs_spelled es) (omega arith) (bytes_append (with_length f) (count_exprs es ∷ exprs_spelled es) (bytes_name f r.0) (bytes_first (count_exprs es) (exprs_spelled es) (omega (arith, leb-true (count_exprs es) 16 r.1)) (bytes_exprs es q.1)))
  bytes_expr (bind x a b) h =
      let q = and_parts _ _ h in
      let r = and_parts _ _ q.1 in
      bytes_first 4 (with_length x ++ expr_spelled a ++ expr_spelled b) (omega arith) (bytes_append (with_length x ++ expr_spelled a) (expr_spelled b) (bytes_append (with_length x) (expr_spelled a) (bytes_name x q.0) (bytes_expr a r.0)) (bytes_expr b r.1))
  bytes_expr (choice c a b) h =
      let q = and_parts _ _ h in
      let r = and_parts _ _ q.1 in
      bytes_first 5 (expr_spelled c ++ expr_spelled a ++ expr_spelled b) (omega arith) (bytes_append (expr_spelled c ++ expr_spelled a) (expr_spelled b) (bytes_append (expr_spelled c) (expr_spelled a) (bytes_expr c q.0) (bytes_expr a r.0)) (bytes_expr b r.1))
  bytes_expr (tell a) h = bytes_first 6 (expr_spelled a) (omega arith) (bytes_expr a h)

  pub bytes_exprs : (es : Exprs) → all_exprs es ≡ true → all_bytes (exprs_spelled es) ≡ true
  bytes_exprs no_exprs h = refl
  bytes_exprs (expr_and e es) h =
      let q = and_parts _ _ h in
      bytes_append (expr_spelled e) (exprs_spelled es) (bytes_expr e q.0) (bytes_exprs es q.1)

pub bytes_flat : {A : Type 0} (f : A → List ℕ) (ok : A → Bool) → ((a : A) → ok a ≡ true → all_bytes (f a) ≡ true) → (xs : List A) → every ok xs ≡ true → all_bytes (flat f xs) ≡ true
bytes_flat f ok each-one [] h = refl
bytes_flat f ok each-one (x ∷ xs) h =
    let q = and_parts _ _ h in
    bytes_append (f x) (flat f xs) (each-one x q.0) (bytes_flat f ok each-one xs q.1)

pub bytes_fun : (f : Fun) → a_fun f ≡ true → all_bytes (fun_spelled f) ≡ true
bytes_fun f h = grind (arith, bytes_append, bytes_eight, bytes_flat, bytes_expr)

pub bytes_program : (p : Program) → a_program p ≡ true → all_bytes (program_spelled p) ≡ true
bytes_program p h = grind (arith, bytes_append, bytes_eight, bytes_flat, bytes_fun)

-- Renaming as a step on bytes: where the names stand that change, and what the bytes are then; what is true of both.
-- Assumes nothing: these are definitions.
use Rattle.std.specs.Prelude.{◌≡◌, ℕ, ◌+◌, ◌≤◌, Bool, true, false, not, ◌&&◌, List, [], ◌∷◌, ◌++◌, length, Some, None}
use Rattle.language.specs.Basics.{pick, or, same}
use Rattle.language.specs.Bytes.{Name, with_length}
use Rattle.language.specs.Expr.{Expr, num, var, bin, call, bind, choice, tell, Exprs, no_exprs, expr_and, count_exprs}
use Rattle.language.specs.Spelling.{expr_spelled}
use Rattle.language.specs.Fits.{an_expr}
use Rattle.language.specs.Heads.{Head, h_bin, h_call, h_bind, h_choice, h_tell, head_spelled}
use Rattle.language.specs.Uses.{uses_of}
use Rattle.language.specs.Splice.{names_replaced}
use Rattle.model.specs.Capture.{clear, under}

-- where the parts begin after a head that stands at i
abbrev pub parts_at : ℕ → Head → ℕ
parts_at i h = i + length (head_spelled h)

-- where the names of the uses of x stand that are not given anew, in an expression that stands at i; h says whether x is given anew around it
unfoldable mutual
  pub name_uses : Name → Bool → ℕ → Expr → List ℕ
  name_uses x h i (num n) = []
  name_uses x h i (var z) = pick (same x z && not h) ((i + 1) ∷ []) []
  name_uses x h i (bin k a b) = name_uses x h (parts_at i (h_bin k)) a ++ name_uses x h (parts_at i (h_bin k) + length (expr_spelled a)) b
  name_uses x h i (call f es) = all_uses x h (parts_at i (h_call f (count_exprs es))) es
  name_uses x h i (bind z a b) =
      name_uses x h (parts_at i (h_bind z)) a ++ name_uses x (or (same x z) h) (parts_at i (h_bind z) + length (expr_spelled a)) b
  name_uses x h i (choice c a b) =
      name_uses x h (parts_at i h_choice) c
      ++ (name_uses x h (parts_at i h_choice + length (expr_spelled c)) a
      ++ name_uses x h (parts_at i h_choice + length (expr_spelled c) + length (expr_spelled a)) b)
  name_uses x h i (tell a) = name_uses x h (parts_at i h_tell) a

  pub all_uses : Name → Bool → ℕ → Exprs → List ℕ
  all_uses x h i no_exprs = []
  all_uses x h i (expr_and e es) = name_uses x h i e ++ all_uses x h (i + length (expr_spelled e)) es

-- The walk through an expression's bytes lists the names that change, after the binder's own, unless a use would be captured.
abbrev pub UsesListed : Type 0
UsesListed =
    (before after : List ℕ) (x y : Name) (k : ℕ) (e : Expr) → length (before ++ (expr_spelled e ++ after)) ≤ 65536 → an_expr e ≡ true → 9 ≤ length before →
    uses_of (before ++ (expr_spelled e ++ after)) x y k (length before)
    ≡ pick (clear x y false false e) (Some (k ∷ name_uses x false (length before) e)) None

-- With the new name for each of these, the bytes are those of the renamed expression.
abbrev pub NamesSpliced : Type 0
NamesSpliced =
    (before mid after : List ℕ) (x y : Name) (e : Expr) →
    names_replaced (before ++ (with_length x ++ (mid ++ (expr_spelled e ++ after)))) x y
    (length before ∷ name_uses x false (length before + (length (with_length x) + length mid)) e)
    ≡ before ++ (with_length y ++ (mid ++ (expr_spelled (under x y false e) ++ after)))

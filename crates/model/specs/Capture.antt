-- Checks of a renaming that look at one place at a time, and the renaming itself so; and what is true of them.
-- x is what is renamed, y its new name. While going in, two things are kept: whether x is given anew on the way (hx), and whether y is (hy).
-- Assumes nothing: these are definitions.
use Rattle.std.specs.Prelude.{◌≡◌, ℕ, zero, suc, ◌≤◌, Bool, true, false, not, ◌&&◌, List, [], ◌∷◌, length}
use Rattle.language.specs.Basics.{pick, or, same}
use Rattle.language.specs.Bytes.{Name}
use Rattle.language.specs.Expr.{Expr, num, var, bin, call, bind, choice, tell, Exprs, no_exprs, expr_and}
use Rattle.language.specs.Places.{at_place, put_at}
use Rattle.language.specs.Names.{has, distinct}
use Rattle.language.specs.Bare.{alike}
use Rattle.language.specs.Spelling.{expr_spelled}
use Rattle.language.specs.Fits.{a_name, an_expr}
use Rattle.model.specs.Rename.{renamed, put_name, nth_name}

-- no use of x would be taken by a bind of y, and no use of y by what is renamed
unfoldable mutual
  pub clear : Name → Name → Bool → Bool → Expr → Bool
  clear x y hx hy (num n) = true
  clear x y hx hy (var z) = pick (same x z && not hx) (not hy) (not (same y z && not hy))
  clear x y hx hy (bin k a b) = clear x y hx hy a && clear x y hx hy b
  clear x y hx hy (call f es) = clear_all x y hx hy es
  clear x y hx hy (bind z a b) = clear x y hx hy a && clear x y (or (same x z) hx) (or (same y z) hy) b
  clear x y hx hy (choice c a b) = clear x y hx hy c && (clear x y hx hy a && clear x y hx hy b)
  clear x y hx hy (tell a) = clear x y hx hy a

  pub clear_all : Name → Name → Bool → Bool → Exprs → Bool
  clear_all x y hx hy no_exprs = true
  clear_all x y hx hy (expr_and e es) = clear x y hx hy e && clear_all x y hx hy es

-- the renaming, going in
unfoldable mutual
  pub under : Name → Name → Bool → Expr → Expr
  under x y hx (num n) = num n
  under x y hx (var z) = var (pick (same x z && not hx) y z)
  under x y hx (bin k a b) = bin k (under x y hx a) (under x y hx b)
  under x y hx (call f es) = call f (under_all x y hx es)
  under x y hx (bind z a b) = bind z (under x y hx a) (under x y (or (same x z) hx) b)
  under x y hx (choice c a b) = choice (under x y hx c) (under x y hx a) (under x y hx b)
  under x y hx (tell a) = tell (under x y hx a)

  pub under_all : Name → Name → Bool → Exprs → Exprs
  under_all x y hx no_exprs = no_exprs
  under_all x y hx (expr_and e es) = expr_and (under x y hx e) (under_all x y hx es)

-- own names but the ith
unfoldable pub others : List Name → ℕ → List Name
others [] i = []
others (x ∷ xs) zero = xs
others (x ∷ xs) (suc i) = x ∷ others xs i

-- The renamed body of a let is alike in bare form if the check at each place says so, and only then.
abbrev pub BindClear : Type 0
BindClear =
    (ps : List Name) (body : Expr) (ks : List ℕ) (x y : Name) (a b : Expr) (es : List Expr) → an_expr body ≡ true → a_name y ≡ true →
    length ps ≤ 16 → length (expr_spelled body) ≤ 65536 → at_place body ks ≡ bind x a b ∷ es →
    alike ps body ps (put_at body ks (bind y a (renamed x y b))) ≡ clear x y false false b

-- So too for a function's own name, which none of the others may be.
abbrev pub OwnClear : Type 0
OwnClear =
    (ps : List Name) (body : Expr) (i : ℕ) (x y : Name) (xs : List Name) → an_expr body ≡ true → a_name y ≡ true → length ps ≤ 16 →
    length (expr_spelled body) ≤ 65536 → nth_name ps i ≡ x ∷ xs → distinct ps ≡ true →
    (distinct (put_name ps i y) && alike ps body (put_name ps i y) (renamed x y body)) ≡ (not (has (others ps i) y) && clear x y false false body)

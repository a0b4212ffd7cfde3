-- Putting what a let gives, or a function's expression, where it is used. Assumes nothing: these are definitions.
use Rattle.std.specs.Prelude.{ℕ, Bool, false, ◌&&◌, List, [], ◌∷◌, length, ◌==◌, nat_le, nat_lt}
use Rattle.language.specs.Basics.{pick, or, every, any, same}
use Rattle.language.specs.Bytes.{Name}
use Rattle.language.specs.Expr.{limit, Expr, num, var, bin, call, bind, choice, tell, Exprs, no_exprs, expr_and, Fun, exprs_in}
use Rattle.language.specs.Meaning.{fun_of}
use Rattle.language.specs.Names.{has, free}
use Rattle.model.specs.State.{Plain, Turn, no, put_in}
use Rattle.model.specs.Extract.{given_at}

-- what tells nothing, never goes wrong, and comes to the same wherever its names are given
unfoldable pub quiet : List Name → Expr → Bool
quiet xs (num n) = nat_lt n limit
quiet xs (var x) = has xs x
quiet xs (bin k a b) = or (k == 1) (nat_le 4 k) && (quiet xs a && quiet xs b)
quiet xs (call f es) = false
quiet xs (bind x a b) = false
quiet xs (choice c a b) = quiet xs c && (quiet xs a && quiet xs b)
quiet xs (tell a) = false

-- an expression in place of a name's uses; none if a name in it would mean something else there
abbrev pub both_of : List Expr → List Expr → (Expr → Expr → Expr) → List Expr
both_of [] bs f = []
both_of (a ∷ as₁) [] f = []
both_of (a ∷ as₁) (b ∷ bs) f = f a b ∷ []

abbrev pub and_exprs : List Expr → List Exprs → List Exprs
and_exprs [] bs = []
and_exprs (a ∷ as₁) [] = []
and_exprs (a ∷ as₁) (b ∷ bs) = expr_and a b ∷ []

abbrev pub call_of : Name → List Exprs → List Expr
call_of f [] = []
call_of f (es ∷ ess) = call f es ∷ []

abbrev pub tell_of : List Expr → List Expr
tell_of [] = []
tell_of (a ∷ as₁) = tell a ∷ []

abbrev pub cond_of : List Expr → List Expr → List Expr → List Expr
cond_of [] as₁ bs = []
cond_of (c ∷ cs) as₁ bs = both_of as₁ bs (λ a b. choice c a b)

unfoldable mutual
  pub put_for : Name → Expr → Expr → List Expr
  put_for x e (num n) = num n ∷ []
  put_for x e (var z) = pick (same x z) e (var z) ∷ []
  put_for x e (bin k a b) = both_of (put_for x e a) (put_for x e b) (λ c d. bin k c d)
  put_for x e (call f es) = call_of f (put_for_all x e es)
  put_for x e (bind z a b) =
      pick (same x z) (both_of (put_for x e a) (b ∷ []) (λ c d. bind z c d))
      (pick (has (free e) z && has (free b) x) [] (both_of (put_for x e a) (put_for x e b) (λ c d. bind z c d)))
  put_for x e (choice c a b) = cond_of (put_for x e c) (put_for x e a) (put_for x e b)
  put_for x e (tell a) = tell_of (put_for x e a)

  pub put_for_all : Name → Expr → Exprs → List Exprs
  put_for_all x e no_exprs = no_exprs ∷ []
  put_for_all x e (expr_and a es) = and_exprs (put_for x e a) (put_for_all x e es)

abbrev pub put_if : Plain → Fun → List ℕ → List Expr → Turn
put_if w f ks [] = no 5 w
put_if w f ks (e ∷ es) = put_in w f ks e

unfoldable pub bind_inlined : Plain → Fun → List ℕ → Expr → Turn
bind_inlined w f ks (num n) = no 6 w
bind_inlined w f ks (var x) = no 6 w
bind_inlined w f ks (bin k a b) = no 6 w
bind_inlined w f ks (call g es) = no 6 w
bind_inlined w f ks (bind x a b) = pick (quiet (given_at f.params f.body ks) a) (put_if w f ks (put_for x a b)) (no 5 w)
bind_inlined w f ks (choice c a b) = no 6 w
bind_inlined w f ks (tell a) = no 6 w

abbrev pub with_bind : Name → Expr → List Expr → List Expr
with_bind y a [] = []
with_bind y a (c ∷ cs) = bind y a c ∷ []

-- a call as binds: none if a later value has a name of an earlier one
unfoldable pub binds_of : List Name → List Expr → Expr → List Expr
binds_of [] es b = b ∷ []
binds_of (x ∷ xs) [] b = []
binds_of (x ∷ xs) (e ∷ es) b = pick (any (λ a. has (free a) x) es) [] (with_bind x e (binds_of xs es b))

unfoldable pub inlined_by : Plain → Fun → List ℕ → Exprs → List Fun → Turn
inlined_by w f ks es [] = no 5 w
inlined_by w f ks es (g ∷ gs) =
    pick (length (exprs_in es) == length g.params && every (has g.params) (free g.body))
    (put_if w f ks (binds_of g.params (exprs_in es) g.body)) (no 5 w)

unfoldable pub call_inlined : Plain → Fun → List ℕ → Expr → Turn
call_inlined w f ks (num n) = no 6 w
call_inlined w f ks (var x) = no 6 w
call_inlined w f ks (bin k a b) = no 6 w
call_inlined w f ks (call g es) = inlined_by w f ks es (fun_of w.now g)
call_inlined w f ks (bind x a b) = no 6 w
call_inlined w f ks (choice c a b) = no 6 w
call_inlined w f ks (tell a) = no 6 w

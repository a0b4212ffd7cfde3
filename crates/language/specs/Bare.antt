-- Expressions without names. Assumes nothing: these are definitions.
use Rattle.std.specs.Prelude.{ℕ, suc, Bool, List, [], ◌∷◌, ◌++◌}
use Rattle.language.specs.Basics.{pick, same}
use Rattle.language.specs.Bytes.{eight, with_length, Name}
use Rattle.language.specs.Expr.{Expr, num, var, bin, call, bind, choice, tell, Exprs, no_exprs, expr_and}

-- An expression without names: each name is how many binds lie between it and the one that gives it, or itself if none does.
-- Two expressions that are alike in this differ in nothing but the names that they choose for binds.
mutual
  pub data Bare : Type 0 where
    b_num : ℕ → Bare
    b_near : ℕ → Bare
    b_far : Name → Bare
    b_bin : ℕ → Bare → Bare → Bare
    b_call : Name → Bares → Bare
    b_bind : Bare → Bare → Bare
    b_choice : Bare → Bare → Bare → Bare
    b_tell : Bare → Bare

  pub data Bares : Type 0 where
    no_bares : Bares
    bare_and : Bare → Bares → Bares

unfoldable pub how_near : List Name → Name → ℕ → List ℕ
how_near [] x k = []
how_near (y ∷ ys) x k = pick (same y x) (k ∷ []) (how_near ys x (suc k))

unfoldable pub near_or_far : List ℕ → Name → Bare
near_or_far [] x = b_far x
near_or_far (k ∷ ks) x = b_near k

unfoldable mutual
  pub bare : List Name → Expr → Bare
  bare xs (num n) = b_num n
  bare xs (var x) = near_or_far (how_near xs x 0) x
  bare xs (bin k a b) = b_bin k (bare xs a) (bare xs b)
  bare xs (call f es) = b_call f (bare_all xs es)
  bare xs (bind x a b) = b_bind (bare xs a) (bare (x ∷ xs) b)
  bare xs (choice c a b) = b_choice (bare xs c) (bare xs a) (bare xs b)
  bare xs (tell a) = b_tell (bare xs a)

  pub bare_all : List Name → Exprs → Bares
  bare_all xs no_exprs = no_bares
  bare_all xs (expr_and e es) = bare_and (bare xs e) (bare_all xs es)

-- two are alike if they're spelled alike; numbers have eight bytes
abbrev pub name_spelled : Name → List ℕ
name_spelled x = with_length x

unfoldable mutual
  pub bare_spelled : Bare → List ℕ
  bare_spelled (b_num n) = 0 ∷ eight n
  bare_spelled (b_near n) = 1 ∷ eight n
  bare_spelled (b_far x) = 2 ∷ name_spelled x
  bare_spelled (b_bin k a b) = 3 ∷ k ∷ bare_spelled a ++ bare_spelled b
  bare_spelled (b_call f es) = 4 ∷ name_spelled f ++ bares_spelled es
  bare_spelled (b_bind a b) = 5 ∷ bare_spelled a ++ bare_spelled b
  bare_spelled (b_choice a b c) = 6 ∷ bare_spelled a ++ bare_spelled b ++ bare_spelled c
  bare_spelled (b_tell a) = 7 ∷ bare_spelled a

  pub bares_spelled : Bares → List ℕ
  bares_spelled no_bares = 8 ∷ []
  bares_spelled (bare_and b bs) = 9 ∷ bare_spelled b ++ bares_spelled bs

abbrev pub alike : List Name → Expr → List Name → Expr → Bool
alike xs e ys f = same (bare_spelled (bare xs e)) (bare_spelled (bare ys f))

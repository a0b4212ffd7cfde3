-- What a refactoring makes of what fits, fits: calls renamed, what is free, what is put for a name, and a call as lets. Each goes part by part.
-- Assumes nothing.
use Rattle.std.proofs.Common.{arith, ◌≡◌, ℕ, zero, suc, ◌≤◌, Bool, true, false, ◌&&◌, leb, List, [], ◌∷◌, ◌++◌, length, refl, ap, ◌∙◌}
use Rattle.std.proofs.lemmas.Bool.{and_parts, and_from}
use Rattle.language.specs.Basics.{pick, any, every, same}
use Rattle.language.specs.Bytes.{Name}
use Rattle.language.specs.Expr.{Expr, num, var, bin, call, bind, choice, tell, Exprs, no_exprs, expr_and, count_exprs}
use Rattle.language.specs.Names.{has, joined, less, free, free_all}
use Rattle.language.specs.Fits.{a_name, an_expr, all_exprs}
use Rattle.language.proofs.ListFacts.{every_append, every-those}
use Rattle.language.proofs.FitFacts.{bin_fit, bind_fit, choice_fit, call_fit, exprs_fit, fit_bin, fit_bind, fit_choice, fit_call, pick_true}
use Rattle.model.specs.Rename.{put_name}
use Rattle.model.specs.FunctionNames.{recalled, recalled_all}
use Rattle.model.specs.Extract.{vars}
use Rattle.model.specs.Inline.{both_of, and_exprs, call_of, tell_of, cond_of, put_for, put_for_all, with_bind, binds_of}
use Rattle.model.proofs.PutForRuns.{First, both_first}

-- own names with another in place of the ith
pub put_name_fit : (xs : List Name) (i : ℕ) (y : Name) → every a_name xs ≡ true → a_name y ≡ true → every a_name (put_name xs i y) ≡ true
unfolding put_name
put_name_fit [] i y h k = refl
put_name_fit (x ∷ xs) zero y h k = and_from _ _ k (and_parts _ _ h).1
put_name_fit (x ∷ xs) (suc i) y h k =
    let both = and_parts _ _ h in
    and_from _ _ both.0 (put_name_fit xs i y both.1 k)

recalled_count : (x y : Name) (es : Exprs) → count_exprs (recalled_all x y es) ≡ count_exprs es
unfolding count_exprs recalled_all
recalled_count x y no_exprs = refl
recalled_count x y (expr_and e es) = ap suc (recalled_count x y es)

-- calls of x made calls of y
mutual
  unfolding recalled recalled_all an_expr all_exprs

  pub recalled_fit : (e : Expr) (x y : Name) → a_name y ≡ true → an_expr e ≡ true → an_expr (recalled x y e) ≡ true
  recalled_fit (num n) x y fit_y h = h
  recalled_fit (var z) x y fit_y h = h
  recalled_fit (bin k a b) x y fit_y h =
      let was = bin_fit k a b h in
      fit_bin k (recalled x y a) (recalled x y b) was.0 (recalled_fit a x y fit_y was.1) (recalled_fit b x y fit_y was.2)
  recalled_fit (call f es) x y fit_y h =
      let was = call_fit f es h in
      fit_call (pick (same x f) y f) (recalled_all x y es) (pick_true a_name (same x f) y f fit_y was.0)
      (ap (λ n. leb n 16) (recalled_count x y es) ∙ was.1) (recalled_all_fit es x y fit_y was.2)
  recalled_fit (bind z a b) x y fit_y h =
      let was = bind_fit z a b h in
      fit_bind z (recalled x y a) (recalled x y b) was.0 (recalled_fit a x y fit_y was.1) (recalled_fit b x y fit_y was.2)
  recalled_fit (choice c a b) x y fit_y h =
      let was = choice_fit c a b h in
      fit_choice (recalled x y c) (recalled x y a) (recalled x y b) (recalled_fit c x y fit_y was.0) (recalled_fit a x y fit_y was.1)
      (recalled_fit b x y fit_y was.2)
  recalled_fit (tell a) x y fit_y h = recalled_fit a x y fit_y h

  recalled_all_fit : (es : Exprs) (x y : Name) → a_name y ≡ true → all_exprs es ≡ true → all_exprs (recalled_all x y es) ≡ true
  recalled_all_fit no_exprs x y fit_y h = refl
  recalled_all_fit (expr_and e es) x y fit_y h =
      let was = exprs_fit e es h in
      and_from _ _ (recalled_fit e x y fit_y was.0) (recalled_all_fit es x y fit_y was.1)

joined_fit : (xs ys : List Name) → every a_name xs ≡ true → every a_name ys ≡ true → every a_name (joined xs ys) ≡ true
unfolding joined
joined_fit xs [] h k = h
joined_fit xs (y ∷ ys) h k =
    let both = and_parts _ _ k in
    joined_fit (pick (has xs y) xs (xs ++ y ∷ [])) ys
    (pick_true (every a_name) (has xs y) xs (xs ++ y ∷ []) h (every_append a_name xs (y ∷ []) h (and_from _ _ both.0 refl))) both.1

-- names that are free in what fits
mutual
  unfolding free free_all an_expr all_exprs

  pub free_fit : (e : Expr) → an_expr e ≡ true → every a_name (free e) ≡ true
  free_fit (num n) h = refl
  free_fit (var x) h = and_from _ _ h refl
  free_fit (bin k a b) h = let was = bin_fit k a b h in joined_fit (free a) (free b) (free_fit a was.1) (free_fit b was.2)
  free_fit (call f es) h = free_all_fit es (call_fit f es h).2
  free_fit (bind x a b) h =
      let was = bind_fit x a b h in
      joined_fit (free a) (less x (free b)) (free_fit a was.1) (every-those a_name _ (free b) (free_fit b was.2))
  free_fit (choice c a b) h =
      let was = choice_fit c a b h in
      joined_fit (joined (free c) (free a)) (free b) (joined_fit (free c) (free a) (free_fit c was.0) (free_fit a was.1)) (free_fit b was.2)
  free_fit (tell a) h = free_fit a h

  free_all_fit : (es : Exprs) → all_exprs es ≡ true → every a_name (free_all es) ≡ true
  free_all_fit no_exprs h = refl
  free_all_fit (expr_and e es) h =
      let was = exprs_fit e es h in joined_fit (free e) (free_all es) (free_fit e was.0) (free_all_fit es was.1)

-- names as values of a call
vars_count : (xs : List Name) → count_exprs (vars xs) ≡ length xs
unfolding count_exprs vars
vars_count [] = refl
vars_count (x ∷ xs) = ap suc (vars_count xs)

vars_fit : (xs : List Name) → every a_name xs ≡ true → all_exprs (vars xs) ≡ true
unfolding vars all_exprs an_expr
vars_fit [] h = refl
vars_fit (x ∷ xs) h = let both = and_parts _ _ h in and_from _ _ both.0 (vars_fit xs both.1)

pub call_vars_fit : (f : Name) (xs : List Name) → a_name f ≡ true → length xs ≤ 16 → every a_name xs ≡ true → an_expr (call f (vars xs)) ≡ true
call_vars_fit f xs named few own = grind (arith, fit_call, vars_count, vars_fit)

abbrev pub Fit : Expr → Type 0
Fit e = an_expr e ≡ true

-- values that fit, as many as these
abbrev FitLike : Exprs → Exprs → Type 0
FitLike es ds = (all_exprs ds ≡ true) × (count_exprs ds ≡ count_exprs es)

call-first : (f : Name) (es : Exprs) (l : List Exprs) → Fit (call f es) → First (FitLike es) l → First Fit (call_of f l)
call-first f es [] h k = tt
call-first f es (ds ∷ dss) h k = let was = call_fit f es h in fit_call f ds was.0 (ap (λ n. leb n 16) k.1 ∙ was.1) k.0

tell-first : (l : List Expr) → First Fit l → First Fit (tell_of l)
unfolding an_expr
tell-first [] h = tt
tell-first (a ∷ as₁) h = h

choice-first : (l m n : List Expr) → First Fit l → First Fit m → First Fit n → First Fit (cond_of l m n)
choice-first [] m n h i j = tt
choice-first (c ∷ cs) m n h i j = both_first Fit Fit Fit (λ a b. choice c a b) (λ a b p q. fit_choice c a b h p q) m n i j

and_first : (e : Expr) (es : Exprs) (l : List Expr) (m : List Exprs) → First Fit l → First (FitLike es) m → First (FitLike (expr_and e es)) (and_exprs l m)
unfolding all_exprs count_exprs
and_first e es [] m h k = tt
and_first e es (a ∷ as₁) [] h k = tt
and_first e es (a ∷ as₁) (ds ∷ dss) h k = (and_from _ _ h k.0, ap suc k.1)

bind-first : (z : Name) → a_name z ≡ true → (l m : List Expr) → First Fit l → First Fit m → First Fit (both_of l m (λ c d. bind z c d))
bind-first z named l m h k = both_first Fit Fit Fit (λ c d. bind z c d) (λ c d p q. fit_bind z c d named p q) l m h k

pick_first : (t : Bool) (l m : List Expr) → First Fit l → First Fit m → First Fit (pick t l m)
pick_first true l m h k = h
pick_first false l m h k = k

-- an expression put for a name's uses
mutual
  unfolding put_for put_for_all all_exprs an_expr

  pub put_for_fit : (e : Expr) (x : Name) (a : Expr) → Fit a → Fit e → First Fit (put_for x a e)
  put_for_fit (num n) x a fit h = h
  put_for_fit (var z) x a fit h = pick_true an_expr (same x z) a (var z) fit h
  put_for_fit (bin k d e) x a fit h =
      let was = bin_fit k d e h in
      both_first Fit Fit Fit (λ b c. bin k b c) (λ b c p q. fit_bin k b c was.0 p q) (put_for x a d) (put_for x a e)
      (put_for_fit d x a fit was.1) (put_for_fit e x a fit was.2)
  put_for_fit (call f es) x a fit h = call-first f es (put_for_all x a es) h (put_all_fit es x a fit (call_fit f es h).2)
  put_for_fit (bind z d e) x a fit h =
      let was = bind_fit z d e h in
      let in_d = put_for_fit d x a fit was.1 in
      pick_first (same x z) _ _ (bind-first z was.0 (put_for x a d) (e ∷ []) in_d was.2)
      (pick_first (has (free a) z && has (free e) x) [] _ tt
      (bind-first z was.0 (put_for x a d) (put_for x a e) in_d (put_for_fit e x a fit was.2)))
  put_for_fit (choice c d e) x a fit h =
      let was = choice_fit c d e h in
      choice-first (put_for x a c) (put_for x a d) (put_for x a e) (put_for_fit c x a fit was.0) (put_for_fit d x a fit was.1)
      (put_for_fit e x a fit was.2)
  put_for_fit (tell d) x a fit h = tell-first (put_for x a d) (put_for_fit d x a fit h)

  put_all_fit : (es : Exprs) (x : Name) (a : Expr) → Fit a → all_exprs es ≡ true → First (FitLike es) (put_for_all x a es)
  put_all_fit no_exprs x a fit h = (refl, refl)
  put_all_fit (expr_and e es) x a fit h =
      let was = exprs_fit e es h in
      and_first e es (put_for x a e) (put_for_all x a es) (put_for_fit e x a fit was.0) (put_all_fit es x a fit was.1)

-- a call as lets
pub lets_fit : (xs : List Name) (es : List Expr) (b : Expr) → every a_name xs ≡ true → every an_expr es ≡ true → Fit b → First Fit (binds_of xs es b)
unfolding binds_of
lets_fit [] es b named fit h = h
lets_fit (x ∷ xs) [] b named fit h = tt
lets_fit (x ∷ xs) (e ∷ es) b named fit h =
    pick_first (any (λ a. has (free a) x) es) [] (with_bind x e (binds_of xs es b)) tt
    (go (binds_of xs es b) (lets_fit xs es b names_fit.1 values_fit.1 h))
  where
    names_fit : (a_name x ≡ true) × (every a_name xs ≡ true)
    names_fit = and_parts _ _ named

    values_fit : (an_expr e ≡ true) × (every an_expr es ≡ true)
    values_fit = and_parts _ _ fit

    go : (l : List Expr) → First Fit l → First Fit (with_bind x e l)
    go [] h = tt
    go (c ∷ cs) h = fit_bind x e c names_fit.0 values_fit.0 h

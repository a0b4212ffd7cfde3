-- What a renaming makes fits, and has as many own names; a function put in place of one with the same bare form
-- leaves the program's bare form as it was. Assumes nothing.
use Rattle.std.proofs.Common.{◌≡◌, ℕ, zero, suc, ◌+◌, ◌*◌, ◌≤◌, Bool, true, false, not, leb, List, [], ◌∷◌, length, sym, refl, ap, ◌∙◌, ap₂, arith}
use Rattle.std.proofs.lemmas.Bool.{and_parts, and_from, not-true}
use Rattle.language.specs.Basics.{pick, each, same}
use Rattle.language.specs.Bytes.{Name}
use Rattle.language.specs.Expr.{Expr, num, var, bin, call, bind, choice, tell, Exprs, no_exprs, expr_and, Fun, Program, count_exprs}
use Rattle.language.specs.Meaning.{fun_of}
use Rattle.language.specs.Names.{has, distinct}
use Rattle.language.specs.Spelling.{expr_spelled, exprs_spelled}
use Rattle.language.specs.Fits.{a_name, an_expr, all_exprs}
use Rattle.language.proofs.NameFacts.{same_eq}
use Rattle.language.proofs.BareRuns.{bare_fun}
use Rattle.language.proofs.ChangeLaws.{changed_none}
use Rattle.language.proofs.FitFacts.{bin_fit, bind_fit, choice_fit, call_fit, exprs_fit, fit_bin, fit_bind, fit_choice, fit_call, pick_true, num-long, var-long, bin-long, call_long, bind-long, choice-long, tell-long, exprs_long}
use Rattle.model.specs.State.{set_fun}
use Rattle.model.specs.Rename.{renamed, renamed_all, put_name}

abbrev pub names_of : Program → List Name
names_of p = each (λ f. f.name) p

pub set-bare : (p : Program) (x : Name) (f : Fun) (fs : List Fun) (g : Fun) → distinct (names_of p) ≡ true → fun_of p x ≡ f ∷ fs →
    bare_fun g ≡ bare_fun f → each bare_fun (set_fun p x g) ≡ each bare_fun p
unfolding fun_of distinct
set-bare [] x f fs g d h e = refl
set-bare (k ∷ ks) x f fs g d h e = go (same k.name x) refl h (λ found. set-bare ks x f fs g apart.1 found e)
  where
    apart : (not (has (names_of ks) k.name) ≡ true) × (distinct (names_of ks) ≡ true)
    apart = and_parts _ _ d

    go : (t : Bool) → same k.name x ≡ t → pick t (k ∷ []) (fun_of ks x) ≡ f ∷ fs →
        (fun_of ks x ≡ f ∷ fs → each bare_fun (set_fun ks x g) ≡ each bare_fun ks) →
        bare_fun (pick t g k) ∷ each bare_fun (set_fun ks x g) ≡ bare_fun k ∷ each bare_fun ks
    go true s h ih =
        let first : k ≡ f = cc in
        ap₂ ◌∷◌ (e ∙ ap bare_fun (sym first))
        (ap (each bare_fun) (changed_none ks x g (ap (has (names_of ks)) (sym (same_eq k.name x s)) ∙ not-true _ apart.0)))
    go false s h ih = ap (◌∷◌ (bare_fun k)) (ih h)

renamed_count : (x y : Name) (es : Exprs) → count_exprs (renamed_all x y es) ≡ count_exprs es
unfolding count_exprs renamed_all
renamed_count x y no_exprs = refl
renamed_count x y (expr_and e es) = ap suc (renamed_count x y es)

mutual
  unfolding renamed renamed_all an_expr all_exprs

  pub renamed_fit : (e : Expr) (x y : Name) → a_name y ≡ true → an_expr e ≡ true → an_expr (renamed x y e) ≡ true
  renamed_fit (num n) x y fit_y h = h
  renamed_fit (var z) x y fit_y h = pick_true a_name (same x z) y z fit_y h
  renamed_fit (bin k a b) x y fit_y h =
      let was = bin_fit k a b h in
      fit_bin k (renamed x y a) (renamed x y b) was.0 (renamed_fit a x y fit_y was.1) (renamed_fit b x y fit_y was.2)
  renamed_fit (call f es) x y fit_y h =
      let was = call_fit f es h in
      fit_call f (renamed_all x y es) was.0 (ap (λ n. leb n 16) (renamed_count x y es) ∙ was.1) (renamed_all_fit es x y fit_y was.2)
  renamed_fit (bind z a b) x y fit_y h =
      let was = bind_fit z a b h in
      fit_bind z (renamed x y a) (pick (same x z) b (renamed x y b)) was.0 (renamed_fit a x y fit_y was.1)
      (pick_true an_expr (same x z) b (renamed x y b) was.2 (renamed_fit b x y fit_y was.2))
  renamed_fit (choice c a b) x y fit_y h =
      let was = choice_fit c a b h in
      fit_choice (renamed x y c) (renamed x y a) (renamed x y b) (renamed_fit c x y fit_y was.0) (renamed_fit a x y fit_y was.1)
      (renamed_fit b x y fit_y was.2)
  renamed_fit (tell a) x y fit_y h = renamed_fit a x y fit_y h

  renamed_all_fit : (es : Exprs) (x y : Name) → a_name y ≡ true → all_exprs es ≡ true → all_exprs (renamed_all x y es) ≡ true
  renamed_all_fit no_exprs x y fit_y h = refl
  renamed_all_fit (expr_and e es) x y fit_y h =
      let was = exprs_fit e es h in
      and_from _ _ (renamed_fit e x y fit_y was.0) (renamed_all_fit es x y fit_y was.1)

pub put_name-long : (xs : List Name) (i : ℕ) (y : Name) → length (put_name xs i y) ≡ length xs
unfolding put_name
put_name-long [] i y = refl
put_name-long (x ∷ xs) zero y = refl
put_name-long (x ∷ xs) (suc i) y = ap suc (put_name-long xs i y)

pick-long : (t : Bool) (y z : Name) → length y ≤ 32 → length (pick t y z) ≤ length z + 32
pick-long true y z h = omega arith
pick-long false y z h = omega arith

-- a name of at most 32 bytes in place of one of any length
mutual
  unfolding renamed renamed_all exprs_spelled

  pub renamed-long : (e : Expr) (x y : Name) → length y ≤ 32 → length (expr_spelled (renamed x y e)) ≤ 41 * length (expr_spelled e)
  renamed-long (num n) x y h = omega (arith, num-long n)
  renamed-long (var z) x y h = omega (arith, var-long z, var-long (pick (same x z) y z), pick-long (same x z) y z h)
  renamed-long (bin k a b) x y h =
      omega (arith, bin-long k a b, bin-long k (renamed x y a) (renamed x y b), renamed-long a x y h, renamed-long b x y h)
  renamed-long (call f es) x y h = omega (arith, call_long f es, call_long f (renamed_all x y es), renamed_all-long es x y h)
  renamed-long (bind z a b) x y h = grind (arith, bind-long, renamed-long b x y h, renamed-long a x y h)
  renamed-long (choice c a b) x y h =
      omega (
        arith,
        choice-long c a b,
        choice-long (renamed x y c) (renamed x y a) (renamed x y b),
        renamed-long c x y h,
        renamed-long a x y h,
        renamed-long b x y h,
      )
  renamed-long (tell a) x y h = omega (arith, tell-long a, tell-long (renamed x y a), renamed-long a x y h)

  renamed_all-long : (es : Exprs) (x y : Name) → length y ≤ 32 → length (exprs_spelled (renamed_all x y es)) ≤ 41 * length (exprs_spelled es)
  renamed_all-long no_exprs x y h = omega arith
  renamed_all-long (expr_and e es) x y h =
      omega (arith, exprs_long e es, exprs_long (renamed x y e) (renamed_all x y es), renamed-long e x y h, renamed_all-long es x y h)

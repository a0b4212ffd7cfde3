-- A bare spelling can be read again, so expressions that fit and are alike have the same bare form.
-- The numbers in a bare form have eight bytes, so all of them have to be below 2^64: in a bare form of what fits they are. Assumes nothing.
use Rattle.std.proofs.Common.{◌≡◌, ℕ, zero, suc, ◌+◌, ◌*◌, ◌<◌, ◌≤◌, true, eqb, List, [], ◌∷◌, ◌++◌, length, refl, ap, arith, length-append, ltb-true}
use Rattle.language.specs.Basics.{pick}
use Rattle.language.specs.Bytes.{eight, with_length, Name}
use Rattle.language.specs.Expr.{Expr, num, var, bin, call, bind, choice, tell, Exprs, no_exprs, expr_and}
use Rattle.language.specs.Bare.{Bare, b_num, b_near, b_far, b_bin, b_call, b_bind, b_choice, b_tell, Bares, no_bares, bare_and, how_near, near_or_far, bare, bare_all, bare_spelled, bares_spelled, alike}
use Rattle.language.specs.Spelling.{expr_spelled, exprs_spelled}
use Rattle.language.specs.Fits.{a_name, an_expr, all_exprs}
use Rattle.language.proofs.NameFacts.{same_refl, same_eq}
use Rattle.language.proofs.NearFacts.{near_below}
use Rattle.language.proofs.HeadFacts.{name_short}
use Rattle.language.proofs.FitFacts.{bin_fit, bind_fit, choice_fit, call_fit, exprs_fit, var-long, bin-long, call_long, bind-long, choice-long, tell-long, exprs_long}
use Rattle.language.proofs.Readers.{got, Reader, Spells, spells_once, one_read, both_read, by_tag, one_spells, both_spells, read_eight, eight_spells, read_name, name_spells}

abbrev Below-2^64 : ℕ → Type 0
Below-2^64 n = n < 18446744073709551616

-- every number in it has eight bytes
mutual
  Readable : Bare → Type 0
  Readable (b_num n) = Below-2^64 n
  Readable (b_near n) = Below-2^64 n
  Readable (b_far x) = Below-2^64 (length x)
  Readable (b_bin k a b) = Readable a × Readable b
  Readable (b_call f bs) = Below-2^64 (length f) × AllReadable bs
  Readable (b_bind a b) = Readable a × Readable b
  Readable (b_choice c a b) = Readable c × Readable a × Readable b
  Readable (b_tell a) = Readable a

  AllReadable : Bares → Type 0
  AllReadable no_bares = Unit {0}
  AllReadable (bare_and b bs) = Readable b × AllReadable bs

abbrev choice_of : Bare → Bare → Bare → Bare
choice_of c a = λ b. b_choice c a b

bare-by_tag : Reader Bare → Reader Bares → ℕ → Reader Bare
bare-by_tag r rs zero = one_read read_eight b_num
bare-by_tag r rs (suc zero) = one_read read_eight b_near
bare-by_tag r rs (suc (suc zero)) = one_read read_name b_far
bare-by_tag r rs (suc (suc (suc zero))) = by_tag (b_num 0) (λ k. both_read r r (b_bin k))
bare-by_tag r rs (suc (suc (suc (suc zero)))) = both_read read_name rs b_call
bare-by_tag r rs (suc (suc (suc (suc (suc zero))))) = both_read r r b_bind
bare-by_tag r rs (suc (suc (suc (suc (suc (suc zero)))))) = both_read (both_read r r choice_of) r (λ f b. f b)
bare-by_tag r rs (suc (suc (suc (suc (suc (suc (suc t))))))) = one_read r b_tell

bares_by_tag : Reader Bare → Reader Bares → ℕ → Reader Bares
bares_by_tag r rs t = pick (eqb t 8) (got no_bares) (both_read r rs bare_and)

-- the number bounds how deep it goes
mutual
  read_bare : ℕ → Reader Bare
  read_bare zero = got (b_num 0)
  read_bare (suc n) = by_tag (b_num 0) (bare-by_tag (read_bare n) (read_bares n))

  read_bares : ℕ → Reader Bares
  read_bares zero = got no_bares
  read_bares (suc n) = by_tag no_bares (bares_by_tag (read_bare n) (read_bares n))

bare_pos : (b : Bare) → 1 ≤ length (bare_spelled b)
unfolding bare_spelled
bare_pos (b_num n) = omega arith
bare_pos (b_near n) = omega arith
bare_pos (b_far x) = omega arith
bare_pos (b_bin k a b) = omega arith
bare_pos (b_call f bs) = omega arith
bare_pos (b_bind a b) = omega arith
bare_pos (b_choice c a b) = omega arith
bare_pos (b_tell a) = omega arith

bares_pos : (bs : Bares) → 1 ≤ length (bares_spelled bs)
unfolding bares_spelled
bares_pos no_bares = omega arith
bares_pos (bare_and b bs) = omega arith

-- the parts of a spelling are shorter than the whole
shorter : (u v : List ℕ) (n : ℕ) → length (u ++ v) ≤ n → (length u ≤ n) × (length v ≤ n)
shorter u v n h = omega (arith, length-append u v)

mutual
  unfolding Readable AllReadable bare_spelled bares_spelled read_bare read_bares bare-by_tag bares_by_tag

  bare_spells : (n : ℕ) (b : Bare) → length (bare_spelled b) ≤ n → Readable b → Spells (read_bare n) (bare_spelled b) b
  bare_spells zero b h ok = absurd (omega (arith, bare_pos b))
  bare_spells (suc n) (b_num m) h ok = one_spells read_eight b_num (eight m) m (eight_spells m ok)
  bare_spells (suc n) (b_near m) h ok = one_spells read_eight b_near (eight m) m (eight_spells m ok)
  bare_spells (suc n) (b_far x) h ok = one_spells read_name b_far (with_length x) x (name_spells x ok)
  bare_spells (suc n) (b_bin k a b) h ok =
      let short = shorter (bare_spelled a) (bare_spelled b) n (omega arith) in
      both_spells (read_bare n) (read_bare n) (b_bin k) (bare_spelled a) (bare_spelled b) a b
      (bare_spells n a short.0 ok.0) (bare_spells n b short.1 ok.1)
  bare_spells (suc n) (b_call f bs) h ok =
      let short = shorter (with_length f) (bares_spelled bs) n (omega arith) in
      both_spells read_name (read_bares n) b_call (with_length f) (bares_spelled bs) f bs (name_spells f ok.0) (bares_spell n bs short.1 ok.1)
  bare_spells (suc n) (b_bind a b) h ok =
      let short = shorter (bare_spelled a) (bare_spelled b) n (omega arith) in
      both_spells (read_bare n) (read_bare n) b_bind (bare_spelled a) (bare_spelled b) a b
      (bare_spells n a short.0 ok.0) (bare_spells n b short.1 ok.1)
  bare_spells (suc n) (b_choice c a b) h ok =
      let short = shorter (bare_spelled c ++ bare_spelled a) (bare_spelled b) n (omega arith) in
      let shorter_still = shorter (bare_spelled c) (bare_spelled a) n short.0 in
      both_spells (both_read (read_bare n) (read_bare n) choice_of) (read_bare n) (λ f d. f d) (bare_spelled c ++ bare_spelled a) (bare_spelled b)
      (choice_of c a) b
      (both_spells (read_bare n) (read_bare n) choice_of (bare_spelled c) (bare_spelled a) c a
      (bare_spells n c shorter_still.0 ok.0) (bare_spells n a shorter_still.1 ok.1))
      (bare_spells n b short.1 ok.2)
  bare_spells (suc n) (b_tell a) h ok = one_spells (read_bare n) b_tell (bare_spelled a) a (bare_spells n a (omega arith) ok)

  bares_spell : (n : ℕ) (bs : Bares) → length (bares_spelled bs) ≤ n → AllReadable bs → Spells (read_bares n) (bares_spelled bs) bs
  bares_spell zero bs h ok = absurd (omega (arith, bares_pos bs))
  bares_spell (suc n) no_bares h ok = λ w. refl
  bares_spell (suc n) (bare_and b bs) h ok =
      let short = shorter (bare_spelled b) (bares_spelled bs) n (omega arith) in
      both_spells (read_bare n) (read_bares n) bare_and (bare_spelled b) (bares_spelled bs) b bs
      (bare_spells n b short.0 ok.0) (bares_spell n bs short.1 ok.1)

bare_once : (b c : Bare) → Readable b → Readable c → bare_spelled b ≡ bare_spelled c → b ≡ c
bare_once b c ok_b ok-c h =
    let n = length (bare_spelled b) in
    spells_once (read_bare n) (bare_spelled b) (bare_spelled c) b c
    (bare_spells n b (omega arith) ok_b) (bare_spells n c (omega (arith, ap length h)) ok-c) h

name_readable : (x : Name) → a_name x ≡ true → Below-2^64 (length x)
name_readable x h = omega (arith, name_short x h)

var_readable : (xs : List Name) (x : Name) → a_name x ≡ true → Below-2^64 (length xs) → Readable (near_or_far (how_near xs x 0) x)
unfolding near_or_far Readable
var_readable xs x fit h = go (how_near xs x 0) refl
  where
    go : (ks : List ℕ) → how_near xs x 0 ≡ ks → Readable (near_or_far ks x)
    go [] e = name_readable x fit
    go (k ∷ ks) e = omega (arith, near_below xs x 0 k ks e)

-- Every bind around a name takes ten bytes, so there are fewer binds than bytes.
mutual
  unfolding Readable AllReadable bare bare_all an_expr

  fit_readable : (e : Expr) (xs : List Name) → an_expr e ≡ true → 2 * length xs + length (expr_spelled e) < 18446744073709551648 → Readable (bare xs e)
  fit_readable (num n) xs fit h = omega (arith, ltb-true _ _ fit)
  fit_readable (var x) xs fit h = var_readable xs x fit (omega (arith, var-long x))
  fit_readable (bin k a b) xs fit h =
      let parts_fit = bin_fit k a b fit in
      (fit_readable a xs parts_fit.1 (omega (arith, bin-long k a b)), fit_readable b xs parts_fit.2 (omega (arith, bin-long k a b)))
  fit_readable (call f es) xs fit h =
      let parts_fit = call_fit f es fit in
      (name_readable f parts_fit.0, all_fit_readable es xs parts_fit.2 (omega (arith, call_long f es)))
  fit_readable (bind x a b) xs fit h =
      let parts_fit = bind_fit x a b fit in
      (fit_readable a xs parts_fit.1 (omega (arith, bind-long x a b)), fit_readable b (x ∷ xs) parts_fit.2 (omega (arith, bind-long x a b)))
  fit_readable (choice c a b) xs fit h =
      let parts_fit = choice_fit c a b fit in (
        fit_readable c xs parts_fit.0 (omega (arith, choice-long c a b)),
        fit_readable a xs parts_fit.1 (omega (arith, choice-long c a b)),
        fit_readable b xs parts_fit.2 (omega (arith, choice-long c a b)),
      )
  fit_readable (tell a) xs fit h = fit_readable a xs fit (omega (arith, tell-long a))

  all_fit_readable : (es : Exprs) (xs : List Name) → all_exprs es ≡ true → 2 * length xs + length (exprs_spelled es) < 18446744073709551648 →
      AllReadable (bare_all xs es)
  all_fit_readable no_exprs xs fit h = tt
  all_fit_readable (expr_and e es) xs fit h =
      let parts_fit = exprs_fit e es fit in
      (fit_readable e xs parts_fit.0 (omega (arith, exprs_long e es)), all_fit_readable es xs parts_fit.1 (omega (arith, exprs_long e es)))

pub alike-bare : (xs ys : List Name) (a b : Expr) → an_expr a ≡ true → an_expr b ≡ true → length xs ≤ 16 → length ys ≤ 16 →
    length (expr_spelled a) < 18446744073709551616 → length (expr_spelled b) < 18446744073709551616 → alike xs a ys b ≡ true → bare xs a ≡ bare ys b
alike-bare xs ys a b fit-a fit-b few-xs few-ys short-a short-b h = grind (arith, bare_once, fit_readable, same_eq)

pub bare_alike : (xs ys : List Name) (a b : Expr) → bare xs a ≡ bare ys b → alike xs a ys b ≡ true
bare_alike xs ys a b h = grind (arith, same_refl)

-- Names, functions and programs are read where they stand, and what is read stands there. Assumes nothing.
use Rattle.std.proofs.Common.{◌≡◌, ℕ, zero, suc, ◌+◌, ◌<◌, ◌≤◌, Bool, true, ◌&&◌, eqb, leb, List, [], ◌∷◌, ◌++◌, length, drop, Some, None, Option, sym, refl, ap, ◌∙◌, subst, add-zero, arith, eq-eqb, eqb-true, leb-true}
use borrow.Author.Tests.{clash}
use Rattle.std.specs.List.{between}
use Rattle.std.proofs.lemmas.List.{append_assoc, append-nil, length-append, drop_all}
use Rattle.std.proofs.lemmas.Bool.{and_parts, and_from}
use Rattle.language.specs.Basics.{pick, every, flat}
use Rattle.language.specs.Bytes.{Name, eight, with_length, all_bytes}
use Rattle.language.specs.Expr.{Expr, Fun, Program}
use Rattle.language.specs.Spelling.{expr_spelled, fun_spelled, program_spelled}
use Rattle.language.specs.Fits.{a_name, an_expr, a_fun, a_program}
use Rattle.language.specs.Reading.{found, times, number_at, name_end, expr_end, params_end, fun_end, ends_at, funs_fill, is_program}
use Rattle.language.proofs.ReadingFacts.{times-done, times_more, found_some, pick-found}
use Rattle.language.proofs.StandsFacts.{Stands, stands-first, stands-second, stands_join, length-eight, number_stands, number_there}
use Rattle.language.proofs.HeadFacts.{length_with, name-stands, name_there}
use Rattle.language.proofs.ProgramFits.{program_fits}
use Rattle.language.proofs.ExprFacts.{ends_stand, ExprsThere, ends_there}

-- something that fits stands there, and ends there
pub record There {A : Type 0} (bs : List ℕ) (spell : A → List ℕ) (ok : A → Bool) (i j : ℕ) : Type 0 where
  pub it : A
  pub fits : ok it ≡ true
  pub stands : Stands bs i (spell it)
  pub end : j ≡ i + length (spell it)

-- a step reads what is spelled so and fits, and nothing else
pub record Reads {A : Type 0} (bs : List ℕ) (step : ℕ → Option ℕ) (spell : A → List ℕ) (ok : A → Bool) : Type 0 where
  pub read : (i : ℕ) (a : A) → ok a ≡ true → Stands bs i (spell a) → step i ≡ Some (i + length (spell a))
  pub was : (i j : ℕ) → step i ≡ Some j → There bs spell ok i j

-- so many that fit
abbrev pub all_of : {A : Type 0} → (A → Bool) → ℕ → List A → Bool
all_of ok n as₁ = every ok as₁ && eqb (length as₁) n

module _ {A : Type 0} (bs : List ℕ) (step : ℕ → Option ℕ) (spell : A → List ℕ) (ok : A → Bool) (r : Reads bs step spell ok) where
  times_read : (n i : ℕ) (as₁ : List A) → every ok as₁ ≡ true → length as₁ ≡ n → Stands bs i (flat spell as₁) → times n step i ≡ Some (i + length (flat spell as₁))
  times_read n i [] fit l s = times-done step i n (sym l) ∙ ap Some (sym (add-zero i))
  times_read n i (a ∷ as₁) fit l s =
      let q = and_parts _ _ fit in
      times_more step i (i + length (spell a)) n (length as₁) (sym l) (r.read i a q.0 (stands-first bs i (spell a) (flat spell as₁) s))
      ∙ times_read (length as₁) (i + length (spell a)) as₁ q.1 refl (stands-second bs i (spell a) (flat spell as₁) s)
      ∙ ap Some (omega (arith, length-append (spell a) (flat spell as₁)))

  times_was : (n i j : ℕ) → times n step i ≡ Some j → There bs (flat spell) (all_of ok n) i j
  unfolding times
  times_was zero i j e =
      let is : i ≡ j = cc in
      record { it = []; fits = refl; stands = ap (λ k. drop k bs) (sym (add-zero i)); end = omega arith }
  times_was (suc n) i j e =
      let got = found_some (step i) (λ k. times n step k) j e in
      let one = r.was i got.0 got.1 in
      let rest = times_was n got.0 j got.2 in
      let q = and_parts _ _ rest.fits in
      record {
        it = one.it ∷ rest.it;
        fits = and_from _ _ (and_from (ok one.it) (every ok rest.it) one.fits q.0) (eq-eqb _ _ (ap suc (eqb-true _ _ q.1)));
        stands = stands_join bs i (spell one.it) (flat spell rest.it) one.stands (subst (λ k. Stands bs k (flat spell rest.it)) one.end rest.stands);
        end = omega (arith, rest.end, one.end, length-append (spell one.it) (flat spell rest.it));
      }

  pub times_reads : (n : ℕ) → Reads bs (times n step) (flat spell) (all_of ok n)
  times_reads n =
      record {
        read = λ i as₁ h s. let q = and_parts _ _ h in times_read n i as₁ q.0 (eqb-true _ _ q.1) s;
        was = times_was n;
      }

-- one thing and then another
module _ {A B : Type 0} (bs : List ℕ) (f g : ℕ → Option ℕ) (spell_a : A → List ℕ) (spell_b : B → List ℕ) (ok_a : A → Bool) (ok_b : B → Bool)
    (r : Reads bs f spell_a ok_a) (s : Reads bs g spell_b ok_b) where
  both_read : (i : ℕ) (p : A × B) → (ok_a p.0 && ok_b p.1) ≡ true → Stands bs i (spell_a p.0 ++ spell_b p.1) →
      found (f i) g ≡ Some (i + length (spell_a p.0 ++ spell_b p.1))
  both_read i p fit h =
      let q = and_parts _ _ fit in
      ap (λ o. found o g) (r.read i p.0 q.0 (stands-first bs i (spell_a p.0) (spell_b p.1) h))
      ∙ s.read (i + length (spell_a p.0)) p.1 q.1 (stands-second bs i (spell_a p.0) (spell_b p.1) h)
      ∙ ap Some (omega (arith, length-append (spell_a p.0) (spell_b p.1)))

  both_was : (i j : ℕ) → found (f i) g ≡ Some j → There bs (λ (p : A × B). spell_a p.0 ++ spell_b p.1) (λ p. ok_a p.0 && ok_b p.1) i j
  both_was i j e =
      let got = found_some (f i) g j e in
      let a = r.was i got.0 got.1 in
      let b = s.was got.0 j got.2 in
      record {
        it = (a.it, b.it);
        fits = and_from _ _ a.fits b.fits;
        stands = stands_join bs i (spell_a a.it) (spell_b b.it) a.stands (subst (λ k. Stands bs k (spell_b b.it)) a.end b.stands);
        end = omega (arith, b.end, a.end, length-append (spell_a a.it) (spell_b b.it));
      }

  pub both_reads : Reads bs (λ i. found (f i) g) (λ (p : A × B). spell_a p.0 ++ spell_b p.1) (λ p. ok_a p.0 && ok_b p.1)
  both_reads = record { read = both_read; was = both_was }

module _ (bs : List ℕ) (bytes : all_bytes bs ≡ true) where
  pub name_reads : Reads bs (name_end bs) with_length a_name
  name_reads =
      record {
        read = λ i x h s. name-stands bs i x h s ∙ ap Some (omega (arith, length_with x));
        was = λ i j e. let n = name_there bs i j bytes e in record { it = between (i + 8) j bs; fits = n.fits; stands = n.stands; end = n.end };
      }

  one_expr : (i j : ℕ) → ExprsThere bs i 1 j → There bs expr_spelled an_expr i j
  one_expr i j r = go r.exprs r.count r.fit r.stands r.end
    where
      go : (es : List Expr) → length es ≡ 1 → every an_expr es ≡ true → Stands bs i (flat expr_spelled es) → j ≡ i + length (flat expr_spelled es) → There bs expr_spelled an_expr i j
      go [] l f s e = absurd (omega arith)
      go (x ∷ []) l f s e =
          record { it = x; fits = (and_parts _ _ f).0; stands = subst (Stands bs i) (append-nil (expr_spelled x)) s; end = e ∙ ap (λ r. i + length r) (append-nil (expr_spelled x)) }
      go (x ∷ y ∷ es) l f s e = absurd (omega arith)

  pub expr_reads : Reads bs (expr_end bs) expr_spelled an_expr
  expr_reads =
      record {
        read = λ i e h s.
            ends_stand (length bs) bs i (e ∷ []) (and_from _ _ h refl) (subst (Stands bs i) (sym (append-nil (expr_spelled e))) s) (omega arith)
            ∙ ap (λ r. Some (i + length r)) (append-nil (expr_spelled e));
        was = λ i j e. one_expr i j (ends_there (length bs) 1 bs i j bytes e);
      }

abbrev pub params_spelled : List Name → List ℕ
params_spelled xs = eight (length xs) ++ flat with_length xs

abbrev pub some_params : List Name → Bool
some_params xs = leb (length xs) 16 && every a_name xs

module _ (bs : List ℕ) (bytes : all_bytes bs ≡ true) where
  names_read : (n : ℕ) → Reads bs (times n (name_end bs)) (flat with_length) (all_of a_name n)
  names_read n = times_reads bs (name_end bs) with_length a_name (name_reads bs bytes) n

  params_read : (i : ℕ) (xs : List Name) → some_params xs ≡ true → Stands bs i (params_spelled xs) → params_end bs i ≡ Some (i + length (params_spelled xs))
  params_read i xs fit s =
      let q = and_parts _ _ fit in
      let few : length xs ≤ 16 = leb-true _ _ q.0 in
      ap (λ o. found o (λ k. pick (leb k 16) (times k (name_end bs) (i + 8)) None))
      (number_stands bs i (length xs) (omega arith) (stands-first bs i (eight (length xs)) (flat with_length xs) s))
      ∙ ap (λ t. pick t (times (length xs) (name_end bs) (i + 8)) None) q.0
      ∙ (names_read (length xs)).read (i + 8) xs (and_from _ _ q.1 (eq-eqb (length xs) (length xs) refl))
      (subst (λ k. Stands bs k (flat with_length xs)) (omega (arith, length-eight (length xs))) (stands-second bs i (eight (length xs)) (flat with_length xs) s))
      ∙ ap Some (omega (arith, length-eight (length xs), length-append (eight (length xs)) (flat with_length xs)))

  params_was : (i j : ℕ) → params_end bs i ≡ Some j → There bs params_spelled some_params i j
  params_was i j e =
      let got = found_some (number_at bs i) (λ k. pick (leb k 16) (times k (name_end bs) (i + 8)) None) j e in
      let k = got.0 in
      let few = pick-found (leb k 16) (times k (name_end bs) (i + 8)) j got.2 in
      let n = number_there bs i k bytes got.1 in
      let r = (names_read k).was (i + 8) j few.1 in
      let q = and_parts _ _ r.fits in
      let is : length r.it ≡ k = eqb-true _ _ q.1 in
      record {
        it = r.it;
        fits = and_from _ _ (ap (λ m. leb m 16) is ∙ few.0) q.0;
        stands = stands_join bs i (eight (length r.it)) (flat with_length r.it) (subst (λ m. Stands bs i (eight m)) (sym is) n.stands)
            (subst (λ m. Stands bs m (flat with_length r.it)) (omega (arith, length-eight (length r.it))) r.stands);
        end = omega (arith, r.end, length-eight (length r.it), length-append (eight (length r.it)) (flat with_length r.it));
      }

  pub params_reads : Reads bs (params_end bs) params_spelled some_params
  params_reads = record { read = params_read; was = params_was }

-- a function: its name, its own names, its expression
pub fun-parts : (f : Fun) → fun_spelled f ≡ with_length f.name ++ (params_spelled f.params ++ expr_spelled f.body)
fun-parts f = simp append_assoc

pub fun-long : (f : Fun) → 0 < length (fun_spelled f)
fun-long f = grind (arith, length-append, length_with)

module _ (bs : List ℕ) (bytes : all_bytes bs ≡ true) where
  three_read : Reads bs (fun_end bs) (λ (p : Name × (List Name × Expr)). with_length p.0 ++ (params_spelled p.1.0 ++ expr_spelled p.1.1))
      (λ p. a_name p.0 && (some_params p.1.0 && an_expr p.1.1))
  three_read =
      both_reads bs (name_end bs) _ with_length _ a_name _ (name_reads bs bytes)
      (both_reads bs (params_end bs) (expr_end bs) params_spelled expr_spelled some_params an_expr (params_reads bs bytes) (expr_reads bs bytes))

  fun_read : (i : ℕ) (f : Fun) → a_fun f ≡ true → Stands bs i (fun_spelled f) → fun_end bs i ≡ Some (i + length (fun_spelled f))
  fun_read i f fit s =
      let q = and_parts (a_name f.name && some_params f.params) (an_expr f.body) fit in
      let r = and_parts (a_name f.name) (some_params f.params) q.0 in
      three_read.read i (f.name, (f.params, f.body)) (and_from _ _ r.0 (and_from _ _ r.1 q.1)) (subst (Stands bs i) (fun-parts f) s)
      ∙ ap (λ l. Some (i + length l)) (sym (fun-parts f))

  fun_was : (i j : ℕ) → fun_end bs i ≡ Some j → There bs fun_spelled a_fun i j
  fun_was i j e =
      let r = three_read.was i j e in
      let f : Fun = record { name = r.it.0; params = r.it.1.0; body = r.it.1.1 } in
      let q = and_parts _ _ r.fits in
      let p = and_parts _ _ q.1 in
      record {
        it = f;
        fits = and_from _ _ (and_from (a_name r.it.0) (some_params r.it.1.0) q.0 p.0) p.1;
        stands = subst (Stands bs i) (sym (fun-parts f)) r.stands;
        end = r.end ∙ ap (λ l. i + length l) (sym (fun-parts f));
      }

  pub fun_reads : Reads bs (fun_end bs) fun_spelled a_fun
  fun_reads = record { read = fun_read; was = fun_was }

  pub funs_read : (n : ℕ) → Reads bs (times n (fun_end bs)) (flat fun_spelled) (all_of a_fun n)
  funs_read n = times_reads bs (fun_end bs) fun_spelled a_fun fun_reads n

-- what stands at the beginning and goes to the end is all
pub all_there : (bs p : List ℕ) → Stands bs 0 p → length p ≡ length bs → bs ≡ p
all_there bs p s l = grind (arith, drop_all, append-nil)

pub whole-stands : (bs : List ℕ) → Stands bs 0 bs
whole-stands bs = grind (arith, append-nil, drop_all)

pub split_stands : (a p b : List ℕ) → Stands (a ++ (p ++ b)) (length a) p
split_stands a p b =
    stands-first (a ++ (p ++ b)) (length a) p b
    (subst (λ k. Stands (a ++ (p ++ b)) k (p ++ b)) (let z : 0 + length a ≡ length a = omega arith in z)
    (stands-second (a ++ (p ++ b)) 0 a (p ++ b) (whole-stands (a ++ (p ++ b)))))

pub program_was : (bs : List ℕ) → all_bytes bs ≡ true → is_program bs ≡ true → (p : Program) × (program_spelled p ≡ bs) × (a_program p ≡ true)
program_was bs bytes e = go (number_at bs 0) refl q.1
  where
    q : (leb (length bs) 65536 ≡ true) × (funs_fill bs (number_at bs 0) ≡ true)
    q = and_parts _ _ e

    full : (n : ℕ) (o : Option ℕ) → number_at bs 0 ≡ Some n → leb n 1024 ≡ true → times n (fun_end bs) 8 ≡ o → ends_at o (length bs) ≡ true →
        (p : Program) × (program_spelled p ≡ bs) × (a_program p ≡ true)
    full n None h few t z = absurd (clash z)
    full n (Some j) h few t z =
        let r = (funs_read bs bytes n).was 8 j t in
        let fit = and_parts _ _ r.fits in
        let is : length r.it ≡ n = eqb-true _ _ fit.1 in
        let end : j ≡ length bs = eqb-true _ _ z in
        let long : length (program_spelled r.it) ≡ length bs = omega (arith, r.end, length-eight (length r.it), length-append (eight (length r.it)) (flat fun_spelled r.it)) in
        let stands : Stands bs 0 (program_spelled r.it) =
        stands_join bs 0 (eight (length r.it)) (flat fun_spelled r.it)
        (subst (λ m. Stands bs 0 (eight m)) (sym is) (number_there bs 0 n bytes h).stands)
        (subst (λ m. Stands bs m (flat fun_spelled r.it)) (omega (arith, length-eight (length r.it))) r.stands) in (
          r.it,
          sym (all_there bs (program_spelled r.it) stands long),
          and_from _ _ (and_from _ _ (ap (λ m. leb m 1024) is ∙ few) fit.0) (ap (λ m. leb m 65536) long ∙ q.0),
        )

    go : (o : Option ℕ) → number_at bs 0 ≡ o → funs_fill bs o ≡ true → (p : Program) × (program_spelled p ≡ bs) × (a_program p ≡ true)
    go None h z = absurd (clash z)
    go (Some n) h z =
        let r = and_parts _ _ z in
        full n (times n (fun_end bs) 8) h r.0 refl r.1

-- the spelling of a program that fits: how long it is, its count, and its functions after it
module _ (p : Program) (fit : a_program p ≡ true) where
  whole : Stands (program_spelled p) 0 (program_spelled p)
  whole = whole-stands (program_spelled p)

  pub program_short : (8 ≤ length (program_spelled p)) × (length (program_spelled p) ≤ 65536)
  program_short = grind (arith, length-append, length-eight)

  pub program_number : number_at (program_spelled p) 0 ≡ Some (length p)
  program_number = grind (arith, number_stands, program_fits, stands-first, whole)

  pub program_funs : Stands (program_spelled p) 8 (flat fun_spelled p)
  program_funs =
      subst (λ m. Stands (program_spelled p) m (flat fun_spelled p)) (omega (arith, length-eight (length p)))
      (stands-second (program_spelled p) 0 (eight (length p)) (flat fun_spelled p) whole)

pub program_read : (p : Program) → all_bytes (program_spelled p) ≡ true → a_program p ≡ true → is_program (program_spelled p) ≡ true
program_read p bytes fit = grind (arith, program_fits, program_number, eq-eqb, funs_read, program_funs, length-eight, length-append)

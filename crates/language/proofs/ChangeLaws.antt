-- Where a function's body begins, and the bytes of a program in which one function is another. A function's bytes are its front, which is its name
-- and its own names, and its body; where names are distinct, only the one function has its name. Assumes nothing.
use Rattle.std.proofs.Common.{◌≡◌, ℕ, ◌+◌, true, false, ◌&&◌, List, [], ◌∷◌, ◌++◌, length, Some, sym, refl, ap, ◌∙◌, subst, ap₂, arith}
use Rattle.std.proofs.lemmas.List.{append_assoc, length-append}
use Rattle.std.proofs.lemmas.Bool.{and_parts, not-true}
use Rattle.language.specs.Basics.{pick, each, flat, same}
use Rattle.language.specs.Bytes.{Name, eight, with_length, all_bytes}
use Rattle.language.specs.Expr.{Fun, Program}
use Rattle.language.specs.Names.{has, distinct}
use Rattle.language.specs.Spelling.{expr_spelled, fun_spelled, program_spelled}
use Rattle.language.specs.Fits.{a_name, an_expr, a_fun}
use Rattle.language.specs.Reading.{found, name_end, params_end}
use Rattle.language.proofs.ListFacts.{each_append, flat_append}
use Rattle.language.proofs.NameFacts.{same_refl, same_sym, or_left_false, or_right_false, has-append}
use Rattle.language.proofs.StandsFacts.{Stands, stands-first, stands-second}
use Rattle.language.proofs.ProgramFacts.{params_spelled, some_params, name_reads, params_reads, both_reads}

-- a function's bytes before its body
abbrev pub fun_front : Fun → List ℕ
fun_front f = with_length f.name ++ params_spelled f.params

pub fun_split : (f : Fun) → fun_spelled f ≡ fun_front f ++ expr_spelled f.body
fun_split f = grind (arith, append_assoc)

-- where the body begins of a function that stands at o
abbrev pub body_from : ℕ → Fun → ℕ
body_from o f = o + length (with_length f.name) + length (params_spelled f.params)

-- it is read there, and stands there
pub record BodyAt (bs : List ℕ) (o : ℕ) (f : Fun) : Type 0 where
  pub at_is : found (name_end bs o) (λ j. params_end bs j) ≡ Some (body_from o f)
  pub stands : Stands bs (body_from o f) (expr_spelled f.body)
  pub fits : an_expr f.body ≡ true

pub body_at : (bs : List ℕ) → all_bytes bs ≡ true → (o : ℕ) (f : Fun) → a_fun f ≡ true → Stands bs o (fun_spelled f) → BodyAt bs o f
body_at bs bytes o f fit s =
    record {
      at_is =
          (both_reads bs (name_end bs) (params_end bs) with_length params_spelled a_name some_params (name_reads bs bytes) (params_reads bs bytes)
          ).read o (f.name, f.params) fits.0 (stands-first bs o (fun_front f) (expr_spelled f.body) all)
          ∙ ap Some end;
      stands = subst (λ k. Stands bs k (expr_spelled f.body)) end (stands-second bs o (fun_front f) (expr_spelled f.body) all);
      fits = fits.1;
    }
  where
    fits : ((a_name f.name && some_params f.params) ≡ true) × (an_expr f.body ≡ true)
    fits = and_parts _ _ fit

    all : Stands bs o (fun_front f ++ expr_spelled f.body)
    all = subst (Stands bs o) (fun_split f) s

    end : o + length (fun_front f) ≡ body_from o f
    end = omega (arith, length-append (with_length f.name) (params_spelled f.params))

-- the bytes of a program in which one function is another
pub changed-spelled : (p before : Program) (f g : Fun) (after : Program) → p ≡ before ++ f ∷ after →
    program_spelled (before ++ g ∷ after) ≡ eight (length p) ++ (flat fun_spelled before ++ (fun_spelled g ++ flat fun_spelled after))
changed-spelled p before f g after e = grind (arith, length-append, flat_append)

-- where no function has the name, nothing changes
pub changed_none : (p : Program) (x : Name) (g : Fun) → has (each (λ h. h.name) p) x ≡ false → each (λ h. pick (same h.name x) g h) p ≡ p
changed_none [] x g h = refl
changed_none (f ∷ fs) x g h =
    ap₂ ◌∷◌ (ap (λ t. pick t g f) (same_sym f.name x ∙ or_left_false _ _ h))
    (changed_none fs x g (or_right_false _ _ h))

-- a name that none of the others is, among them one
apart : (x y : Name) (xs ys : List Name) → has (xs ++ y ∷ ys) x ≡ false → same x y ≡ false
apart x y xs ys h = or_left_false _ _ (or_right_false _ _ (sym (has-append xs (y ∷ ys) x) ∙ h))

changed_split : (before : Program) (f g : Fun) (after : Program) → distinct (each (λ h. h.name) (before ++ f ∷ after)) ≡ true →
    each (λ h. pick (same h.name f.name) g h) (before ++ f ∷ after) ≡ before ++ g ∷ after
unfolding distinct
changed_split [] f g after d =
    ap₂ (λ t r. pick t g f ∷ r) (same_refl f.name)
    (changed_none after f.name g (not-true _ (and_parts _ _ d).0))
changed_split (b ∷ before) f g after d =
    let q = and_parts _ _ d in
    let other : same b.name f.name ≡ false =
    apart b.name f.name (each (λ h. h.name) before) (each (λ h. h.name) after)
    (ap (λ xs. has xs b.name) (sym (each_append (λ h. h.name) before (f ∷ after))) ∙ not-true _ q.0) in
    ap₂ (λ t r. pick t g b ∷ r) other (changed_split before f g after q.1)

pub changed-fun : (p before : Program) (f g : Fun) (after : Program) → p ≡ before ++ f ∷ after → distinct (each (λ h. h.name) p) ≡ true →
    each (λ h. pick (same h.name f.name) g h) p ≡ before ++ g ∷ after
changed-fun p before f g after e d = grind (arith, changed_split)

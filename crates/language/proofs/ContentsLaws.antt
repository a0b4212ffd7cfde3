-- What is read in a program's spelling is what the program has: its functions' names, their own names, and where a function stands.
-- By induction on the functions, each of which is read where it stands. Assumes nothing.
use Rattle.std.proofs.Common.{◌≡◌, ℕ, suc, ◌+◌, ◌-◌, ◌≤◌, Bool, true, false, ◌&&◌, leb, List, [], ◌∷◌, ◌++◌, length, take, drop, Some, None, sym, refl, ap, ◌∙◌, subst, ap₂, add-zero, arith, leb-true}
use Rattle.std.specs.List.{between}
use Rattle.std.proofs.lemmas.List.{append_assoc, length-append}
use Rattle.std.proofs.lemmas.Bool.{and_parts}
use Rattle.language.specs.Basics.{pick, every, each, flat, same}
use Rattle.language.specs.Bytes.{Name, eight, with_length, all_bytes}
use Rattle.language.specs.Expr.{Fun, Program}
use Rattle.language.specs.Meaning.{fun_of}
use Rattle.language.specs.Names.{distinct}
use Rattle.language.specs.Spelling.{fun_spelled, program_spelled}
use Rattle.language.specs.Fits.{a_name, a_fun, a_program}
use Rattle.language.specs.Reading.{number_at, name_end, fun_end}
use Rattle.language.specs.Contents.{listed, passed, name_there, names_from, own_names, fun_names, owns_differ, is_fine, find_from, find_function}
use Rattle.language.proofs.StandsFacts.{Stands, stands-first, stands-second, stands-taken, length-eight, number_stands}
use Rattle.language.proofs.HeadFacts.{length_with, name-stands, name_bytes}
use Rattle.language.proofs.ByteFacts.{bytes_program}
use Rattle.language.proofs.ProgramFits.{program_fits}
use Rattle.language.proofs.ProgramFacts.{params_spelled, some_params, fun_reads, program_number, program_funs}
use Rattle.language.proofs.ContentsFacts.{names_none, names_more, owns_none, owns_turn, find_none, find_here, find_more}

-- names that stand there are read
pub name_is : (bs : List ℕ) (i : ℕ) (x : Name) → a_name x ≡ true → Stands bs i (with_length x) → name_there bs i ≡ x
name_is bs i x fit s = grind (arith, name-stands, name_bytes)

pub names_are : (bs : List ℕ) (i : ℕ) (xs : List Name) → every a_name xs ≡ true → Stands bs i (flat with_length xs) → names_from (length xs) bs i ≡ xs
names_are bs i [] fit s = names_none bs i 0 0 refl
names_are bs i (x ∷ xs) fit s =
    names_more bs i (suc (length xs)) (length xs) refl (i + 8 + length x) (name-stands bs i x q.0 first)
    ∙ ap₂ ◌∷◌ (name_is bs i x q.0 first) (names_are bs (i + 8 + length x) xs q.1 after)
  where
    q : (a_name x ≡ true) × (every a_name xs ≡ true)
    q = and_parts _ _ fit

    first : Stands bs i (with_length x)
    first = stands-first bs i (with_length x) (flat with_length xs) s

    after : Stands bs (i + 8 + length x) (flat with_length xs)
    after = subst (λ k. Stands bs k (flat with_length xs)) (omega (arith, length_with x)) (stands-second bs i (with_length x) (flat with_length xs) s)

pub own_are : (bs : List ℕ) (i : ℕ) (x : Name) (xs : List Name) → a_name x ≡ true → some_params xs ≡ true → Stands bs i (with_length x ++ params_spelled xs) →
    own_names bs i ≡ xs
own_are bs i x xs fit own s =
    ap (λ o. listed o (λ j. listed (number_at bs j) (λ n. names_from n bs (j + 8)))) (name-stands bs i x fit (stands-first bs i (with_length x) (params_spelled xs) s))
    ∙ ap (λ o. listed o (λ n. names_from n bs (k + 8))) (number_stands bs k (length xs) (omega (arith, few)) (stands-first bs k (eight (length xs)) (flat with_length xs) after))
    ∙ names_are bs (k + 8) xs q.1 (subst (λ m. Stands bs m (flat with_length xs)) (omega (arith, length-eight (length xs))) (stands-second bs k (eight (length xs)) (flat with_length xs) after))
  where
    k : ℕ
    k = i + 8 + length x

    q : (leb (length xs) 16 ≡ true) × (every a_name xs ≡ true)
    q = and_parts _ _ own

    few : length xs ≤ 16
    few = leb-true _ _ q.0

    after : Stands bs (i + 8 + length x) (params_spelled xs)
    after = subst (λ m. Stands bs m (params_spelled xs)) (omega (arith, length_with x)) (stands-second bs i (with_length x) (params_spelled xs) s)

-- the names of so many functions, one function after the other
module _ (bs : List ℕ) (i n m : ℕ) where
  fun_names-turn : n ≡ suc m → fun_names n bs i ≡ listed (name_end bs i) (λ j. between (i + 8) j bs ∷ listed (fun_end bs i) (λ k. fun_names m bs k))
  unfolding fun_names
  fun_names-turn e = ap (λ k. fun_names k bs i) e

  pub fun_names_none : n ≡ 0 → fun_names n bs i ≡ []
  unfolding fun_names
  fun_names_none e = ap (λ k. fun_names k bs i) e

  pub fun_names_no_name : n ≡ suc m → name_end bs i ≡ None → fun_names n bs i ≡ []
  fun_names_no_name e p = grind (arith, fun_names-turn)

  at_fun-name : n ≡ suc m → (j : ℕ) → name_end bs i ≡ Some j → fun_names n bs i ≡ name_there bs i ∷ listed (fun_end bs i) (λ k. fun_names m bs k)
  at_fun-name e j p = grind (arith, fun_names-turn)

  pub fun_names-cut : n ≡ suc m → (j : ℕ) → name_end bs i ≡ Some j → fun_end bs i ≡ None → fun_names n bs i ≡ name_there bs i ∷ []
  fun_names-cut e j p f = grind (arith, at_fun-name)

  pub fun_names_more : n ≡ suc m → (j k : ℕ) → name_end bs i ≡ Some j → fun_end bs i ≡ Some k → fun_names n bs i ≡ name_there bs i ∷ fun_names m bs k
  fun_names_more e j k p f = grind (arith, at_fun-name)

-- functions stand there: what is read of the first, and where the others stand
pub record NextFun (bs : List ℕ) (i : ℕ) (f : Fun) (rest : List Fun) : Type 0 where
  pub fits : a_fun f ≡ true
  pub rest_fit : every a_fun rest ≡ true
  pub stands : Stands bs i (fun_spelled f)
  pub after : Stands bs (i + length (fun_spelled f)) (flat fun_spelled rest)
  pub name-ends : name_end bs i ≡ Some (i + 8 + length f.name)
  pub named : name_there bs i ≡ f.name
  pub ends : fun_end bs i ≡ Some (i + length (fun_spelled f))
  pub own : own_names bs i ≡ f.params

module _ (bs : List ℕ) (bytes : all_bytes bs ≡ true) where
  pub next-fun : (i : ℕ) (f : Fun) (rest : List Fun) → every a_fun (f ∷ rest) ≡ true → Stands bs i (flat fun_spelled (f ∷ rest)) → NextFun bs i f rest
  next-fun i f rest fit s =
      record {
        fits = q.0;
        rest_fit = q.1;
        stands = here;
        after = stands-second bs i (fun_spelled f) (flat fun_spelled rest) s;
        name-ends = name-stands bs i f.name r.0 name;
        named = name_is bs i f.name r.0 name;
        ends = (fun_reads bs bytes).read i f q.0 here;
        own = own_are bs i f.name f.params r.0 r.1 names;
      }
    where
      q : (a_fun f ≡ true) × (every a_fun rest ≡ true)
      q = and_parts _ _ fit

      r : (a_name f.name ≡ true) × (some_params f.params ≡ true)
      r = and_parts _ _ (and_parts _ _ q.0).0

      here : Stands bs i (fun_spelled f)
      here = grind (arith, stands-first)

      names : Stands bs i (with_length f.name ++ params_spelled f.params)
      names = grind (arith, stands-first, params_spelled, append_assoc, here)

      name : Stands bs i (with_length f.name)
      name = grind (arith, stands-first)

  pub names_law : (i : ℕ) (fs : List Fun) → every a_fun fs ≡ true → Stands bs i (flat fun_spelled fs) → fun_names (length fs) bs i ≡ each (λ f. f.name) fs
  names_law i [] fit s = fun_names_none bs i 0 0 refl
  names_law i (f ∷ fs) fit s =
      let n = next-fun i f fs fit s in
      fun_names_more bs i (suc (length fs)) (length fs) refl (i + 8 + length f.name) (i + length (fun_spelled f)) n.name-ends n.ends
      ∙ ap₂ ◌∷◌ n.named (names_law (i + length (fun_spelled f)) fs n.rest_fit n.after)

  pub owns_law : (i : ℕ) (fs : List Fun) → every a_fun fs ≡ true → Stands bs i (flat fun_spelled fs) → owns_differ (length fs) bs i ≡ every (λ f. distinct f.params) fs
  owns_law i [] fit s = owns_none bs i 0 0 refl
  owns_law i (f ∷ fs) fit s =
      let n = next-fun i f fs fit s in
      owns_turn bs i (suc (length fs)) (length fs) refl
      ∙ ap₂ (λ xs o. distinct xs && passed o (λ k. owns_differ (length fs) bs k)) n.own n.ends
      ∙ ap (λ b. distinct f.params && b) (owns_law (i + length (fun_spelled f)) fs n.rest_fit n.after)

  -- looking for a function by its name
  pub find_law_none : (x : Name) (i : ℕ) (fs : List Fun) → every a_fun fs ≡ true → Stands bs i (flat fun_spelled fs) → fun_of fs x ≡ [] →
      find_from (length fs) bs x i ≡ None
  unfolding fun_of
  find_law_none x i [] fit s h = find_none bs x i 0 0 refl
  find_law_none x i (f ∷ fs) fit s h = go (same f.name x) refl h (find_law_none x (i + length (fun_spelled f)) fs n.rest_fit n.after)
    where
      n : NextFun bs i f fs
      n = next-fun i f fs fit s

      go : (t : Bool) → same f.name x ≡ t → pick t (f ∷ []) (fun_of fs x) ≡ [] →
          (fun_of fs x ≡ [] → find_from (length fs) bs x (i + length (fun_spelled f)) ≡ None) → find_from (suc (length fs)) bs x i ≡ None
      go true e h ih = absurd cc
      go false e h ih =
          find_more bs x i (suc (length fs)) (length fs) refl (i + 8 + length f.name) (i + length (fun_spelled f)) n.name-ends
          (ap (λ y. same y x) n.named ∙ e) n.ends
          ∙ ih h

-- f was found by the name x, among functions that stand at i: where it stands, and which come before and after it
pub record FoundAt (bs : List ℕ) (x : Name) (i : ℕ) (fs : List Fun) (f : Fun) : Type 0 where
  pub at : ℕ
  pub found : find_from (length fs) bs x i ≡ Some at
  pub stands : Stands bs at (fun_spelled f)
  pub fits : a_fun f ≡ true
  pub before : List Fun
  pub after : List Fun
  pub split : fs ≡ before ++ f ∷ after
  pub at_is : at ≡ i + length (flat fun_spelled before)

module _ (bs : List ℕ) (bytes : all_bytes bs ≡ true) (x : Name) where
  found_first : (i : ℕ) (f : Fun) (fs : List Fun) → NextFun bs i f fs → same f.name x ≡ true → FoundAt bs x i (f ∷ fs) f
  found_first i f fs n e =
      record {
        at = i;
        found = find_here bs x i (suc (length fs)) (length fs) refl (i + 8 + length f.name) n.name-ends (ap (λ y. same y x) n.named ∙ e);
        stands = n.stands;
        fits = n.fits;
        before = [];
        after = fs;
        split = refl;
        at_is = sym (add-zero i);
      }

  found_later : (i : ℕ) (g f : Fun) (fs : List Fun) → NextFun bs i g fs → same g.name x ≡ false → FoundAt bs x (i + length (fun_spelled g)) fs f → FoundAt bs x i (g ∷ fs) f
  found_later i g f fs n e r =
      record {
        at = r.at;
        found =
            find_more bs x i (suc (length fs)) (length fs) refl (i + 8 + length g.name) (i + length (fun_spelled g)) n.name-ends
            (ap (λ y. same y x) n.named ∙ e) n.ends
            ∙ r.found;
        stands = r.stands;
        fits = r.fits;
        before = g ∷ r.before;
        after = r.after;
        split = ap (λ l. g ∷ l) r.split;
        at_is = omega (arith, r.at_is, length-append (fun_spelled g) (flat fun_spelled r.before));
      }

  pub find_law_some : (i : ℕ) (fs : List Fun) (f : Fun) (gs : List Fun) → every a_fun fs ≡ true → Stands bs i (flat fun_spelled fs) → fun_of fs x ≡ f ∷ gs →
      FoundAt bs x i fs f
  unfolding fun_of
  find_law_some i [] f gs fit s h = absurd cc
  find_law_some i (g ∷ fs) f gs fit s h = go (same g.name x) refl h (find_law_some (i + length (fun_spelled g)) fs f gs n.rest_fit n.after)
    where
      n : NextFun bs i g fs
      n = next-fun bs bytes i g fs fit s

      go : (t : Bool) → same g.name x ≡ t → pick t (g ∷ []) (fun_of fs x) ≡ f ∷ gs →
          (fun_of fs x ≡ f ∷ gs → FoundAt bs x (i + length (fun_spelled g)) fs f) → FoundAt bs x i (g ∷ fs) f
      go true e h ih = let is : g ≡ f = cc in subst (FoundAt bs x i (g ∷ fs)) is (found_first i g fs n e)
      go false e h ih = found_later i g f fs n e (ih h)

-- whole programs
module _ (p : Program) (fit : a_program p ≡ true) where
  pub fine_law : is_fine (program_spelled p) ≡ (distinct (each (λ f. f.name) p) && every (λ f. distinct f.params) p)
  unfolding is_fine
  fine_law = grind (arith, program_number, names_law, bytes_program, program_fits, program_funs, owns_law)

  find_in : (x : Name) → find_function (program_spelled p) x ≡ find_from (length p) (program_spelled p) x 8
  find_in x = grind (arith, program_number)

  pub find_program_none : (x : Name) → fun_of p x ≡ [] → find_function (program_spelled p) x ≡ None
  find_program_none x h = grind (arith, find_in, find_law_none, bytes_program, program_fits, program_funs)

-- f was found by the name x in the spelling of p
pub record FoundIn (p : Program) (x : Name) (f : Fun) : Type 0 where
  pub place : FoundAt (program_spelled p) x 8 p f
  pub found : find_function (program_spelled p) x ≡ Some place.at
  pub ends : fun_end (program_spelled p) place.at ≡ Some (place.at + length (fun_spelled f))
  pub bytes : between place.at (place.at + length (fun_spelled f)) (program_spelled p) ≡ fun_spelled f

pub stands-between : (bs : List ℕ) (i : ℕ) (p : List ℕ) → Stands bs i p → between i (i + length p) bs ≡ p
stands-between bs i p s = ap (λ n. take n (drop i bs)) (let z : i + length p - i ≡ length p = omega arith in z) ∙ stands-taken bs i p s

pub find_program_some : (p : Program) → a_program p ≡ true → (x : Name) (f : Fun) (gs : List Fun) → fun_of p x ≡ f ∷ gs → FoundIn p x f
find_program_some p fit x f gs h =
    let bytes = bytes_program p fit in
    let r = find_law_some (program_spelled p) bytes x 8 p f gs (program_fits p fit).1 (program_funs p fit) h in
    record {
      place = r;
      found = find_in p fit x ∙ r.found;
      ends = (fun_reads (program_spelled p) bytes).read r.at f r.fits r.stands;
      bytes = stands-between (program_spelled p) r.at (fun_spelled f) r.stands;
    }

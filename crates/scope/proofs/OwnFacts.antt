-- Own names looked through but one, name by name: what is left of the others. Assumes nothing.
use Rattle.std.proofs.Common.{◌≡◌, ℕ, suc, ◌+◌, ◌-◌, Bool, true, false, not, ◌&&◌, ◌||◌, ltb, ◌==◌, List, [], ◌∷◌, sym, refl, ap, ◌∙◌, ap₂, arith, ltb-false, ltb-true, le-ltb, lt-ltb, eqb-true}
use Rattle.std.proofs.lemmas.Bool.{eqb-false}
use Rattle.std.specs.List.{list_any, enumerate_from}
use Rattle.language.specs.Basics.{pick, or, each, same}
use Rattle.language.specs.Bytes.{Name}
use Rattle.language.specs.Names.{has}
use Rattle.language.proofs.NameFacts.{same_sym}
use Rattle.model.specs.Capture.{others}
use Rattle.wire.proofs.WalkFacts.{or_is}

-- of the names from the kth on, those that are not the ith
abbrev pub unseen : ℕ → ℕ → List Name → List Name
unseen i k xs = pick (ltb i k) xs (others xs (i - k))

none_unseen : (i k : ℕ) → unseen i k [] ≡ []
unfolding others
none_unseen i k = go (ltb i k)
  where
    go : (t : Bool) → pick t [] (others [] (i - k)) ≡ []
    go true = refl
    go false = refl

-- the ith is passed over
passed_over : (i k : ℕ) (z : Name) (zs : List Name) → k ≡ i → unseen i k (z ∷ zs) ≡ unseen i (k + 1) zs
unfolding others
passed_over i k z zs e =
    ap₂ (λ t n. pick t (z ∷ zs) (others (z ∷ zs) n)) (le-ltb i k (omega arith)) (let n : i - k ≡ 0 = omega arith in n)
    ∙ sym (ap (λ t. pick t zs (others zs (i - (k + 1)))) (lt-ltb i (k + 1) (omega arith)))

-- another one is not
looked-at : (i k : ℕ) (z : Name) (zs : List Name) → (k ≡ i → ⊥) → unseen i k (z ∷ zs) ≡ z ∷ unseen i (k + 1) zs
unfolding others
looked-at i k z zs d = go (ltb i k) refl
  where
    go : (t : Bool) → ltb i k ≡ t → pick t (z ∷ zs) (others (z ∷ zs) (i - k)) ≡ z ∷ unseen i (k + 1) zs
    go true e = ap (◌∷◌ z) (sym (ap (λ t. pick t zs (others zs (i - (k + 1)))) (lt-ltb i (k + 1) (omega (arith, ltb-true i k e)))))
    go false e =
        ap (others (z ∷ zs)) (let n : i - k ≡ suc (i - (k + 1)) = omega (arith, ltb-false i k e) in n)
        ∙ ap (◌∷◌ z) (sym (ap (λ t. pick t zs (others zs (i - (k + 1)))) (le-ltb i (k + 1) (omega (arith, ltb-false i k e)))))

-- there are no other names than none
pub none_other : (xs : List Name) (i : ℕ) (y : Name) → [] ≡ xs → false ≡ has (others xs i) y
unfolding others
none_other xs i y e = ap (λ zs. has (others zs i) y) e

-- the name at a place is looked for, and is not the ith
module _ (name_at : ℕ → Name) (i : ℕ) (y : Name) where
  abbrev pub Seen : ℕ × ℕ → Bool
  Seen p = not (p.0 == i) && same (name_at p.1) y

  seen_there : (k a : ℕ) (ks : List ℕ) (t : Bool) → (k == i) ≡ t → list_any Seen (enumerate_from (k + 1) ks) ≡ has (unseen i (k + 1) (each name_at ks)) y →
      ((not t && same (name_at a) y) || list_any Seen (enumerate_from (k + 1) ks)) ≡ has (unseen i k (name_at a ∷ each name_at ks)) y
  seen_there k a ks true e h = h ∙ ap (λ zs. has zs y) (sym (passed_over i k (name_at a) (each name_at ks) (eqb-true k i e)))
  seen_there k a ks false e h =
      ap (λ b. same (name_at a) y || b) h ∙ or_is (same (name_at a) y) _ ∙ ap (λ b. or b (has (unseen i (k + 1) (each name_at ks)) y)) (same_sym (name_at a) y)
      ∙ ap (λ zs. has zs y) (sym (looked-at i k (name_at a) (each name_at ks) (eqb-false k i e)))

  pub seen_others : (k : ℕ) (ks : List ℕ) → list_any Seen (enumerate_from k ks) ≡ has (unseen i k (each name_at ks)) y
  seen_others k [] = sym (ap (λ zs. has zs y) (none_unseen i k))
  seen_others k (a ∷ ks) = seen_there k a ks (k == i) refl (seen_others (k + 1) ks)

pub all-unseen : (i : ℕ) (xs : List Name) → unseen i 0 xs ≡ others xs i
all-unseen i xs = ap₂ (λ t n. pick t xs (others xs n)) (le-ltb i 0 (omega arith)) (let e : i - 0 ≡ i = omega arith in e)

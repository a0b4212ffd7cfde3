-- One name, or one function, after the other: where each begins. Assumes nothing.
use Rattle.std.proofs.Common.{◌≡◌, ℕ, zero, suc, Bool, true, false, cond, not, ◌&&◌, ◌||◌, List, [], ◌∷◌, length, Some, None, Option, refl, sym, ap, ap₂, ◌∙◌, ◌+◌, ◌≤◌, arith}
use Rattle.std.specs.Iterator.{MakesProgress, item_count}
use Rattle.std.specs.List.{between, list_any, list_all, find}
use Rattle.std.specs.Option.{option_map}
use Rattle.std.proofs.lemmas.Iterator.{YieldsList}
use Rattle.std.proofs.lemmas.Iterator.Consumers.{YieldsList-from_shown}
use Rattle.language.specs.Basics.{or, pick, each, same}
use Rattle.language.specs.Bytes.{Name}
use Rattle.language.specs.Names.{has, distinct}
use Rattle.language.specs.Reading.{found, name_end, params_end, expr_end, fun_end}
use Rattle.language.specs.Contents.{listed, passed, name_there, names_from, owns_differ, find_from}
use Rattle.wire.specs.declared.functions.Function.{Function}
use Rattle.wire.specs.Walk.{YieldsFirstOf, name_places, functions_from, names_counted}

-- an iterator that gave the first of what was left has less left
pub one_less : {S A : Type 0} {can : S → Type 0} (rest : S → List A) {s t : S} {x : A} → can t → rest s ≡ x ∷ rest t → MakesProgress can (item_count rest) s (Some x) t
one_less rest k e = let lengths = ap length e in record { on = λ _. (k, tt, omega (arith, lengths)); keeps = k; rests = λ _. tt }

pub yields_left : {S A R : Type 0} (rest : S → List A) (row : S → R) (s : S) → YieldsList (YieldsFirstOf rest row) (λ x. x) s (rest s)
yields_left rest row s = YieldsList-from_shown (YieldsFirstOf rest row) (λ x. x) rest (λ t u h. ap length h.0.0) (λ t x u h. h.0) s

-- names that are left, the first of them at i
module _ (bs : List ℕ) (i n : ℕ) where
  pub places_none : n ≡ 0 → name_places n bs i ≡ []
  unfolding name_places
  places_none e = ap (λ k. name_places k bs i) e

  pub places_more : (m j : ℕ) → n ≡ suc m → Some j ≡ name_end bs i → name_places n bs i ≡ i ∷ name_places m bs j
  unfolding name_places
  places_more m j e p = ap (λ k. name_places k bs i) e ∙ sym (ap (λ o. listed o (λ k. i ∷ name_places m bs k)) p)

pub places_cut : (bs : List ℕ) (i : ℕ) → None ≡ name_end bs i → (n : ℕ) → name_places n bs i ≡ []
unfolding name_places
places_cut bs i e zero = refl
places_cut bs i e (suc n) = sym (ap (λ o. listed o (λ j. i ∷ name_places n bs j)) e)

pub places_short : (bs : List ℕ) (n i : ℕ) → length (name_places n bs i) ≤ n
unfolding name_places
places_short bs zero i = omega arith
places_short bs (suc n) i = by (name_end bs i) (places_short bs n)
  where
    by : (o : Option ℕ) → ((j : ℕ) → length (name_places n bs j) ≤ n) → length (listed o (λ j. i ∷ name_places n bs j)) ≤ suc n
    by None short = omega arith
    by (Some j) short = omega (arith, short j)

-- the names are those at their places
pub names_placed : (bs : List ℕ) (n i : ℕ) → names_from n bs i ≡ each (name_there bs) (name_places n bs i)
unfolding names_from name_places
names_placed bs zero i = refl
names_placed bs (suc n) i = by (name_end bs i) refl (names_placed bs n)
  where
    by : (o : Option ℕ) → name_end bs i ≡ o → ((j : ℕ) → names_from n bs j ≡ each (name_there bs) (name_places n bs j)) → listed o (λ j. between (i + 8) j bs ∷ names_from n bs j) ≡ each (name_there bs) (listed o (λ j. i ∷ name_places n bs j))
    by None e placed = refl
    by (Some j) e placed = ap₂ (λ x xs. x ∷ xs) (sym (ap (λ o. listed o (λ k. between (i + 8) k bs)) e)) (placed j)

pub or_is : (a b : Bool) → (a || b) ≡ or a b
or_is true b = refl
or_is false b = refl

pub has_listed : (f : ℕ → Name) (x : Name) (ks : List ℕ) → list_any (λ k. same x (f k)) ks ≡ has (each f ks) x
has_listed f x [] = refl
has_listed f x (k ∷ ks) = or_is (same x (f k)) (list_any (λ k'. same x (f k')) ks) ∙ ap (or (same x (f k))) (has_listed f x ks)

-- a name, and those after it
module _ (bs rs : List ℕ) (n i : ℕ) (same_row : rs ≡ bs) where
  pub differ_more : (m j k : ℕ) → name_places n bs i ≡ k ∷ name_places m rs j → distinct (names_from n bs i) ≡ (not (has (names_from m rs j) (name_there rs k)) && distinct (names_from m rs j))
  unfolding distinct
  differ_more m j k e =
      ap distinct (names_placed bs n i) ∙ ap (λ ks. distinct (each (name_there bs) ks)) e
      ∙ ap₂ (λ b xs. not (has xs b) && distinct xs) (ap (λ r. name_there r k) (sym same_row)) (ap (λ r. each (name_there r) (name_places m rs j)) (sym same_row) ∙ sym (names_placed rs m j))

pub differ_end : (bs : List ℕ) (n i : ℕ) → name_places n bs i ≡ [] → distinct (names_from n bs i) ≡ true
unfolding distinct
differ_end bs n i e = ap distinct (names_placed bs n i) ∙ ap (λ ks. distinct (each (name_there bs) ks)) e

-- functions that are left, the first of them at o
module _ (bs : List ℕ) (o : Option ℕ) (n : ℕ) where
  pub left_none : n ≡ 0 → listed o (λ k. functions_from n bs k) ≡ []
  unfolding functions_from
  left_none e = ap (λ k. listed o (λ i. functions_from k bs i)) e ∙ nowhere o
    where
      nowhere : (o : Option ℕ) → listed {A = Function} o (λ i. []) ≡ []
      nowhere None = refl
      nowhere (Some i) = refl

  pub left_more : (m i j : ℕ) → n ≡ suc m → Some i ≡ o → Some j ≡ name_end bs i → listed o (λ k. functions_from n bs k) ≡ record { at = i; params = j } ∷ listed (fun_end bs i) (λ k. functions_from m bs k)
  unfolding functions_from
  left_more m i j e p q =
      sym (ap (λ o. listed o (λ k. functions_from n bs k)) p) ∙ ap (λ k. functions_from k bs i) e
      ∙ sym (ap (λ o. listed {A = Function} o (λ h. record { at = i; params = h } ∷ listed (fun_end bs i) (λ k. functions_from m bs k))) q)

pub left_cut : (bs : List ℕ) (o : Option ℕ) (i : ℕ) → Some i ≡ o → None ≡ name_end bs i → (n : ℕ) → listed o (λ k. functions_from n bs k) ≡ []
unfolding functions_from
left_cut bs o i p q zero = sym (ap (λ o. listed o (λ k. functions_from zero bs k)) p)
left_cut bs o i p q (suc n) =
    sym (ap (λ o. listed o (λ k. functions_from (suc n) bs k)) p)
    ∙ sym (ap (λ o. listed {A = Function} o (λ h. record { at = i; params = h } ∷ listed (fun_end bs i) (λ k. functions_from n bs k))) q)

-- the function that is looked for is the first of that name
module _ (bs : List ℕ) (x : Name) where
  abbrev Sought : Function → Bool
  Sought f = same (name_there bs f.at) x

  abbrev Places : ℕ → Type 0
  Places n = (k : ℕ) → find_from n bs x k ≡ option_map (λ f. f.at) (find Sought (functions_from n bs k))

  find_next : (n : ℕ) (o : Option ℕ) → Places n → found o (λ k. find_from n bs x k) ≡ option_map (λ f. f.at) (find Sought (listed o (λ k. functions_from n bs k)))
  find_next n None h = refl
  find_next n (Some k) h = h k

  find_first : (b : Bool) (f : Function) (rest : Option Function) (r : Option ℕ) → r ≡ option_map (λ g. g.at) rest → pick b (Some f.at) r ≡ option_map (λ g. g.at) (cond b (Some f) rest)
  find_first true f rest r h = refl
  find_first false f rest r h = h

  find_at : (n i : ℕ) (o : Option ℕ) → name_end bs i ≡ o → Places n → found o (λ j. pick (same (between (i + 8) j bs) x) (Some i) (found (fun_end bs i) (λ k. find_from n bs x k))) ≡ option_map (λ f. f.at) (find Sought (listed o (λ j. record { at = i; params = j } ∷ listed (fun_end bs i) (λ k. functions_from n bs k))))
  find_at n i None e h = refl
  find_at n i (Some j) e h =
      ap (λ o. pick (same (listed o (λ k. between (i + 8) k bs)) x) (Some i) (found (fun_end bs i) (λ k. find_from n bs x k))) (sym e)
      ∙ find_first (same (name_there bs i) x) record { at = i; params = j } (find Sought (listed (fun_end bs i) (λ k. functions_from n bs k))) _ (find_next n (fun_end bs i) h)

  pub find_listed : (n : ℕ) → Places n
  unfolding find_from functions_from
  find_listed zero i = refl
  find_listed (suc n) i = find_at n i (name_end bs i) refl (find_listed n)

pub none_differ : (xs : List Name) → [] ≡ xs → true ≡ distinct xs
unfolding distinct
none_differ xs e = ap distinct e

module _ (bs : List ℕ) where
  abbrev Differ : ℕ → Type 0
  Differ n = (k : ℕ) → list_all (λ f. distinct (names_counted bs f.params)) (functions_from n bs k) ≡ owns_differ n bs k

  owns_next : (n : ℕ) (o : Option ℕ) → Differ n → list_all (λ f. distinct (names_counted bs f.params)) (listed o (λ k. functions_from n bs k)) ≡ passed o (λ k. owns_differ n bs k)
  owns_next n None h = refl
  owns_next n (Some k) h = h k

  owns_at : (n i : ℕ) (o : Option ℕ) → name_end bs i ≡ o → Differ n → list_all (λ f. distinct (names_counted bs f.params)) (listed o (λ j. record { at = i; params = j } ∷ listed (fun_end bs i) (λ k. functions_from n bs k))) ≡ (distinct (listed o (names_counted bs)) && passed (fun_end bs i) (λ k. owns_differ n bs k))
  unfolding distinct
  owns_at n i None e h = sym (ap (λ o. passed (found o (λ j. found (params_end bs j) (λ k. expr_end bs k))) (λ k. owns_differ n bs k)) e)
  owns_at n i (Some j) e h = ap (λ b. distinct (names_counted bs j) && b) (owns_next n (fun_end bs i) h)

  pub owns_listed : (n : ℕ) → Differ n
  unfolding owns_differ functions_from
  owns_listed zero i = refl
  owns_listed (suc n) i = owns_at n i (name_end bs i) refl (owns_listed n)

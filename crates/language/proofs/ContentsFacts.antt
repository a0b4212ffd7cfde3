-- One name, or one function, after the other. Assumes nothing.
use Rattle.std.proofs.Common.{arith, ◌≡◌, ℕ, suc, ◌+◌, true, false, ◌&&◌, List, [], ◌∷◌, Some, None, ap}
use Rattle.std.specs.List.{between}
use Rattle.language.specs.Basics.{pick, same}
use Rattle.language.specs.Bytes.{Name}
use Rattle.language.specs.Names.{distinct}
use Rattle.language.specs.Reading.{found, name_end, fun_end}
use Rattle.language.specs.Contents.{listed, passed, name_there, names_from, own_names, owns_differ, find_from}

-- looking for a function
module _ (bs : List ℕ) (x : Name) (i n m : ℕ) where
  find_turn : n ≡ suc m → find_from n bs x i ≡ found (name_end bs i) (λ j. pick (same (between (i + 8) j bs) x) (Some i) (found (fun_end bs i) (λ k. find_from m bs x k)))
  unfolding find_from
  find_turn e = ap (λ k. find_from k bs x i) e

  pub find_none : n ≡ 0 → find_from n bs x i ≡ None
  unfolding find_from
  find_none e = ap (λ k. find_from k bs x i) e

  -- at a name: what is there decides it
  at_name : n ≡ suc m → (j : ℕ) → name_end bs i ≡ Some j → find_from n bs x i ≡ pick (same (name_there bs i) x) (Some i) (found (fun_end bs i) (λ k. find_from m bs x k))
  at_name e j p = grind (arith, find_turn)

  pub find_here : n ≡ suc m → (j : ℕ) → name_end bs i ≡ Some j → same (name_there bs i) x ≡ true → find_from n bs x i ≡ Some i
  find_here e j p t = grind (arith, at_name)

  pub find_more : n ≡ suc m → (j k : ℕ) → name_end bs i ≡ Some j → same (name_there bs i) x ≡ false → fun_end bs i ≡ Some k → find_from n bs x i ≡ find_from m bs x k
  find_more e j k p t f = grind (arith, at_name)

-- names, one after the other
module _ (bs : List ℕ) (i n m : ℕ) where
  names-turn : n ≡ suc m → names_from n bs i ≡ listed (name_end bs i) (λ j. between (i + 8) j bs ∷ names_from m bs j)
  unfolding names_from
  names-turn e = ap (λ k. names_from k bs i) e

  pub names_none : n ≡ 0 → names_from n bs i ≡ []
  unfolding names_from
  names_none e = ap (λ k. names_from k bs i) e

  pub names-cut : n ≡ suc m → name_end bs i ≡ None → names_from n bs i ≡ []
  names-cut e p = grind (arith, names-turn)

  pub names_more : n ≡ suc m → (j : ℕ) → name_end bs i ≡ Some j → names_from n bs i ≡ name_there bs i ∷ names_from m bs j
  names_more e j p = grind (arith, names-turn)

-- functions' own names, one function after the other
module _ (bs : List ℕ) (i n m : ℕ) where
  pub owns_turn : n ≡ suc m → owns_differ n bs i ≡ (distinct (own_names bs i) && passed (fun_end bs i) (λ k. owns_differ m bs k))
  unfolding owns_differ
  owns_turn e = ap (λ k. owns_differ k bs i) e

  pub owns_none : n ≡ 0 → owns_differ n bs i ≡ true
  unfolding owns_differ
  owns_none e = ap (λ k. owns_differ k bs i) e

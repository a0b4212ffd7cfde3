-- A table of functions tells names apart as the names themselves do: its entries are those of the functions whose names are read, and names
-- that are the same come to the same number. And one entry after the other, for loops. Assumes nothing.
use Rattle.std.proofs.Common.{◌≡◌, ℕ, zero, suc, ◌+◌, ◌*◌, ◌%◌, ◌<◌, ◌≤◌, true, false, not, ◌&&◌, eqb, List, [], ◌∷◌, ◌++◌, length, get_or, drop, Some, None, Option, sym, refl, ap, ◌∙◌, ap₂, arith}
use Rattle.std.specs.List.{between}
use Rattle.std.proofs.lemmas.List.{append_assoc, drop_more, drop_all}
use Rattle.language.specs.Basics.{each, flat, same}
use Rattle.language.specs.Bytes.{Name}
use Rattle.language.specs.Names.{has, distinct}
use Rattle.language.specs.Reading.{name_end, fun_end}
use Rattle.language.specs.Contents.{listed, name_there, fun_names}
use Rattle.language.specs.Table.{hashed, hash, table_from, none_like, all_differ}
use Rattle.language.proofs.NameFacts.{same_eq}
use Rattle.language.proofs.ContentsLaws.{fun_names_none, fun_names_no_name, fun_names-cut, fun_names_more}

-- one byte after the other
pub hashed_more : (h : ℕ) (x : Name) (k : ℕ) → k < length x → hashed h (drop k x) ≡ hashed ((h * 1099511628211 + get_or x k 0) % 18446744073709551616) (drop (k + 1) x)
unfolding hashed
hashed_more h x k l = ap (hashed h) (drop_more x k 0 l)

pub hashed-end : (h : ℕ) (x : Name) (k : ℕ) → length x ≤ k → hashed h (drop k x) ≡ h
unfolding hashed
hashed-end h x k l = ap (hashed h) (drop_all k x l)

-- the numbers only rule names out
hash-same : (x y : Name) → (eqb (hash x) (hash y) && same x y) ≡ same x y
hash-same x y = grind (arith, same_eq)

-- one function after the other
module _ (bs : List ℕ) (i n m : ℕ) where
  table_turn : n ≡ suc m → table_from n bs i ≡ listed (name_end bs i) (λ j. hash (between (i + 8) j bs) ∷ i ∷ listed (fun_end bs i) (λ k. table_from m bs k))
  unfolding table_from
  table_turn e = ap (λ k. table_from k bs i) e

  pub table_none : n ≡ 0 → table_from n bs i ≡ []
  unfolding table_from
  table_none e = ap (λ k. table_from k bs i) e

  pub table_no_name : n ≡ suc m → name_end bs i ≡ None → table_from n bs i ≡ []
  table_no_name e p = grind (arith, table_turn)

  at_table_name : n ≡ suc m → (j : ℕ) → name_end bs i ≡ Some j → table_from n bs i ≡ hash (name_there bs i) ∷ i ∷ listed (fun_end bs i) (λ k. table_from m bs k)
  at_table_name e j p = grind (arith, table_turn)

  pub table_cut : n ≡ suc m → (j : ℕ) → name_end bs i ≡ Some j → fun_end bs i ≡ None → table_from n bs i ≡ hash (name_there bs i) ∷ i ∷ []
  table_cut e j p f = grind (arith, at_table_name)

  pub table_more : n ≡ suc m → (j k : ℕ) → name_end bs i ≡ Some j → fun_end bs i ≡ Some k → table_from n bs i ≡ hash (name_there bs i) ∷ i ∷ table_from m bs k
  table_more e j k p f = grind (arith, at_table_name)

  -- a table that is being written: one entry more
  pub table_grown : (t : List ℕ) → n ≡ suc m → (j k : ℕ) → name_end bs i ≡ Some j → fun_end bs i ≡ Some k →
      t ++ table_from n bs i ≡ (t ++ hash (name_there bs i) ∷ i ∷ []) ++ table_from m bs k
  table_grown t e j k p f = grind (arith, table_more, append_assoc)

module _ (bs : List ℕ) where
  entry : ℕ → List ℕ
  entry o = hash (name_there bs o) ∷ o ∷ []

  -- a table, and the names that stand where its entries say
  record Entries (t : List ℕ) (xs : List Name) : Type 0 where
    offsets : List ℕ
    table : t ≡ flat entry offsets
    names : xs ≡ each (name_there bs) offsets

  entries_more : (t s : List ℕ) (xs ys : List Name) (i : ℕ) → s ≡ hash (name_there bs i) ∷ i ∷ t → ys ≡ name_there bs i ∷ xs → Entries t xs → Entries s ys
  unfolding entry
  entries_more t s xs ys i p q r =
      record {
        offsets = i ∷ r.offsets;
        table = p ∙ ap (λ l. hash (name_there bs i) ∷ i ∷ l) r.table;
        names = q ∙ ap (λ l. name_there bs i ∷ l) r.names;
      }

  entries_end : (t : List ℕ) (xs : List Name) → t ≡ [] → xs ≡ [] → Entries t xs
  entries_end t xs p q = record { offsets = []; table = p; names = q }

  entries : (n i : ℕ) → Entries (table_from n bs i) (fun_names n bs i)
  entries zero i = entries_end _ _ (table_none bs i 0 0 refl) (fun_names_none bs i 0 0 refl)
  entries (suc n) i = go (name_end bs i) (fun_end bs i) refl refl (entries n)
    where
      go : (a b : Option ℕ) → name_end bs i ≡ a → fun_end bs i ≡ b → ((k : ℕ) → Entries (table_from n bs k) (fun_names n bs k)) →
          Entries (table_from (suc n) bs i) (fun_names (suc n) bs i)
      go None b p q ih = entries_end _ _ (table_no_name bs i (suc n) n refl p) (fun_names_no_name bs i (suc n) n refl p)
      go (Some j) None p q ih =
          entries_more [] _ [] _ i (table_cut bs i (suc n) n refl j p q) (fun_names-cut bs i (suc n) n refl j p q) (entries_end [] [] refl refl)
      go (Some j) (Some k) p q ih =
          entries_more (table_from n bs k) _ (fun_names n bs k) _ i (table_more bs i (suc n) n refl j k p q) (fun_names_more bs i (suc n) n refl j k p q) (ih k)

  like_law : (o : ℕ) (os : List ℕ) → none_like bs (hash (name_there bs o)) o (flat entry os) ≡ not (has (each (name_there bs) os) (name_there bs o))
  unfolding none_like entry
  like_law o [] = refl
  like_law o (p ∷ os) = grind (arith, hash-same, like_law o os)

  differ_law : (os : List ℕ) → all_differ bs (flat entry os) ≡ distinct (each (name_there bs) os)
  unfolding all_differ distinct entry
  differ_law [] = refl
  differ_law (o ∷ os) = ap₂ ◌&&◌ (like_law o os) (differ_law os)

  pub table_law : (n i : ℕ) → all_differ bs (table_from n bs i) ≡ distinct (fun_names n bs i)
  table_law n i = let r = entries n i in ap (all_differ bs) r.table ∙ differ_law r.offsets ∙ sym (ap distinct r.names)

-- one entry of a table after the other
module _ (t : List ℕ) (k : ℕ) where
  entry_more : 2 * k + 1 < length t → drop (2 * k) t ≡ get_or t (2 * k) 0 ∷ get_or t (2 * k + 1) 0 ∷ drop (2 * (k + 1)) t
  entry_more h = grind (arith, drop_more)

  module _ (bs : List ℕ) where
    all-turn : 2 * k + 1 < length t →
        all_differ bs (drop (2 * k) t) ≡ (none_like bs (get_or t (2 * k) 0) (get_or t (2 * k + 1) 0) (drop (2 * (k + 1)) t) && all_differ bs (drop (2 * (k + 1)) t))
    unfolding all_differ
    all-turn h = ap (all_differ bs) (entry_more h)

    pub all_not : 2 * k + 1 < length t → none_like bs (get_or t (2 * k) 0) (get_or t (2 * k + 1) 0) (drop (2 * (k + 1)) t) ≡ false → all_differ bs (drop (2 * k) t) ≡ false
    all_not h e = grind (arith, all-turn)

    pub all_more : 2 * k + 1 < length t → none_like bs (get_or t (2 * k) 0) (get_or t (2 * k + 1) 0) (drop (2 * (k + 1)) t) ≡ true →
        all_differ bs (drop (2 * k) t) ≡ all_differ bs (drop (2 * (k + 1)) t)
    all_more h e = grind (arith, all-turn)

  module _ (bs : List ℕ) (h o : ℕ) where
    like_turn : 2 * k + 1 < length t →
        none_like bs h o (drop (2 * k) t)
        ≡ (not (eqb h (get_or t (2 * k) 0) && same (name_there bs o) (name_there bs (get_or t (2 * k + 1) 0))) && none_like bs h o (drop (2 * (k + 1)) t))
    unfolding none_like
    like_turn l = ap (none_like bs h o) (entry_more l)

    pub like_not : 2 * k + 1 < length t → h ≡ get_or t (2 * k) 0 → same (name_there bs o) (name_there bs (get_or t (2 * k + 1) 0)) ≡ true → none_like bs h o (drop (2 * k) t) ≡ false
    like_not l e s = grind (arith, like_turn)

    -- told apart by the numbers
    pub like_apart : 2 * k + 1 < length t → (h ≡ get_or t (2 * k) 0 → ⊥) → none_like bs h o (drop (2 * k) t) ≡ none_like bs h o (drop (2 * (k + 1)) t)
    like_apart l e = grind (arith, like_turn)

    -- told apart by the names
    pub like_more : 2 * k + 1 < length t → h ≡ get_or t (2 * k) 0 → same (name_there bs o) (name_there bs (get_or t (2 * k + 1) 0)) ≡ false →
        none_like bs h o (drop (2 * k) t) ≡ none_like bs h o (drop (2 * (k + 1)) t)
    like_more l e s = grind (arith, like_turn)

-- Entries of the table of functions: how it is written, and how it is compared, one entry after the other. Assumes nothing.
use Rattle.std.proofs.Common.{◌≡◌, ℕ, zero, suc, Bool, Option, ◌+◌, ◌-◌, ◌<◌, ◌≤◌, true, false, not, ◌&&◌, eqb, List, [], ◌∷◌, ◌++◌, length, get_or, take, drop, set, Some, None, sym, refl, ap, ◌∙◌, arith}
use Rattle.std.specs.List.{between, list_all}
use Rattle.std.specs.Prelude.{IfSome, nat_le}
use Rattle.std.proofs.lemmas.List.{append-nil, append_assoc, take_more_set, take_rest}
use Rattle.language.specs.Basics.{same, pick, flat}
use Rattle.language.specs.Contents.{listed, name_there}
use Rattle.language.specs.Reading.{number_at, name_end, fun_end, found}
use Rattle.wire.specs.Walk.{functions_from}
use Rattle.wire.specs.declared.functions.Function.{Function}
use Rattle.language.specs.Table.{hash, table_from, none_like, all_differ}
use Rattle.language.proofs.ListFacts.{flat_append}
use Rattle.machine.specs.Entries.{entries}

-- the entry of a function
abbrev pub entry_of : List ℕ → Function → List ℕ
entry_of bs f = hash (between (f.at + 8) f.params bs) ∷ f.at ∷ []

pub table_entries : (bs : List ℕ) (n i : ℕ) → table_from n bs i ≡ flat (entry_of bs) (functions_from n bs i)
unfolding table_from functions_from
table_entries bs zero i = refl
table_entries bs (suc n) i = by (name_end bs i) (fun_end bs i) (table_entries bs n)
  where
    by : (o p : Option ℕ) → ((k : ℕ) → table_from n bs k ≡ flat (entry_of bs) (functions_from n bs k)) →
        listed o (λ j. hash (between (i + 8) j bs) ∷ i ∷ listed p (λ k. table_from n bs k))
        ≡ flat (entry_of bs) (listed o (λ j. record { at = i; params = j } ∷ listed p (λ k. functions_from n bs k)))
    by None p h = refl
    by (Some j) None h = refl
    by (Some j) (Some k) h = ap (λ t. hash (between (i + 8) j bs) ∷ i ∷ t) (h k)

pub functions_short : (bs : List ℕ) (n i : ℕ) → length (functions_from n bs i) ≤ n
unfolding functions_from
functions_short bs zero i = omega arith
functions_short bs (suc n) i = by (name_end bs i) (fun_end bs i) (functions_short bs n)
  where
    by : (o p : Option ℕ) → ((k : ℕ) → length (functions_from n bs k) ≤ n) →
        length (listed {A = Function} o (λ j. record { at = i; params = j } ∷ listed p (λ k. functions_from n bs k))) ≤ suc n
    by None p h = omega arith
    by (Some j) None h = omega arith
    by (Some j) (Some k) h = omega (arith, h k)

-- the bytes of a name lie behind its length
name_behind : (bs : List ℕ) (i : ℕ) → IfSome (name_end bs i) (λ j. i + 8 ≤ j)
name_behind bs i = by (number_at bs i)
  where
    if_there : (n : ℕ) (b : Bool) → IfSome (pick b (Some (i + 8 + n)) None) (λ j. i + 8 ≤ j)
    if_there n true = omega arith
    if_there n false = tt

    by : (o : Option ℕ) → IfSome (found o (λ n. pick ((nat_le 1 n && nat_le n 32) && nat_le (i + 8 + n) (length bs)) (Some (i + 8 + n)) None)) (λ j. i + 8 ≤ j)
    by None = tt
    by (Some n) = if_there n _

abbrev pub FirstNamed : List Function → Type 0
FirstNamed [] = Unit {0}
FirstNamed (f ∷ fs) = f.at + 8 ≤ f.params

pub first_named : (bs : List ℕ) (o : Option ℕ) (n : ℕ) → FirstNamed (listed o (λ k. functions_from n bs k))
unfolding functions_from
first_named bs None n = tt
first_named bs (Some i) zero = tt
first_named bs (Some i) (suc n) = by (name_end bs i) (name_behind bs i)
  where
    by : (o : Option ℕ) → IfSome o (λ j. i + 8 ≤ j) → FirstNamed (listed o (λ j. record { at = i; params = j } ∷ listed (fun_end bs i) (λ k. functions_from n bs k)))
    by None h = tt
    by (Some j) h = h

-- a table of n functions of which k entries are written, and these functions are still to come
pub record Filling (n : ℕ) (bs : List ℕ) (t : List (List ℕ)) (k : ℕ) (rest : List Function) : Type 0 where
  pub room : k + length rest ≤ n
  pub table : table_from n bs 8 ≡ entries (take k t) ++ flat (entry_of bs) rest

pub filling_none : (n : ℕ) (bs : List ℕ) (t : List (List ℕ)) (rest : List Function) → rest ≡ functions_from n bs 8 → Filling n bs t 0 rest
filling_none n bs t rest e = record { room = omega (arith, ap length e, functions_short bs n 8); table = table_entries bs n 8 ∙ ap (flat (entry_of bs)) (sym e) }

pub filling_all : (n : ℕ) (bs : List ℕ) (t : List (List ℕ)) (k : ℕ) (rest : List Function) → Filling n bs t k rest → rest ≡ [] → entries (take k t) ≡ table_from n bs 8
filling_all n bs t k rest w e = sym (w.table ∙ ap (λ r. entries (take k t) ++ flat (entry_of bs) r) e ∙ append-nil (entries (take k t)))

-- one entry more is written
module _ (t : List (List ℕ)) (k : ℕ) (h : k < length t) where
  pub entry_put : (h₁ o : ℕ) → entries (take (k + 1) (set t k (h₁ ∷ o ∷ []))) ≡ entries (take k t) ++ h₁ ∷ o ∷ []
  entry_put h₁ o = ap entries (take_more_set t k (h₁ ∷ o ∷ []) h) ∙ flat_append (λ e. e) (take k t) ((h₁ ∷ o ∷ []) ∷ [])

pub filling_more : (n : ℕ) (bs : List ℕ) (t : List (List ℕ)) (k : ℕ) (rest left : List Function) (f : Function) (h : ℕ) →
    Filling n bs t k rest → rest ≡ f ∷ left → n ≤ length t → h ≡ hash (between (f.at + 8) f.params bs) → Filling n bs (set t k (h ∷ f.at ∷ [])) (k + 1) left
filling_more n bs t k rest left f h w e l p =
    record {
      room = omega (arith, w.room, ap length e);
      table =
          w.table ∙ ap (λ r. entries (take k t) ++ flat (entry_of bs) r) e
          ∙ sym (append_assoc (entries (take k t)) (entry_of bs f) (flat (entry_of bs) left))
          ∙ ap (λ r. r ++ flat (entry_of bs) left) (ap (λ x. entries (take k t) ++ x ∷ f.at ∷ []) (sym p) ∙ sym (entry_put t k (omega (arith, w.room, ap length e)) h f.at));
    }

entry_is : (e : List ℕ) → length e ≡ 2 → e ≡ get_or e 0 0 ∷ get_or e 1 0 ∷ []
entry_is [] l = absurd (omega arith)
entry_is (a ∷ []) l = absurd (omega arith)
entry_is (a ∷ b ∷ []) l = refl
entry_is (a ∷ b ∷ c ∷ e) l = absurd (omega arith)

-- the names of this entry and of the function at o, whose name comes to h, are not the same
abbrev pub apart : List ℕ → ℕ → ℕ → List ℕ → Bool
apart bs h o e = not (eqb h (get_or e 0 0) && same (name_there bs o) (name_there bs (get_or e 1 0)))

-- entries of two words each, one after the other
abbrev pub Twos : List (List ℕ) → Type 0
Twos t = (k : ℕ) → k < length t → length (get_or t k []) ≡ 2

entries_more : (e : List ℕ) (t : List (List ℕ)) → Twos (e ∷ t) → entries (e ∷ t) ≡ get_or e 0 0 ∷ get_or e 1 0 ∷ entries t
entries_more e t two = ap (λ l. l ++ entries t) (entry_is e (two 0 (omega arith)))

twos_more : (e : List ℕ) (t : List (List ℕ)) → Twos (e ∷ t) → Twos t
twos_more e t two k h = two (suc k) (omega arith)

pub like_listed : (bs : List ℕ) (h o : ℕ) (t : List (List ℕ)) → Twos t → list_all (apart bs h o) t ≡ none_like bs h o (entries t)
unfolding none_like
like_listed bs h o [] two = refl
like_listed bs h o (e ∷ t) two = ap (λ b. apart bs h o e && b) (like_listed bs h o t (twos_more e t two)) ∙ sym (ap (none_like bs h o) (entries_more e t two))

-- the entries behind the first
abbrev pub later : List (List ℕ) → List (List ℕ)
later t = take (length t - 1) (drop 1 t)

-- the first entry is like none of the others, which differ
pub differ_turn : (bs : List ℕ) (t : List (List ℕ)) → 1 ≤ length t → Twos t →
    all_differ bs (entries t) ≡ (none_like bs (get_or (get_or t 0 []) 0 0) (get_or (get_or t 0 []) 1 0) (entries (later t)) && all_differ bs (entries (later t)))
unfolding all_differ
differ_turn bs [] some two = absurd (omega arith)
differ_turn bs (e ∷ t) some two =
    ap (all_differ bs) (entries_more e t two)
    ∙ ap (λ l. none_like bs (get_or e 0 0) (get_or e 1 0) (entries l) && all_differ bs (entries l)) (sym (take_rest (e ∷ t) 1))

pub differ_none : (bs : List ℕ) (t : List (List ℕ)) → length t < 1 → all_differ bs (entries t) ≡ true
unfolding all_differ
differ_none bs [] none = refl
differ_none bs (e ∷ t) none = absurd (omega arith)

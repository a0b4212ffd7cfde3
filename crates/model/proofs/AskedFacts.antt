-- A text asks for the command that is spelled so and fits, and for no other. Assumes nothing.
use Rattle.std.proofs.Common.{◌≡◌, ℕ, ◌<◌, true, ltb, List, [], ◌∷◌, ◌++◌, length, get_or, Some, None, sym, refl, ap, ◌∙◌, subst, ap₂, arith, ltb-true}
use borrow.Author.Tests.{clash}
use Rattle.std.proofs.lemmas.List.{append_assoc, append-nil}
use Rattle.std.proofs.lemmas.Bool.{and_parts, and_from}
use Rattle.language.specs.Basics.{pick, every, none_of}
use Rattle.language.specs.Bytes.{Name, eight, with_length, all_bytes}
use Rattle.language.specs.Expr.{Program}
use Rattle.language.specs.Spelling.{program_spelled}
use Rattle.language.specs.Fits.{a_name, a_program}
use Rattle.language.specs.Reading.{found}
use Rattle.language.proofs.ByteFacts.{bytes_append, bytes_first, bytes_eight, bytes_name, bytes_program}
use Rattle.language.proofs.ReadingFacts.{found_some, pick_some, pick-found}
use Rattle.language.proofs.HeadFacts.{either}
use Rattle.language.proofs.ProgramFacts.{program_read, program_was}
use Rattle.model.specs.Command.{Command, load, show, names, rename_bind, rename_param, rename_fun, extract, inline_bind, inline_call, turn_cond, drop_fun, undo, place_spelled, spelled, a_place, fits}
use Rattle.model.specs.Whole.{Said}
use Rattle.model.specs.Reading.{Ask, loading, asking, Asks, Field, Located, located, Target, target, last_name, target_in, whole, load_in, by_name, by_names, by_place, by_place_name, by_index_name, command_in, of_kind, asked}
use Rattle.model.proofs.FieldFacts.{name_fields, index_fields, an_index, place_fields}

-- nothing comes after it
none_rest : (bs : List ℕ) → none_of bs ≡ true → bs ≡ []
none_rest [] h = refl
none_rest (b ∷ bs) h = absurd (clash h)

last_read : (x : Name) → a_name x ≡ true → last_name (with_length x) ≡ Some x
last_read x h =
    ap (λ bs. last_name bs) (sym (append-nil (with_length x))) ∙ ap (λ o. found o (λ (f : Field). pick (none_of f.rest) (Some f.value) None)) (name_fields.read x [] h)

last_was : (bs : List ℕ) (x : Name) → all_bytes bs ≡ true → last_name bs ≡ Some x → (a_name x ≡ true) × (bs ≡ with_length x)
last_was bs x bytes e =
    let got = found_some _ _ _ e in
    let f = got.0 in
    let w = name_fields.was bs f bytes got.1 in
    let kept = pick_some _ _ _ got.2 in
    subst (λ y. (a_name y ≡ true) × (bs ≡ with_length y)) kept.1
    (w.0, w.1 ∙ ap (λ r. with_length f.value ++ r) (none_rest f.rest kept.0) ∙ append-nil (with_length f.value))

target_read : (x : Name) (ks rest : List ℕ) → a_name x ≡ true → a_place ks ≡ true → target_in (with_length x ++ (place_spelled ks ++ rest)) ≡ Some (located x ks rest)
target_read x ks rest h k = grind (arith, name_fields, place_fields)

record TargetWas (bs : List ℕ) (t : Located) : Type 0 where
  name-fits : a_name t.function ≡ true
  place-fits : a_place t.place ≡ true
  spelled_so : bs ≡ with_length t.function ++ (place_spelled t.place ++ t.rest)
  bytes_after : all_bytes t.rest ≡ true

target_was : (bs : List ℕ) (t : Located) → all_bytes bs ≡ true → target_in bs ≡ Some t → TargetWas bs t
target_was bs t bytes e =
    let got = found_some _ _ _ e in
    let f = got.0 in
    let w = name_fields.was bs f bytes got.1 in
    let got2 = found_some _ _ _ got.2 in
    let g = got2.0 in
    let v = place_fields.was f.rest g w.2 got2.1 in
    let is : located f.value g.value g.rest ≡ t = cc got2.2 in
    subst (TargetWas bs) is
    (record { name-fits = w.0; place-fits = v.0; spelled_so = w.1 ∙ ap (λ r. with_length f.value ++ r) v.1; bytes_after = v.2 })

-- each shape of a command, read from what is spelled so
module _ (x : Name) (h : a_name x ≡ true) where
  name_reads : (c : Name → Command) → by_name c (with_length x) ≡ Some (asking (c x))
  name_reads c = grind (arith, last_read)

  names_reads : (c : Name → Name → Command) (y : Name) → a_name y ≡ true → by_names c (with_length x ++ with_length y) ≡ Some (asking (c x y))
  names_reads c y k = grind (arith, name_fields, last_read)

  place_reads : (c : Name → List ℕ → Command) (ks : List ℕ) → a_place ks ≡ true → by_place c (with_length x ++ place_spelled ks) ≡ Some (asking (c x ks))
  place_reads c ks k =
      ap (λ bs. by_place c (with_length x ++ bs)) (sym (append-nil (place_spelled ks)))
      ∙ ap (λ o. found (found o (λ (t : Located). pick (none_of t.rest) (Some (target t.function t.place)) None)) (λ (t : Target). Some (asking (c t.function t.place))))
      (target_read x ks [] h k)

  place_name_reads : (c : Name → List ℕ → Name → Command) (ks : List ℕ) (y : Name) → a_place ks ≡ true → a_name y ≡ true →
      by_place_name c (with_length x ++ place_spelled ks ++ with_length y) ≡ Some (asking (c x ks y))
  place_name_reads c ks y k l = grind (arith, append_assoc, target_read, last_read)

  index_name_reads : (c : Name → ℕ → Name → Command) (i : ℕ) (y : Name) → ltb i 16 ≡ true → a_name y ≡ true →
      by_index_name c (with_length x ++ i ∷ with_length y) ≡ Some (asking (c x i y))
  index_name_reads c i y k l = grind (arith, name_fields, last_read)

pub bytes_place : (ks : List ℕ) → a_place ks ≡ true → all_bytes (place_spelled ks) ≡ true
bytes_place ks h = bytes_append (eight (length ks)) ks (bytes_eight (length ks)) (go ks (and_parts _ _ h).1)
  where
    go : (ks : List ℕ) → every (λ k. ltb k 16) ks ≡ true → all_bytes ks ≡ true
    go [] h = refl
    go (k ∷ ks) h = let q = and_parts _ _ h in bytes_first k ks (omega (arith, ltb-true _ _ q.0)) (go ks q.1)

two_bytes : (k : ℕ) (x : Name) (ks : List ℕ) → k < 256 → a_name x ≡ true → a_place ks ≡ true → all_bytes (k ∷ (with_length x ++ place_spelled ks)) ≡ true
two_bytes k x ks b h l = grind (arith, bytes_append, bytes_name, bytes_place)

three_bytes : (k : ℕ) (x : Name) (ks : List ℕ) (y : Name) → k < 256 → a_name x ≡ true → a_place ks ≡ true → a_name y ≡ true → all_bytes (k ∷ (with_length x ++ place_spelled ks ++ with_length y)) ≡ true
three_bytes k x ks y b h l m = grind (arith, bytes_append, bytes_name, bytes_place)

-- what a command that fits asks for, and that it is spelled in bytes
record ReadSo (c : Command) : Type 0 where
  ask : Ask
  kind : of_kind (spelled c) ≡ Some ask
  it : Asks ask c
  bytes : all_bytes (spelled c) ≡ true

-- of every command but loading: it asks for itself
so : (c : Command) → of_kind (spelled c) ≡ Some (asking c) → all_bytes (spelled c) ≡ true → ReadSo c
unfolding Asks
so c kind bytes = record { ask = asking c; kind = kind; it = refl; bytes = bytes }

loading_so : (p : Program) → a_program p ≡ true → ReadSo (load p)
unfolding spelled Asks
loading_so p h =
    record {
      ask = loading (program_spelled p);
      kind = ap (λ t. pick t (Some (loading (program_spelled p))) None) (program_read p (bytes_program p h) h);
      it = (p, refl, h, refl);
      bytes = bytes_first 1 (program_spelled p) (omega arith) (bytes_program p h);
    }

read_so : (c : Command) → fits c ≡ true → ReadSo c
unfolding spelled fits
read_so (load p) h = loading_so p h
read_so (show x) h = so (show x) (name_reads x h show) (bytes_first 2 (with_length x) (omega arith) (bytes_name x h))
read_so names h = so names refl refl
read_so (rename_bind x ks y) h =
    let q = and_parts _ _ h in
    let r = and_parts _ _ q.0 in
    so (rename_bind x ks y) (place_name_reads x r.0 rename_bind ks y q.1 r.1) (three_bytes 4 x ks y (omega arith) r.0 q.1 r.1)
read_so (rename_param x i y) h =
    let q = and_parts _ _ h in
    let r = and_parts _ _ q.0 in
    so (rename_param x i y) (index_name_reads x r.0 rename_param i y q.1 r.1)
    (bytes_first 5 (with_length x ++ i ∷ with_length y) (omega arith)
    (bytes_append (with_length x) (i ∷ with_length y) (bytes_name x r.0)
    (bytes_first i (with_length y) (omega (arith, ltb-true _ _ q.1)) (bytes_name y r.1))))
read_so (rename_fun x y) h =
    let r = and_parts _ _ h in
    so (rename_fun x y) (names_reads x r.0 rename_fun y r.1)
    (bytes_first 6 (with_length x ++ with_length y) (omega arith)
    (bytes_append (with_length x) (with_length y) (bytes_name x r.0) (bytes_name y r.1)))
read_so (extract x ks y) h =
    let q = and_parts _ _ h in
    let r = and_parts _ _ q.0 in
    so (extract x ks y) (place_name_reads x r.0 extract ks y q.1 r.1) (three_bytes 7 x ks y (omega arith) r.0 q.1 r.1)
read_so (inline_bind x ks) h =
    let r = and_parts _ _ h in
    so (inline_bind x ks) (place_reads x r.0 inline_bind ks r.1) (two_bytes 8 x ks (omega arith) r.0 r.1)
read_so (inline_call x ks) h =
    let r = and_parts _ _ h in
    so (inline_call x ks) (place_reads x r.0 inline_call ks r.1) (two_bytes 9 x ks (omega arith) r.0 r.1)
read_so (turn_cond x ks) h =
    let r = and_parts _ _ h in
    so (turn_cond x ks) (place_reads x r.0 turn_cond ks r.1) (two_bytes 10 x ks (omega arith) r.0 r.1)
read_so (drop_fun x) h = so (drop_fun x) (name_reads x h drop_fun) (bytes_first 11 (with_length x) (omega arith) (bytes_name x h))
read_so undo h = so undo refl refl

-- a command that is spelled so and fits is what the text asks for
pub said-asked : (text : List ℕ) (c : Command) → Said text c → (a : Ask) × (asked text ≡ Some a) × Asks a c
unfolding Said asked
said-asked text c said =
    let r = read_so c said.1 in (
      r.ask,
      ap (λ t. pick (all_bytes t) (of_kind t) None) (sym said.0) ∙ ap (λ t. pick t (of_kind (spelled c)) None) r.bytes ∙ r.kind,
      r.it,
    )

-- a command that is spelled so and fits, and for which the text asks
abbrev Written : ℕ → List ℕ → Ask → Type 0
Written k bs a = (c : Command) × (spelled c ≡ k ∷ bs) × (fits c ≡ true) × Asks a c

module _ (k : ℕ) (bs : List ℕ) (bytes : all_bytes bs ≡ true) (a : Ask) where
  alone_was : (c : Command) → spelled c ≡ k ∷ [] → fits c ≡ true → whole bs c ≡ Some a → Written k bs a
  unfolding Asks
  alone_was c s f e =
      let kept = pick_some _ _ _ e in
      subst (Written k bs) kept.1 (c, s ∙ ap (λ r. k ∷ r) (sym (none_rest bs kept.0)), f, refl)

  name_was : (c : Name → Command) → ((x : Name) → spelled (c x) ≡ k ∷ with_length x) → ((x : Name) → a_name x ≡ true → fits (c x) ≡ true) →
      by_name c bs ≡ Some a → Written k bs a
  unfolding Asks
  name_was c s f e =
      let got = found_some _ _ _ e in
      let x = got.0 in
      let w = last_was bs x bytes got.1 in
      let is : asking (c x) ≡ a = cc got.2 in
      subst (Written k bs) is (c x, s x ∙ ap (λ r. k ∷ r) (sym w.1), f x w.0, refl)

  names_was : (c : Name → Name → Command) → ((x y : Name) → spelled (c x y) ≡ k ∷ (with_length x ++ with_length y)) →
      ((x y : Name) → a_name x ≡ true → a_name y ≡ true → fits (c x y) ≡ true) → by_names c bs ≡ Some a → Written k bs a
  unfolding Asks
  names_was c s f e =
      let got = found_some _ _ _ e in
      let g = got.0 in
      let w = name_fields.was bs g bytes got.1 in
      let got2 = found_some _ _ _ got.2 in
      let y = got2.0 in
      let v = last_was g.rest y w.2 got2.1 in
      let is : asking (c g.value y) ≡ a = cc got2.2 in
      subst (Written k bs) is (c g.value y, s g.value y ∙ ap (λ r. k ∷ r) (ap (λ r. with_length g.value ++ r) (sym v.1) ∙ sym w.1), f g.value y w.0 v.0, refl)

  place_was : (c : Name → List ℕ → Command) → ((x : Name) (ks : List ℕ) → spelled (c x ks) ≡ k ∷ (with_length x ++ place_spelled ks)) →
      ((x : Name) (ks : List ℕ) → a_name x ≡ true → a_place ks ≡ true → fits (c x ks) ≡ true) → by_place c bs ≡ Some a → Written k bs a
  unfolding Asks
  place_was c s f e =
      let got = found_some _ _ _ e in
      let t = got.0 in
      let got2 = found_some _ _ _ got.1 in
      let l = got2.0 in
      let w = target_was bs l bytes got2.1 in
      let kept = pick_some _ _ _ got2.2 in
      let is : asking (c l.function l.place) ≡ a = ap (λ (t : Target). asking (c t.function t.place)) kept.1 ∙ cc got.2 in
      subst (Written k bs) is (
        c l.function l.place,
        s l.function l.place
            ∙ ap (λ r. k ∷ r) (ap (λ r. with_length l.function ++ r) (sym (append-nil (place_spelled l.place)) ∙ ap (λ r. place_spelled l.place ++ r) (sym (none_rest l.rest kept.0))) ∙ sym w.spelled_so),
        f l.function l.place w.name-fits w.place-fits,
        refl,
      )

  place_name_was : (c : Name → List ℕ → Name → Command) → ((x : Name) (ks : List ℕ) (y : Name) → spelled (c x ks y) ≡ k ∷ (with_length x ++ place_spelled ks ++ with_length y)) →
      ((x : Name) (ks : List ℕ) (y : Name) → a_name x ≡ true → a_place ks ≡ true → a_name y ≡ true → fits (c x ks y) ≡ true) → by_place_name c bs ≡ Some a → Written k bs a
  unfolding Asks
  place_name_was c s f e =
      let got = found_some _ _ _ e in
      let l = got.0 in
      let w = target_was bs l bytes got.1 in
      let got2 = found_some _ _ _ got.2 in
      let y = got2.0 in
      let v = last_was l.rest y w.bytes_after got2.1 in
      let is : asking (c l.function l.place y) ≡ a = cc got2.2 in
      subst (Written k bs) is (
        c l.function l.place y,
        s l.function l.place y
            ∙ ap (λ r. k ∷ r) (append_assoc (with_length l.function) (place_spelled l.place) (with_length y)
            ∙ ap (λ r. with_length l.function ++ (place_spelled l.place ++ r)) (sym v.1) ∙ sym w.spelled_so),
        f l.function l.place y w.name-fits w.place-fits v.0,
        refl,
      )

  index_one : (is : List ℕ) → an_index is ≡ true → (is ≡ get_or is 0 0 ∷ []) × (ltb (get_or is 0 0) 16 ≡ true)
  index_one [] h = absurd (clash h)
  index_one (i ∷ []) h = (refl, h)
  index_one (i ∷ j ∷ is) h = absurd (clash h)

  index_name_was : (c : Name → ℕ → Name → Command) → ((x : Name) (i : ℕ) (y : Name) → spelled (c x i y) ≡ k ∷ (with_length x ++ i ∷ with_length y)) →
      ((x : Name) (i : ℕ) (y : Name) → a_name x ≡ true → ltb i 16 ≡ true → a_name y ≡ true → fits (c x i y) ≡ true) → by_index_name c bs ≡ Some a → Written k bs a
  unfolding Asks
  index_name_was c s f e =
      let got = found_some _ _ _ e in
      let g = got.0 in
      let w = name_fields.was bs g bytes got.1 in
      let got2 = found_some _ _ _ got.2 in
      let h = got2.0 in
      let v = index_fields.was g.rest h w.2 got2.1 in
      let one = index_one h.value v.0 in
      let i = get_or h.value 0 0 in
      let got3 = found_some _ _ _ got2.2 in
      let y = got3.0 in
      let u = last_was h.rest y v.2 got3.1 in
      let is : asking (c g.value i y) ≡ a = cc got3.2 in
      subst (Written k bs) is (
        c g.value i y,
        s g.value i y
            ∙ ap (λ r. k ∷ r) (ap (λ r. with_length g.value ++ r) (ap (λ r. i ∷ r) (sym u.1) ∙ sym (ap (λ r. r ++ h.rest) one.0) ∙ sym v.1) ∙ sym w.1),
        f g.value i y w.0 one.1 u.0,
        refl,
      )

  load_was : k ≡ 1 → load_in bs ≡ Some a → Written k bs a
  unfolding Asks spelled fits
  load_was k-is e =
      let kept = pick_some _ _ _ e in
      let p = program_was bs bytes kept.0 in
      subst (Written k bs) kept.1 (load p.0, ap₂ ◌∷◌ (sym k-is) p.1, p.2, (p.0, p.1, p.2, refl))

kind_was : (k : ℕ) (bs : List ℕ) → all_bytes bs ≡ true → (a : Ask) → command_in k bs ≡ Some a → Written k bs a
unfolding spelled fits
kind_was k bs bytes a =
    either k 1 _ _ a (λ is e. load_was k bs bytes a is e)
    (either k 2 _ _ a (λ is e. name_was k bs bytes a show (λ x. ap (λ n. n ∷ with_length x) (sym is)) (λ x h. h) e)
    (either k 3 _ _ a (λ is e. alone_was k bs bytes a names (ap (λ n. n ∷ []) (sym is)) refl e)
    (either k 4 _ _ a (λ is e. place_name_was k bs bytes a rename_bind (λ x ks y. ap (λ n. n ∷ (with_length x ++ place_spelled ks ++ with_length y)) (sym is)) (λ x ks y h l m. and_from _ _ (and_from _ _ h m) l) e)
    (either k 5 _ _ a (λ is e. index_name_was k bs bytes a rename_param (λ x i y. ap (λ n. n ∷ (with_length x ++ i ∷ with_length y)) (sym is)) (λ x i y h l m. and_from _ _ (and_from _ _ h m) l) e)
    (either k 6 _ _ a (λ is e. names_was k bs bytes a rename_fun (λ x y. ap (λ n. n ∷ (with_length x ++ with_length y)) (sym is)) (λ x y h l. and_from _ _ h l) e)
    (either k 7 _ _ a (λ is e. place_name_was k bs bytes a extract (λ x ks y. ap (λ n. n ∷ (with_length x ++ place_spelled ks ++ with_length y)) (sym is)) (λ x ks y h l m. and_from _ _ (and_from _ _ h m) l) e)
    (either k 8 _ _ a (λ is e. place_was k bs bytes a inline_bind (λ x ks. ap (λ n. n ∷ (with_length x ++ place_spelled ks)) (sym is)) (λ x ks h l. and_from _ _ h l) e)
    (either k 9 _ _ a (λ is e. place_was k bs bytes a inline_call (λ x ks. ap (λ n. n ∷ (with_length x ++ place_spelled ks)) (sym is)) (λ x ks h l. and_from _ _ h l) e)
    (either k 10 _ _ a (λ is e. place_was k bs bytes a turn_cond (λ x ks. ap (λ n. n ∷ (with_length x ++ place_spelled ks)) (sym is)) (λ x ks h l. and_from _ _ h l) e)
    (either k 11 _ _ a (λ is e. name_was k bs bytes a drop_fun (λ x. ap (λ n. n ∷ with_length x) (sym is)) (λ x h. h) e)
    (either k 12 _ _ a (λ is e. alone_was k bs bytes a undo (ap (λ n. n ∷ []) (sym is)) refl e)
    (λ e. let z : ◌≡◌ {A = ℕ} 0 1 = cc in absurd (omega arith)))))))))))))

-- what a text asks for is a command that is spelled so and fits
pub asked-said : (text : List ℕ) (a : Ask) → asked text ≡ Some a → (c : Command) × Said text c × Asks a c
unfolding Said asked
asked-said text a e =
    let kept = pick-found _ _ _ e in
    of text kept.0 kept.1
  where
    of : (text : List ℕ) → all_bytes text ≡ true → of_kind text ≡ Some a → (c : Command) × ((spelled c ≡ text) × (fits c ≡ true)) × Asks a c
    of [] bytes e = let z : ◌≡◌ {A = ℕ} 0 1 = cc in absurd (omega arith)
    of (k ∷ bs) bytes e =
        let w = kind_was k bs (and_parts _ _ bytes).1 a e in
        (w.0, (w.1, w.2), w.3)

-- loading is asked for by the program's bytes
pub load-asked : (text : List ℕ) (p : Program) → Said text (load p) → asked text ≡ Some (loading (program_spelled p))
unfolding Said asked spelled fits
load-asked text p said =
    let bytes = bytes_program p said.1 in
    ap (λ t. pick (all_bytes t) (of_kind t) None) (sym said.0)
    ∙ ap (λ t. pick t (load_in (program_spelled p)) None) (bytes_first 1 (program_spelled p) (omega arith) bytes)
    ∙ ap (λ t. pick t (Some (loading (program_spelled p))) None) (program_read p bytes said.1)

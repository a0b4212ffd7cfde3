-- What gives a name is read where it stands: a let by its head and the end of its first part, a function's own name by the names before it. With
-- another name and another body in the function, the bytes around them stay. Assumes nothing.
use Rattle.std.proofs.Common.{◌≡◌, ℕ, suc, ◌+◌, ◌≤◌, true, ltb, List, [], ◌∷◌, ◌++◌, length, Some, None, sym, refl, ap, ◌∙◌, subst, ap₂, arith, lt-ltb, eq-eqb}
use Rattle.std.specs.List.{between}
use Rattle.std.proofs.lemmas.List.{append_assoc, length-append}
use Rattle.std.proofs.lemmas.Bool.{and_parts, and_from}
use Rattle.language.specs.Basics.{pick, every, each, flat, same}
use Rattle.language.specs.Bytes.{Name, eight, with_length, all_bytes}
use Rattle.language.specs.Expr.{Expr, bind, Fun, Program, parts}
use Rattle.language.specs.Names.{distinct}
use Rattle.language.specs.Spelling.{expr_spelled, fun_spelled, program_spelled}
use Rattle.language.specs.Fits.{a_name, an_expr, a_fun, a_program}
use Rattle.language.specs.Heads.{head_of, head_spelled}
use Rattle.language.specs.Reading.{found, name_end, times}
use Rattle.language.specs.Contents.{own_names, body_of}
use Rattle.language.specs.Binders.{binder, let_of, let_at, own_at, own_binder}
use Rattle.language.proofs.ListFacts.{every-parts, flat_append}
use Rattle.language.proofs.FitFacts.{bind_fit}
use Rattle.language.proofs.ByteFacts.{bytes_program}
use Rattle.language.proofs.StandsFacts.{Stands, stands-first, stands-second, length-eight, number_stands}
use Rattle.language.proofs.HeadFacts.{length_with, name-stands}
use Rattle.language.proofs.NodeFacts.{spelled_node}
use Rattle.language.proofs.ProgramFacts.{name_reads, expr_reads, params_spelled, times_reads}
use Rattle.language.proofs.ProgramFits.{fun-fits}
use Rattle.language.proofs.PlaceLaws.{head_read}
use Rattle.language.proofs.ContentsLaws.{name_is, own_are, FoundIn}
use Rattle.language.proofs.ChangeLaws.{fun_split, body_from, body_at, changed-spelled, changed-fun}

-- a let
module _ (bs : List ℕ) (bytes : all_bytes bs ≡ true) (i : ℕ) where
  pub let-head : (c : Expr) → an_expr c ≡ true → Stands bs i (expr_spelled c) → let_at bs i ≡ let_of bs i (i + length (head_spelled (head_of c))) (head_of c)
  let-head c fit s = grind (arith, head_read)

  pub let_some : (z : Name) (a b : Expr) → an_expr (bind z a b) ≡ true → Stands bs i (expr_spelled (bind z a b)) →
      let_at bs i ≡ Some (binder z (i + 1) (i + 1 + (length (with_length z) + length (expr_spelled a))))
  unfolding head_of head_spelled parts
  let_some z a b fit s =
      let j = i + length (4 ∷ with_length z) in
      let node = subst (Stands bs i) (spelled_node (bind z a b)) s in
      let after : Stands bs j (expr_spelled a ++ (expr_spelled b ++ [])) = stands-second bs i (4 ∷ with_length z) (expr_spelled a ++ (expr_spelled b ++ [])) node in
      let-head (bind z a b) fit s
      ∙ ap (λ o. found o (λ k. Some (binder z (i + 1) k))) ((expr_reads bs bytes).read j a (bind_fit z a b fit).1 (stands-first bs j (expr_spelled a) (expr_spelled b ++ []) after))
      ∙ ap (λ k. Some (binder z (i + 1) k)) (omega arith)

-- a function's own name, with names before and behind it
own-front : Fun → List Name → List Name → List ℕ
own-front f left right = with_length f.name ++ (eight (length left + suc (length right)) ++ flat with_length left)

-- a function with other own names and another body
abbrev pub owned : Fun → List Name → Expr → Fun
owned f xs e = record { name = f.name; params = xs; body = e }

regroup : (a b c d e g : List ℕ) → (a ++ (b ++ (c ++ (d ++ e)))) ++ g ≡ (a ++ (b ++ c)) ++ (d ++ (e ++ g))
regroup a b c d e g = simp append_assoc

own-spelled : (f : Fun) (left : List Name) (y : Name) (right : List Name) (e : Expr) →
    fun_spelled (owned f (left ++ y ∷ right) e) ≡ own-front f left right ++ (with_length y ++ (flat with_length right ++ expr_spelled e))
unfolding own-front
own-spelled f left y right e =
    fun_split (owned f (left ++ y ∷ right) e)
    ∙ ap₂ (λ n r. (with_length f.name ++ (eight n ++ r)) ++ expr_spelled e) (length-append left (y ∷ right)) (flat_append with_length left (y ∷ right))
    ∙ regroup (with_length f.name) (eight (length left + suc (length right))) (flat with_length left) (with_length y) (flat with_length right) (expr_spelled e)

module _ (bs : List ℕ) (bytes : all_bytes bs ≡ true) (o : ℕ) (f : Fun) (fit : a_fun f ≡ true) (s : Stands bs o (fun_spelled f)) where
  names_at : ℕ
  names_at = o + 8 + length f.name + 8

  front-stands : Stands bs o (with_length f.name ++ (params_spelled f.params ++ expr_spelled f.body))
  front-stands = grind (arith, append_assoc)

  name-first : Stands bs o (with_length f.name)
  name-first = grind (arith, stands-first)

  names_stand : Stands bs (o + 8 + length f.name) (params_spelled f.params)
  names_stand =
      stands-first bs (o + 8 + length f.name) (params_spelled f.params) (expr_spelled f.body)
      (subst (λ k. Stands bs k (params_spelled f.params ++ expr_spelled f.body)) (omega (arith, length_with f.name))
      (stands-second bs o (with_length f.name) (params_spelled f.params ++ expr_spelled f.body) front-stands))

  -- all of them
  pub own_is : own_names bs o ≡ f.params
  own_is = grind (arith, own_are, stands-first, fun_split)

  own_at_is : (i : ℕ) → own_at bs o i ≡ pick (ltb i (length f.params)) (times i (name_end bs) names_at) None
  unfolding names_at
  own_at_is i = grind (arith, name-stands, fun-fits, name-first, number_stands, stands-first, names_stand)

  -- there is none
  pub own_none : (i : ℕ) → length f.params ≤ i → own_binder bs o i ≡ None
  own_none i h = grind (arith, own_at_is)

  module _ (left : List Name) (z : Name) (right : List Name) (split : f.params ≡ left ++ z ∷ right) where
    names_fit : every a_name (left ++ z ∷ right) ≡ true
    names_fit = ap (every a_name) (sym split) ∙ (fun-fits f fit).2

    all_stand : Stands bs names_at (flat with_length left ++ (with_length z ++ flat with_length right))
    unfolding names_at
    all_stand =
        subst (Stands bs (o + 8 + length f.name + 8)) (ap (flat with_length) split ∙ flat_append with_length left (z ∷ right))
        (subst (λ k. Stands bs k (flat with_length f.params)) (omega (arith, length-eight (length f.params)))
        (stands-second bs (o + 8 + length f.name) (eight (length f.params)) (flat with_length f.params) names_stand))

    own_here : ℕ
    own_here = names_at + length (flat with_length left)

    own_at_some : own_at bs o (length left) ≡ Some own_here
    unfolding own_here
    own_at_some =
        own_at_is (length left)
        ∙ ap (λ t. pick t (times (length left) (name_end bs) names_at) None) (lt-ltb (length left) (length f.params) (omega (arith, ap length split, length-append left (z ∷ right))))
        ∙ (times_reads bs (name_end bs) with_length a_name (name_reads bs bytes) (length left)
        ).read names_at left (and_from _ _ (every-parts a_name left (z ∷ right) names_fit).0 (eq-eqb (length left) (length left) refl))
        (stands-first bs names_at (flat with_length left) (with_length z ++ flat with_length right) all_stand)

    own-fits : a_name z ≡ true
    own-fits = (and_parts _ _ (every-parts a_name left (z ∷ right) names_fit).1).0

    own-stands : Stands bs own_here (with_length z)
    unfolding own_here
    own-stands =
        stands-first bs own_here (with_length z) (flat with_length right)
        (stands-second bs names_at (flat with_length left) (with_length z ++ flat with_length right) all_stand)

    own-ends : name_end bs own_here ≡ Some (own_here + 8 + length z)
    own-ends = name-stands bs own_here z own-fits own-stands

    named_here : between (own_here + 8) (own_here + 8 + length z) bs ≡ z
    named_here = grind (arith, own-ends, name_is, own-fits, own-stands)

    own_some : own_binder bs o (length left) ≡ Some (binder z (o + length (own-front f left right)) (body_from o f))
    unfolding own_here names_at own-front
    own_some =
        ap (λ q. found q (λ k. found (name_end bs k) (λ j. found (body_of bs o) (λ b. Some (binder (between (k + 8) j bs) k b))))) own_at_some
        ∙ ap (λ q. found q (λ j. found (body_of bs o) (λ b. Some (binder (between (own_here + 8) j bs) own_here b)))) own-ends
        ∙ ap₂ (λ x q. found q (λ b. Some (binder x own_here b))) named_here (body_at bs bytes o f fit s).at_is
        ∙ ap (λ k. Some (binder z k (body_from o f)))
        (omega (
          arith,
          length_with f.name,
          length-eight (length left + suc (length right)),
          length-append (with_length f.name) (eight (length left + suc (length right)) ++ flat with_length left),
          length-append (eight (length left + suc (length right))) (flat with_length left),
        ))

-- z is an own name of the function that stands at o in the spelling of p: what is around it and the body, and that this stays where another name
-- and another body are put there
pub record OwnIn (p : Program) (o : ℕ) (f : Fun) (left : List Name) (z : Name) (right : List Name) : Type 0 where
  pub before : List ℕ
  pub after : List ℕ
  pub low : 1 ≤ length before
  pub at_is : own_binder (program_spelled p) o (length left) ≡ Some (binder z (length before) (length before + (length (with_length z) + length (flat with_length right))))
  pub split : program_spelled p ≡ before ++ (with_length z ++ (flat with_length right ++ (expr_spelled f.body ++ after)))
  pub put : (y : Name) (e : Expr) → program_spelled (each (λ h. pick (same h.name f.name) (owned f (left ++ y ∷ right) e) h) p) ≡ before ++ (with_length y ++ (flat with_length right ++ (expr_spelled e ++ after)))

around : (n b h y r e a : List ℕ) → n ++ (b ++ ((h ++ (y ++ (r ++ e))) ++ a)) ≡ (n ++ (b ++ h)) ++ (y ++ (r ++ (e ++ a)))
around n b h y r e a = simp append_assoc

module _ (p : Program) (fit : a_program p ≡ true) (x : Name) (f : Fun) (r : FoundIn p x f) (left : List Name) (z : Name) (right : List Name) (split : f.params ≡ left ++ z ∷ right) where
  all-before : List ℕ
  all-before = eight (length p) ++ (flat fun_spelled r.place.before ++ own-front f left right)

  spelled-around : (y : Name) (e : Expr) →
      program_spelled (r.place.before ++ owned f (left ++ y ∷ right) e ∷ r.place.after)
      ≡ all-before ++ (with_length y ++ (flat with_length right ++ (expr_spelled e ++ flat fun_spelled r.place.after)))
  unfolding all-before
  spelled-around y e =
      changed-spelled p r.place.before f (owned f (left ++ y ∷ right) e) r.place.after r.place.split
      ∙ ap (λ l. eight (length p) ++ (flat fun_spelled r.place.before ++ (l ++ flat fun_spelled r.place.after))) (own-spelled f left y right e)
      ∙ around (eight (length p)) (flat fun_spelled r.place.before) (own-front f left right) (with_length y) (flat with_length right) (expr_spelled e) (flat fun_spelled r.place.after)

  before-long : r.place.at + length (own-front f left right) ≡ length all-before
  unfolding all-before
  before-long = grind (arith, length-eight, length-append)

  body_begins : body_from r.place.at f ≡ length all-before + (length (with_length z) + length (flat with_length right))
  unfolding own-front
  body_begins = grind (arith, before-long, length-append, flat_append)

  pub own_program : distinct (each (λ h. h.name) p) ≡ true → OwnIn p r.place.at f left z right
  own_program apart =
      record {
        before = all-before;
        after = flat fun_spelled r.place.after;
        low = omega (arith, before-long, r.place.at_is);
        at_is =
            own_some (program_spelled p) (bytes_program p fit) r.place.at f r.place.fits r.place.stands left z right split
            ∙ ap₂ (λ k b. Some (binder z k b)) before-long body_begins;
        split =
            ap program_spelled (r.place.split ∙ ap (λ xs. r.place.before ++ owned f xs f.body ∷ r.place.after) split) ∙ spelled-around z f.body;
        put = λ y e.
            ap program_spelled (changed-fun p r.place.before f (owned f (left ++ y ∷ right) e) r.place.after r.place.split apart) ∙ spelled-around y e;
      }

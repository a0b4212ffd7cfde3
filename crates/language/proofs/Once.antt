-- What stands at a place is one thing: no two names, expressions, functions or programs that fit are spelled alike. Assumes nothing.
use Rattle.std.proofs.Common.{◌≡◌, ℕ, zero, suc, ◌+◌, ◌-◌, ◌<◌, Bool, true, List, [], ◌∷◌, ◌++◌, length, get_or, take, drop, Some, sym, refl, ap, ◌∙◌, subst, ap₂, arith, leb-true}
use Rattle.std.specs.List.{between}
use Rattle.std.proofs.lemmas.List.{append-nil, length-append, take_at, drop_at}
use Rattle.std.proofs.lemmas.Bool.{and_parts, and_from}
use Rattle.language.specs.Basics.{every, flat}
use Rattle.language.specs.Bytes.{Name, eight, with_length}
use Rattle.language.specs.Expr.{Expr, num, parts, Fun, Program}
use Rattle.language.specs.Spelling.{expr_spelled, fun_spelled, program_spelled}
use Rattle.language.specs.Fits.{a_name, an_expr, a_fun, a_program}
use Rattle.language.specs.Heads.{head_of, head_spelled, a_head}
use Rattle.language.specs.Reading.{Token}
use Rattle.language.proofs.ListFacts.{every_append}
use Rattle.language.proofs.StandsFacts.{Stands, stands-first, stands-second, stands_in, length-eight, number_stands}
use Rattle.language.proofs.HeadFacts.{name-stands, name_bytes, head-stands}
use Rattle.language.proofs.NodeFacts.{parts-arity, head-fits, node_same, head-long}
use Rattle.language.proofs.ExprFacts.{first-stands, rest-stands}
use Rattle.language.proofs.ProgramFacts.{params_spelled, some_params, fun-parts, whole-stands}

-- two that fit and stand at one place are one
abbrev pub Once : {A : Type 0} → List ℕ → (A → List ℕ) → (A → Bool) → Type 0
Once {A} bs spell ok = (i : ℕ) (a b : A) → ok a ≡ true → ok b ≡ true → Stands bs i (spell a) → Stands bs i (spell b) → a ≡ b

some_same : {A : Type 0} (a b : A) → Some a ≡ Some b → a ≡ b
some_same a b e = cc

pub name_once : (bs : List ℕ) → Once bs with_length a_name
name_once bs i x y h k s t =
    let same_end = some_same _ _ (sym (name-stands bs i x h s) ∙ name-stands bs i y k t) in
    sym (name_bytes bs i x h s) ∙ ap (λ j. between (i + 8) j bs) same_end ∙ name_bytes bs i y k t

head_once : (bs : List ℕ) → Once bs head_spelled a_head
head_once bs i g h p q s t = ap (λ (x : Token). x.head) (some_same _ _ (sym (head-stands bs i g p s) ∙ head-stands bs i h q t))

-- so many expressions that stand at one place are the same, where at most n bytes are left
abbrev SameExprs : ℕ → List ℕ → Type 0
SameExprs n bs =
    (i : ℕ) (es ds : List Expr) → every an_expr es ≡ true → every an_expr ds ≡ true → length es ≡ length ds →
    Stands bs i (flat expr_spelled es) → Stands bs i (flat expr_spelled ds) → length bs - i < n → es ≡ ds

-- the heads are the same, hence the parts and the others, hence the first
module _ (n : ℕ) (bs : List ℕ) (again : SameExprs n bs) (i : ℕ) (e d : Expr) (es ds : List Expr) (h : every an_expr (e ∷ es) ≡ true) (k : every an_expr (d ∷ ds) ≡ true)
    (l : length es ≡ length ds) (s : Stands bs i (flat expr_spelled (e ∷ es))) (t : Stands bs i (flat expr_spelled (d ∷ ds))) (m : length bs - i < suc n) where
  fit_e : (an_expr e ≡ true) × (every an_expr es ≡ true)
  fit_e = and_parts _ _ h

  fit_d : (an_expr d ≡ true) × (every an_expr ds ≡ true)
  fit_d = and_parts _ _ k

  heads : head_of e ≡ head_of d
  heads = head_once bs i (head_of e) (head_of d) (head-fits e fit_e.0).0 (head-fits d fit_d.0).0 (first-stands bs i e es s) (first-stands bs i d ds t)

  long : length (parts d) ≡ length (parts e)
  long = grind (arith, parts-arity, heads)

  others : parts e ++ es ≡ parts d ++ ds
  others =
      again (i + length (head_spelled (head_of e))) (parts e ++ es) (parts d ++ ds)
      (every_append an_expr (parts e) es (head-fits e fit_e.0).1 fit_e.1) (every_append an_expr (parts d) ds (head-fits d fit_d.0).1 fit_d.1)
      (omega (arith, length-append (parts e) es, length-append (parts d) ds, long)) (rest-stands bs i e es s)
      (subst (λ g. Stands bs (i + length (head_spelled g)) (flat expr_spelled (parts d ++ ds))) (sym heads) (rest-stands bs i d ds t))
      (omega (arith, head-long (head_of e), stands_in bs i (head_spelled (head_of e)) (head-long (head_of e)) (first-stands bs i e es s)))

  parts_same : parts e ≡ parts d
  parts_same = sym (take_at (parts e) es (length (parts e)) refl) ∙ ap (take (length (parts e))) others ∙ take_at (parts d) ds (length (parts e)) long

  rest-same : es ≡ ds
  rest-same = sym (drop_at (parts e) es (length (parts e)) refl) ∙ ap (drop (length (parts e))) others ∙ drop_at (parts d) ds (length (parts e)) long

  all_same : e ∷ es ≡ d ∷ ds
  all_same = ap₂ ◌∷◌ (node_same e d heads parts_same) rest-same

exprs_once : (n : ℕ) (bs : List ℕ) → SameExprs n bs
exprs_once n bs i [] [] h k l s t m = refl
exprs_once n bs i [] (d ∷ ds) h k l s t m = absurd (omega arith)
exprs_once n bs i (e ∷ es) [] h k l s t m = absurd (omega arith)
exprs_once zero bs i (e ∷ es) (d ∷ ds) h k l s t m = absurd (omega arith)
exprs_once (suc n) bs i (e ∷ es) (d ∷ ds) h k l s t m = all_same n bs (exprs_once n bs) i e d es ds h k (omega arith) s t m

pub expr_once : (bs : List ℕ) → Once bs expr_spelled an_expr
expr_once bs i a b h k s t =
    ap (λ es. get_or es 0 (num 0))
    (exprs_once (suc (length bs)) bs i (a ∷ []) (b ∷ []) (and_from _ _ h refl) (and_from _ _ k refl) refl
    (subst (Stands bs i) (sym (append-nil (expr_spelled a))) s) (subst (Stands bs i) (sym (append-nil (expr_spelled b))) t) (omega arith))

-- one thing and then another; so many things
module _ {A B : Type 0} (bs : List ℕ) (f : A → List ℕ) (g : B → List ℕ) (ok_a : A → Bool) (ok_b : B → Bool) (once_a : Once bs f ok_a) (once_b : Once bs g ok_b) where
  both_once : (i : ℕ) (a c : A) (b d : B) → ok_a a ≡ true → ok_a c ≡ true → ok_b b ≡ true → ok_b d ≡ true → Stands bs i (f a ++ g b) → Stands bs i (f c ++ g d) → (a ≡ c) × (b ≡ d)
  both_once i a c b d h k l m s t =
      let first = once_a i a c h k (stands-first bs i (f a) (g b) s) (stands-first bs i (f c) (g d) t) in
      (first, once_b (i + length (f a)) b d l m (stands-second bs i (f a) (g b) s) (subst (λ x. Stands bs (i + length (f x)) (g d)) (sym first) (stands-second bs i (f c) (g d) t)))

module _ {A : Type 0} (bs : List ℕ) (f : A → List ℕ) (ok : A → Bool) (once : Once bs f ok) where
  list_once : (i : ℕ) (xs ys : List A) → length xs ≡ length ys → every ok xs ≡ true → every ok ys ≡ true → Stands bs i (flat f xs) → Stands bs i (flat f ys) → xs ≡ ys
  list_once i [] [] l h k s t = refl
  list_once i [] (y ∷ ys) l h k s t = absurd (omega arith)
  list_once i (x ∷ xs) [] l h k s t = absurd (omega arith)
  list_once i (x ∷ xs) (y ∷ ys) l h k s t =
      let p = and_parts _ _ h in
      let q = and_parts _ _ k in
      let first = once i x y p.0 q.0 (stands-first bs i (f x) (flat f xs) s) (stands-first bs i (f y) (flat f ys) t) in
      ap₂ ◌∷◌ first
      (list_once (i + length (f x)) xs ys (omega arith) p.1 q.1 (stands-second bs i (f x) (flat f xs) s)
      (subst (λ z. Stands bs (i + length (f z)) (flat f ys)) (sym first) (stands-second bs i (f y) (flat f ys) t)))

-- a count and so many things
counted_once : {A : Type 0} (bs : List ℕ) (f : A → List ℕ) (ok : A → Bool) → Once bs f ok → (i : ℕ) (xs ys : List A) → length xs < 18446744073709551616 → length ys < 18446744073709551616 →
    every ok xs ≡ true → every ok ys ≡ true → Stands bs i (eight (length xs) ++ flat f xs) → Stands bs i (eight (length ys) ++ flat f ys) → xs ≡ ys
counted_once bs f ok once i xs ys l m h k s t =
    let long = some_same _ _ (sym (number_stands bs i (length xs) l (stands-first bs i (eight (length xs)) (flat f xs) s)) ∙ number_stands bs i (length ys) m (stands-first bs i (eight (length ys)) (flat f ys) t)) in
    list_once bs f ok once (i + length (eight (length xs))) xs ys long h k (stands-second bs i (eight (length xs)) (flat f xs) s)
    (subst (λ j. Stands bs j (flat f ys)) (omega (arith, length-eight (length xs), length-eight (length ys))) (stands-second bs i (eight (length ys)) (flat f ys) t))

params_once : (bs : List ℕ) → Once bs params_spelled some_params
params_once bs i xs ys h k s t =
    let p = and_parts _ _ h in
    let q = and_parts _ _ k in
    counted_once bs with_length a_name (name_once bs) i xs ys (omega (arith, leb-true _ _ p.0)) (omega (arith, leb-true _ _ q.0)) p.1 q.1 s t

pub fun_once : (bs : List ℕ) → Once bs fun_spelled a_fun
fun_once bs i f g h k s t =
    let p = and_parts _ _ h in
    let p1 = and_parts _ _ p.0 in
    let q = and_parts _ _ k in
    let q1 = and_parts _ _ q.0 in
    let sf = subst (Stands bs i) (fun-parts f) s in
    let sg = subst (Stands bs i) (fun-parts g) t in
    let names = name_once bs i f.name g.name p1.0 q1.0 (stands-first bs i (with_length f.name) (params_spelled f.params ++ expr_spelled f.body) sf)
    (stands-first bs i (with_length g.name) (params_spelled g.params ++ expr_spelled g.body) sg) in
    let rest = both_once bs params_spelled expr_spelled some_params an_expr (params_once bs) (expr_once bs) (i + length (with_length f.name)) f.params g.params f.body g.body
    p1.1 q1.1 p.1 q.1 (stands-second bs i (with_length f.name) (params_spelled f.params ++ expr_spelled f.body) sf)
    (subst (λ x. Stands bs (i + length (with_length x)) (params_spelled g.params ++ expr_spelled g.body)) (sym names)
    (stands-second bs i (with_length g.name) (params_spelled g.params ++ expr_spelled g.body) sg)) in
    fun-same f.name g.name f.params g.params f.body g.body names rest.0 rest.1
  where
    fun-same : (x y : Name) (xs ys : List Name) (a b : Expr) → x ≡ y → xs ≡ ys → a ≡ b → ◌≡◌ {A = Fun} (record { name = x; params = xs; body = a }) (record { name = y; params = ys; body = b })
    fun-same x y xs ys a b p q r = cc

-- no two programs that fit are spelled alike
pub program_once : (p q : Program) → a_program p ≡ true → a_program q ≡ true → program_spelled p ≡ program_spelled q → p ≡ q
program_once p q h k e =
    let a = and_parts _ _ h in
    let a1 = and_parts _ _ a.0 in
    let b = and_parts _ _ k in
    let b1 = and_parts _ _ b.0 in
    counted_once (program_spelled p) fun_spelled a_fun (fun_once (program_spelled p)) 0 p q (omega (arith, leb-true _ _ a1.0)) (omega (arith, leb-true _ _ b1.0)) a1.1 b1.1
    (whole-stands (program_spelled p)) (subst (λ r. Stands (program_spelled p) 0 r) e (whole-stands (program_spelled p)))

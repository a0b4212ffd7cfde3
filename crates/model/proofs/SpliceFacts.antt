-- The bytes with the new name at each use that changes are those of the renamed expression. By induction over the expression: if what comes of the
-- bytes after it is known, so is what comes of those from its start. Assumes nothing.
use Rattle.std.proofs.Common.{◌≡◌, ℕ, suc, ◌+◌, Bool, true, false, not, ◌&&◌, List, [], ◌∷◌, ◌++◌, length, drop, sym, refl, ap, ◌∙◌, subst, arith}
use Rattle.std.specs.List.{AllByRecursion}
use Rattle.std.proofs.lemmas.List.{append_assoc, append-nil, length-append, drop_at}
use Rattle.std.proofs.lemmas.Bool.{and_parts}
use Rattle.language.specs.Basics.{pick, same, flat}
use Rattle.language.specs.Bytes.{Name, with_length}
use Rattle.language.specs.Expr.{Expr, num, var, bin, call, bind, choice, tell, Exprs, no_exprs, expr_and, exprs_in, count_exprs, parts}
use Rattle.language.specs.Spelling.{expr_spelled}
use Rattle.language.specs.Heads.{Head, h_num, h_var, h_bin, h_call, h_bind, h_choice, h_tell, head_of, head_spelled}
use Rattle.language.specs.Splice.{names_replaced}
use Rattle.language.proofs.NameFacts.{same_eq}
use Rattle.language.proofs.StandsFacts.{Stands, stands-first, stands-second}
use Rattle.language.proofs.HeadFacts.{length_with}
use Rattle.language.proofs.NodeFacts.{spelled_node}
use Rattle.language.proofs.PartsFacts.{by_parts}
use Rattle.language.proofs.SpliceLaws.{Splices, splices_end, splices_past, splices_new}
use Rattle.model.specs.Capture.{under, under_all}
use Rattle.model.specs.Renaming.{parts_at, name_uses}
use Rattle.model.proofs.FieldFacts.{front-stands}
use Rattle.model.proofs.NameUses.{given_in, head_uses, parts_uses, uses_node}

-- the renaming, by head and parts
abbrev head_under : Name → Name → Bool → Head → Head
head_under x y h (h_num n) = h_num n
head_under x y h (h_var z) = h_var (pick (same x z && not h) y z)
head_under x y h (h_bin k) = h_bin k
head_under x y h (h_call f k) = h_call f k
head_under x y h (h_bind z) = h_bind z
head_under x y h h_choice = h_choice
head_under x y h h_tell = h_tell

abbrev parts_under : Name → Name → (ℕ → Bool) → ℕ → List Expr → List Expr
parts_under x y g p [] = []
parts_under x y g p (e ∷ es) = under x y (g p) e ∷ parts_under x y g (p + 1) es

values_under : (x y : Name) (h : Bool) (g : ℕ → Bool) → ((p : ℕ) → g p ≡ h) → (p : ℕ) (es : Exprs) →
    exprs_in (under_all x y h es) ≡ parts_under x y g p (exprs_in es)
unfolding under
values_under x y h g as-h p no_exprs = refl
values_under x y h g as-h p (expr_and e es) = grind (arith, values_under x y h g as-h (p + 1) es)

count_under : (x y : Name) (h : Bool) (es : Exprs) → count_exprs (under_all x y h es) ≡ count_exprs es
unfolding under count_exprs
count_under x y h no_exprs = refl
count_under x y h (expr_and e es) = ap suc (count_under x y h es)

under-head : (x y : Name) (h : Bool) (e : Expr) → head_of (under x y h e) ≡ head_under x y h (head_of e)
unfolding under head_of
under-head x y h (num n) = refl
under-head x y h (var z) = refl
under-head x y h (bin k a b) = refl
under-head x y h (call f es) = ap (h_call f) (count_under x y h es)
under-head x y h (bind z a b) = refl
under-head x y h (choice c a b) = refl
under-head x y h (tell a) = refl

under-parts : (x y : Name) (h : Bool) (e : Expr) → parts (under x y h e) ≡ parts_under x y (given_in x h (head_of e)) 0 (parts e)
unfolding under head_of parts
under-parts x y h (num n) = refl
under-parts x y h (var z) = refl
under-parts x y h (bin k a b) = refl
under-parts x y h (call f es) = grind (arith, values_under)
under-parts x y h (bind z a b) = refl
under-parts x y h (choice c a b) = refl
under-parts x y h (tell a) = refl

under-spelled : (x y : Name) (h : Bool) (e : Expr) →
    expr_spelled (under x y h e)
    ≡ head_spelled (head_under x y h (head_of e)) ++ flat expr_spelled (parts_under x y (given_in x h (head_of e)) 0 (parts e))
under-spelled x y h e = grind (arith, spelled_node, under-head, under-parts)

-- the name x, wherever it is listed, is y
abbrev Renames : List ℕ → Name → Name → List ℕ → ℕ → List ℕ → Type 0
Renames bs x y ks i out = Splices bs (with_length y) (8 + length x) ks i out

renames_same : (bs : List ℕ) (x y : Name) {ks ks₁ : List ℕ} {i : ℕ} {out out₁ : List ℕ} → ks ≡ ks₁ → out ≡ out₁ →
    Renames bs x y ks i out → Renames bs x y ks₁ i out₁
renames_same bs x y {ks} {ks₁} {i} {out} {out₁} p q r = subst (Renames bs x y ks₁ i) q (subst (λ l. Renames bs x y l i out) p r)

-- from where an expression stands, the bytes are those of the renamed one
abbrev Spliced : List ℕ → Name → Name → Expr → Type 0
Spliced bs x y e =
    (h : Bool) (i : ℕ) (ks out : List ℕ) → Stands bs i (expr_spelled e) → Renames bs x y ks (i + length (expr_spelled e)) out →
    Renames bs x y (name_uses x h i e ++ ks) i (expr_spelled (under x y h e) ++ out)

module _ (bs : List ℕ) (x y : Name) (h : Bool) (i : ℕ) (ks out : List ℕ) where
  head_stays : (u : Head) → Stands bs i (head_spelled u) → Renames bs x y ks (parts_at i u) out → Renames bs x y ks i (head_spelled u ++ out)
  head_stays u s r = splices_past bs (with_length y) (8 + length x) i (head_spelled u) ks out s r

  head_spliced : (u : Head) → Stands bs i (head_spelled u) → Renames bs x y ks (parts_at i u) out →
      Renames bs x y (head_uses x h i u ++ ks) i (head_spelled (head_under x y h u) ++ out)
  unfolding head_spelled
  head_spliced (h_num n) s r = head_stays (h_num n) s r
  head_spliced (h_var z) s r = go (same x z && not h) refl
    where
      go : (t : Bool) → (same x z && not h) ≡ t → Renames bs x y (pick t ((i + 1) ∷ []) [] ++ ks) i ((1 ∷ with_length (pick t y z)) ++ out)
      go true c =
          splices_past bs (with_length y) (8 + length x) i (1 ∷ []) ((i + 1) ∷ ks) (with_length y ++ out) (stands-first bs i (1 ∷ []) (with_length z) s)
          (splices_new bs (with_length y) (8 + length x) (i + 1) ks out
          (subst (λ j. Renames bs x y ks j out) (omega (arith, length_with z, ap length (same_eq x z (and_parts _ _ c).0))) r))
      go false c = head_stays (h_var z) s r
  head_spliced (h_bin k) s r = head_stays (h_bin k) s r
  head_spliced (h_call f k) s r = head_stays (h_call f k) s r
  head_spliced (h_bind z) s r = head_stays (h_bind z) s r
  head_spliced h_choice s r = head_stays h_choice s r
  head_spliced h_tell s r = head_stays h_tell s r

parts_spliced : (bs : List ℕ) (x y : Name) (es : List Expr) → AllByRecursion (Spliced bs x y) es → (g : ℕ → Bool) (p i : ℕ) (ks out : List ℕ) →
    Stands bs i (flat expr_spelled es) → Renames bs x y ks (i + length (flat expr_spelled es)) out →
    Renames bs x y (parts_uses x g p i es ++ ks) i (flat expr_spelled (parts_under x y g p es) ++ out)
parts_spliced bs x y [] ps g p i ks out s r = subst (λ j. Renames bs x y ks j out) (omega arith) r
parts_spliced bs x y (e ∷ es) ps g p i ks out s r =
    renames_same bs x y (sym (append_assoc (name_uses x (g p) i e) (parts_uses x g (p + 1) (i + length (expr_spelled e)) es) ks))
    (sym (append_assoc (expr_spelled (under x y (g p) e)) (flat expr_spelled (parts_under x y g (p + 1) es)) out))
    (ps.0 (g p) i (parts_uses x g (p + 1) (i + length (expr_spelled e)) es ++ ks) (flat expr_spelled (parts_under x y g (p + 1) es) ++ out)
    (stands-first bs i (expr_spelled e) (flat expr_spelled es) s)
    (parts_spliced bs x y es ps.1 g (p + 1) (i + length (expr_spelled e)) ks out (stands-second bs i (expr_spelled e) (flat expr_spelled es) s)
    (subst (λ j. Renames bs x y ks j out) (omega (arith, length-append (expr_spelled e) (flat expr_spelled es))) r)))

node_spliced : (bs : List ℕ) (x y : Name) (e : Expr) → AllByRecursion (Spliced bs x y) (parts e) → Spliced bs x y e
node_spliced bs x y e ps h i ks out s r =
    renames_same bs x y (sym (ap (λ l. l ++ ks) (uses_node x h i e) ∙ append_assoc (head_uses x h i u) uses ks))
    (sym (ap (λ l. l ++ out) (under-spelled x y h e) ∙ append_assoc (head_spelled (head_under x y h u)) (flat expr_spelled made) out))
    (head_spliced bs x y h i (uses ++ ks) (flat expr_spelled made ++ out) u (stands-first bs i (head_spelled u) (flat expr_spelled (parts e)) all)
    (parts_spliced bs x y (parts e) ps (given_in x h u) 0 (parts_at i u) ks out (stands-second bs i (head_spelled u) (flat expr_spelled (parts e)) all)
    (subst (λ j. Renames bs x y ks j out)
    (omega (arith, ap length (spelled_node e), length-append (head_spelled (head_of e)) (flat expr_spelled (parts e)))) r)))
  where
    u : Head
    u = head_of e

    uses : List ℕ
    uses = parts_uses x (given_in x h (head_of e)) 0 (parts_at i (head_of e)) (parts e)

    made : List Expr
    made = parts_under x y (given_in x h (head_of e)) 0 (parts e)

    all : Stands bs i (head_spelled (head_of e) ++ flat expr_spelled (parts e))
    all = subst (Stands bs i) (spelled_node e) s

-- a name, something after it, and an expression to whose uses it is given
pub names_spliced : (before mid after : List ℕ) (x y : Name) (e : Expr) →
    names_replaced (before ++ (with_length x ++ (mid ++ (expr_spelled e ++ after)))) x y
    (length before ∷ name_uses x false (length before + (length (with_length x) + length mid)) e)
    ≡ before ++ (with_length y ++ (mid ++ (expr_spelled (under x y false e) ++ after)))
names_spliced before mid after x y e =
    (splices_past bs (with_length y) (8 + length x) 0 before (length before ∷ name_uses x false i e)
    (with_length y ++ (mid ++ (expr_spelled (under x y false e) ++ after))) (stands-first bs 0 before (with_length x ++ (mid ++ expr_spelled e)) whole)
    (subst (λ k. Renames bs x y (length before ∷ name_uses x false i e) k (with_length y ++ (mid ++ (expr_spelled (under x y false e) ++ after)))) (omega arith)
    (splices_new bs (with_length y) (8 + length x) (length before) (name_uses x false i e) (mid ++ (expr_spelled (under x y false e) ++ after))
    (subst (λ k. Renames bs x y (name_uses x false i e) k (mid ++ (expr_spelled (under x y false e) ++ after))) (omega (arith, length_with x))
    (splices_past bs (with_length y) (8 + length x) (0 + length before + length (with_length x)) mid (name_uses x false i e)
    (expr_spelled (under x y false e) ++ after)
    (stands-first bs (0 + length before + length (with_length x)) mid (expr_spelled e) later) expr_renamed))))
    ).made
  where
    bs : List ℕ
    bs = before ++ (with_length x ++ (mid ++ (expr_spelled e ++ after)))

    i : ℕ
    i = length before + (length (with_length x) + length mid)

    -- where the expression stands, in the sums that come of one thing standing after another
    j : ℕ
    j = 0 + length before + length (with_length x) + length mid

    front : List ℕ
    front = before ++ (with_length x ++ (mid ++ expr_spelled e))

    all_is : (a b c d r : List ℕ) → (a ++ (b ++ (c ++ d))) ++ r ≡ a ++ (b ++ (c ++ (d ++ r)))
    all_is a b c d r = simp append_assoc

    whole : Stands bs 0 front
    whole = grind (arith, all_is, front-stands)

    later : Stands bs (0 + length before + length (with_length x)) (mid ++ expr_spelled e)
    later = grind (arith, stands-second, bs, whole)

    end_is : drop (j + length (expr_spelled e)) bs ≡ after
    end_is = grind (arith, j, all_is, drop_at, front, length-append)

    expr_renamed : Renames bs x y (name_uses x false i e) j (expr_spelled (under x y false e) ++ after)
    expr_renamed =
        renames_same bs x y (append-nil (name_uses x false j e) ∙ ap (λ k. name_uses x false k e) (let z : j ≡ i = omega arith in z)) refl
        (by_parts (Spliced bs x y) (node_spliced bs x y) e false j [] after
        (stands-second bs (0 + length before + length (with_length x)) mid (expr_spelled e) later)
        (subst (Renames bs x y [] (j + length (expr_spelled e))) end_is (splices_end bs (with_length y) (8 + length x) (j + length (expr_spelled e)))))

-- Where the names of uses stand, by an expression's head and its parts; each of them takes nine bytes at least. Assumes nothing.
use Rattle.std.proofs.Common.{◌≡◌, ℕ, ◌+◌, ◌*◌, ◌≤◌, Bool, not, ◌&&◌, eqb, List, [], ◌∷◌, ◌++◌, length, sym, refl, ap, ap₂, arith}
use Rattle.std.specs.List.{AllByRecursion}
use Rattle.std.proofs.lemmas.List.{append-nil, length-append}
use Rattle.language.specs.Basics.{pick, or, same, flat}
use Rattle.language.specs.Bytes.{Name}
use Rattle.language.specs.Expr.{Expr, num, var, bin, call, bind, choice, tell, Exprs, no_exprs, expr_and, exprs_in, parts}
use Rattle.language.specs.Spelling.{expr_spelled}
use Rattle.language.specs.Heads.{Head, h_num, h_var, h_bin, h_call, h_bind, h_choice, h_tell, head_of, head_spelled}
use Rattle.language.proofs.HeadFacts.{length_with}
use Rattle.language.proofs.NodeFacts.{spelled_node}
use Rattle.language.proofs.PartsFacts.{by_parts}
use Rattle.model.specs.Renaming.{parts_at, name_uses, all_uses}

-- whether x is given anew in the second part under a head; h says whether it is around it
abbrev pub given : Name → Bool → Head → Bool
given x h (h_num n) = h
given x h (h_var z) = h
given x h (h_bin k) = h
given x h (h_call f k) = h
given x h (h_bind z) = or (same x z) h
given x h h_choice = h
given x h h_tell = h

-- in part p
abbrev pub given_in : Name → Bool → Head → ℕ → Bool
given_in x h u p = pick (eqb p 1) (given x h u) h

-- a head's own name, if it is a use that changes
abbrev pub head_uses : Name → Bool → ℕ → Head → List ℕ
head_uses x h i (h_num n) = []
head_uses x h i (h_var z) = pick (same x z && not h) ((i + 1) ∷ []) []
head_uses x h i (h_bin k) = []
head_uses x h i (h_call f k) = []
head_uses x h i (h_bind z) = []
head_uses x h i h_choice = []
head_uses x h i h_tell = []

-- the uses in parts that stand at i, of which the first is part p; g says of each part whether x is given anew in it
abbrev pub parts_uses : Name → (ℕ → Bool) → ℕ → ℕ → List Expr → List ℕ
parts_uses x g p i [] = []
parts_uses x g p i (e ∷ es) = name_uses x (g p) i e ++ parts_uses x g (p + 1) (i + length (expr_spelled e)) es

values_uses : (x : Name) (h : Bool) (g : ℕ → Bool) → ((p : ℕ) → g p ≡ h) → (p i : ℕ) (es : Exprs) → all_uses x h i es ≡ parts_uses x g p i (exprs_in es)
unfolding name_uses
values_uses x h g same-as p i no_exprs = refl
values_uses x h g same-as p i (expr_and e es) =
    ap₂ (λ b us. name_uses x b i e ++ us) (sym (same-as p)) (values_uses x h g same-as (p + 1) (i + length (expr_spelled e)) es)

pub uses_node : (x : Name) (h : Bool) (i : ℕ) (e : Expr) →
    name_uses x h i e ≡ head_uses x h i (head_of e) ++ parts_uses x (given_in x h (head_of e)) 0 (parts_at i (head_of e)) (parts e)
unfolding name_uses head_of parts
uses_node x h i (num n) = refl
uses_node x h i (var z) = sym (append-nil _)
uses_node x h i (bin k a b) = grind (arith, append-nil)
uses_node x h i (call f es) = grind (arith, values_uses)
uses_node x h i (bind z a b) = grind (arith, append-nil)
uses_node x h i (choice c a b) = grind (arith, append-nil)
uses_node x h i (tell a) = sym (append-nil _)

-- nine bytes for each use
abbrev Nine : Name → Expr → Type 0
Nine x e = (h : Bool) (i : ℕ) → 9 * length (name_uses x h i e) ≤ length (expr_spelled e)

pub head_nine : (x : Name) (h : Bool) (i : ℕ) (u : Head) → 9 * length (head_uses x h i u) ≤ length (head_spelled u)
unfolding head_spelled
head_nine x h i (h_num n) = omega arith
head_nine x h i (h_var z) = grind (arith, length_with)
head_nine x h i (h_bin k) = omega arith
head_nine x h i (h_call f k) = omega arith
head_nine x h i (h_bind z) = omega arith
head_nine x h i h_choice = omega arith
head_nine x h i h_tell = omega arith

parts_nine : (x : Name) (es : List Expr) → AllByRecursion (Nine x) es → (g : ℕ → Bool) (p i : ℕ) → 9 * length (parts_uses x g p i es) ≤ length (flat expr_spelled es)
parts_nine x [] ps g p i = omega arith
parts_nine x (e ∷ es) ps g p i = grind (arith, length-append, parts_nine x es ps.1 g (p + 1) (i + length (expr_spelled e)))

pub uses_nine : (x : Name) (e : Expr) (h : Bool) (i : ℕ) → 9 * length (name_uses x h i e) ≤ length (expr_spelled e)
uses_nine x = by_parts (Nine x) node_nine
  where
    node_nine : (e : Expr) → AllByRecursion (Nine x) (parts e) → Nine x e
    node_nine e ps h i =
        omega (
          arith,
          ap length (uses_node x h i e),
          length-append (head_uses x h i (head_of e)) (parts_uses x (given_in x h (head_of e)) 0 (parts_at i (head_of e)) (parts e)),
          head_nine x h i (head_of e),
          parts_nine x (parts e) ps (given_in x h (head_of e)) 0 (parts_at i (head_of e)),
          ap length (spelled_node e),
          length-append (head_spelled (head_of e)) (flat expr_spelled (parts e)),
        )

-- An expression is its head and its parts: how it is spelled, when it fits, and that any head with so many parts is one. Assumes nothing.
use Rattle.std.proofs.Common.{◌≡◌, suc, ◌≤◌, Bool, true, false, ◌&&◌, List, [], ◌∷◌, ◌++◌, length, get_or, sym, refl, ap, ◌∙◌, ap₂, arith}
use Rattle.std.proofs.lemmas.List.{append_assoc, append-nil}
use Rattle.std.proofs.lemmas.Bool.{and_parts, and_from}
use Rattle.language.specs.Basics.{every, flat}
use Rattle.language.specs.Expr.{Expr, Exprs, num, var, bin, call, bind, choice, tell, no_exprs, expr_and, exprs_in, count_exprs, parts}
use Rattle.language.specs.Spelling.{expr_spelled, exprs_spelled}
use Rattle.language.specs.Fits.{an_expr, all_exprs}
use Rattle.language.specs.Heads.{Head, h_num, h_var, h_bin, h_call, h_bind, h_choice, h_tell, head_of, arity, head_spelled, a_head}

pub spelled-all : (es : Exprs) → exprs_spelled es ≡ flat expr_spelled (exprs_in es)
unfolding expr_spelled
spelled-all no_exprs = refl
spelled-all (expr_and e es) = ap (λ r. expr_spelled e ++ r) (spelled-all es)

pub count_all : (es : Exprs) → length (exprs_in es) ≡ count_exprs es
unfolding count_exprs
count_all no_exprs = refl
count_all (expr_and e es) = ap suc (count_all es)

pub fit_all : (es : Exprs) → all_exprs es ≡ every an_expr (exprs_in es)
unfolding an_expr
fit_all no_exprs = refl
fit_all (expr_and e es) = ap (λ t. an_expr e && t) (fit_all es)

pub spelled_node : (e : Expr) → expr_spelled e ≡ head_spelled (head_of e) ++ flat expr_spelled (parts e)
unfolding expr_spelled head_spelled head_of parts
spelled_node (num n) = ap (λ r. 0 ∷ r) (sym (append-nil _))
spelled_node (var x) = ap (λ r. 1 ∷ r) (sym (append-nil _))
spelled_node (bin k a b) = grind (arith, append-nil)
spelled_node (call f es) = grind (arith, spelled-all, append_assoc)
spelled_node (bind x a b) = grind (arith, append_assoc, append-nil)
spelled_node (choice c a b) = grind (arith, append_assoc, append-nil)
spelled_node (tell a) = ap (λ r. 6 ∷ r) (sym (append-nil _))

pub parts-arity : (e : Expr) → length (parts e) ≡ arity (head_of e)
unfolding arity head_of parts
parts-arity (num n) = refl
parts-arity (var x) = refl
parts-arity (bin k a b) = refl
parts-arity (call f es) = count_all es
parts-arity (bind x a b) = refl
parts-arity (choice c a b) = refl
parts-arity (tell a) = refl

and-true : (t : Bool) → t ≡ (t && true)
and-true true = refl
and-true false = refl

pub fits_node : (e : Expr) → an_expr e ≡ (a_head (head_of e) && every an_expr (parts e))
unfolding an_expr a_head head_of parts
fits_node (num n) = and-true _
fits_node (var x) = and-true _
fits_node (bin k a b) = grind arith
fits_node (call f es) = grind (arith, fit_all)
fits_node (bind x a b) = grind arith
fits_node (choice c a b) = grind arith
fits_node (tell a) = and-true _

pub head-fits : (e : Expr) → an_expr e ≡ true → (a_head (head_of e) ≡ true) × (every an_expr (parts e) ≡ true)
head-fits e h = and_parts _ _ (sym (fits_node e) ∙ h)

pub node_fits : (e : Expr) → a_head (head_of e) ≡ true → every an_expr (parts e) ≡ true → an_expr e ≡ true
node_fits e h k = fits_node e ∙ and_from _ _ h k

pub record Node (h : Head) (es : List Expr) : Type 0 where
  pub made : Expr
  pub head_is : head_of made ≡ h
  pub parts_are : parts made ≡ es

values : List Expr → Exprs
values [] = no_exprs
values (e ∷ es) = expr_and e (values es)

values_in_are : (es : List Expr) → exprs_in (values es) ≡ es
unfolding values
values_in_are [] = refl
values_in_are (e ∷ es) = ap (λ r. e ∷ r) (values_in_are es)

-- an expression again from them
values_again : (es : Exprs) → values (exprs_in es) ≡ es
unfolding values
values_again no_exprs = refl
values_again (expr_and e es) = ap (expr_and e) (values_again es)

built : Head → List Expr → Expr
built (h_num n) es = num n
built (h_var x) es = var x
built (h_bin k) es = bin k (get_or es 0 (num 0)) (get_or es 1 (num 0))
built (h_call f k) es = call f (values es)
built (h_bind x) es = bind x (get_or es 0 (num 0)) (get_or es 1 (num 0))
built h_choice es = choice (get_or es 0 (num 0)) (get_or es 1 (num 0)) (get_or es 2 (num 0))
built h_tell es = tell (get_or es 0 (num 0))

built_again : (e : Expr) → built (head_of e) (parts e) ≡ e
unfolding built head_of parts
built_again (num n) = refl
built_again (var x) = refl
built_again (bin k a b) = refl
built_again (call f es) = ap (call f) (values_again es)
built_again (bind x a b) = refl
built_again (choice c a b) = refl
built_again (tell a) = refl

pub node_same : (a b : Expr) → head_of a ≡ head_of b → parts a ≡ parts b → a ≡ b
node_same a b h p = sym (built_again a) ∙ ap₂ built h p ∙ built_again b

pub node : (h : Head) (es : List Expr) → length es ≡ arity h → Node h es
unfolding arity head_of parts
node (h_num n) [] l = record { made = num n; head_is = refl; parts_are = refl }
node (h_num n) (e ∷ es) l = absurd (omega arith)
node (h_var x) [] l = record { made = var x; head_is = refl; parts_are = refl }
node (h_var x) (e ∷ es) l = absurd (omega arith)
node (h_bin k) [] l = absurd (omega arith)
node (h_bin k) (a ∷ []) l = absurd (omega arith)
node (h_bin k) (a ∷ b ∷ []) l = record { made = bin k a b; head_is = refl; parts_are = refl }
node (h_bin k) (a ∷ b ∷ e ∷ es) l = absurd (omega arith)
node (h_call f k) es l = record { made = call f (values es); head_is = ap (h_call f) (sym (count_all (values es)) ∙ ap length (values_in_are es) ∙ l); parts_are = values_in_are es }
node (h_bind x) [] l = absurd (omega arith)
node (h_bind x) (a ∷ []) l = absurd (omega arith)
node (h_bind x) (a ∷ b ∷ []) l = record { made = bind x a b; head_is = refl; parts_are = refl }
node (h_bind x) (a ∷ b ∷ e ∷ es) l = absurd (omega arith)
node h_choice [] l = absurd (omega arith)
node h_choice (a ∷ []) l = absurd (omega arith)
node h_choice (a ∷ b ∷ []) l = absurd (omega arith)
node h_choice (c ∷ a ∷ b ∷ []) l = record { made = choice c a b; head_is = refl; parts_are = refl }
node h_choice (c ∷ a ∷ b ∷ e ∷ es) l = absurd (omega arith)
node h_tell [] l = absurd (omega arith)
node h_tell (a ∷ []) l = record { made = tell a; head_is = refl; parts_are = refl }
node h_tell (a ∷ e ∷ es) l = absurd (omega arith)

pub head-long : (h : Head) → 1 ≤ length (head_spelled h)
unfolding head_spelled
head-long (h_num n) = omega arith
head-long (h_var x) = omega arith
head-long (h_bin k) = omega arith
head-long (h_call f k) = omega arith
head-long (h_bind x) = omega arith
head-long h_choice = omega arith
head-long h_tell = omega arith

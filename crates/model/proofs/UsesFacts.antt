-- The walk through an expression's bytes lists the uses that a renaming changes, unless one would be captured. By induction over the expression:
-- what is listed in the end, if what follows the expression is known. Neither guard is met: each use listed has nine bytes before here, and each
-- frame nine bytes after the expression. Assumes nothing.
use Rattle.std.proofs.Common.{◌≡◌, ℕ, zero, suc, ◌+◌, ◌*◌, ◌<◌, ◌≤◌, Bool, true, false, not, ◌&&◌, ltb, List, [], ◌∷◌, ◌++◌, length, Some, None, Option, sym, refl, ap, ◌∙◌, subst, zero-add, arith, ltb-true, le-ltb, lt-ltb}
use mathlib.Core.Bool.{and-true}
use Rattle.std.specs.List.{AllByRecursion}
use Rattle.std.proofs.lemmas.List.{append_assoc, append-nil, length-append}
use Rattle.std.proofs.lemmas.Bool.{and_parts}
use Rattle.language.specs.Basics.{pick, every, flat, same}
use Rattle.language.specs.Bytes.{Name}
use Rattle.language.specs.Expr.{Expr, num, var, bin, call, bind, choice, tell, Exprs, no_exprs, expr_and, exprs_in, parts}
use Rattle.language.specs.Spelling.{expr_spelled}
use Rattle.language.specs.Fits.{an_expr}
use Rattle.language.specs.Heads.{Head, h_num, h_var, h_bin, h_call, h_bind, h_choice, h_tell, head_of, arity, head_spelled}
use Rattle.language.specs.Reading.{found, Token, token, head_at}
use Rattle.language.specs.Uses.{Scope, scope, Holder, holder, Frame, frame, Walk, walk, scope_in, use_changes, most_uses, most_frames, use_listed, head_changes, part_taken, after_leaf, after_head, uses_from, uses_of}
use Rattle.language.proofs.StandsFacts.{Stands, stands-first, stands-second, stands_in}
use Rattle.language.proofs.HeadFacts.{head-stands}
use Rattle.language.proofs.NodeFacts.{spelled_node, parts-arity, head-fits, head-long}
use Rattle.language.proofs.PartsFacts.{by_parts, spelled_nine}
use Rattle.model.specs.Capture.{clear, clear_all}
use Rattle.model.proofs.FieldFacts.{front-stands}
use Rattle.model.proofs.NameUses.{given_in, head_uses, parts_uses, uses_node, head_nine, uses_nine}
pub use Rattle.model.specs.Renaming.{name_uses}
use Rattle.model.specs.Renaming.{parts_at, UsesListed}

-- the check, by head and parts
abbrev head_clear : Name → Name → Bool → Bool → Head → Bool
head_clear x y hx hy (h_num n) = true
head_clear x y hx hy (h_var z) = pick (same x z && not hx) (not hy) (not (same y z && not hy))
head_clear x y hx hy (h_bin k) = true
head_clear x y hx hy (h_call f k) = true
head_clear x y hx hy (h_bind z) = true
head_clear x y hx hy h_choice = true
head_clear x y hx hy h_tell = true

abbrev parts_clear : Name → Name → (ℕ → Bool) → (ℕ → Bool) → ℕ → List Expr → Bool
parts_clear x y gx gy p [] = true
parts_clear x y gx gy p (e ∷ es) = clear x y (gx p) (gy p) e && parts_clear x y gx gy (p + 1) es

values_clear : (x y : Name) (hx hy : Bool) (gx gy : ℕ → Bool) → ((p : ℕ) → gx p ≡ hx) → ((p : ℕ) → gy p ≡ hy) → (p : ℕ) (es : Exprs) →
    clear_all x y hx hy es ≡ parts_clear x y gx gy p (exprs_in es)
unfolding clear
values_clear x y hx hy gx gy as-x as-y p no_exprs = refl
values_clear x y hx hy gx gy as-x as-y p (expr_and e es) = grind (arith, values_clear x y hx hy gx gy as-x as-y (p + 1) es)

clear_node : (x y : Name) (hx hy : Bool) (e : Expr) →
    clear x y hx hy e ≡ (head_clear x y hx hy (head_of e) && parts_clear x y (given_in x hx (head_of e)) (given_in y hy (head_of e)) 0 (parts e))
unfolding clear head_of parts
clear_node x y hx hy (num n) = refl
clear_node x y hx hy (var z) = sym (and-true _)
clear_node x y hx hy (bin k a b) = ap (λ t. clear x y hx hy a && t) (sym (and-true _))
clear_node x y hx hy (call f es) = grind (arith, values_clear)
clear_node x y hx hy (bind z a b) = ap (λ t. clear x y hx hy a && t) (sym (and-true _))
clear_node x y hx hy (choice c a b) = grind arith
clear_node x y hx hy (tell a) = sym (and-true _)

pick_and : {A : Type 0} (s t : Bool) (a b : A) → pick s (pick t a b) b ≡ pick (s && t) a b
pick_and true t a b = refl
pick_and false t a b = refl

-- a head is passed: its name is listed if it is a use that changes
module _ (x y : Name) (hx hy : Bool) (us : List ℕ) (i : ℕ) (go_on : List ℕ → Option (List ℕ)) (few : length us < most_uses) where
  unlisted : go_on us ≡ go_on (us ++ [])
  unlisted = ap go_on (sym (append-nil us))

  head-listed : (u : Head) →
      found (head_changes x y (scope hx hy) u) (λ c. found (use_listed us (i + 1) c) go_on)
      ≡ pick (head_clear x y hx hy u) (go_on (us ++ head_uses x hx i u)) None
  unfolding use_changes
  head-listed (h_num n) = unlisted
  head-listed (h_var z) = grind (arith, unlisted)
  head-listed (h_bin k) = unlisted
  head-listed (h_call f k) = unlisted
  head-listed (h_bind z) = unlisted
  head-listed h_choice = unlisted
  head-listed h_tell = unlisted

-- one turn of the walk
uses-turn : (f : ℕ) (bs : List ℕ) (x y : Name) (w : Walk) (i : ℕ) (t : Token) (s : Scope) → head_at bs i ≡ Some t →
    scope_in bs x y w.holder w.around ≡ s →
    uses_from (suc f) bs x y w i
    ≡ found (head_changes x y s t.head)
    (λ c. found (use_listed w.uses (i + 1) c) (λ us. after_head (λ v. uses_from f bs x y v t.end) i (arity t.head) s w.frames us))
unfolding uses_from
uses-turn f bs x y w i t s read is = grind arith

-- the frames that are open before part p of the node at i, one of n
abbrev frames_at : ℕ → ℕ → Scope → List Frame → ℕ → List Frame
frames_at i n s fs p = pick (ltb p n) (frame (holder i p) n s ∷ fs) fs

-- its first part is begun as any other is
head_is_left : (go_on : Walk → Option (List ℕ)) (i n : ℕ) (s : Scope) (fs : List Frame) (us : List ℕ) → length fs < most_frames →
    after_head go_on i n s fs us ≡ after_leaf go_on (frames_at i n s fs 0) us
head_is_left go_on i zero s fs us few = refl
head_is_left go_on i (suc zero) s fs us few = refl
head_is_left go_on i (suc (suc k)) s fs us few = grind arith

-- the scope in part p of the node at i
part-scope : (bs : List ℕ) (x y : Name) (hx hy : Bool) (i p : ℕ) (t : Token) → head_at bs i ≡ Some t →
    scope_in bs x y (Some (holder i p)) (scope hx hy) ≡ scope (given_in x hx t.head p) (given_in y hy t.head p)
unfolding scope_in
part-scope bs x y hx hy i p t read = grind arith

-- with turns enough, r is listed in the end
abbrev Ends : List ℕ → Name → Name → Walk → ℕ → Option (List ℕ) → Type 0
Ends bs x y w i r = (f : ℕ) → length bs ≤ i + f → uses_from f bs x y w i ≡ r

-- so too from the end of an expression at j
abbrev Goes : List ℕ → Name → Name → List Frame → List ℕ → ℕ → Option (List ℕ) → Type 0
Goes bs x y [] us j r = Some us ≡ r
Goes bs x y (f ∷ fs) us j r = Ends bs x y (walk (Some f.holder) f.around (part_taken f fs) us) j r

goes_same : (bs : List ℕ) (x y : Name) (fs : List Frame) (us vs : List ℕ) (i j : ℕ) (r : Option (List ℕ)) → us ≡ vs → i ≡ j →
    Goes bs x y fs us i r → Goes bs x y fs vs j r
goes_same bs x y fs us vs i j r p q g = subst (λ k. Goes bs x y fs vs k r) q (subst (λ l. Goes bs x y fs l i r) p g)

left_goes : (bs : List ℕ) (x y : Name) (fs : List Frame) (us : List ℕ) (j : ℕ) (r : Option (List ℕ)) → Goes bs x y fs us j r → (f : ℕ) → length bs ≤ j + f →
    after_leaf (λ v. uses_from f bs x y v j) fs us ≡ r
left_goes bs x y [] us j r g f l = g
left_goes bs x y (h ∷ fs) us j r g f l = g f l

-- an expression is passed: what is listed in the end is what follows from its end, with its uses, unless one would be captured
abbrev Lists : List ℕ → Name → Name → Expr → Type 0
Lists bs x y e =
    (i : ℕ) (h : Option Holder) (a : Scope) (hx hy : Bool) (fs : List Frame) (us : List ℕ) (r : Option (List ℕ)) → an_expr e ≡ true →
    Stands bs i (expr_spelled e) → scope_in bs x y h a ≡ scope hx hy → 9 * length us ≤ i → i + length (expr_spelled e) + 9 * length fs ≤ 65536 →
    Goes bs x y fs (us ++ name_uses x hx i e) (i + length (expr_spelled e)) r → Ends bs x y (walk h a fs us) i (pick (clear x y hx hy e) r None)

-- a frame is open as long as parts are to come
frames-long : (b : Bool) (f : Frame) (fs : List Frame) (es : List Expr) → (b ≡ true → 0 < length es) →
    9 * length (pick b (f ∷ fs) fs) ≤ length (flat expr_spelled es) + 9 * length fs
frames-long true f fs [] h = absurd (omega (arith, h refl))
frames-long true f fs (e ∷ es) h = omega (arith, spelled_nine e, length-append (expr_spelled e) (flat expr_spelled es))
frames-long false f fs es h = omega arith

-- the parts of the node at i₀, whose head is read there
module _ (bs : List ℕ) (x y : Name) (i₀ : ℕ) (t : Token) (read : head_at bs i₀ ≡ Some t) (hx hy : Bool) (fs : List Frame) (r : Option (List ℕ)) where
  parts_go : (es : List Expr) → AllByRecursion (Lists bs x y) es → (p j : ℕ) (us : List ℕ) → p + length es ≡ arity t.head → every an_expr es ≡ true →
      Stands bs j (flat expr_spelled es) → 9 * length us ≤ j → j + length (flat expr_spelled es) + 9 * length fs ≤ 65536 →
      Goes bs x y fs (us ++ parts_uses x (given_in x hx t.head) p j es) (j + length (flat expr_spelled es)) r →
      Goes bs x y (frames_at i₀ (arity t.head) (scope hx hy) fs p) us j
      (pick (parts_clear x y (given_in x hx t.head) (given_in y hy t.head) p es) r None)
  parts_go [] ps p j us count fit s low room go =
      subst (λ b. Goes bs x y (pick b (frame (holder i₀ p) (arity t.head) (scope hx hy) ∷ fs) fs) us j r) (sym (le-ltb p (arity t.head) (omega arith)))
      (goes_same bs x y fs (us ++ []) us (j + 0) j r (append-nil us) (omega arith) go)
  parts_go (e ∷ es) ps p j us count fit s low room go =
      subst (λ b. Goes bs x y (pick b (frame (holder i₀ p) n sc ∷ fs) fs) us j (pick (clear x y hx₁ hy₁ e && clears) r None)) (sym (lt-ltb _ _ (omega arith)))
      (subst (Ends bs x y (walk (Some (holder i₀ p)) sc (frames_at i₀ n sc fs (p + 1)) us) j) (pick_and (clear x y hx₁ hy₁ e) clears r None)
      (ps.0 j (Some (holder i₀ p)) sc hx₁ hy₁ (frames_at i₀ n sc fs (p + 1)) us (pick clears r None) both.0 first (part-scope bs x y hx hy i₀ p t read) low
      (omega (arith, frames-long (ltb (p + 1) n) (frame (holder i₀ (p + 1)) n sc) fs es (λ b. omega (arith, ltb-true _ _ b)), long))
      (parts_go es ps.1 (p + 1) k (us ++ name_uses x hx₁ j e) (omega arith) both.1 (stands-second bs j (expr_spelled e) (flat expr_spelled es) s)
      (omega (arith, length-append us (name_uses x hx₁ j e), uses_nine x e hx₁ j)) (omega (arith, long))
      (goes_same bs x y fs _ _ _ _ r (sym (append_assoc us (name_uses x hx₁ j e) (parts_uses x (given_in x hx t.head) (p + 1) k es)))
      (omega (arith, long)) go))))
    where
      n : ℕ
      n = arity t.head

      sc : Scope
      sc = scope hx hy

      hx₁ : Bool
      hx₁ = given_in x hx t.head p

      hy₁ : Bool
      hy₁ = given_in y hy t.head p

      clears : Bool
      clears = parts_clear x y (given_in x hx t.head) (given_in y hy t.head) (p + 1) es

      k : ℕ
      k = j + length (expr_spelled e)

      both : (an_expr e ≡ true) × (every an_expr es ≡ true)
      both = and_parts _ _ fit

      first : Stands bs j (expr_spelled e)
      first = grind (arith, stands-first)

      long : length (flat expr_spelled (e ∷ es)) ≡ length (expr_spelled e) + length (flat expr_spelled es)
      long = length-append (expr_spelled e) (flat expr_spelled es)

-- an expression is passed if its parts are
module _ (bs : List ℕ) (x y : Name) (short : length bs ≤ 65536) where
  node_lists : (e : Expr) → AllByRecursion (Lists bs x y) (parts e) → Lists bs x y e
  node_lists e ps i h a hx hy fs us r fit s is low room go zero l =
      absurd (omega (arith, spelled_nine e, stands_in bs i (expr_spelled e) (omega (arith, spelled_nine e)) s))
  node_lists e ps i h a hx hy fs us r fit s is low room go (suc f) l =
      uses-turn f bs x y (walk h a fs us) i (token u j) (scope hx hy) read is
      ∙ head-listed x y hx hy us i (λ vs. after_head (λ v. uses_from f bs x y v j) i (arity u) (scope hx hy) fs vs) (omega (arith, here)) u
      ∙ ap (λ o. pick (head_clear x y hx hy u) o None) all-parts
      ∙ pick_and (head_clear x y hx hy u) clears r None
      ∙ ap (λ c. pick c r None) (sym (clear_node x y hx hy e))
    where
      u : Head
      u = head_of e

      j : ℕ
      j = parts_at i (head_of e)

      clears : Bool
      clears = parts_clear x y (given_in x hx (head_of e)) (given_in y hy (head_of e)) 0 (parts e)

      vs : List ℕ
      vs = us ++ head_uses x hx i (head_of e)

      here : i + length (expr_spelled e) ≤ length bs
      here = grind (arith, stands_in, spelled_nine)

      all : Stands bs i (head_spelled (head_of e) ++ flat expr_spelled (parts e))
      all = subst (Stands bs i) (spelled_node e) s

      read : head_at bs i ≡ Some (token (head_of e) (parts_at i (head_of e)))
      read = grind (arith, head-stands, head-fits, stands-first, all)

      long : length (expr_spelled e) ≡ length (head_spelled (head_of e)) + length (flat expr_spelled (parts e))
      long = grind (arith, spelled_node, length-append)

      all-parts : after_head (λ v. uses_from f bs x y v j) i (arity u) (scope hx hy) fs vs ≡ pick clears r None
      all-parts =
          head_is_left (λ v. uses_from f bs x y v j) i (arity u) (scope hx hy) fs vs (omega arith)
          ∙ left_goes bs x y (frames_at i (arity u) (scope hx hy) fs 0) vs j (pick clears r None)
          (parts_go bs x y i (token u j) read hx hy fs r (parts e) ps 0 j vs (omega (arith, parts-arity e)) (head-fits e fit).1
          (stands-second bs i (head_spelled u) (flat expr_spelled (parts e)) all)
          (omega (arith, length-append us (head_uses x hx i u), head_nine x hx i u)) (omega (arith, long))
          (goes_same bs x y fs _ _ _ _ r
          (ap (λ l. us ++ l) (uses_node x hx i e) ∙ sym (append_assoc us (head_uses x hx i u) (parts_uses x (given_in x hx u) 0 j (parts e))))
          (omega (arith, long)) go))
          f (omega (arith, head-long u))

pub uses-clear : (bs : List ℕ) (x y : Name) (k i : ℕ) (e : Expr) → length bs ≤ 65536 → an_expr e ≡ true → Stands bs i (expr_spelled e) → 9 ≤ i →
    uses_of bs x y k i ≡ pick (clear x y false false e) (Some (k ∷ name_uses x false i e)) None
unfolding scope_in
uses-clear bs x y k i e short fit s low =
    by_parts (Lists bs x y) (node_lists bs x y short) e i None (scope false false) false false [] (k ∷ []) (Some (k ∷ name_uses x false i e)) fit s refl
    (omega arith) (omega (arith, stands_in bs i (expr_spelled e) (omega (arith, spelled_nine e)) s)) refl (length bs) (omega arith)

pub uses-listed : UsesListed
uses-listed before after x y k e short fit low =
    uses-clear bs x y k (length before) e short fit
    (subst (λ i. Stands bs i (expr_spelled e)) (zero-add (length before))
    (stands-second bs 0 before (expr_spelled e)
    (subst (λ l. Stands l 0 (before ++ expr_spelled e)) (append_assoc before (expr_spelled e) after) (front-stands (before ++ expr_spelled e) after))))
    low
  where
    bs : List ℕ
    bs = before ++ (expr_spelled e ++ after)

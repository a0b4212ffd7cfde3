-- A run in a program whose functions have other names: as long as nothing calls the new name, what is called by its new name
-- comes to what it came to. A function that is dropped is one that keeps its name and that nothing calls. Assumes nothing.
use Rattle.std.proofs.Common.{arith, ◌≡◌, ℕ, zero, suc, Bool, false, eqb, List, [], ◌∷◌, sym, refl, ap, ◌∙◌, ap₂}
use mathlib.Core.Path.{fun_ext}
use Rattle.language.specs.Basics.{pick, any, each, same}
use Rattle.language.specs.Bytes.{Name}
use Rattle.language.specs.Expr.{Expr, num, var, bin, call, bind, choice, tell, Exprs, no_exprs, expr_and, Fun, Program}
use Rattle.language.specs.Meaning.{came, Bound, fun_of, reckon, then, Cames, cames, wrongs, deeps, Ev, eval_all, called, step, eval, apply}
use Rattle.language.specs.Names.{has, joined}
use Rattle.language.proofs.NameFacts.{same_eq, same_sym, or_left_false, or_right_false, has-joined}
use Rattle.model.specs.FunctionNames.{recalled, recalled_all, fun_renamed, calls, calls_all}

pub out_left : (xs ys : List Name) (x : Name) → has (joined xs ys) x ≡ false → has xs x ≡ false
out_left xs ys x h = or_left_false _ _ (sym (has-joined xs ys x) ∙ h)

pub out_right : (xs ys : List Name) (x : Name) → has (joined xs ys) x ≡ false → has ys x ≡ false
out_right xs ys x h = or_right_false _ _ (sym (has-joined xs ys x) ∙ h)

-- nothing in it calls y
abbrev pub Uncalled : Name → Expr → Type 0
Uncalled y e = has (calls e) y ≡ false

abbrev pub calling : Name → Fun → Bool
calling y f = has (calls f.body) y

-- two evaluations come to the same, the second where x is called y
abbrev SameRecalled : Name → Name → Ev → Ev → Type 0
SameRecalled x y ev ew = (bs : List Bound) (e : Expr) → Uncalled y e → ev bs e ≡ ew bs (recalled x y e)

module _ (x y : Name) (ev ew : Ev) (alike : SameRecalled x y ev ew) where
  all-recalled : (bs : List Bound) (es : Exprs) → has (calls_all es) y ≡ false → eval_all (ev bs) es ≡ eval_all (ew bs) (recalled_all x y es)
  unfolding eval_all calls_all recalled_all
  all-recalled bs no_exprs h = refl
  all-recalled bs (expr_and e es) h = grind (arith, out_left, all-recalled bs es (out_right (calls e) (calls_all es) y h))

  called-recalled : (fs : List Fun) (cs : Cames) → any (calling y) fs ≡ false → called ev fs cs ≡ called ew (each (fun_renamed x y) fs) cs
  unfolding called
  called-recalled [] (cames vs ts) h = refl
  called-recalled [] (wrongs k ts) h = refl
  called-recalled [] deeps h = refl
  called-recalled (f ∷ fs) (cames vs ts) h = grind arith
  called-recalled (f ∷ fs) (wrongs k ts) h = refl
  called-recalled (f ∷ fs) deeps h = refl

-- Program q has each function of p that is not y, x as y, and nothing in these calls y.
pub record Recalls (x y : Name) (p q : Program) : Type 0 where
  pub finds : (h : Name) → same y h ≡ false → fun_of q (pick (same x h) y h) ≡ each (fun_renamed x y) (fun_of p h)
  pub uncalled : (h : Name) → same y h ≡ false → any (calling y) (fun_of p h) ≡ false

module _ (x y : Name) (p q : Program) (to : Recalls x y p q) where
  calls_same : (ev ew : Ev) → SameRecalled x y ev ew → (h : Name) (cs ds : Cames) → same y h ≡ false → cs ≡ ds →
      called ev (fun_of p h) cs ≡ called ew (fun_of q (pick (same x h) y h)) ds
  calls_same ev ew alike h cs ds other e = grind (arith, called-recalled)

  step-recalled : (ev ew : Ev) → SameRecalled x y ev ew → SameRecalled x y (step p ev) (step q ew)
  unfolding step calls recalled
  step-recalled ev ew alike bs (num n) h = refl
  step-recalled ev ew alike bs (var z) h = refl
  step-recalled ev ew alike bs (bin k a b) h =
      let in_a = alike bs a (out_left (calls a) (calls b) y h) in
      let in_b = alike bs b (out_right (calls a) (calls b) y h) in
      ap₂ then in_a (fun_ext λ v. ap (λ c. then c (λ u. reckon k v u)) in_b)
  step-recalled ev ew alike bs (call g es) h =
      calls_same ev ew alike g (eval_all (ev bs) es) (eval_all (ew bs) (recalled_all x y es))
      (or_left_false _ _ (out_left (g ∷ []) (calls_all es) y h))
      (all-recalled x y ev ew alike bs es (out_right (g ∷ []) (calls_all es) y h))
  step-recalled ev ew alike bs (bind z a b) h =
      ap₂ then (alike bs a (out_left (calls a) (calls b) y h)) (fun_ext λ v. alike _ b (out_right (calls a) (calls b) y h))
  step-recalled ev ew alike bs (choice c a b) h =
      let both = out_left (joined (calls c) (calls a)) (calls b) y h in
      let in_c = alike bs c (out_left (calls c) (calls a) y both) in
      let in_a = alike bs a (out_right (calls c) (calls a) y both) in
      let in_b = alike bs b (out_right (joined (calls c) (calls a)) (calls b) y h) in
      ap₂ then in_c (fun_ext λ v. ap₂ (pick (eqb v 0)) in_b in_a)
  step-recalled ev ew alike bs (tell a) h = ap (λ c. then c (λ v. came v (v ∷ []))) (alike bs a h)

  pub eval-recalled : (n : ℕ) (bs : List Bound) (e : Expr) → Uncalled y e → eval n p bs e ≡ eval n q bs (recalled x y e)
  unfolding eval
  eval-recalled zero bs e h = refl
  eval-recalled (suc n) bs e h = step-recalled (eval n p) (eval n q) (eval-recalled n) bs e h

  pub apply-recalled : (n : ℕ) (g : Name) (vs : List ℕ) → same x g ≡ false → same y g ≡ false → apply n p g vs ≡ apply n q g vs
  apply-recalled n g vs not_x not-y = grind (arith, calls_same, eval-recalled)

-- a name in place of itself
pick_self : (x h : Name) → pick (same x h) x h ≡ h
pick_self x h = grind (arith, same_eq)

mutual
  unfolding recalled recalled_all

  recalled_self : (e : Expr) (x : Name) → recalled x x e ≡ e
  recalled_self (num n) x = refl
  recalled_self (var z) x = refl
  recalled_self (bin k a b) x = ap₂ (bin k) (recalled_self a x) (recalled_self b x)
  recalled_self (call h es) x = ap₂ call (pick_self x h) (all_self es x)
  recalled_self (bind z a b) x = ap₂ (bind z) (recalled_self a x) (recalled_self b x)
  recalled_self (choice c a b) x = λ i. choice (recalled_self c x i) (recalled_self a x i) (recalled_self b x i)
  recalled_self (tell a) x = ap tell (recalled_self a x)

  all_self : (es : Exprs) (x : Name) → recalled_all x x es ≡ es
  all_self no_exprs x = refl
  all_self (expr_and e es) x = ap₂ expr_and (recalled_self e x) (all_self es x)

pub renamed_self : (x : Name) (f : Fun) → fun_renamed x x f ≡ f
renamed_self x f = grind (arith, same_sym, pick_self, recalled_self)

pub each_self : (x : Name) (fs : List Fun) → each (fun_renamed x x) fs ≡ fs
each_self x [] = refl
each_self x (f ∷ fs) = ap₂ ◌∷◌ (renamed_self x f) (each_self x fs)

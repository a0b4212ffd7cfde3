-- Places, part by part: what was put at one is there, and putting there what stands there changes nothing. A part put for another keeps the head
-- and the other parts, and so the bytes around it. Assumes nothing.
use Rattle.std.proofs.Common.{arith, ◌≡◌, ℕ, zero, suc, Bool, true, false, eqb, List, [], ◌∷◌, ◌++◌, take, drop, refl, ap, ◌∙◌}
use mathlib.Core.List.{nil≢cons}
use Rattle.std.proofs.lemmas.List.{append_assoc}
use Rattle.language.specs.Basics.{pick, flat}
use Rattle.language.specs.Expr.{Expr, num, var, bin, call, bind, choice, tell, Exprs, no_exprs, expr_and, exprs_in, count_exprs, parts}
use Rattle.language.specs.Places.{nth_expr, in_some, at_place, put_nth, with_part, put_some, put_at}
use Rattle.language.specs.Spelling.{expr_spelled}
use Rattle.language.specs.Heads.{Head, h_call, head_of, head_spelled}
use Rattle.language.specs.Statements.{ThereAgain}
use Rattle.language.proofs.ListFacts.{flat_append}
use Rattle.language.proofs.NodeFacts.{spelled_node, node_same}

-- an expression where it stands in a row, and another in its stead
nth_split : (es : List Expr) (k : ℕ) (c : Expr) (cs : List Expr) → nth_expr es k ≡ c ∷ cs → take k es ++ c ∷ drop (suc k) es ≡ es
unfolding nth_expr
nth_split [] k c cs h = absurd (nil≢cons h)
nth_split (e ∷ es) zero c cs h = cc
nth_split (e ∷ es) (suc k) c cs h = ap (◌∷◌ e) (nth_split es k c cs h)

nth_new : (es : List Expr) (k : ℕ) (c : Expr) (cs : List Expr) (d : Expr) → nth_expr es k ≡ c ∷ cs → nth_expr (take k es ++ d ∷ drop (suc k) es) k ≡ d ∷ []
unfolding nth_expr
nth_new [] k c cs d h = absurd (nil≢cons h)
nth_new (e ∷ es) zero c cs d h = refl
nth_new (e ∷ es) (suc k) c cs d h = nth_new es k c cs d h

-- something else put for a part: the head and the other parts are as they were
pick-head : (t : Bool) (a b : Expr) (h : Head) → head_of a ≡ h → head_of b ≡ h → head_of (pick t a b) ≡ h
pick-head true a b h p q = p
pick-head false a b h p q = q

nth_count : (es : Exprs) (k : ℕ) (e : Expr) → count_exprs (put_nth es k e) ≡ count_exprs es
unfolding count_exprs put_nth
nth_count no_exprs k e = refl
nth_count (expr_and a es) zero e = refl
nth_count (expr_and a es) (suc k) e = ap suc (nth_count es k e)

pub part-head : (e : Expr) (k : ℕ) (d : Expr) → head_of (with_part e k d) ≡ head_of e
unfolding head_of with_part
part-head (num n) k d = refl
part-head (var x) k d = refl
part-head (bin o a b) k d = pick-head (eqb k 0) (bin o d b) (bin o a d) _ refl refl
part-head (call f es) k d = ap (h_call f) (nth_count es k d)
part-head (bind x a b) k d = pick-head (eqb k 0) (bind x d b) (bind x a d) _ refl refl
part-head (choice c a b) k d = grind arith
part-head (tell a) k d = refl

nth_put : (es : Exprs) (k : ℕ) (c : Expr) (cs : List Expr) (d : Expr) → nth_expr (exprs_in es) k ≡ c ∷ cs →
    exprs_in (put_nth es k d) ≡ take k (exprs_in es) ++ d ∷ drop (suc k) (exprs_in es)
unfolding nth_expr put_nth
nth_put no_exprs k c cs d h = absurd (nil≢cons h)
nth_put (expr_and a es) zero c cs d h = refl
nth_put (expr_and a es) (suc k) c cs d h = ap (◌∷◌ a) (nth_put es k c cs d h)

pub part_put : (e : Expr) (k : ℕ) (c : Expr) (cs : List Expr) (d : Expr) → nth_expr (parts e) k ≡ c ∷ cs →
    parts (with_part e k d) ≡ take k (parts e) ++ d ∷ drop (suc k) (parts e)
unfolding nth_expr parts with_part
part_put (num n) k c cs d h = absurd (nil≢cons h)
part_put (var x) k c cs d h = absurd (nil≢cons h)
part_put (bin o a b) zero c cs d h = refl
part_put (bin o a b) (suc zero) c cs d h = refl
part_put (bin o a b) (suc (suc k)) c cs d h = absurd (nil≢cons h)
part_put (call f es) k c cs d h = nth_put es k c cs d h
part_put (bind x a b) zero c cs d h = refl
part_put (bind x a b) (suc zero) c cs d h = refl
part_put (bind x a b) (suc (suc k)) c cs d h = absurd (nil≢cons h)
part_put (choice e a b) zero c cs d h = refl
part_put (choice e a b) (suc zero) c cs d h = refl
part_put (choice e a b) (suc (suc zero)) c cs d h = refl
part_put (choice e a b) (suc (suc (suc k))) c cs d h = absurd (nil≢cons h)
part_put (tell a) zero c cs d h = refl
part_put (tell a) (suc k) c cs d h = absurd (nil≢cons h)

-- the kth part, put in place, is the kth part
part_again : (a : Expr) (k : ℕ) (e c : Expr) (cs : List Expr) → nth_expr (parts a) k ≡ c ∷ cs → nth_expr (parts (with_part a k e)) k ≡ e ∷ []
part_again a k e c cs h = grind (arith, part_put, nth_new)

-- the kth part put where it is
part_same : (a : Expr) (k : ℕ) (c : Expr) (cs : List Expr) → nth_expr (parts a) k ≡ c ∷ cs → with_part a k c ≡ a
part_same a k c cs h = grind (arith, node_same, part-head, part_put, nth_split)

-- the bytes of an expression before its kth part, and after it
abbrev pub before_part : Expr → ℕ → List ℕ
before_part e k = head_spelled (head_of e) ++ flat expr_spelled (take k (parts e))

abbrev pub after_part : Expr → ℕ → List ℕ
after_part e k = flat expr_spelled (drop (suc k) (parts e))

module _ (e : Expr) (k : ℕ) (c : Expr) (cs : List Expr) (h : nth_expr (parts e) k ≡ c ∷ cs) where
  pub put_part_spelled : (d : Expr) → expr_spelled (with_part e k d) ≡ before_part e k ++ (expr_spelled d ++ after_part e k)
  put_part_spelled d = grind (arith, spelled_node, part-head, part_put, flat_append, append_assoc)

  pub part-spelled : expr_spelled e ≡ before_part e k ++ (expr_spelled c ++ after_part e k)
  part-spelled = grind (arith, part_same, put_part_spelled)

-- What stands at a longer place stands at the rest of it in a part, and what is put there is put there in that part.
pub record Within (e : Expr) (k : ℕ) (ks : List ℕ) (c : Expr) (cs : List Expr) : Type 0 where
  pub part : Expr
  pub others : List Expr
  pub is_part : nth_expr (parts e) k ≡ part ∷ others
  pub stands : at_place part ks ≡ c ∷ cs
  pub put : (d : Expr) → put_at e (k ∷ ks) d ≡ with_part e k (put_at part ks d)

pub within : (e : Expr) (k : ℕ) (ks : List ℕ) (c : Expr) (cs : List Expr) → at_place e (k ∷ ks) ≡ c ∷ cs → Within e k ks c cs
unfolding at_place put_at
within e k ks c cs h = go (nth_expr (parts e) k) refl h
  where
    go : (ds : List Expr) → nth_expr (parts e) k ≡ ds → in_some ds (λ d. at_place d ks) ≡ c ∷ cs → Within e k ks c cs
    go [] p h = absurd (nil≢cons h)
    go (d ∷ ds) p h = record { part = d; others = ds; is_part = p; stands = h; put = λ x. ap (λ l. put_some e k l (λ b. put_at b ks x)) p }

pub there_again : ThereAgain
unfolding at_place put_at
there_again a e b [] h = refl
there_again a e b (k ∷ ks) h =
    let r = within a k ks b [] h in
    ap (λ x. at_place x (k ∷ ks)) (r.put e) ∙ ap (λ es. in_some es (λ c. at_place c ks)) (part_again a k (put_at r.part ks e) r.part r.others r.is_part)
    ∙ there_again r.part e b ks r.stands

pub put_same : (ks : List ℕ) (e c : Expr) (cs : List Expr) → at_place e ks ≡ c ∷ cs → put_at e ks c ≡ e
unfolding at_place put_at
put_same [] e c cs h = cc
put_same (k ∷ ks) e c cs h =
    let r = within e k ks c cs h in
    r.put c ∙ ap (with_part e k) (put_same ks r.part c cs r.stands) ∙ part_same e k r.part r.others r.is_part

-- What stands at a place of an expression that fits, fits; and put there, what fits keeps the whole so. Assumes nothing.
use Rattle.std.proofs.Common.{arith, ◌≡◌, ℕ, zero, suc, true, List, [], ◌∷◌, sym, refl, ap, ◌∙◌}
use mathlib.Core.List.{nil≢cons}
use Rattle.std.proofs.lemmas.Bool.{and_parts}
use Rattle.language.specs.Basics.{every}
use Rattle.language.specs.Expr.{Expr, parts}
use Rattle.language.specs.Places.{nth_expr, at_place, with_part, put_some, put_at}
use Rattle.language.specs.Fits.{an_expr}
use Rattle.language.proofs.ListFacts.{every_take, every_drop, every_append}
use Rattle.language.proofs.NodeFacts.{head-fits, node_fits}
use Rattle.language.proofs.PlaceFacts.{part-head, part_put, within}

pub nth_fit : (es : List Expr) (k : ℕ) (c : Expr) (cs : List Expr) → every an_expr es ≡ true → nth_expr es k ≡ c ∷ cs → an_expr c ≡ true
unfolding nth_expr
nth_fit [] k c cs h e = absurd (nil≢cons e)
nth_fit (a ∷ as₁) zero c cs h e = grind arith
nth_fit (a ∷ as₁) (suc k) c cs h e = nth_fit as₁ k c cs (and_parts _ _ h).1 e

pub at_fit : (ks : List ℕ) (a b : Expr) (bs : List Expr) → an_expr a ≡ true → at_place a ks ≡ b ∷ bs → an_expr b ≡ true
unfolding at_place
at_fit [] a b bs h e = let z : a ≡ b = cc in ap an_expr (sym z) ∙ h
at_fit (k ∷ ks) a b bs h e =
    let r = within a k ks b bs e in at_fit ks r.part b bs (nth_fit (parts a) k r.part r.others (head-fits a h).1 r.is_part) r.stands

part_fit : (a : Expr) (k : ℕ) (c : Expr) (cs : List Expr) (e : Expr) → an_expr a ≡ true → nth_expr (parts a) k ≡ c ∷ cs → an_expr e ≡ true → an_expr (with_part a k e) ≡ true
part_fit a k c cs e h p fit = grind (arith, head-fits, node_fits, part-head, part_put, every_append, every_take, every_drop)

pub put_fit : (ks : List ℕ) (a e : Expr) → an_expr a ≡ true → an_expr e ≡ true → an_expr (put_at a ks e) ≡ true
unfolding put_at
put_fit [] a e h fit = fit
put_fit (k ∷ ks) a e h fit = go (nth_expr (parts a) k) refl (λ b p. put_fit ks b e p fit)
  where
    go : (bs : List Expr) → nth_expr (parts a) k ≡ bs → ((b : Expr) → an_expr b ≡ true → an_expr (put_at b ks e) ≡ true) →
        an_expr (put_some a k bs (λ b. put_at b ks e)) ≡ true
    go [] p ih = h
    go (b ∷ bs) p ih = part_fit a k b bs (put_at b ks e) h p (ih b (nth_fit (parts a) k b bs (head-fits a h).1 p))

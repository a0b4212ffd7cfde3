-- How long an expression's spelling is when something else stands at a place of it: what is put there for what stood there. Assumes nothing.
use Rattle.std.proofs.Common.{◌≡◌, ℕ, ◌+◌, ◌≤◌, List, [], ◌∷◌, length, ap, arith}
use Rattle.std.proofs.lemmas.List.{length-append}
use Rattle.language.specs.Expr.{Expr, parts}
use Rattle.language.specs.Places.{nth_expr, at_place, with_part, put_at}
use Rattle.language.specs.Spelling.{expr_spelled}
use Rattle.language.proofs.PlaceFacts.{before_part, after_part, put_part_spelled, part-spelled, within}

abbrev long : Expr → ℕ
long e = length (expr_spelled e)

-- with any expression for its kth part: what is around that, and that
part-long : (a : Expr) (k : ℕ) (c : Expr) (cs : List Expr) (d : Expr) → nth_expr (parts a) k ≡ c ∷ cs →
    long (with_part a k d) ≡ length (before_part a k) + (long d + length (after_part a k))
part-long a k c cs d h = grind (arith, put_part_spelled, length-append)

whole-long : (a : Expr) (k : ℕ) (c : Expr) (cs : List Expr) → nth_expr (parts a) k ≡ c ∷ cs → long a ≡ length (before_part a k) + (long c + length (after_part a k))
whole-long a k c cs h = grind (arith, part-spelled, length-append)

pub put_long : (ks : List ℕ) (a c : Expr) (cs : List Expr) (d : Expr) → at_place a ks ≡ c ∷ cs →
    length (expr_spelled (put_at a ks d)) + length (expr_spelled c) ≡ length (expr_spelled a) + length (expr_spelled d)
unfolding at_place put_at
put_long [] a c cs d h = let whole : a ≡ c = cc in omega (arith, ap long whole)
put_long (k ∷ ks) a c cs d h =
    let r = within a k ks c cs h in
    omega (arith, ap long (r.put d), put_long ks r.part c cs d r.stands, part-long a k r.part r.others (put_at r.part ks d) r.is_part, whole-long a k r.part r.others r.is_part)

-- what stands at a place is no longer than the whole
pub at_short : (ks : List ℕ) (a c : Expr) (cs : List Expr) → at_place a ks ≡ c ∷ cs → length (expr_spelled c) ≤ length (expr_spelled a)
unfolding at_place
at_short [] a c cs h = let whole : a ≡ c = cc in omega (arith, ap long whole)
at_short (k ∷ ks) a c cs h =
    let r = within a k ks c cs h in omega (arith, at_short ks r.part c cs r.stands, whole-long a k r.part r.others r.is_part)

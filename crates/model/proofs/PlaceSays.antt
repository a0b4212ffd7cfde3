-- Whether something else at a place keeps the bare form of the whole is whether it keeps it there, under the names given there.
-- Assumes nothing.
use Rattle.std.proofs.Common.{arith, ◌≡◌, ℕ, zero, suc, Bool, List, [], ◌∷◌, sym, ap, subst}
use mathlib.Core.List.{nil≢cons}
use Rattle.language.specs.Bytes.{Name}
use Rattle.language.specs.Expr.{Expr, num, var, bin, call, bind, choice, tell, Exprs, no_exprs, expr_and, exprs_in, parts}
use Rattle.language.specs.Places.{nth_expr, at_place, put_nth, with_part, put_at}
use Rattle.language.specs.Bare.{Bare, b_call, bare_and, bare, bare_all}
use Rattle.language.proofs.PlaceFacts.{within}
use Rattle.model.specs.Extract.{given_in, given_to, given_at}
use Rattle.model.proofs.Says.{Says, says_map}

-- the first of two bare forms, by another name of the expression
says_for : {D : Bare} (t : Bool) (xs : List Name) (a c : Expr) → a ≡ c → Says t (bare xs c ≡ D) → Says t (bare xs a ≡ D)
says_for {D} t xs a c e h = subst (λ z. Says t (bare xs z ≡ D)) (sym e) h

nth_says : (t : Bool) (xs : List Name) (es : Exprs) (k : ℕ) (c : Expr) (cs : List Expr) (d : Expr) → nth_expr (exprs_in es) k ≡ c ∷ cs →
    Says t (bare xs c ≡ bare xs d) → Says t (bare_all xs es ≡ bare_all xs (put_nth es k d))
unfolding nth_expr put_nth bare_all
nth_says t xs no_exprs k c cs d h s = absurd (nil≢cons h)
nth_says t xs (expr_and a es) zero c cs d h s = grind arith
nth_says t xs (expr_and a es) (suc k) c cs d h s = says_map t (ap (bare_and (bare xs a))) (λ e. cc) (nth_says t xs es k c cs d h s)

-- What is said of a part, under the names given there, is said of the whole with another part.
part_says : (t : Bool) (xs : List Name) (e : Expr) (k : ℕ) (c : Expr) (cs : List Expr) (d : Expr) → nth_expr (parts e) k ≡ c ∷ cs →
    Says t (bare (given_in xs e k) c ≡ bare (given_in xs e k) d) → Says t (bare xs e ≡ bare xs (with_part e k d))
unfolding nth_expr parts with_part bare
part_says t xs (num n) k c cs d h s = absurd (nil≢cons h)
part_says t xs (var x) k c cs d h s = absurd (nil≢cons h)
part_says t xs (bin o a b) zero c cs d h s = grind arith
part_says t xs (bin o a b) (suc zero) c cs d h s = grind arith
part_says t xs (bin o a b) (suc (suc k)) c cs d h s = absurd (nil≢cons h)
part_says t xs (call f es) k c cs d h s = says_map t (ap (b_call f)) (λ e. cc) (nth_says t xs es k c cs d h s)
part_says t xs (bind x a b) zero c cs d h s = grind arith
part_says t xs (bind x a b) (suc zero) c cs d h s = grind arith
part_says t xs (bind x a b) (suc (suc k)) c cs d h s = absurd (nil≢cons h)
part_says t xs (choice e a b) zero c cs d h s = grind arith
part_says t xs (choice e a b) (suc zero) c cs d h s = grind arith
part_says t xs (choice e a b) (suc (suc zero)) c cs d h s = grind arith
part_says t xs (choice e a b) (suc (suc (suc k))) c cs d h s = absurd (nil≢cons h)
part_says t xs (tell a) zero c cs d h s = grind (arith, says_map, says_for)
part_says t xs (tell a) (suc k) c cs d h s = absurd (nil≢cons h)

pub place_says : (t : Bool) (ks : List ℕ) (xs : List Name) (e old : Expr) (os : List Expr) (new : Expr) → at_place e ks ≡ old ∷ os →
    Says t (bare (given_at xs e ks) old ≡ bare (given_at xs e ks) new) → Says t (bare xs e ≡ bare xs (put_at e ks new))
unfolding at_place given_at given_to put_at
place_says t [] xs e old os new h s = says_for t xs e old (cc) s
place_says t (k ∷ ks) xs e old os new h s =
    let r = within e k ks old os h in
    subst (λ z. Says t (bare xs e ≡ bare xs z)) (sym (r.put new))
    (part_says t xs e k r.part r.others (put_at r.part ks new) r.is_part
    (place_says t ks (given_in xs e k) r.part old os new r.stands
    (subst (λ ps. Says t (bare (given_to (given_in xs e k) ps (λ ys a. given_at ys a ks)) old ≡ bare (given_to (given_in xs e k) ps (λ ys a. given_at ys a ks)) new)) r.is_part s)))

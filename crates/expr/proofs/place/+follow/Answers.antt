-- One part after the other.
use Rattle.std.proofs.Common.{◌≡◌, ℕ, ltb, List, length, None, sym, ◌∙◌, ap₂, arith, ltb-false, ltb-true}
use Rattle.language.specs.Basics.{pick}
use Rattle.language.specs.Heads.{arity}
use Rattle.language.specs.Reading.{ends}
use Rattle.language.proofs.FollowFacts.{place_here, place_none, place-cut, place_more}
use Rattle.expr.specs.declared.token.Kind.{Kind}
use Rattle.expr.specs.Token.{kind_told, kind_arity}
use Rattle.expr.proofs.TokenFacts.{arity-told}
use Rattle.expr.proofs.place.+follow.Goals as goal

-- which part, by the head or by its kind
part-told : (bs : List ℕ) (k : Kind) (n m e : ℕ) → m ≡ n → pick (ltb n (arity (kind_told bs k))) (ends n (length bs) bs e) None ≡ pick (ltb m (kind_arity k)) (ends m (length bs) bs e) None
part-told bs k n m e p = ap₂ (λ a j. pick (ltb j a) (ends j (length bs) bs e) None) (arity-told bs k) (sym p)

pub returns-in_default : goal.returns-in_default
returns-in_default g t c = sym (place_here (g.S.Source.bytes c.args.src.now) c.args.place.now c.args.at (omega (arith, ltb-true, ltb-false)))

pub returns-in_err-token : goal.returns-in_err-token
returns-in_err-token g t c = c.from_residual.ensures ∙ sym (place_none (g.S.Source.bytes c.args.src.now) c.args.place.now c.args.at (omega (arith, ltb-true, ltb-false)) (sym c.in_err-token.ensures.value))

pub returns-in_err-next : goal.returns-in_err-next
returns-in_err-next g t c =
    c.from_residual-in_err-next.ensures ∙ sym (place-cut (g.S.Source.bytes c.args.src.now) c.args.place.now c.args.at (omega (arith, ltb-true, ltb-false)) _ (sym c.in_ok-token.ensures.value)
    (part-told (g.S.Source.bytes c.args.src.now) c.in_ok-token.token.kind _ _ _ c.from.ensures ∙ sym c.in_err-next.ensures))

pub returns : goal.returns
returns g t c =
    c.follow.ensures
    ∙ sym (place_more (g.S.Source.bytes c.args.src.now) c.args.place.now c.args.at (omega (arith, ltb-true, ltb-false)) _ _ (sym c.in_ok-token.ensures.value)
    (part-told (g.S.Source.bytes c.args.src.now) c.in_ok-token.token.kind _ _ _ c.from.ensures ∙ sym c.in_ok-next.ensures))

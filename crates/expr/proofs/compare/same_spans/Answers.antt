-- The places of both spans are gone through side by side.
use Rattle.std.proofs.Common.{rules, ◌-◌, take, drop, refl, sym, ap, ap₂, ◌∙◌, arith, ne_eqb}
use borrow.Author.Tests.{tests}
use Rattle.std.proofs.lemmas.Iterator.{YieldsList-from_range, YieldsList-from_zip}
use Rattle.std.proofs.lemmas.Iterator.Search.{all_from_yields_List}
use Rattle.language.specs.Basics.{same}
use Rattle.language.proofs.SameFacts.{parts-long}
use Rattle.expr.proofs.SameFacts.{same_at, pairs-same}
use Rattle.expr.proofs.compare.same_spans.Goals as goal

pub returns-then-len : goal.returns-then-len
returns-then-len g c =
    all_from_yields_List (same_at (g.A.Source.bytes c.args.a.now) (g.B.Source.bytes c.args.b.now)) _ _ _ c.all.ensures.ran
    (YieldsList-from_zip (YieldsList-from_range c.within-x.result.from _ (c.within-x.result.to - c.within-x.result.from) c.zip.ensures.first refl)
    (YieldsList-from_range c.within-y.result.from _ (c.within-x.result.to - c.within-x.result.from) c.zip.ensures.second (omega arith)))
    (λ x b q k. search (rules, tests))
    ∙ pairs-same (g.A.Source.bytes c.args.a.now) (g.B.Source.bytes c.args.b.now) c.within-x.result.from c.within-y.result.from _ (omega arith) (omega arith)
    ∙ ap₂ same (c.within-x.ensures.same _ (omega arith))
    (ap (λ n. take n (drop c.within-y.result.from (g.B.Source.bytes c.args.b.now))) (omega arith) ∙ c.within-y.ensures.same _ (omega arith))

pub returns-else-len : goal.returns-else-len
returns-else-len g c =
    ne_eqb _ _ c.if-len.false
    ∙ sym (parts-long (g.A.Source.bytes c.args.a.now) (g.B.Source.bytes c.args.b.now) c.within-x.result.from c.within-x.result.to c.within-y.result.from c.within-y.result.to
    (omega arith) (omega arith) (omega arith) (omega arith) (λ e. c.if-len.false (omega arith)))
    ∙ ap₂ same (c.within-x.ensures.same _ (omega arith)) (c.within-y.ensures.same _ (omega arith))

use Rattle.std.proofs.Common.{◌-◌, None, refl, ◌∙◌, arith}
use Rattle.language.specs.Uses.{scope}
use Rattle.scope.proofs.VisitFacts.{uses_begin}
use Rattle.scope.proofs.uses.list_uses.Goals as goal

pub returns-clause-value : goal.returns-clause-value
returns-clause-value g c =
    c.walk_through.ensures.value
    ∙ uses_begin _ _ _ c.args.frames.now c.args.list.now
    (record { at = c.args.body; holder = None; around = c.default.result; frames = 0; uses = 1; few_frames = omega arith; few_uses = omega arith }) (c.args.renaming.now.from.from - 8) c.saturating_sub.result (omega arith) refl (λ i. scope (c.default.ensures.0 i) (c.default.ensures.1 i)) refl refl
    c.saturating_sub.ensures

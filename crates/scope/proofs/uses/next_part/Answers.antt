use Rattle.std.proofs.Common.{◌≡◌, ◌-◌, suc, refl, ◌∙◌, ap₂, arith}
use Rattle.scope.specs.Frames.{frame_told, stacked}
use Rattle.language.specs.Uses.{part_taken}
use Rattle.scope.proofs.FrameFacts.{stacked_more}
use Rattle.scope.proofs.WalkFacts.{part_last, part_more, leaf_over, leaf_next}
use Rattle.scope.proofs.uses.next_part.Goals as goal
use Rattle.scope.proofs.uses.next_part.Goals.{in-Some, in_default}

pub returns-then-walk-eq0 : goal.returns-then-walk-eq0
returns-then-walk-eq0 c = record { to = λ go us. leaf_over _ _ us go c.if-walk-eq0.true; on = refl }

pub returns : goal.returns
returns c =
    let m = c.args.frames.now in
    let newest = c.args.walk.frames - 1 in
    let f = frame_told c.at-frame.result in
    let left : stacked c.match-next.frames c.match-next.left ≡ part_taken f (stacked m newest) =
    elim c.match-next.branch [
      | in-Some w ↦
          ap₂ stacked (w.frames-is ∙ w.put.ensures) (let z : c.match-next.left ≡ suc newest = omega (arith, w.left-is) in z)
          ∙ stacked_more m newest (frame_told w.in-Some.next) (omega arith) (omega arith)
          ∙ part_more f (stacked m newest) (frame_told w.in-Some.next) w.in-Some.ensures
      | in_default w ↦ ap₂ stacked w.frames-is w.left-is ∙ part_last f (stacked m newest) w.in_default.ensures
    ] in
    record { to = λ go us. leaf_next _ _ _ _ f (omega arith) c.at-frame.ensures left go us; on = (refl, refl) }

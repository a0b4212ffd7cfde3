-- Commands that are not known yet are refused as that.
use Rattle.std.proofs.Common.{rules, refl, inl, inr}
use Rattle.machine.specs.declared.told.Refusal.TheVariants.{NotKnown}
use Rattle.machine.proofs.StepFacts.{told_done, tells_no, answered_as}
use Rattle.machine.proofs.step.answer.Goals as goal

pub returns-in-Load : goal.returns-in-Load
returns-in-Load c = answered_as _ _ _ _ _ _ _ c.in-Load.is (told_done _ _ _ _ (search rules))

pub returns-in-Undo : goal.returns-in-Undo
returns-in-Undo c = answered_as _ _ _ _ _ _ _ c.in-Undo.is (told_done _ _ _ _ (search rules))

pub returns-in-RenameBind : goal.returns-in-RenameBind
returns-in-RenameBind c =
    elim c.in-RenameBind.is [
      | inl q ↦ answered_as _ _ _ _ _ _ _ q.2 (tells_no _ _ _ NotKnown refl)
      | inr (inl q) ↦ answered_as _ _ _ _ _ _ _ q.3 (tells_no _ _ _ NotKnown refl)
      | inr (inr (inl q)) ↦ answered_as _ _ _ _ _ _ _ q.2 (tells_no _ _ _ NotKnown refl)
      | inr (inr (inr (inl q))) ↦ answered_as _ _ _ _ _ _ _ q.2 (tells_no _ _ _ NotKnown refl)
      | inr (inr (inr (inr (inl q)))) ↦ answered_as _ _ _ _ _ _ _ q.1 (tells_no _ _ _ NotKnown refl)
      | inr (inr (inr (inr (inr (inl q))))) ↦ answered_as _ _ _ _ _ _ _ q.1 (tells_no _ _ _ NotKnown refl)
      | inr (inr (inr (inr (inr (inr (inl q)))))) ↦ answered_as _ _ _ _ _ _ _ q.1 (tells_no _ _ _ NotKnown refl)
      | inr (inr (inr (inr (inr (inr (inr q)))))) ↦ answered_as _ _ _ _ _ _ _ q.1 (tells_no _ _ _ NotKnown refl)
    ]

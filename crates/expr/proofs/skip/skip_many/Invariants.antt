-- What is to come from here is what was to come from the start, with turns enough for the bytes that are left.
use Rattle.std.proofs.Common.{◌≡◌, ℕ, ◌-◌, ◌<◌, ◌≤◌, List, length}
use Rattle.language.specs.Reading.{ends}
use Rattle.expr.proofs.skip.skip_many.Given as goal

pub record Left (bs : List ℕ) (count at need end : ℕ) : Type 0 where
  pub turns : ℕ
  pub enough : length bs - end ≤ turns
  pub same : ends count (length bs) bs at ≡ ends need turns bs end
  pub onward : at ≤ end
  pub inside : need ≡ 0 → 0 < count → end ≤ length bs

abbrev pub invariant-loop-need : goal.invariant-loop-need
invariant-loop-need g l = Left (g.S.Source.bytes l.src) l.count l.at l.need l.end

abbrev pub decreases-loop-need : goal.decreases-loop-need
decreases-loop-need g l = length (g.S.Source.bytes l.src) - l.end

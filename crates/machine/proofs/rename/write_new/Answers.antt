-- Listed, and then written.
use Rattle.std.proofs.Common.{sym, ap, ◌∙◌}
use Rattle.scope.specs.Walks.{count_told}
use Rattle.machine.proofs.RenameSteps.{written-by}
use Rattle.machine.proofs.rename.write_new.Goals as goal

pub returns-clause-written : goal.returns-clause-written
returns-clause-written g c =
    written-by _ _ _ _ _ c.write_renamed.result _ _ (ap (count_told c.list_uses.new.list) (sym c.in_ok-count.ensures.ok_part) ∙ c.list_uses.ensures.value) c.ok_or-2.ensures.value c.write_renamed.ensures.value c.write_renamed.ensures.short

use Rattle.std.proofs.Common.{◌∙◌}
use Rattle.machine.proofs.LoadFacts.{not_fine, fine_if}
use Rattle.machine.proofs.load.is_fine.Goals as goal

pub returns-then-table_differs : goal.returns-then-table_differs
returns-then-table_differs c = fine_if _ _ c.in-Some.ensures.value _ c.fill_table-filled.ensures.value _ c.if-table_differs.ensures c.owns_differ.ensures

pub returns-else-table_differs : goal.returns-else-table_differs
returns-else-table_differs c = c.if-table_differs.false ∙ not_fine _ _ c.in-Some.ensures.value _ c.fill_table-filled.ensures.value c.if-table_differs.ensures

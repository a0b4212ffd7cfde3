-- Fewer entries are left.
use Rattle.std.proofs.Common.{length}
use Rattle.machine.proofs.load.+table_differs.Given as goal

abbrev pub decreases-table_differs : goal.decreases-table_differs
decreases-table_differs g l = length l.table.now

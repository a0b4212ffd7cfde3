use Rattle.machine.proofs.LoadFacts.{table_wiped}
use Rattle.machine.proofs.load.names_differ.Goals as goal

pub returns-clause-after : goal.returns-clause-after
returns-clause-after c = table_wiped c.args.memory.now _ _ c.told-memory c.clear.ensures c.clear.array_long

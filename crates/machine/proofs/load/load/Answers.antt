use Rattle.std.proofs.Common.{refl}
use Rattle.machine.proofs.LoadFacts.{load-refused, load-done}
use Rattle.machine.proofs.load.load.Goals as goal

pub returns-then-not-names_differ : goal.returns-then-not-names_differ
returns-then-not-names_differ c =
    load-refused _ _ _ _ c.if-not-names_differ.ensures.value c.names_differ.ensures.after refl

pub returns : goal.returns
returns c = load-done _ _ _ _ c.if-not-names_differ.ensures.value c.names_differ.ensures.after c.store.ensures

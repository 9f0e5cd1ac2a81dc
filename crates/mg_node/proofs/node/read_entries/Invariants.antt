use Rattle.mg_node.specs.NodeReading.{AreFirst}
use Rattle.mg_node.proofs.node.read_entries.Given as goal

abbrev pub invariant-loop : goal.invariant-loop
invariant-loop l = AreFirst l.page l.counter l.entries.items l.at

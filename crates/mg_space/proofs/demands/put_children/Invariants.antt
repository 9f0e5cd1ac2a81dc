use Rattle.std.proofs.Common.{◌≡◌, ◌+◌, ◌*◌, ◌<◌, ◌++◌}
use Rattle.mg_node.specs.NodePage.{place_of}
use Rattle.mg_space.specs.Demands.{child_demands}
use Rattle.mg_space.proofs.demands.put_children.Given as goal

abbrev pub invariant-loop : goal.invariant-loop
invariant-loop l = (l.at ≡ place_of l.b l.counter) × (l.at < 131124 + l.counter * 65548)
    × (l.out.items ≡ l.initial.out.items ++ child_demands l.size l.b l.owner l.counter)

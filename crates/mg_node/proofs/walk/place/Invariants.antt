use Rattle.std.proofs.Common.{◌≡◌, ◌+◌, ◌*◌, ◌<◌}
use Rattle.mg_node.specs.NodePage.{place_of}
use Rattle.mg_node.proofs.walk.place.Given as goal

abbrev pub invariant-loop : goal.invariant-loop
invariant-loop l = (l.at ≡ place_of l.page l.counter) × (l.at < 131124 + l.counter * 65548)

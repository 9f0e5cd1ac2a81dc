use Rattle.std.proofs.Common.{◌≡◌, ◌+◌, ◌-◌, ◌*◌, ◌<◌}
use Rattle.mg_base.specs.Checks.{verdict}
use Rattle.mg_node.specs.NodePage.{count_in, first_at, is_inner}
use Rattle.mg_node.specs.NodeTests.{key_tests}
use Rattle.mg_node.proofs.check.check_entries.Given as goal

-- the keys that are still to be tested decide
abbrev pub invariant-loop : goal.invariant-loop
invariant-loop l =
    (verdict l.page (key_tests (is_inner l.b) l.b (first_at l.b) (count_in l.b))
    ≡ verdict l.page (key_tests (is_inner l.b) l.b l.at (count_in l.b - l.counter)))
    × (l.at < 131124 + l.counter * 65548)

use Rattle.std.proofs.Common.{◌≡◌, ◌+◌, ◌-◌}
use Rattle.mg_node.specs.NodePage.{end_of, entry_at, high_of, is_inner, low_of, place_of}
use Rattle.mg_node.specs.NodeTests.{ordered_behind}
use Rattle.mg_node.specs.NodeWalk.{entries_from}
use Rattle.mg_node.proofs.in_place.ordered_behind.Given as goal

abbrev pub invariant-loop-n : goal.invariant-loop-n
invariant-loop-n l =
    (ordered_behind (low_of l.page) (high_of l.page) (entry_at (is_inner l.page) l.page l.first)
    (entries_from (is_inner l.page) l.page (end_of (is_inner l.page) l.page l.first) l.more)
    ≡ l.n + ordered_behind (low_of l.page) (high_of l.page)
    (entry_at (is_inner l.page) l.page l.before)
    (entries_from (is_inner l.page) l.page (end_of (is_inner l.page) l.page l.before)
    (l.more - l.n)))
    × (l.before ≡ place_of l.page l.n)

use Rattle.std.proofs.Common.{◌≡◌, ◌<◌, ℕ}
use Rattle.mg_node.specs.NodePage.{IsBelow, entry_at, is_inner, place_of}
use Rattle.mg_node_writing.proofs.seat.seat.Given as goal

abbrev pub invariant-loop-n : goal.invariant-loop-n
invariant-loop-n l =
    ((i : ℕ) → i < l.n → IsBelow (entry_at (is_inner l.b) l.b (place_of l.b i)) l.e)
    × (l.at ≡ place_of l.b l.n)

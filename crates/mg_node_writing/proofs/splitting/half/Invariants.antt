use Rattle.std.proofs.Common.{◌≡◌, ◌-◌, ◌*◌, ◌<◌, ℕ}
use Rattle.mg_node.specs.NodePage.{end_in, first_at, place_of}
use Rattle.mg_node_writing.proofs.splitting.half.Given as goal

abbrev pub invariant-loop-n : goal.invariant-loop-n
invariant-loop-n l =
    ((i : ℕ) → i < l.n → 2 * (place_of l.b i - first_at l.b) < end_in l.b - first_at l.b)
    × (l.at ≡ place_of l.b l.n)

use Rattle.std.proofs.Common.{◌≡◌, ◌<◌, ◌≤◌, ℕ, false, ◌||◌, length, slice_index_or}
use Rattle.mg_careful.proofs.bits.Bits.join.Given as goal

-- the bits below the index are joined, and the others are as they were
abbrev pub invariant-loop-i : goal.invariant-loop-i
invariant-loop-i l =
    (length l.self-inside.items.items ≡ length l.initial.self-inside.items.items)
    × ((k : ℕ) → k < l.i → slice_index_or l.self-inside.items.items k false ≡ (slice_index_or l.initial.self-inside.items.items k false || slice_index_or l.other-inside.items.items k false))
    × ((k : ℕ) → l.i ≤ k → slice_index_or l.self-inside.items.items k false ≡ slice_index_or l.initial.self-inside.items.items k false)

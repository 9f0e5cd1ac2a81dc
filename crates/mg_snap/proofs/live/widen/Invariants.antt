use Rattle.std.proofs.Common.{◌≡◌, ℕ, length}
use Rattle.mg_snap.specs.Room.{AreWide, all_entered}
use Rattle.mg_snap.proofs.RoomLemmas.{WidenTo}
use Rattle.mg_snap.proofs.live.widen.Given as goal

-- the entries are as they were, those before the index with room for one more
abbrev pub invariant-loop-i : goal.invariant-loop-i
invariant-loop-i l = (all_entered l.entries.items ≡ all_entered l.initial.entries.items)
    × (length l.entries.items ≡ length l.initial.entries.items)
    × ((n : ℕ) → AreWide n l.initial.entries.items → WidenTo n l.i l.entries.items)

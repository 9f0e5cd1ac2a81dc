use Rattle.std.proofs.Common.{◌≡◌, ◌++◌, ℕ, length, map, take, drop}
use Rattle.mg_snap.specs.Live.{rebased}
use Rattle.mg_snap.specs.Room.{AreWide, all_entered}
use Rattle.mg_snap.proofs.live.retake.Given as goal

-- the entries before the index are changed, the others are as they were
abbrev pub invariant-loop-i : goal.invariant-loop-i
invariant-loop-i l = (all_entered l.entries.items
    ≡ map (rebased l.t.0 (record { drawn = l.drawn; unended = l.unended })) (take l.i (all_entered l.initial.entries.items))
    ++ drop l.i (all_entered l.initial.entries.items))
    × (length l.entries.items ≡ length l.initial.entries.items)
    × ((n : ℕ) → AreWide n l.initial.entries.items → AreWide n l.entries.items)

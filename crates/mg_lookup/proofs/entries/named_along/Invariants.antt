use Rattle.std.proofs.Common.{◌-◌, ◌^◌, ◌≤◌, ◌+◌}
use Rattle.mg_lookup.specs.Along.{IsAlong}
use Rattle.mg_lookup.proofs.entries.named_along.Given as goal

abbrev pub invariant-loop-floor : goal.invariant-loop-floor
invariant-loop-floor g l = IsAlong g.D.Disk.meaning l.initial.store l.store l.fn.walk l.key l.found.items l.after l.walk l.floor
    × (l.floor ≤ 2 ^ 48)

abbrev pub decreases-loop-floor : goal.decreases-loop-floor
decreases-loop-floor g l = 2 ^ 48 + 1 - l.floor

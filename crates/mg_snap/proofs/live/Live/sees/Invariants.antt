use Rattle.std.proofs.Common.{◌≡◌, drop}
use Rattle.mg_snap.specs.Live.{base_among}
use Rattle.mg_snap.specs.Room.{all_entered}
use Rattle.mg_snap.proofs.live.Live.sees.Given as goal

-- the base that is sought is that of the first entry of its number among the rest
abbrev pub invariant-loop-entry : goal.invariant-loop-entry
invariant-loop-entry l =
    base_among (all_entered (drop l.entry-index l.entry-items)) l.t.0 ≡ base_among l.self.entered l.t.0

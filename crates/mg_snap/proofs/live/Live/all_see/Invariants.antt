use Rattle.std.proofs.Common.{◌≡◌, drop}
use Rattle.std.specs.List.{list_any}
use Rattle.mg_snap.specs.Live.{misses}
use Rattle.mg_snap.specs.Room.{all_entered}
use Rattle.mg_snap.proofs.live.Live.all_see.Given as goal

-- none of the entries before the index misses it
abbrev pub invariant-loop-entry : goal.invariant-loop-entry
invariant-loop-entry l = list_any (misses l.by.0) (all_entered (drop l.entry-index l.entry-items))
    ≡ list_any (misses l.by.0) l.self.entered

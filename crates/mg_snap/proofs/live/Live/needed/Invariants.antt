use Rattle.std.proofs.Common.{◌≡◌, drop}
use Rattle.std.specs.List.{list_any}
use Rattle.mg_snap.specs.Live.{wants_older}
use Rattle.mg_snap.specs.Room.{all_entered}
use Rattle.mg_snap.proofs.live.Live.needed.Given as goal

-- what is left of the entries tells it as all of them do
abbrev pub invariant-loop-entry : goal.invariant-loop-entry
invariant-loop-entry l = list_any (wants_older l.newer.0 l.older.0) (all_entered (drop l.entry-index l.entry-items))
    ≡ list_any (wants_older l.newer.0 l.older.0) l.self.entered

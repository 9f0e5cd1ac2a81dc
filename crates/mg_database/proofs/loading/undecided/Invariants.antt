use Rattle.std.proofs.Common.{◌≤◌, ◌-◌, ℕ}
use Rattle.mg_database.specs.Loading.{AreUndecidedBelow}
use Rattle.mg_txlist.specs.TxList.{next_said}
use Rattle.mg_database.proofs.loading.undecided.Given as goal

-- those in limbo below this number have entered, and no others
abbrev pub invariant-loop-from : goal.invariant-loop-from
invariant-loop-from l = AreUndecidedBelow l.list l.from.0 l.live × (1 ≤ l.from.0)
    × (l.from.0 ≤ next_said l.list)

abbrev pub decreases-loop-from : goal.decreases-loop-from
decreases-loop-from l = next_said l.list - l.from.0

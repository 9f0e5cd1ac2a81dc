use Rattle.std.proofs.Common.{◌≡◌, length}
use Rattle.mg_pool.specs.Pool.{IsPool}
use Rattle.mg_core_collecting.specs.Every.{CollectsTable, IsAmidst}
use Rattle.mg_core_collecting.proofs.every.collect_tables.Given as goal

abbrev pub invariant-loop-table : goal.invariant-loop-table
invariant-loop-table g l = IsAmidst (CollectsTable g.D.Disk.meaning (g.S.States.state_of l.states) l.live) l.tables l.rest
    l.initial.store l.store
    × IsPool g.D.Disk.meaning l.store × (l.store.geometry ≡ l.initial.store.geometry)

abbrev pub decreases-loop-table : goal.decreases-loop-table
decreases-loop-table g l = length l.rest

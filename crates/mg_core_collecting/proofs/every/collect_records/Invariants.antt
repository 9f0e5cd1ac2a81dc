use Rattle.std.proofs.Common.{◌≡◌, length}
use Rattle.mg_pool.specs.Pool.{IsPool}
use Rattle.mg_core_collecting.specs.Every.{IsAmidst, CollectsOne}
use Rattle.mg_core_collecting.proofs.every.collect_records.Given as goal

abbrev pub invariant-loop-rec : goal.invariant-loop-rec
invariant-loop-rec g l = IsAmidst (CollectsOne g.D.Disk.meaning (g.S.States.state_of l.states) l.live) l.records l.rest
    l.initial.store l.store
    × IsPool g.D.Disk.meaning l.store × (l.store.geometry ≡ l.initial.store.geometry)

abbrev pub decreases-loop-rec : goal.decreases-loop-rec
decreases-loop-rec g l = length l.rest

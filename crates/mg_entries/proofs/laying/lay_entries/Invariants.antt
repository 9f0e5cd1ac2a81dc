use Rattle.std.proofs.Common.{◌≡◌, length}
use Rattle.mg_pool.specs.Pool.{IsPool}
use Rattle.mg_entries.specs.Entries.{IsLaying, KeysFit}
use Rattle.mg_entries.proofs.laying.lay_entries.Given as goal

abbrev pub invariant-loop-index : goal.invariant-loop-index
invariant-loop-index g l = IsLaying g.D.Disk.meaning l.indexes l.rest l.rec l.row l.initial.store l.store
    × IsPool g.D.Disk.meaning l.store × (l.store.geometry ≡ l.initial.store.geometry)
    × KeysFit l.initial.store.geometry.size l.row l.rest

abbrev pub decreases-loop-index : goal.decreases-loop-index
decreases-loop-index g l = length l.rest

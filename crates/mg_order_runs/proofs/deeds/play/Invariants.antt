use Rattle.std.proofs.Common.{◌≡◌}
use Rattle.mg_base.specs.MemDisk.{mem_meaning}
use Rattle.mg_pool.specs.Pool.{IsPool}
use Rattle.mg_space.specs.Taking.{IsGeometry}
use Rattle.mg_order_runs.proofs.deeds.play.Given as goal

abbrev pub invariant-loop-deed : goal.invariant-loop-deed
invariant-loop-deed l = IsPool mem_meaning l.store × (l.store.geometry ≡ l.initial.store.geometry)
    × IsGeometry l.store.geometry × (l.store.geometry.size ≡ 1024)

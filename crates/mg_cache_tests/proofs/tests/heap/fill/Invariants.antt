use Rattle.std.proofs.Common.{◌≡◌}
use Rattle.mg_base.specs.MemDisk.{mem_meaning}
use Rattle.mg_pool.specs.Pool.{IsPool}
use Rattle.mg_space.specs.Taking.{IsGeometry}
use Rattle.mg_space.specs.View.{AreWhole}
use Rattle.mg_cache_tests.proofs.tests.heap.fill.Given as goal

abbrev pub invariant-loop-page : goal.invariant-loop-page
invariant-loop-page l = IsPool mem_meaning l.store × (l.store.geometry ≡ l.fn.store.geometry)
    × AreWhole l.store.geometry l.batch.pages

use Rattle.std.proofs.Common.{◌≡◌}
use Rattle.mg_pool.specs.Pool.{IsPool}
use Rattle.mg_cache_tests.proofs.tests.pool.change_each.Given as goal

abbrev pub invariant-loop-page : goal.invariant-loop-page
invariant-loop-page g l = IsPool g.D.Disk.meaning l.pool × (l.pool.geometry ≡ l.fn.pool.geometry)

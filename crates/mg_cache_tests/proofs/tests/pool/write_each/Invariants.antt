use Rattle.std.proofs.Common.{◌≡◌}
use Rattle.mg_pool.specs.Pool.{IsPool}
use Rattle.mg_cache_tests.proofs.tests.pool.write_each.Given as goal

abbrev pub invariant-loop : goal.invariant-loop
invariant-loop g l = IsPool g.D.Disk.meaning l.pool × (l.pool.geometry ≡ l.initial.pool.geometry)

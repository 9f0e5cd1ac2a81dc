use Rattle.std.proofs.Common.{◌≡◌}
use Rattle.mg_base.specs.MemDisk.{mem_meaning}
use Rattle.mg_pool.specs.Pool.{IsPool}
use Rattle.mg_order_runs.proofs.laying.write_up_to.Given as goal

abbrev pub invariant-loop : goal.invariant-loop
invariant-loop l = IsPool mem_meaning l.store × (l.store.geometry ≡ l.initial.store.geometry)

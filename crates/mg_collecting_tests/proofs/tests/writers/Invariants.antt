use Rattle.mg_base.specs.MemDisk.{mem_meaning}
use Rattle.mg_pool.specs.Pool.{IsPool}
use Rattle.mg_space.specs.Taking.{IsGeometry}
use Rattle.mg_collecting_tests.proofs.tests.writers.Given as goal

abbrev pub invariant-loop-step : goal.invariant-loop-step
invariant-loop-step l = IsPool mem_meaning l.store × IsGeometry l.store.geometry

use Rattle.mg_base.specs.MemDisk.{mem_meaning}
use Rattle.mg_pool.specs.Pool.{IsPool}
use Rattle.mg_space.specs.Taking.{IsGeometry}
use Rattle.mg_image_tests.proofs.tests.seek.answers_all.Given as goal

abbrev pub invariant-loop-asked : goal.invariant-loop-asked
invariant-loop-asked l = IsPool mem_meaning l.store × IsGeometry l.store.geometry

-- A table that is made goes by steps of an engine's run.
use Rattle.std.specs.Prelude.{ℕ}
use Rattle.std.proofs.Common.{subst}
use Rattle.mg_base.specs.Disk.{Meaning}
use Rattle.mg_base.specs.declared.numbers.PageNo.{PageNo}
use Rattle.mg_heap.specs.Room.{GivesRoom}
use Rattle.mg_batches.specs.Batches.{nothing_yet}
use Rattle.mg_space.specs.View.{Tells}
use Rattle.mg_table_batch.specs.Filling.{FillsTable}
use Rattle.mg_engine_demand_laws.specs.Laying.{moved_to}
use Rattle.mg_engine_demand_laws.specs.LayingLaws.{one_step}
use Rattle.mg_engine_demand_laws.specs.Making.{GrowthsGo, MakingsGo}
use Rattle.mg_engine_demand_laws.specs.Runs.{a_growth, a_table, goes, only_reads, puts_batch}
use Rattle.mg_engine_demand_laws.specs.StoreLaws.{own_change, reads_told}

pub growths_go : (D : Type 0) (m : Meaning D) → GrowthsGo D m
growths_go D m at store j later t table catalog name shape gets begins told held may =
    goes at (moved_to at gets.ready at.image at.layout) (moved_to at store j later)
    (only_reads at gets.ready gets.wants.keeps)
    (one_step m (moved_to at gets.ready at.image at.layout) (moved_to at store j later)
    (puts_batch (moved_to at gets.ready at.image at.layout) store j later may.reading t table gets.grows.batch
    (own_change m gets.ready store at.image j (λ image batch. (n : PageNo)
    × GivesRoom gets.ready image nothing_yet batch catalog.pointer.0 gets.ready.geometry.size n) gets.grows ready_told held)
    may.writes (a_growth gets.ready.geometry.size gives.0 may.stood
    (subst (λ (o : ℕ). GivesRoom gets.ready at.image nothing_yet gets.grows.batch o gets.ready.geometry.size gives.0) begins
    gives.1))))
  where
    ready_told : Tells m gets.ready.disk at.image
    ready_told = reads_told m at.store gets.ready at.image gets.wants.keeps told

    gives : (n : PageNo) × GivesRoom gets.ready at.image nothing_yet gets.grows.batch catalog.pointer.0
        gets.ready.geometry.size n
    gives = gets.grows.filled at.image ready_told

pub makings_go : (D : Type 0) (m : Meaning D) → MakingsGo D m
makings_go D m at store j later r t table catalog name shape makes begins told held may stood =
    puts_batch at store j later r t table makes.batch
    (own_change m at.store store at.image j
    (λ image batch. FillsTable at.store image catalog t name shape nothing_yet batch) makes told held) may
    (a_table catalog name shape begins (makes.filled at.image told) (stood (makes.filled at.image told)))

-- The collection of every record tells each fault of the disk, and as what it is.
use Rattle.std.proofs.Common.{◌≡◌, ◌∙◌, inl, inr, refl, ap, ℕ, Bool, false, List, Result, Ok, Err}
use Rattle.mg_base.specs.Disk.{Meaning}
use Rattle.mg_base.specs.declared.numbers.RecId.{RecId}
use Rattle.mg_base.specs.declared.transaction.TxState.{TxState}
use Rattle.mg_core.specs.declared.parts.Core.{Core}
use Rattle.mg_core_collecting.specs.Every.{CollectsEvery, CollectsListed, CollectsTable, FailsCommitted, FailsListed, FailsTable, GoesThrough, StopsAt, CollectsOne, is_collected, is_stray, left_alone, none_yet, one_more, stops_in, system_base, uncollected, unlisted, unlooked}
use Rattle.mg_engine_change_laws.specs.faults.FaultPageLaws.{is_none, met, told}
use Rattle.mg_engine_change_laws.specs.faults.Told.{Stands, TellsFaults, disk_count, is_disks}
use Rattle.mg_engine_collecting_laws.specs.PlaceTells.{steps_stand, stop_told}
use Rattle.mg_faults.specs.Faults.{FaultCount}
use Rattle.mg_model.specs.declared.refusal.Refusal.{Refusal}
use Rattle.mg_model.specs.declared.table.Table.{Table}
use Rattle.mg_pool.specs.declared.pool.Pool.{Pool}
use Rattle.mg_records.specs.Keeping.{refusal_in}
use Rattle.mg_snap.specs.Live.{State as Bases}
use Rattle.mg_space.specs.declared.fault.SpaceFault.{SpaceFault}
use Rattle.mg_space.specs.declared.links.FireLinks.{FireLinks}
use Rattle.mg_txlist.specs.TxList.{next_said, said}

-- every record is collected, or not all are: each fault of the disk is told
abbrev pub EveryTells : (D : Type 0) → Meaning D → Type 0
EveryTells D m = (old new : Core D) (result : Result (Unit {0}) Refusal) → CollectsEvery m old new result
    → TellsFaults m old new (refusal_in result)

module _ {D : Type 0} (m : Meaning D) (k : FaultCount) (state : ℕ → TxState) (live : Bases) where
  -- ---- what is collected

  listed_stand : (a b : Pool D FireLinks) (rec : RecId) (gone : Bool) → CollectsListed m state live rec gone a b
      → Stands m k a b
  listed_stand a b rec gone (left_alone none keeps online why) = met m k a b online
  listed_stand a b rec gone (is_collected ready keeps online settled it) =
      steps_stand m k state live rec ready gone b it.collected.steps ∙ met m k a ready online

  each_stand : (a : Pool D FireLinks) (records : List RecId) (b : Pool D FireLinks)
      → GoesThrough (CollectsOne m state live) a records b → Stands m k a b
  each_stand a records b none_yet = refl
  each_stand a records b (one_more done next mid now goes made) =
      listed_stand mid now next made.0 made.1 ∙ each_stand a done mid goes

  table_stand : (a b : Pool D FireLinks) (table : Table) → CollectsTable m state live table a b → Stands m k a b
  table_stand a b table made =
      each_stand made.ready made.records b made.goes ∙ met m k a made.ready made.online

  tables_stand : (a : Pool D FireLinks) (tables : List Table) (b : Pool D FireLinks)
      → GoesThrough (CollectsTable m state live) a tables b → Stands m k a b
  tables_stand a tables b none_yet = refl
  tables_stand a tables b (one_more done next mid now goes made) =
      table_stand mid now next made ∙ tables_stand a done mid goes

  -- ---- and what is not

  listed_told : (a b : Pool D FireLinks) (rec : RecId) (fault : SpaceFault) → FailsListed m state live rec a b fault
      → is_disks k fault ≡ false → Stands m k a b
  listed_told a b rec fault (unlooked fails) quiet = told m k (Unit {0}) a b fault fails.told quiet
  listed_told a b rec fault (uncollected ready keeps online settled fails) quiet =
      stop_told m k state live rec fails.now b fault fails.fails quiet
      ∙ (steps_stand m k state live rec ready fails.some fails.now fails.steps ∙ met m k a ready online)

  each_told : (a b : Pool D FireLinks) (records : List RecId) (fault : SpaceFault)
      → StopsAt (CollectsOne m state live) (FailsListed m state live) a records b fault → is_disks k fault ≡ false
      → Stands m k a b
  each_told a b records fault stop quiet =
      listed_told stop.mid b stop.next fault stop.stops quiet ∙ each_stand a stop.done stop.mid stop.goes

  -- a table that begins at no page of a database is found without a reading
  table_told : (a b : Pool D FireLinks) (catalog : ℕ) (table : Table) (fault : SpaceFault)
      → FailsTable m state live catalog table a b fault → is_disks k fault ≡ false → Stands m k a b
  table_told a b catalog table fault (is_stray stray keeps same) quiet =
      ap (λ (p : Pool D FireLinks). disk_count m k p.disk) same
  table_told a b catalog table fault (unlisted fails) quiet = told m k (Unit {0}) a b fault fails.told quiet
  table_told a b catalog table fault (stops_in stop) quiet =
      each_told stop.ready b stop.records fault stop.stops quiet ∙ met m k a stop.ready stop.online

  committed_told : (a b : Pool D FireLinks) (view : Bases) (catalog : Table) (fault : SpaceFault)
      → FailsCommitted m a b state live view catalog fault → is_disks k fault ≡ false → Stands m k a b
  committed_told a b view catalog fault (inl fails) quiet = told m k (Unit {0}) a b fault fails.told quiet
  committed_told a b view catalog fault (inr stop) quiet =
      table_told stop.stops.mid b catalog.pointer.0 stop.stops.next fault stop.stops.stops quiet
      ∙ (tables_stand stop.ready stop.stops.done stop.stops.mid stop.stops.goes ∙ met m k a stop.ready stop.finds.online)

pub every_tells : (D : Type 0) (m : Meaning D) → EveryTells D m
every_tells D m old new (Ok done) is k quiet =
    tables_stand m k (said old.list) old.live is.collected.ready is.collected.tables new.store is.collected.goes
    ∙ met m k old.store is.collected.ready is.collected.finds.online
every_tells D m old new (Err refusal) (inl (refuses, same)) k quiet =
    ap (λ (c : Core D). disk_count m k c.store.disk) same
every_tells D m old new (Err refusal) (inr is) k quiet =
    committed_told m k (said old.list) old.live old.store new.store (system_base (next_said old.list)) old.catalog
    is.fault is.fails (is_none k is.fault refusal is.is quiet)

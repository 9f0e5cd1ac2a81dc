-- A call of an engine tells each fault of the disk.
use Rattle.std.proofs.Common.{◌≡◌, ◌⊎◌, inl, inr, ℕ, Bool, true, false, None, Some, Ok, Err, refl, sym, ap, ◌∙◌}
use Rattle.std.proofs.lemmas.Bool.{false≢true}
use Rattle.mg_base.specs.Disk.{Meaning}
use Rattle.mg_base.specs.declared.numbers.TxNo.{TxNo}
use Rattle.mg_model.specs.declared.change.Point.TheVariants.{SavepointNamed}
use Rattle.mg_model.specs.declared.refusal.Refusal.{Refusal}
use Rattle.mg_model.specs.declared.refusal.Refusal.TheVariants as refusals
use Rattle.mg_faults.specs.Faults.{FaultCount}
use Rattle.mg_pool.specs.declared.pool.Pool.{Pool}
use Rattle.mg_space.specs.declared.links.FireLinks.{FireLinks}
use Rattle.mg_core.specs.declared.parts.Core.{Core}
use Rattle.mg_core.specs.Beginning.{FailsBegin}
use Rattle.mg_core.specs.Events.{keeps_base, with_base_if}
use Rattle.mg_core.specs.Tables.{by_call, by_fault, by_lack, by_memory}
use Rattle.mg_taking_back.specs.Noting.{noted_fails, noted_memory, noted_not, with_noted}
use Rattle.mg_engine_change_laws.specs.faults.FaultBackLaws.{back_stands, back_told}
use Rattle.mg_engine_change_laws.specs.faults.FaultCoreLaws.{count, ended, refused}
use Rattle.mg_engine_change_laws.specs.faults.FaultMakingLaws.{creates_stand, creation_told}
use Rattle.mg_engine_change_laws.specs.faults.FaultPageLaws.{bits_none, is_none, met, pool_told, run_stands, told}
use Rattle.mg_engine_change_laws.specs.faults.FaultTableBackLaws.{over_stands, over_told}
use Rattle.mg_engine_change_laws.specs.faults.Told.{disk_count, AsksTell, BeginsTell, CommitsTell, EventsTell, MakingsTell, MarksTell, PageWritesTell, PointsTell, RollbacksTell, SavepointsTell, StepsTell, TableMarksTell, TableSavepointsTell, TablesTell, TellsFaults, WaitsTell, WalksTell, WritesTell}
use Rattle.mg_engine_change_laws.specs.faults.FaultWriteLaws.{write_told, writes_stand}

module _ {D : Type 0} (m : Meaning D) where
  -- ---- in memory alone

  based : (k : FaultCount) (b : Bool) (t : ℕ) (core : Core D) → count m k (with_base_if b t core) ≡ count m k core
  based k true t core = refl
  based k false t core = refl

  pub events_tell : EventsTell D m
  events_tell old new t (Ok x) looks k quiet =
      ap (count m k) looks.base ∙ (based k (keeps_base looks.ended.works t) t looks.ended ∙ ended m k old looks.ended t looks.wait)
  events_tell old new t (Err refusal) is k quiet = refused m k old new t refusal is

  pub waits_tell : WaitsTell D m
  waits_tell old new t refusal wait k quiet = ended m k old new t wait

  pub points_tell : PointsTell D m
  points_tell old new t name (Ok x) sets k quiet = ap (count m k) sets.1.same
  points_tell old new t name (Err refusals.Memory) sets k quiet = ended m k old new t sets.1
  points_tell old new t name (Err refusal) is k quiet = refused m k old new t refusal is

  pub rollbacks_tell : RollbacksTell D m
  rollbacks_tell old new t (Ok x) rolls k quiet = ap (count m k) rolls.same
  rollbacks_tell old new t (Err refusal) is k quiet = refused m k old new t refusal is

  -- ---- numbers are drawn

  not_begun : (old new : Core D) (refusal : Refusal) → FailsBegin m old new refusal
      ⊎ ((refusal ≡ refusals.Memory) × (old.store.offline ≡ None) × (new ≡ old)) → TellsFaults m old new (Some refusal)
  not_begun old new refusal (inl fails) k quiet =
      told m k TxNo old.store new.store fails.fault fails.told (is_none k fails.fault refusal fails.is quiet)
  not_begun old new refusal (inr (is, online, same)) k quiet = ap (count m k) same

  pub begins_tell : BeginsTell D m
  begins_tell old new session mode (Ok t) begins k quiet = met m k old.store new.store begins.online
  begins_tell old new session mode (Err (refusals.Offline n)) (off, same) k quiet = ap (count m k) same
  begins_tell old new session mode (Err refusals.TransactionLimit) (online, past, same) k quiet = ap (count m k) same
  begins_tell old new session mode (Err refusal) fails k quiet = not_begun old new refusal fails k quiet

  -- ---- readings

  pub tables_tell : TablesTell D m
  tables_tell old new t name (Ok table) (inl again) k quiet = ap (count m k) again.same
  tables_tell old new t name (Ok table) (inr finds) k quiet = met m k old.store new.store finds.reads.online
  tables_tell old new t name (Err refusal) (by_call of refuses same) k quiet = ap (count m k) same
  tables_tell old new t name (Err refusal) (by_lack lacks) k quiet = met m k old.store new.store lacks.reads.online
  tables_tell old new t name (Err refusal) (by_fault of fails) k quiet =
      told m k (Unit {0}) old.store new.store fails.fault fails.told (is_none k fails.fault refusal fails.is quiet)
  tables_tell old new t name (Err refusal) (by_memory wants) k quiet = met m k old.store new.store wants.reads.online

  pub walks_tell : WalksTell D m
  walks_tell old new t table after (Ok found) scans k quiet = met m k old.store new.store scans.reads.online
  walks_tell old new t table after (Err refusal) (inl both) k quiet = ap (count m k) both.1
  walks_tell old new t table after (Err refusal) (inr fails) k quiet =
      told m k (Unit {0}) old.store new.store fails.fault fails.told (is_none k fails.fault refusal fails.is quiet)

  -- ---- changes

  pub writes_tell : WritesTell D m
  writes_tell old new t table write (Ok x) writes k quiet =
      writes_stand m k (with_noted t.0 table old) new t table write writes
  writes_tell old new t table write (Err refusal) (noted_not is) k quiet = refused m k old new t.0 refusal is
  writes_tell old new t table write (Err refusal) (noted_memory continues wait is) k quiet = ended m k old new t.0 wait
  writes_tell old new t table write (Err refusal) (noted_fails fails) k quiet =
      write_told m k (with_noted t.0 table old) new t table write refusal fails quiet

  pub makings_tell : MakingsTell D m
  makings_tell old new t name shape (Ok x) creates k quiet = creates_stand m k old new t name shape creates
  makings_tell old new t name shape (Err refusal) fails k quiet = creation_told m k old new t name shape refusal fails quiet

  pub marks_tell : MarksTell D m
  marks_tell old new t point (Ok x) takes k quiet = back_stands m k old new t point takes
  marks_tell old new t point (Err refusal) fails k quiet = back_told m k old new t point refusal fails quiet

  pub savepoints_tell : SavepointsTell D m
  savepoints_tell old new t name (Ok true) goes k quiet = back_stands m k old new t (SavepointNamed name) goes.1
  savepoints_tell old new t name (Ok false) stays k quiet = ap (count m k) stays.2
  savepoints_tell old new t name (Err refusal) fails k quiet =
      back_told m k old new t (SavepointNamed name) refusal fails quiet

  pub table_marks_tell : TableMarksTell D m
  table_marks_tell old new t point (Ok x) takes k quiet = over_stands m k old new t point takes
  table_marks_tell old new t point (Err refusal) fails k quiet = over_told m k old new t point refusal fails quiet

  pub table_savepoints_tell : TableSavepointsTell D m
  table_savepoints_tell old new t name (Ok true) goes k quiet = over_stands m k old new t (SavepointNamed name) goes.1
  table_savepoints_tell old new t name (Ok false) stays k quiet = ap (count m k) stays.2
  table_savepoints_tell old new t name (Err refusal) fails k quiet =
      over_told m k old new t (SavepointNamed name) refusal fails quiet

  -- ---- page writes

  pub asks_tell : AsksTell D m
  asks_tell old new t (Ok x) asks k quiet = ap (λ (s : Pool D FireLinks). disk_count m k s.disk) asks.store
  asks_tell old new t (Err refusal) both k quiet = ap (count m k) both.1

  pub steps_tell : StepsTell D m
  steps_tell old new t (Ok true) (session, has, (same, least)) k quiet = ap (count m k) same
  steps_tell old new t (Ok false) (session, has, (goal, page, least, wrote)) k quiet = run_stands m k old.store new.store wrote.run
  steps_tell old new t (Err (refusals.DiskWrite n)) fails k quiet = absurd (false≢true (sym quiet))
  steps_tell old new t (Err refusal) both k quiet = ap (count m k) both.1

  pub page_writes_tell : PageWritesTell D m
  page_writes_tell old new (Ok None) (same, online, least) k quiet = ap (count m k) same
  page_writes_tell old new (Ok (Some page)) (goal, online, least, wrote) k quiet = run_stands m k old.store new.store wrote.run
  page_writes_tell old new (Err (refusals.DiskWrite n)) fails k quiet = absurd (false≢true (sym quiet))
  page_writes_tell old new (Err (refusals.Offline n)) (same, off) k quiet = ap (count m k) same
  page_writes_tell old new (Err refusal) never k quiet = absurd never

  pub commits_tell : CommitsTell D m
  commits_tell old new t (Ok x) commits k quiet = met m k old.store new.store commits.online
  commits_tell old new t (Err refusal) (inl is) k quiet = refused m k old new t refusal is
  commits_tell old new t (Err refusal) (inr fails) k quiet =
      pool_told m k (Unit {0}) old.store new.store fails.fault fails.told (bits_none k fails.fault refusal fails.is quiet)

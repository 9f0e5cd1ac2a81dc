-- The stages of a write before the version is laid: what is read there meets no damage.
use Rattle.std.proofs.Common.{◌≡◌, ◌≢◌, ◌⊎◌, ◌∙◌, false, inl, inr, ℕ, Bool, true, List, Option, None, Some, refl, sym, ap, subst}
use Rattle.mg_base.specs.declared.transaction.TxState.{TxState}
use Rattle.mg_base.specs.declared.transaction.TxState.TheVariants.{Active, Committed, Dead, Limbo}
use Rattle.mg_core.specs.Obstacles.{IsPassed}
use Rattle.mg_engine_change_laws.specs.rows.Looked.{placed_lives}
use Rattle.mg_pool.specs.Batch.{Changed}
use Rattle.mg_pool.specs.declared.fault.PoolFault.TheVariants as faults
use Rattle.mg_batches.specs.Batches.{FailsOwn, not_changed, not_filled}
use Rattle.mg_row_writes.specs.Finding.{IsInWay}
use Rattle.mg_snap.specs.Live.{State}
use Rattle.mg_waits.specs.Waits.{Edges, IsVerdict}
use Rattle.mg_base.specs.Disk.{Meaning}
use Rattle.mg_base.specs.Image.{Image}
use Rattle.mg_base.specs.declared.numbers.RecId.{RecId}
use Rattle.mg_base.specs.declared.numbers.TxNo.{TxNo}
use Rattle.mg_image.specs.Form.{Pages}
use Rattle.mg_model.specs.declared.refusal.Refusal.{Refusal}
use Rattle.mg_model.specs.declared.table.Table.{Table}
use Rattle.mg_pool.specs.Dirty.{DirtyPages}
use Rattle.mg_pool.specs.Pool.{shown}
use Rattle.mg_pool.specs.declared.pool.Pool.{Pool}
use Rattle.mg_records.specs.Writing.{FitsShape}
use Rattle.mg_records.specs.declared.write.Write.{Write}
use Rattle.mg_batches.specs.Batches.{not_lawful}
use Rattle.mg_row_writes.specs.Storing.{written_at}
use Rattle.mg_seek.specs.Speaking.{IsSpeaker}
use Rattle.mg_seek.specs.declared.views.Obstacle.{Obstacle}
use Rattle.mg_space.specs.View.{Tells}
use Rattle.mg_space.specs.ViewLaws.{CountsNow, tells_on}
use Rattle.mg_space.specs.declared.fault.SpaceFault.{SpaceFault}
use Rattle.mg_space.specs.declared.fault.SpaceFault.TheVariants as space
use Rattle.mg_space.specs.declared.links.FireLinks.{FireLinks}
use Rattle.mg_txlist.specs.TxList.{said}
use Rattle.mg_value.specs.declared.value.Value.{Value}
use Rattle.mg_waits.specs.declared.verdict.Verdict.{Verdict}
use Rattle.mg_waits.specs.declared.verdict.Verdict.TheVariants as verdicts
use Rattle.mg_core.specs.declared.parts.Core.{Core}
use Rattle.mg_core.specs.Cores.{IsCore}
use Rattle.mg_core.specs.Obstacles.{HindersBy, Stops, StopsAtRecord, StopsAtTable, TellsVerdict, hindered, unread}
use Rattle.mg_core.specs.Putting.{WhyNotBefore}
use Rattle.mg_core.specs.Reading.{FailsReading, OnlyReads}
use Rattle.mg_core.specs.Writing.{FailsKey, FailsRow, HasBegun, HasFound, HasPassed, IsFree, KnowsKey, key_memory, key_null, row_unread, row_wrong}
use Rattle.mg_no_damage_laws.specs.CoreReads.{BeforesAreRead, KeysAreNamed, RecordsArePassed, RowsAreFound, ShowsTable, TablesArePassed}
use Rattle.mg_engine_change_laws.specs.memory.Notes.{HasRead}
use Rattle.mg_engine_change_laws.specs.rows.RefusalLaws.{begun_read, found_read, free_read, passed_read}
use Rattle.mg_no_damage_laws.specs.Keyed.{IsKeyed}
use Rattle.mg_no_damage_laws.specs.CountLaws.{count, count_stands}
use Rattle.mg_no_damage_laws.specs.Stands.{TellsNone}
use Rattle.mg_no_damage_laws.specs.ShownLaws.{table_on}

-- ---- counts

module _ {D : Type 0} (m : Meaning D) where
  pub unread_stands : (old new : Core D) (why : Pool D FireLinks → Pages → SpaceFault → Type 0) (refusal : Refusal)
      → FailsReading m old new why refusal → TellsNone refusal → new.damage ≡ old.damage
  unread_stands old new why refusal fails none =
      count_stands fails.fault refusal old.damage new.damage old.shortages new.shortages fails.is fails.counts none

  pub read_stands : (old new : Core D) → OnlyReads m old new → new.damage ≡ old.damage
  read_stands old new reads = ap count reads.same

  verdict_stands : (old new : Core D) (t : ℕ) (by : TxNo) (verdict : Verdict) (refusal : Refusal)
      → TellsVerdict old new t by verdict refusal → new.damage ≡ old.damage
  verdict_stands old new t by verdicts.Update refusal tells = ap count tells.1
  verdict_stands old new t by verdicts.Lock refusal tells = ap count tells.1
  verdict_stands old new t by verdicts.Wait refusal (inl notes) = ap count notes.same
  verdict_stands old new t by verdicts.Wait refusal (inr tells) = ap count tells.1
  verdict_stands old new t by verdicts.Deadlock refusal tells = ap count tells.1
  verdict_stands old new t by verdicts.Limbo refusal tells = ap count tells.1

  hinders_stand : (old new : Core D) (t : ℕ) (wait : Bool) (found : Option Obstacle) (refusal : Refusal)
      → HindersBy old new t wait found refusal → new.damage ≡ old.damage
  hinders_stand old new t wait None refusal hinders = absurd hinders
  hinders_stand old new t wait (Some obstacle) refusal hinders =
      verdict_stands old new t obstacle.by hinders.verdict refusal hinders.told

  pub stops_stand : (old new : Core D) (t : ℕ) (wait : Bool) (is : Pages → Option Obstacle → Type 0)
      (why : Pool D FireLinks → Pages → SpaceFault → Type 0) (refusal : Refusal)
      → Stops m old new t wait is why refusal → TellsNone refusal → new.damage ≡ old.damage
  stops_stand old new t wait is why refusal (unread fails) none = unread_stands old new why refusal fails none
  stops_stand old new t wait is why refusal (hindered read found reads told hinders) none =
      hinders_stand read new t wait found refusal hinders ∙ read_stands old read reads

  table_stands : (old new : Core D) (t : TxNo) (wait : Bool) (name : List ℕ) (refusal : Refusal)
      → StopsAtTable m old new t wait name refusal → TellsNone refusal → new.damage ≡ old.damage
  table_stands old new t wait name refusal (inl told) none = ap count told.1
  table_stands old new t wait name refusal (inr stops) none = stops_stand old new t.0 wait _ _ refusal stops none

  key_stands : (old new : Core D) (table : Table) (write : Write) (refusal : Refusal)
      → FailsKey old new table write refusal → TellsNone refusal → new.damage ≡ old.damage
  key_stands old new table write refusal (key_memory told) none = ap count told.1
  key_stands old new table write refusal (key_null null) none = count_stands (space.Damaged not_lawful) refusal old.damage new.damage
      old.shortages new.shortages null.1.is null.1.counts none

  row_stands : (old new : Core D) (t : TxNo) (table : Table) (key : Value) (write : Write) (refusal : Refusal)
      → FailsRow m old new t table key write refusal → TellsNone refusal → new.damage ≡ old.damage
  row_stands old new t table key write refusal (row_unread fails) none = unread_stands old new _ refusal fails none
  row_stands old new t table key write refusal (row_wrong found reads wrong) none =
      read_stands old new reads.reads

-- ---- what is read

-- who speaks for a key speaks for it since pages were only read
pub speaks_on : {D : Type 0} (m : Meaning D) (old new : Core D) (image : Image) (table : Table) (key : Value)
    (rec : Option RecId) → OnlyReads m old new
    → IsSpeaker (said old.list) old.live (shown old.store.dirty image) table key rec
    → IsSpeaker (said new.list) new.live (shown new.store.dirty image) table key rec
speaks_on {D} m old new image table key rec reads speaks =
    subst (λ (c : Core D). IsSpeaker (said c.list) c.live (shown new.store.dirty image) table key rec)
    (sym reads.same) (subst (λ (d : DirtyPages). IsSpeaker (said old.list) old.live (shown d image) table key rec)
    (sym reads.keeps.dirty) speaks)

module _ {D : Type 0} (m : Meaning D) (counts_now : CountsNow m) (old : Core D) (core : IsCore m old) (t : TxNo)
    (table : Table) (write : Write) (image : Image) (tables : ShowsTable m old image table)
    (catalogs : ShowsTable m old image old.catalog)
    (known : KnowsKey old table (written_at table write) (shown old.store.dirty image)) where
  -- what directories know stays so where pages are only read
  known_at : (now : Core D) → HasRead m old now t.0
      → KnowsKey now table (written_at table write) (shown now.store.dirty image)
  known_at now had = subst (λ (c : Core D). KnowsKey c table (written_at table write) (shown now.store.dirty image))
      (sym had.same) (subst (λ (x : DirtyPages). KnowsKey old table (written_at table write) (shown x image))
      (sym had.keeps.dirty) known)

  table_at : (now : Core D) → HasRead m old now t.0 → ShowsTable m now image table
  table_at now had = table_on m old.store now.store image had.keeps old now table refl refl tables

  catalog_at : (now : Core D) → HasRead m old now t.0 → ShowsTable m now image now.catalog
  catalog_at now had = subst (ShowsTable m now image) (sym (ap (λ (c : Core D). c.catalog) had.same))
      (table_on m old.store now.store image had.keeps old now old.catalog refl refl catalogs)

  tells_at : (now : Core D) → HasRead m old now t.0 → Tells m now.store.disk image
  tells_at now had = tells_on m old.store now.store image had.keeps tables.sees.sees.tells

  count_at : (now : Core D) → HasRead m old now t.0 → now.damage ≡ old.damage
  count_at now had = ap count had.same

  -- ---- the stages

  pub at_tables : TablesArePassed m → (begun new : Core D) (wait : Bool) (refusal : Refusal)
      → HasBegun old begun t wait → StopsAtTable m begun new t wait table.name refusal → new.damage ≡ old.damage
  at_tables passed begun new wait refusal has stops =
      let had : HasRead m old begun t.0 = begun_read m counts_now old core t table write begun wait has in
      table_stands m begun new t wait table.name refusal stops (λ page field found wanted same. passed begun new image
      (catalog_at begun had) t wait table.name page field found wanted
      (subst (StopsAtTable m begun new t wait table.name) same stops)) ∙ count_at begun had

  pub at_keys : KeysAreNamed D → IsKeyed table.shape → FitsShape table.shape write → (passed new : Core D)
      (wait : Bool) (refusal : Refusal) → HasPassed m old passed t table wait
      → FailsKey passed new table write refusal → new.damage ≡ old.damage
  at_keys named keyed fits passed new wait refusal has fails =
      key_stands m passed new table write refusal fails (λ page field found wanted same. named passed new table write
      keyed fits page field found wanted (subst (FailsKey passed new table write) same fails))
      ∙ count_at passed (passed_read m counts_now old core t table write passed wait has)

  pub at_rows : RowsAreFound m → (passed new : Core D) (wait : Bool) (refusal : Refusal)
      → HasPassed m old passed t table wait
      → FailsRow m passed new t table (written_at table write) write refusal → new.damage ≡ old.damage
  at_rows rows passed new wait refusal has fails =
      let had : HasRead m old passed t.0 = passed_read m counts_now old core t table write passed wait has in
      row_stands m passed new t table (written_at table write) write refusal fails
      (λ page field found wanted same. rows passed new image table (table_at passed had) t (written_at table write)
      write (known_at passed had) page field found wanted (subst (FailsRow m passed new t table (written_at table write) write) same fails))
      ∙ count_at passed had

  -- who speaks for the key of the write
  found_speaks : (found : Core D) (wait : Bool) (rec : Option RecId) → HasFound m old found t table write wait rec
      → IsSpeaker (said found.list) found.live (shown found.store.dirty image) table (written_at table write) rec
  found_speaks found wait rec has =
      speaks_on m has.passed found image table (written_at table write) rec has.finds.reads.reads
      (subst (λ (r : Option RecId). IsSpeaker (said has.passed.list) has.passed.live
      (shown has.passed.store.dirty image) table (written_at table write) r) (sym has.finds.is)
      (has.finds.reads.told image (tells_at has.passed
      (passed_read m counts_now old core t table write has.passed wait has.has_passed)) (known_at has.passed
      (passed_read m counts_now old core t table write has.passed wait has.has_passed))).spoken)

  pub at_records : RecordsArePassed m → (found new : Core D) (wait : Bool) (rec : Option RecId) (refusal : Refusal)
      → HasFound m old found t table write wait rec → StopsAtRecord m found new t wait rec refusal
      → new.damage ≡ old.damage
  at_records passed found new wait rec refusal has stops =
      let had : HasRead m old found t.0 = found_read m counts_now old core t table write found wait rec has in
      stops_stand m found new t.0 wait _ _ refusal stops (λ page field a b same. passed found new image table
      (table_at found had) t wait (written_at table write) rec (found_speaks found wait rec has) page field a b
      (subst (StopsAtRecord m found new t wait rec) same stops)) ∙ count_at found had

  pub at_befores : BeforesAreRead m → (free new : Core D) (wait : Bool) (rec : Option RecId) (refusal : Refusal)
      → IsFree m old free t table write wait rec → FailsReading m free new (WhyNotBefore m free table rec) refusal
      → new.damage ≡ old.damage
  at_befores befores free new wait rec refusal is fails =
      let had : HasRead m old free t.0 = free_read m counts_now old core t table write free wait rec is in
      unread_stands m free new (WhyNotBefore m free table rec) refusal fails
      (λ page field a b same. befores free new image table (table_at free had) (written_at table write) rec
      (speaks_on m is.found free image table (written_at table write) rec is.passes.reads
      (found_speaks is.found wait rec is.has_found)) page field a b
      (subst (FailsReading m free new (WhyNotBefore m free table rec)) same fails)) ∙ count_at free had

-- ---- who is passed

-- nobody is in the way who is passed
pub none_passed : (state : ℕ → TxState) (live : State) (t : ℕ) (pages : Pages) (rec : Option RecId) (waits : Edges)
    (wait : Bool) (x : Option Obstacle) → IsInWay state live t pages rec x → IsPassed waits t wait x
    → IsInWay state live t pages rec None
none_passed state live t pages rec waits wait None is passed = is
none_passed state live t pages None waits wait (Some x) is passed = absurd cc
none_passed state live t pages (Some rec) waits wait (Some x) is passed =
    absurd (never x.state refl wait passed (placed_lives state live t is.newest x is.is))
  where
    never : (y : TxState) → x.state ≡ y → (w : Bool) → IsVerdict waits t x.by.0 y w None → x.state ≢ Dead → ⊥
    never Committed same w verdict lives = absurd cc
    never Limbo same w verdict lives = absurd cc
    never Dead same w verdict lives = lives same
    never Active same false verdict lives = absurd cc
    never Active same true (inl (none, leads)) lives = absurd cc
    never Active same true (inr (none, leads)) lives = absurd cc

-- ---- a batch is refused by no absent page

pub own_there : {D : Type 0} (m : Meaning D) (a b : Pool D FireLinks) (fills : Image → Changed → Type 0)
    (refuses : Image → SpaceFault → Type 0) (n : ℕ)
    → FailsOwn m a b fills refuses (space.Pool (faults.Absent n)) → ⊥
own_there m a b fills refuses n (not_filled keeps alone tells why) = alone
own_there m a b fills refuses n (not_changed batch ready keeps online filled fails) = at fails.own
  where
    at : ⊥ ⊎ (faults.Absent n ≡ faults.Memory) → ⊥
    at (inl never) = never
    at (inr same) = absurd cc

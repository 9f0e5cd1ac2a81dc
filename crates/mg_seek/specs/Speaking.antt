-- The record that speaks for a key.
use Rattle.std.specs.Prelude.{◌≡◌, ◌⊎◌, ℕ, false, Bool, ◌&&◌, List, Option, None, Some}
use Rattle.mg_base.specs.Disk.{Meaning}
use Rattle.mg_base.specs.declared.damage.Damaged.{Damaged}
use Rattle.mg_base.specs.declared.numbers.RecId.{RecId}
use Rattle.mg_base.specs.declared.transaction.TxState.{TxState}
use Rattle.mg_heap.specs.Walk.{RefusesWalk}
use Rattle.mg_image.specs.Form.{Pages, Row}
use Rattle.mg_image.specs.Records.{key_of}
use Rattle.mg_model.specs.Answers.{is_committed}
use Rattle.mg_model.specs.declared.table.Table.{Table}
use Rattle.mg_pool.specs.declared.batch.BatchPage.{BatchPage}
use Rattle.mg_pool.specs.declared.pool.Pool.{Pool}
use Rattle.mg_snap.specs.Live.{State, all_see}
use Rattle.mg_space.specs.declared.fault.SpaceFault.{SpaceFault}
use Rattle.mg_space.specs.declared.fault.SpaceFault.TheVariants as faults
use Rattle.mg_value.specs.declared.value.Value.{Value}
use Rattle.mg_version.specs.declared.cell.Version.{Version}
use Rattle.mg_seek.specs.declared.walk.Placed.{Placed}
use Rattle.mg_seek.specs.declared.whose.Wanted.TheVariants.{Living}
use Rattle.mg_seek.specs.Refusals.{IsRecordDamage}
use Rattle.mg_seek.specs.Rows.{GivesRow}
use Rattle.mg_seek.specs.TableRecords.{AreTableRecords, EachRecord, IsAmong}
use Rattle.mg_seek.specs.Versions.{IsFirst, wants}

-- a version is a deletion by a committed transaction that every base sees
abbrev pub is_erased_for_all : (ℕ → TxState) → State → Version → Bool
is_erased_for_all state live v =
    v.deleted && (is_committed (state v.tx.0) && all_see live v.tx.0)

-- A record of a table speaks for a key: its newest version that is no dead transaction's has the
-- key, and is no committed deletion that every base sees.
pub record Speaks (state : ℕ → TxState) (live : State) (view : Pages) (table : Table) (key : Value)
    (rec : RecId) : Type 0 where
  pub newest : Placed
  pub living : IsFirst view (wants state live Living) rec (Some newest)
  pub stays : is_erased_for_all state live newest.version ≡ false
  pub row : Row
  pub given : GivesRow table newest.version row
  pub keyed : key_of table row ≡ key

-- one of these records speaks for a key, or none of them does
abbrev pub SpeaksAmong : (ℕ → TxState) → State → Pages → Table → Value → List RecId → Option RecId
    → Type 0
SpeaksAmong state live view table key records None =
    EachRecord (λ rec. Speaks state live view table key rec → ⊥) records
SpeaksAmong state live view table key records (Some rec) =
    IsAmong records rec × Speaks state live view table key rec

-- A record of the table speaks for a key, or none of its records does.
pub record IsSpeaker (state : ℕ → TxState) (live : State) (view : Pages) (table : Table)
    (key : Value) (found : Option RecId) : Type 0 where
  pub records : List RecId
  pub of_table : AreTableRecords view table.pointer.0 records
  pub speaks : SpeaksAmong state live view table key records found

-- One of these records is damaged, in which a row is looked for.
pub record IsDamagedAmong {D L : Type 0} (m : Meaning D) (store : Pool D L) (pages : List BatchPage)
    (view : Pages) (takes : ℕ → Bool) (table : Table) (records : List RecId) (it : Damaged) : Type 0 where
  pub rec : RecId
  pub among : IsAmong records rec
  pub damaged : IsRecordDamage m store pages view takes table rec it

-- why the rows of these records are not read
abbrev pub RefusesRecords : {D L : Type 0} → Meaning D → Pool D L → List BatchPage → Pages
    → (ℕ → Bool) → Table → List RecId → SpaceFault → Type 0
RefusesRecords m store pages view takes table records (faults.Full most) = ⊥
RefusesRecords m store pages view takes table records (faults.Damaged it) =
    IsDamagedAmong m store pages view takes table records it
RefusesRecords m store pages view takes table records (faults.Pool fault) = Unit {0}

-- the damage of a table whose rows are looked for: its records are not found, or one is damaged
pub data IsTableDamage {D L : Type 0} (m : Meaning D) (store : Pool D L) (pages : List BatchPage)
    (view : Pages) (takes : ℕ → Bool) (table : Table) : Damaged → Type 0 where
  no_walk : (it : Damaged) → RefusesWalk m store pages view table.pointer.0 (faults.Damaged it)
      → IsTableDamage m store pages view takes table it
  bad_among : (records : List RecId) (it : Damaged)
      → AreTableRecords view table.pointer.0 records
      → IsDamagedAmong m store pages view takes table records it
      → IsTableDamage m store pages view takes table it

-- why the rows of a table are not read, but for faults of the cache
abbrev pub RefusesTableRows : {D L : Type 0} → Meaning D → Pool D L → List BatchPage → Pages
    → (ℕ → Bool) → Table → SpaceFault → Type 0
RefusesTableRows m store pages view takes table (faults.Full most) = ⊥
RefusesTableRows m store pages view takes table (faults.Damaged it) =
    IsTableDamage m store pages view takes table it
RefusesTableRows m store pages view takes table (faults.Pool fault) = Unit {0}

-- What the calls of an engine read for a write meets no damage.
use Rattle.std.specs.Prelude.{ℕ, Bool, List, Option}
use Rattle.mg_base.specs.Disk.{Meaning}
use Rattle.mg_base.specs.Image.{Image}
use Rattle.mg_base.specs.declared.damage.Field.{Field}
use Rattle.mg_base.specs.declared.numbers.PageNo.{PageNo}
use Rattle.mg_base.specs.declared.numbers.RecId.{RecId}
use Rattle.mg_base.specs.declared.numbers.TxNo.{TxNo}
use Rattle.mg_core.specs.Noting.{WhyNotMade}
use Rattle.mg_core.specs.Obstacles.{StopsAtRecord, StopsAtTable}
use Rattle.mg_core.specs.Putting.{WhyNotBefore}
use Rattle.mg_core.specs.Reading.{FailsReading}
use Rattle.mg_core.specs.Writing.{FailsKey, FailsRow, KnowsKey}
use Rattle.mg_core.specs.declared.parts.Core.{Core}
use Rattle.mg_image.specs.RecordRules.{Facts}
use Rattle.mg_image.specs.Records.{Reading}
use Rattle.mg_image.specs.Tables.{Stand}
use Rattle.mg_model.specs.declared.refusal.Refusal.TheVariants.{Damaged}
use Rattle.mg_model.specs.declared.table.Table.{Table}
use Rattle.mg_no_damage_laws.specs.Keyed.{IsKeyed}
use Rattle.mg_no_damage_laws.specs.Sees.{no_batch}
use Rattle.mg_no_damage_laws.specs.Tables.{SeesTable}
use Rattle.mg_pool.specs.Pool.{shown}
use Rattle.mg_records.specs.declared.write.Write.{Write}
use Rattle.mg_records.specs.Writing.{FitsShape}
use Rattle.mg_seek.specs.Speaking.{IsSpeaker}
use Rattle.mg_txlist.specs.TxList.{said}
use Rattle.mg_value.specs.declared.value.Value.{Value}

-- An engine shows a lawful table, over a disk that tells what it holds.
pub record ShowsTable {D : Type 0} (m : Meaning D) (core : Core D) (image : Image) (table : Table) : Type 0 where
  pub facts : Facts
  pub reading : Reading
  pub stand : Stand
  pub sees : SeesTable m core.store image no_batch facts reading stand table

-- who is in the way of a write by the row of the catalog of its table is found
abbrev pub TablesArePassed : {D : Type 0} → Meaning D → Type 0
TablesArePassed {D} m = (old new : Core D) (image : Image) → ShowsTable m old image old.catalog → (t : TxNo)
    (wait : Bool) (name : List ℕ) (page : PageNo) (field : Field) (found wanted : ℕ)
    → StopsAtTable m old new t wait name (Damaged page field found wanted) → ⊥

-- the key of a write that fits a lawful table is had
abbrev pub KeysAreNamed : Type 0 → Type 0
KeysAreNamed D = (old new : Core D) (table : Table) (write : Write) → IsKeyed table.shape
    → FitsShape table.shape write → (page : PageNo) (field : Field) (found wanted : ℕ)
    → FailsKey old new table write (Damaged page field found wanted) → ⊥

-- the row in the view at a key is found, with the record that speaks for the key, where the candidates that directories
-- have for it are enough
abbrev pub RowsAreFound : {D : Type 0} → Meaning D → Type 0
RowsAreFound {D} m = (old new : Core D) (image : Image) (table : Table) → ShowsTable m old image table → (t : TxNo)
    (key : Value) (write : Write) → KnowsKey old table key (shown old.store.dirty image) → (page : PageNo)
    (field : Field) (found wanted : ℕ)
    → FailsRow m old new t table key write (Damaged page field found wanted) → ⊥

-- who is in the way by the record that speaks for a key is found
abbrev pub RecordsArePassed : {D : Type 0} → Meaning D → Type 0
RecordsArePassed {D} m = (old new : Core D) (image : Image) (table : Table) → ShowsTable m old image table
    → (t : TxNo) (wait : Bool) (key : Value) (rec : Option RecId)
    → IsSpeaker (said old.list) old.live (shown old.store.dirty image) table key rec
    → (page : PageNo) (field : Field) (found wanted : ℕ)
    → StopsAtRecord m old new t wait rec (Damaged page field found wanted) → ⊥

-- what stands at a key before a write is read
abbrev pub BeforesAreRead : {D : Type 0} → Meaning D → Type 0
BeforesAreRead {D} m = (old new : Core D) (image : Image) (table : Table) → ShowsTable m old image table
    → (key : Value) (rec : Option RecId)
    → IsSpeaker (said old.list) old.live (shown old.store.dirty image) table key rec
    → (page : PageNo) (field : Field) (found wanted : ℕ)
    → FailsReading m old new (WhyNotBefore m old table rec) (Damaged page field found wanted) → ⊥

-- the keys of a table's records are read for its directory
abbrev pub KeysAreNoted : {D : Type 0} → Meaning D → Type 0
KeysAreNoted {D} m = (old new : Core D) (image : Image) (table : Table) → ShowsTable m old image table
    → (page : PageNo) (field : Field) (found wanted : ℕ)
    → FailsReading m old new (WhyNotMade m old table) (Damaged page field found wanted) → ⊥

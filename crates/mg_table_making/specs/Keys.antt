-- Whether the rows of a new table may come into the catalog: the keys under which they come.
use Rattle.std.specs.Prelude.{◌≡◌, ◌≢◌, ℕ, ◌+◌, Bool, true, false, List, [], ◌∷◌, None, is_some, map}
use Rattle.mg_base.specs.Disk.{Meaning}
use Rattle.mg_base.specs.declared.damage.Damaged.{Damaged}
use Rattle.mg_base.specs.declared.damage.Field.TheVariants.{Catalog}
use Rattle.mg_base.specs.declared.numbers.TxNo.{TxNo}
use Rattle.mg_core.specs.Obstacles.{PassesRecord, StopsAtRecord}
use Rattle.mg_core.specs.Putting.{CountsOne}
use Rattle.mg_core.specs.Reading.{FailsReading}
use Rattle.mg_core.specs.Writing.{ReadsRow, WhyOfKey}
use Rattle.mg_core.specs.declared.parts.Core.{Core}
use Rattle.mg_image.specs.Form.{Row}
use Rattle.mg_model.specs.Catalog.{key_of}
use Rattle.mg_model.specs.declared.refusal.Refusal.{Refusal}
use Rattle.mg_model.specs.declared.refusal.Refusal.TheVariants.{DuplicateKey}
use Rattle.mg_row_writes.specs.declared.finding.RowAt.{RowAt}
use Rattle.mg_space.specs.declared.fault.SpaceFault.TheVariants as faults
use Rattle.mg_table_batch.specs.Filling.{rows_at}
use Rattle.mg_value.specs.declared.shape.Shape.{Shape}
use Rattle.mg_value.specs.declared.value.Value.{Value}
use Rattle.mg_value.specs.declared.value.Value.TheVariants.{Null}

-- the keys of the rows that say a new table, that of its own row first; none depends on the page where it begins
abbrev pub keys_made : Shape → List ℕ → Shape → List Value
keys_made catalog name shape = map (key_of catalog) (rows_at name shape 0)

-- each of these rows of a table has a key
abbrev pub HaveKeys : Shape → List Row → Type 0
HaveKeys shape [] = Unit {0}
HaveKeys shape (row ∷ rows) = (key_of shape row ≢ Null) × HaveKeys shape rows

-- the damage of a catalog in which a record speaks for a key without the table's own row: found is the place of the
-- key among those of the table, wanted how many there are
abbrev pub out_of_place : ℕ → ℕ → ℕ → Damaged
out_of_place pointer place count =
    record { page = record { 0 = pointer }; field = Catalog; found = place; wanted = count }

-- a record that no lawful catalog has speaks for a key: this is told and counted, and nothing else has happened
abbrev pub TellsOutOfPlace : {D : Type 0} → Core D → Core D → ℕ → ℕ → Refusal → Type 0
TellsOutOfPlace old new place count refusal =
    CountsOne old new (faults.Damaged (out_of_place old.catalog.pointer.0 place count)) refusal

-- Pages were read, and no record speaks for a key.
pub record IsFreeKey {D : Type 0} (m : Meaning D) (old new : Core D) (t : TxNo) (key : Value) : Type 0 where
  pub found : RowAt
  pub reads : ReadsRow m old new t old.catalog key found
  pub none : found.rec ≡ None

-- ---- the key of the table's own row

-- Why it is not free: it is not read; t sees a row of the key; somebody is in the way by the record that speaks for
-- it; or nobody is, and the record is out of place.
pub data FailsOwnKey {D : Type 0} (m : Meaning D) (old new : Core D) (t : TxNo) (wait : Bool) (count : ℕ)
    (key : Value) (refusal : Refusal) : Type 0 where
  own_unread : FailsReading m old new (WhyOfKey m old t old.catalog key) refusal
      → FailsOwnKey m old new t wait count key refusal
  own_seen : (found : RowAt) → ReadsRow m old new t old.catalog key found → is_some found.row ≡ true
      → refusal ≡ DuplicateKey → FailsOwnKey m old new t wait count key refusal
  own_hindered : (read : Core D) (found : RowAt) → ReadsRow m old read t old.catalog key found
      → is_some found.row ≡ false → StopsAtRecord m read new t wait found.rec refusal
      → FailsOwnKey m old new t wait count key refusal
  own_spoken : (read passed : Core D) (found : RowAt) → ReadsRow m old read t old.catalog key found
      → is_some found.row ≡ false → found.rec ≢ None → PassesRecord m read passed t wait found.rec
      → TellsOutOfPlace passed new 0 count refusal → FailsOwnKey m old new t wait count key refusal

-- ---- the keys of its columns' rows

-- why the key of a column's row is not free: it is not read, or a record speaks for it
pub data FailsColumnKey {D : Type 0} (m : Meaning D) (old new : Core D) (t : TxNo) (place count : ℕ) (key : Value)
    (refusal : Refusal) : Type 0 where
  column_unread : FailsReading m old new (WhyOfKey m old t old.catalog key) refusal
      → FailsColumnKey m old new t place count key refusal
  column_spoken : (read : Core D) (found : RowAt) → ReadsRow m old read t old.catalog key found
      → found.rec ≢ None → TellsOutOfPlace read new place count refusal
      → FailsColumnKey m old new t place count key refusal

-- no record speaks for any of these keys, which are looked at one after another
pub data AreFreeKeys {D : Type 0} (m : Meaning D) (t : TxNo) : List Value → Core D → Core D → Type 0 where
  free_none : (core : Core D) → AreFreeKeys m t [] core core
  free_more : (key : Value) (keys : List Value) (old read new : Core D) → IsFreeKey m old read t key
      → AreFreeKeys m t keys read new → AreFreeKeys m t (key ∷ keys) old new

-- why they are not all free: the first is not, or it is, and a later one is not
pub data FailsColumnKeys {D : Type 0} (m : Meaning D) (t : TxNo) (count : ℕ) (new : Core D) (refusal : Refusal)
    : ℕ → List Value → Core D → Type 0 where
  first_taken : (place : ℕ) (key : Value) (keys : List Value) (old : Core D)
      → FailsColumnKey m old new t place count key refusal
      → FailsColumnKeys m t count new refusal place (key ∷ keys) old
  later_taken : (place : ℕ) (key : Value) (keys : List Value) (old read : Core D) → IsFreeKey m old read t key
      → FailsColumnKeys m t count new refusal (place + 1) keys read
      → FailsColumnKeys m t count new refusal place (key ∷ keys) old

-- ---- all keys of a table

-- The keys of a table are free: first its own, and then those of its columns.
abbrev pub AreFree : {D : Type 0} → Meaning D → TxNo → List Value → Core D → Core D → Type 0
AreFree m t keys old new = AreFreeKeys m t keys old new

-- The table's own key is free, and that of a column is not.
pub record FailsLater {D : Type 0} (m : Meaning D) (old new : Core D) (t : TxNo) (count : ℕ) (own : Value)
    (columns : List Value) (refusal : Refusal) : Type 0 where
  pub read : Core D
  pub free : IsFreeKey m old read t own
  pub fails : FailsColumnKeys m t count new refusal 1 columns read

-- why they are not all free
pub data FailsFree {D : Type 0} (m : Meaning D) (old new : Core D) (t : TxNo) (wait : Bool) (count : ℕ)
    (refusal : Refusal) : List Value → Type 0 where
  own_taken : (own : Value) (columns : List Value) → FailsOwnKey m old new t wait count own refusal
      → FailsFree m old new t wait count refusal (own ∷ columns)
  column_taken : (own : Value) (columns : List Value) → FailsLater m old new t count own columns refusal
      → FailsFree m old new t wait count refusal (own ∷ columns)

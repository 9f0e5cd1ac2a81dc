-- Rows of the catalog that a transaction makes, one after another: what the history and the records have of them.
use Rattle.std.specs.Prelude.{◌≡◌, ◌≢◌, ◌⊎◌, ℕ, false, List, [], ◌∷◌, map, Option, Some}
use Rattle.mg_base.specs.declared.numbers.RecId.{RecId}
use Rattle.mg_base.specs.declared.numbers.TxNo.{TxNo}
use Rattle.mg_base.specs.declared.transaction.TxState.TheVariants.{Active}
use Rattle.mg_value.specs.declared.value.Value.{Value}
use Rattle.mg_model.specs.declared.answer.Answer.TheVariants.{Fine}
use Rattle.mg_model.specs.declared.event.Event.TheVariants.{Insert}
use Rattle.mg_model.specs.declared.opening.Opening.{Opening}
use Rattle.mg_model.specs.Catalog.{catalog_name, catalog_shape, key_of, told_cells}
use Rattle.mg_model.specs.Changes.{Cells}
use Rattle.mg_model.specs.History.{Entries, Entry as Event, entry}
use Rattle.mg_model.specs.Legal.{IsLawful, IsLegal, MayBegin}
use Rattle.mg_model.specs.Machine.{mode_of, state_of}
use Rattle.mg_generation_laws.specs.Generations.{Generation}
use Rattle.mg_generation_laws.specs.Kept.{IsErasedForAll, StandFor}
use Rattle.mg_image.specs.declared.entry.Entry.{Entry}
use Rattle.mg_image.specs.Catalog.{catalog_table}
use Rattle.mg_image.specs.RecordRules.{Facts, table_in}
use Rattle.mg_image.specs.Records.{Reading, writer}
use Rattle.mg_image.specs.StepLaws.{put_reading}
use Rattle.mg_image_overlay_laws.specs.records.Fronts.{is_dead}
use Rattle.mg_engine_step_laws.specs.standing.StandingLaws.{IsChainOf}
use Rattle.mg_engine_step_laws.specs.standing.Versions.{HaveVersions}

-- ---- rows

-- A row of the catalog that is made: the record that it comes into, and its first version there.
pub record MadeRow : Type 0 where
  pub at : RecId
  pub first : Entry

-- the row as a history has it, and its key
abbrev pub row_told : MadeRow → Cells
row_told row = told_cells row.first.row

abbrev pub key_at : MadeRow → Value
key_at row = key_of catalog_shape row.first.row

-- A row comes into a record of the catalog that had no version; its own is t's, and no deletion.
pub record IsNewRow (g : Facts) (r : Reading) (t pointer : ℕ) (row : MadeRow) : Type 0 where
  pub of_table : table_in g row.at ≡ Some (catalog_table pointer)
  pub empty : r row.at ≡ []
  pub its : writer row.first ≡ t
  pub stays : row.first.version.deleted ≡ false

-- other rows have other records and other keys
abbrev pub IsApartFrom : MadeRow → List MadeRow → Type 0
IsApartFrom row [] = Unit {0}
IsApartFrom row (other ∷ rows) = (other.at ≢ row.at) × (key_at other ≢ key_at row) × IsApartFrom row rows

-- each of these rows is new, and none is twice among them
abbrev pub AreNewRows : Facts → Reading → ℕ → ℕ → List MadeRow → Type 0
AreNewRows g r t pointer [] = Unit {0}
AreNewRows g r t pointer (row ∷ rows) = IsNewRow g r t pointer row × IsApartFrom row rows
    × AreNewRows g r t pointer rows

-- a reading with a record for each of these rows
abbrev pub reading_with : List MadeRow → Reading → Reading
reading_with [] r = r
reading_with (row ∷ rows) r = reading_with rows (put_reading r row.at (row.first ∷ []))

-- ---- the history

-- the entry of a row, and a history with those of several, one after another
abbrev pub row_entry : TxNo → Cells → Event
row_entry t row = entry (Insert t catalog_name row) Fine

abbrev pub with_rows : TxNo → List Cells → Entries → Entries
with_rows t [] h = h
with_rows t (row ∷ rows) h = with_rows t rows (row_entry t row ∷ h)

-- each of these entries is lawful as it comes
abbrev pub AreLawful : Opening → TxNo → List Cells → Entries → Type 0
AreLawful o t [] h = Unit {0}
AreLawful o t (row ∷ rows) h = IsLawful o h (row_entry t row) × AreLawful o t rows (row_entry t row ∷ h)

-- an active transaction may make rows
pub record MayMake (o : Opening) (h : Entries) (t : TxNo) : Type 0 where
  pub active : state_of o h t.0 ≡ Active
  pub writes : (mode_of h t.0).read_only ≡ false

-- no version stands for the key of a row as it comes
abbrev pub AreUnwritten : Opening → TxNo → List MadeRow → Entries → Type 0
AreUnwritten o t [] h = Unit {0}
AreUnwritten o t (row ∷ rows) h = StandFor o h catalog_name (key_at row) []
    × AreUnwritten o t rows (row_entry t (row_told row) ∷ h)

-- ---- before they come

-- no version of a key of the catalog counts: none does of the record that speaks for it, or they are erased for all
abbrev pub IsSilentKey : Opening → Entries → Facts → Reading → (List ℕ → Value → Option RecId) → Value → Type 0
IsSilentKey o h f r speaker key = (chain : List Generation)
    → IsChainOf f r catalog_name key (speaker catalog_name key) chain → (chain ≡ []) ⊎ IsErasedForAll o h chain

abbrev pub AreSilent : Opening → Entries → Facts → Reading → (List ℕ → Value → Option RecId) → List MadeRow → Type 0
AreSilent o h f r speaker [] = Unit {0}
AreSilent o h f r speaker (row ∷ rows) = IsSilentKey o h f r speaker (key_at row) × AreSilent o h f r speaker rows

-- ---- the law

-- Rows come into new records of the catalog, of which no version of any key counts before: each entry is lawful as
-- it comes, and the records have the versions of the history with all of them. Pages that had records stay those
-- of their tables.
abbrev pub RowsFollow : Type 0
RowsFollow = (o : Opening) (h : Entries) (f g : Facts) (r : Reading) (t : TxNo) (pointer : ℕ) (row : MadeRow)
    (rows : List MadeRow) (have : HaveVersions o h f r) → MayBegin o → IsLegal o h → MayMake o h t
    → ((u : ℕ) → g.state u ≡ f.state u) → is_dead (f.state t.0) ≡ false
    → ((q : RecId) → r q ≢ [] → table_in g q ≡ table_in f q)
    → AreNewRows g r t.0 pointer (row ∷ rows) → AreSilent o h f r have.speaker (row ∷ rows)
    → AreUnwritten o t (row ∷ rows) h × AreLawful o t (map row_told (row ∷ rows)) h
    × HaveVersions o (with_rows t (map row_told (row ∷ rows)) h) g (reading_with (row ∷ rows) r)

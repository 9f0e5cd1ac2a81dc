-- The catalog's rows under a choice of the limbo transactions that are committed.
use Rattle.std.specs.Prelude.{◌≡◌, ◌⊎◌, ◌<◌, ◌≤◌, ℕ, Bool, true, false, List, [], ◌∷◌, length, Some, slice_index_or}
use Rattle.mg_base.specs.declared.transaction.TxState.TheVariants.{Limbo, Committed}
use Rattle.mg_model.specs.declared.table.Table.{Table}
use Rattle.mg_value.specs.declared.shape.TheConstants.{MOST_COLUMNS}
use Rattle.mg_model.specs.CatalogRules.{AreTables, EachTable}
use Rattle.mg_image.specs.declared.entry.Entry.{Entry}
use Rattle.mg_image.specs.Catalog.{FitsPages, IsWithin, StaysAmong, committed_with}
use Rattle.mg_image.specs.Form.{Row}
use Rattle.mg_image.specs.RecordRules.{EachBack, Facts}
use Rattle.mg_image.specs.Records.{writer}
use Rattle.mg_image.specs.Tables.{Has}
use Rattle.mg_reading.specs.declared.found.Found.{Found}
use Rattle.mg_reading.specs.HeldTable.{rows_shown}
use Rattle.mg_catalog.specs.ByKey.{by_key, row_key}

-- the rows that these records show, where the chosen limbo transactions are committed
abbrev pub rows_with : Facts → List Found → (ℕ → Bool) → List Row
rows_with f found chosen = rows_shown (committed_with f chosen) found

-- a table has at most 64 columns
abbrev pub HasFewColumns : Table → Type 0
HasFewColumns table = length table.shape.columns ≤ MOST_COLUMNS

-- these rows name these tables, each of which fits the pages
abbrev pub RowsName : ℕ → List Row → List Table → Type 0
RowsName size rows tables =
    AreTables (by_key rows) tables × EachTable (FitsPages size) tables

-- they do under a choice
abbrev pub Names : ℕ → Facts → List Found → (ℕ → Bool) → List Table → Type 0
Names size f found chosen tables = RowsName size (rows_with f found chosen) tables

-- the rows are lawful under a choice, and so name some tables
abbrev pub AreLawful : ℕ → Facts → List Found → (ℕ → Bool) → Type 0
AreLawful size f found chosen = (tables : List Table) × Names size f found chosen tables

-- The rows of two choices are lawful, and the tables of the one are those of the other, too, but for
-- their indexes.
pub record DoTablesStay (size : ℕ) (rows others : List Row) : Type 0 where
  pub tables : List Table
  pub more : List Table
  pub named : RowsName size rows tables
  pub named_more : RowsName size others more
  pub stay : EachTable (StaysAmong more) tables

-- whatever the choice, the rows are lawful, and the tables stay where more are chosen
abbrev pub AreAlwaysLawful : ℕ → Facts → List Found → Type 0
AreAlwaysLawful size f found = (chosen more : ℕ → Bool) → IsWithin chosen more
    → DoTablesStay size (rows_with f found chosen) (rows_with f found more)

-- the transaction of the newest of these versions is one of a list, if it is in limbo
abbrev pub HasWriter : Facts → List ℕ → List Entry → Type 0
HasWriter f ns [] = Unit {0}
HasWriter f ns (e ∷ es) = f.state (writer e) ≡ Limbo → Has ns (writer e)

-- so is that of each record
abbrev pub HasWriters : Facts → List ℕ → List Found → Type 0
HasWriters f ns [] = Unit {0}
HasWriters f ns (found ∷ more) = HasWriter f ns found.entries.items × HasWriters f ns more

-- a choice has, of the transaction of the newest of these versions, decided as two lists say: it is
-- open still, taken, or left out
abbrev pub IsDecided : Facts → List ℕ → List ℕ → (ℕ → Bool) → List Entry → Type 0
IsDecided f taken open_ chosen [] = Unit {0}
IsDecided f taken open_ chosen (e ∷ es) = f.state (writer e) ≡ Limbo
    → Has open_ (writer e) ⊎ Has taken (writer e) ⊎ (chosen (writer e) ≡ false)

-- so of each record
abbrev pub AreDecided : Facts → List ℕ → List ℕ → (ℕ → Bool) → List Found → Type 0
AreDecided f taken open_ chosen [] = Unit {0}
AreDecided f taken open_ chosen (found ∷ more) =
    IsDecided f taken open_ chosen found.entries.items × AreDecided f taken open_ chosen more

-- A choice takes these transactions, and leaves out those that are neither taken nor open.
pub record IsChoice (f : Facts) (found : List Found) (taken open_ : List ℕ) (chosen : ℕ → Bool)
    : Type 0 where
  pub takes : (t : ℕ) → Has taken t → chosen t ≡ true
  pub decided : AreDecided f taken open_ chosen found

-- the rows are lawful under each two such choices, and the tables stay where more are chosen
abbrev pub AreLawfulFrom : ℕ → Facts → List Found → List ℕ → List ℕ → List ℕ → Type 0
AreLawfulFrom size f found taken later open_ = (chosen more : ℕ → Bool) → IsWithin chosen more
    → IsChoice f found taken open_ chosen → IsChoice f found later open_ more
    → DoTablesStay size (rows_with f found chosen) (rows_with f found more)

-- each of these rows is the one of its key
abbrev pub AreOwn : List Row → Type 0
AreOwn rows = (at : ℕ) → at < length rows
    → by_key rows (row_key (slice_index_or rows at [])) ≡ Some (slice_index_or rows at [])

-- back versions are committed in each record
abbrev pub HaveCommittedBacks : Facts → List Found → Type 0
HaveCommittedBacks f [] = Unit {0}
HaveCommittedBacks f (found ∷ more) =
    EachBack (λ e. f.state (writer e) ≡ Committed) found.entries.items × HaveCommittedBacks f more

-- What the catalog's rows rest on: no version but the newest is in limbo, and whatever the choice, no
-- two rows have one key.
pub record IsCatalogFound (f : Facts) (found : List Found) : Type 0 where
  pub backs : HaveCommittedBacks f found
  pub own : (chosen : ℕ → Bool) → AreOwn (rows_with f found chosen)

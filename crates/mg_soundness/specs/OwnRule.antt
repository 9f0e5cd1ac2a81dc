-- When a table has its own versions alone, by what was read of the catalog.
use Rattle.std.specs.Prelude.{◌≡◌, ◌⊎◌, ℕ, false, List, [], ◌∷◌, Some}
use Rattle.mg_base.specs.declared.transaction.TxState.TheVariants.{Dead, Limbo}
use Rattle.mg_model.specs.Catalog.{catalog_name, table_key}
use Rattle.mg_image.specs.declared.entry.Entry.{Entry}
use Rattle.mg_image.specs.Form.{Row}
use Rattle.mg_image.specs.Inventory.{state_at}
use Rattle.mg_image.specs.RecordRules.{Each}
use Rattle.mg_image.specs.Records.{shown, writer}
use Rattle.mg_image.specs.Tables.{Stand}
use Rattle.mg_catalog.specs.ByKey.{row_key}
use Rattle.mg_reading.specs.declared.found.Found.{Found}
use Rattle.mg_reading.specs.declared.image.Image.{Image}
use Rattle.mg_reading.specs.Found.{EachFound, committed_of}
use Rattle.mg_reading.specs.ImageView.{pages_in}
use Rattle.mg_soundness.specs.Joined.{EachTable}

-- the versions of one of these records have a property
abbrev pub SomeFound : (List Entry → Type 0) → List Found → Type 0
SomeFound P [] = ⊥
SomeFound P (found ∷ more) = P found.entries.items ⊎ SomeFound P more

-- a record of the catalog shows a table's row
abbrev pub ShowsTable : Image → List ℕ → List Entry → Type 0
ShowsTable image name es = (row : Row) × (shown (committed_of image) es ≡ Some row)
    × (row_key row ≡ table_key name)

-- A version is a row of a table, by a transaction in limbo.
pub record IsMaking (image : Image) (t : ℕ) (name : List ℕ) (e : Entry) : Type 0 where
  pub limbo : state_at image.size (pages_in image) (writer e) ≡ Limbo
  pub its_own : writer e ≡ t
  pub alive : e.version.deleted ≡ false
  pub keyed : row_key e.row ≡ table_key name

-- the newest version of a record of the catalog is
abbrev pub MakesTable : Image → ℕ → List ℕ → List Entry → Type 0
MakesTable image t name [] = ⊥
MakesTable image t name (e ∷ es) = IsMaking image t name e

-- a version may stand in a table of a name, where this was read of the catalog
abbrev pub IsOwn : Image → List Found → List ℕ → Entry → Type 0
IsOwn image catalog name e = (name ≡ catalog_name) ⊎ SomeFound (ShowsTable image name) catalog
    ⊎ (state_at image.size (pages_in image) (writer e) ≡ Dead)
    ⊎ SomeFound (MakesTable image (writer e) name) catalog

-- each version of a table may
abbrev pub IsOwned : Image → List Found → Stand → List Found → Type 0
IsOwned image catalog s found = EachFound (Each (IsOwn image catalog s.table.name)) found

-- what was read of the first table, which is the catalog
abbrev pub first_read : List (List Found) → List Found
first_read [] = []
first_read (found ∷ more) = found

-- each version of each table may
abbrev pub AreOwned : Image → List Stand → List (List Found) → Type 0
AreOwned image ss founds = EachTable (IsOwned image (first_read founds)) ss founds

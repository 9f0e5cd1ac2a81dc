-- The figures of tables, or what is found in their pages and records.
use Rattle.std.specs.Prelude.{◌≡◌, ◌*◌, ℕ, Bool, List, [], ◌∷◌, ◌++◌, length}
use Rattle.mg_base.specs.Image.{Image, page_at}
use Rattle.mg_check_records.specs.Listing.{records_of, set_below}
use Rattle.mg_check_records.specs.Marks.{most_slots}
use Rattle.mg_check_records.specs.Records.{IsWalkedOver, places_of}
use Rattle.mg_check_tables.specs.Seats.{AreDataPages}
use Rattle.mg_check_tables.specs.TableRung.{IsTableFinding}
use Rattle.mg_file_figures.specs.declared.figures.TableFigures.{TableFigures}
use Rattle.mg_file_figures.specs.declared.table.OneTable.{OneTable}
use Rattle.mg_file_figures.specs.declared.table.OneTable.TheVariants as ones
use Rattle.mg_file_figures.specs.declared.tables.AllTables.{AllTables}
use Rattle.mg_file_figures.specs.declared.tables.AllTables.TheVariants as alls
use Rattle.mg_findings.specs.declared.finding.Finding.{Finding}
use Rattle.mg_findings.specs.Findings.{HasNone, IsListOf}
use Rattle.mg_image.specs.Form.{Pages}
use Rattle.mg_image.specs.Records.{cells_of}
use Rattle.mg_model.specs.declared.table.Table.{Table}

-- what is found in the pages of a table of an image, whose first pointer page a page names
abbrev pub IsPagesFinding : ℕ → Image → ℕ → Table → Finding → Type 0
IsPagesFinding size image holder table =
    IsTableFinding size (page_at size image) (length image) holder table.pointer.0

-- The records of a table with these data pages were walked over: this was found, in the order of the records, and these
-- marks are those of the cells that were met.
pub record WalksOver (size : ℕ) (pages : Pages) (table : Table) (ns : List ℕ) (marks : List Bool)
    (found : List Finding) : Type 0 where
  pub are : AreDataPages pages table.pointer.0 ns
  pub walked : IsWalkedOver (cells_of pages) table ns size (places_of pages ns) marks found
  pub long : length marks ≡ length ns * most_slots size

-- These are the figures of a table: how many records it has, how many versions are reached from them, each of which
-- is a cell that is met, and how many data pages.
pub record AreTableFigures (size : ℕ) (pages : Pages) (table : Table) (it : TableFigures) : Type 0 where
  pub named : it.name ≡ table.name
  pub data_pages : List ℕ
  pub marks : List Bool
  pub whole : WalksOver size pages table data_pages marks []
  pub records : it.records ≡ length (records_of pages data_pages)
  pub versions : it.versions ≡ set_below marks (length marks)
  pub pages_ : it.pages ≡ length data_pages

-- What is found of a table first: of its pages the least, or, where they are as wanted, the first of its records.
pub data IsFoundIn (size : ℕ) (image : Image) (holder : ℕ) (table : Table) (f : Finding) : Type 0 where
  in_pages : (rest : List Finding) → IsListOf (IsPagesFinding size image holder table) (f ∷ rest)
      → IsFoundIn size image holder table f
  in_records : (ns : List ℕ) (marks : List Bool) (rest : List Finding)
      → HasNone (IsPagesFinding size image holder table)
      → WalksOver size (page_at size image) table ns marks (f ∷ rest)
      → IsFoundIn size image holder table f

-- of one table
abbrev pub IsToldOne : ℕ → Image → ℕ → Table → OneTable → Type 0
IsToldOne size image holder table (ones.Found f) = IsFoundIn size image holder table f
IsToldOne size image holder table (ones.Told it) =
    HasNone (IsPagesFinding size image holder table) × AreTableFigures size (page_at size image) table it

-- these are the figures of several tables, in their order
abbrev pub AreTold : ℕ → Image → ℕ → List Table → List TableFigures → Type 0
AreTold size image holder [] [] = Unit {0}
AreTold size image holder [] (it ∷ its) = ⊥
AreTold size image holder (table ∷ tables) [] = ⊥
AreTold size image holder (table ∷ tables) (it ∷ its) =
    IsToldOne size image holder table (ones.Told it) × AreTold size image holder tables its

-- What is found of several tables first: of the first of them of which something is found.
pub record IsFoundAmong (size : ℕ) (image : Image) (holder : ℕ) (tables : List Table) (f : Finding)
    : Type 0 where
  pub before : List Table
  pub table : Table
  pub after : List Table
  pub split : before ++ table ∷ after ≡ tables
  pub figures : List TableFigures
  pub told : AreTold size image holder before figures
  pub found : IsFoundIn size image holder table f

-- of several tables
abbrev pub AreToldAll : ℕ → Image → ℕ → List Table → AllTables → Type 0
AreToldAll size image holder tables (alls.Found f) = IsFoundAmong size image holder tables f
AreToldAll size image holder tables (alls.Told its) = AreTold size image holder tables its.items

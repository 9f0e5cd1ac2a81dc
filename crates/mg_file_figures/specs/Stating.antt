-- The figures of a file, or what is found in it first.
use Rattle.std.specs.Prelude.{◌≡◌, ℕ, List, ◌∷◌, length}
use Rattle.mg_base.specs.Image.{Image, page_at}
use Rattle.mg_base.specs.declared.damage.Field.{Field}
use Rattle.mg_base.specs.declared.damage.Field.TheVariants.{Catalog}
use Rattle.mg_catalog.specs.ByKey.{by_key}
use Rattle.mg_catalog.specs.FirstBad.{IsFirstBad}
use Rattle.mg_catalog.specs.declared.fault.CatFault.TheVariants.{BadTable}
use Rattle.mg_check_catalog.specs.CatalogRung.{IsRungFinding, first_of}
use Rattle.mg_file_figures.specs.CatalogRows.{IsCatalogStop, ShowsRows}
use Rattle.mg_file_figures.specs.Tables.{AreTold, IsFoundAmong}
use Rattle.mg_file_figures.specs.declared.figures.FileFigures.{FileFigures}
use Rattle.mg_file_figures.specs.declared.stating.Stated.{Stated}
use Rattle.mg_file_figures.specs.declared.stating.Stated.TheVariants.{Found, Told}
use Rattle.mg_findings.specs.declared.finding.Finding.{Finding}
use Rattle.mg_findings.specs.declared.finding.Rule.TheVariants.{Damage}
use Rattle.mg_findings.specs.Findings.{HasNone, IsListOf}
use Rattle.mg_image.specs.Form.{Row}
use Rattle.mg_image.specs.Inventory.{state_at}
use Rattle.mg_limbo_list.specs.Limbo.{IsLimboList}
use Rattle.mg_model.specs.CatalogRules.{AreTables}
use Rattle.mg_model.specs.declared.table.Table.{Table}
use Rattle.mg_stat.specs.Figures.{AreFigures}

-- of a row of the catalog that is not lawful: told at the catalog's first pointer page, by the row's number among the rows
-- that are shown, in the order of their records
abbrev pub row_finding : ℕ → ℕ → ℕ → Finding
row_finding first at count = record {
  page = record { 0 = first };
  slot = 0;
  what = Damage Catalog;
  found = at;
  wanted = count;
}

-- The rows that the catalog of an image shows name these tables, and nothing is found on the four rungs that come before.
pub record NamesTables (size : ℕ) (image : Image) (tables : List Table) : Type 0 where
  pub none : HasNone (IsRungFinding size image)
  pub rows : List Row
  pub shows : ShowsRows size (page_at size image) rows
  pub named : AreTables (by_key rows) tables

-- These are the figures of an image: those of the file as a whole, of each table that is committed, in the order of their
-- names, and the transactions in limbo.
pub record AreFileFigures (size : ℕ) (image : Image) (it : FileFigures) : Type 0 where
  pub file : AreFigures size (page_at size image) it.file
  pub tables : List Table
  pub names : NamesTables size image tables
  pub told : AreTold size image (first_of (page_at size image)) tables it.tables.items
  pub limbo : IsLimboList (state_at size (page_at size image)) it.limbo.items

-- What is found of an image first: of the header, the inventories and the pages of the catalog the least; or else the
-- first of the catalog's records; or else its first row that is not lawful; or else what is found first of the tables, in
-- the order of their names. A link to a table's first page is told at the catalog's first page.
pub data IsFoundFirst (size : ℕ) (image : Image) (f : Finding) : Type 0 where
  in_rungs : (rest : List Finding) → IsListOf (IsRungFinding size image) (f ∷ rest)
      → IsFoundFirst size image f
  in_catalog : HasNone (IsRungFinding size image) → IsCatalogStop size (page_at size image) f
      → IsFoundFirst size image f
  in_rows : (rows : List Row) (at : ℕ) → HasNone (IsRungFinding size image)
      → ShowsRows size (page_at size image) rows → IsFirstBad rows (BadTable at)
      → f ≡ row_finding (first_of (page_at size image)) at (length rows) → IsFoundFirst size image f
  in_tables : (tables : List Table) → NamesTables size image tables
      → IsFoundAmong size image (first_of (page_at size image)) tables f → IsFoundFirst size image f

-- what is told of an image
abbrev pub IsStated : ℕ → Image → Stated → Type 0
IsStated size image (Found f) = IsFoundFirst size image f
IsStated size image (Told it) = AreFileFigures size image it

-- what is found has a field
abbrev pub HasField : Finding → Type 0
HasField f = (field : Field) × (f.what ≡ Damage field)

abbrev pub FindsDamage : Stated → Type 0
FindsDamage (Found f) = HasField f
FindsDamage (Told it) = Unit {0}

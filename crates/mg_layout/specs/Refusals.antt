-- What the refusal of a layout rules out.
use Rattle.std.specs.Prelude.{◌≡◌, ℕ, List}
use Rattle.mg_model.specs.declared.table.Index.{Index}
use Rattle.mg_model.specs.declared.table.Table.{Table}
use Rattle.mg_image.specs.Indexes.{AreTrees}
use Rattle.mg_image.specs.Tables.{EachStand, Layout, Stand}
use Rattle.mg_reading.specs.declared.image.Image.{Image}
use Rattle.mg_reading.specs.declared.point.ReadFault.{ReadFault}
use Rattle.mg_reading.specs.declared.point.ReadFault.TheVariants.{Broken, Memory}
use Rattle.mg_reading.specs.declared.point.Rule.TheVariants.{Pages as RulePages}
use Rattle.mg_reading.specs.declared.rows.RowCoding.{RowCoding}
use Rattle.mg_reading.specs.ImageView.{pages_in}
use Rattle.mg_layout.specs.HasPages.{HasPages, IsStand, NamesTables, tables_in}

-- each of these indexes of the table of an owner is a tree
abbrev pub HasTrees : Image → ℕ → List Index → Type 0
HasTrees image owner indexes = (trees : List (List (List ℕ)))
    × AreTrees image.size (pages_in image) owner indexes trees

-- a table stands somewhere
abbrev pub CanStand : Image → Table → Type 0
CanStand image table = (stand : Stand) × (stand.table ≡ table) × IsStand image stand

-- these tables stand somewhere
abbrev pub CanAllStand : Image → List Table → Type 0
CanAllStand image tables =
    (stands : List Stand) × (tables_in stands ≡ tables) × EachStand (IsStand image) stands

-- the catalog, where it stands so, names some tables
abbrev pub NamesSome : RowCoding → Image → Stand → Type 0
NamesSome coding image catalog = (tables : List Table) × NamesTables coding image catalog tables

-- an image has a layout
abbrev pub HasLayout : RowCoding → Image → Type 0
HasLayout coding image = (layout : Layout) × HasPages coding image layout

-- a fault is want of memory, or says that the rule of pages is broken
abbrev pub IsOfPages : ReadFault → Type 0
IsOfPages (Broken rule) = rule ≡ RulePages
IsOfPages Memory = Unit {0}

-- whatever is broken on the way to the tables, it is the rule of pages
abbrev pub pages_fault : ReadFault → ReadFault
pages_fault (Broken rule) = Broken RulePages
pages_fault Memory = Memory

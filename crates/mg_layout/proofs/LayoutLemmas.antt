-- What a layout that is not found rules out.
use Rattle.std.proofs.Common.{◌≡◌, sym, ◌∙◌, subst, List}
use Rattle.mg_model.specs.declared.table.Table.{Table}
use Rattle.mg_image.specs.Catalog.{catalog_table}
use Rattle.mg_image.specs.Form.{packed_coding, plain_coding}
use Rattle.mg_image.specs.Inventory.{header_of}
use Rattle.mg_image.specs.ReadingLaws.{HasOneReading}
use Rattle.mg_image.specs.Tables.{Layout, Stand}
use Rattle.mg_reading.specs.declared.image.Image.{Image}
use Rattle.mg_reading.specs.declared.rows.RowCoding.{RowCoding}
use Rattle.mg_reading.specs.ImageView.{pages_in}
use Rattle.mg_layout.specs.HasPages.{HasPages, IsStand, NamesTables, tables_in}
use Rattle.mg_layout.specs.LayoutLaws.{HasOneLayout, layout_once, names_once, same_stand}
use Rattle.mg_layout.specs.Refusals.{CanAllStand, HasLayout, NamesSome}
use Rattle.mg_layout.proofs.NamesLemmas.{one_of}

-- the catalog of a layout stands as it was found
same_catalog : (coding : RowCoding) (image : Image) (catalog : Stand) (layout : Layout)
    → catalog.table ≡ catalog_table (header_of (pages_in image)).catalog.0
    → IsStand image catalog → HasPages coding image layout → layout.catalog ≡ catalog
same_catalog coding image catalog layout is stands has =
    same_stand image.size (pages_in image) layout.catalog catalog
    has.tables.0 stands (has.catalog ∙ sym is)

-- where there is a layout, the catalog names tables
pub catalog_names : (coding : RowCoding) (image : Image) (catalog : Stand)
    → catalog.table ≡ catalog_table (header_of (pages_in image)).catalog.0
    → IsStand image catalog → HasLayout coding image → NamesSome coding image catalog
catalog_names coding image catalog is stands (layout, has) = (
  tables_in layout.tables,
  subst (λ (s : Stand). NamesTables coding image s (tables_in layout.tables))
      (same_catalog coding image catalog layout is stands has) has.names,
)

-- and these tables can stand
pub tables_stand : (coding : RowCoding) → HasOneReading plain_coding
    → HasOneReading packed_coding → (image : Image) (catalog : Stand)
    (tables : List Table)
    → catalog.table ≡ catalog_table (header_of (pages_in image)).catalog.0
    → IsStand image catalog → NamesTables coding image catalog tables → HasLayout coding image
    → CanAllStand image tables
tables_stand coding plain packed image catalog tables is stands names (layout, has) = (
  layout.tables,
  names_once coding (one_of coding plain packed) image catalog (tables_in layout.tables) tables
      (subst (λ (s : Stand). NamesTables coding image s (tables_in layout.tables))
      (same_catalog coding image catalog layout is stands has) has.names) names,
  has.tables.1,
)

-- an image has one layout
pub one_layout_of : (coding : RowCoding) → HasOneReading plain_coding
    → HasOneReading packed_coding → HasOneLayout coding
one_layout_of coding plain packed = layout_once coding (one_of coding plain packed)

use Rattle.mg_image.specs.Form.{packed_form}
use Rattle.mg_tie_laws.specs.CatalogRows.{filled_catalog_keeps}
use Rattle.mg_tie_laws.proofs.catalog.filled_catalogs_keep.Goals as goal

pub returns : goal.returns
returns g c = filled_catalog_keeps packed_form c.one_reading.ensures.packed_rows (λ page n is. is)
    g.row.D.Denot g.row.L.Denot g.D.Disk.meaning

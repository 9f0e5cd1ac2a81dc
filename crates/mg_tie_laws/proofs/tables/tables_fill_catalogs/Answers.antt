use Rattle.mg_image.specs.Form.{packed_form}
use Rattle.mg_tie_laws.specs.Ties.{tables_fill_catalogs}
use Rattle.mg_tie_laws.proofs.tables.tables_fill_catalogs.Goals as goal

pub returns : goal.returns
returns g c = tables_fill_catalogs packed_form g.row.D.Denot g.row.L.Denot

use Rattle.mg_image.specs.Form.{packed_form}
use Rattle.mg_engine_change_laws.specs.tables.TableReads.{tables_are_read}
use Rattle.mg_engine_change_laws.proofs.makings.joining.new_tables_are_read.Goals as goal

pub returns : goal.returns
returns g c = tables_are_read packed_form g.row.D.Denot g.row.L.Denot

use Rattle.mg_engine_change_laws.specs.tables_back.TablesWalksLaws.{tables_walks_go_on}
use Rattle.mg_engine_change_laws.proofs.over_tables.ways.tables_walks_go_on.Goals as goal

pub returns : goal.returns
returns c = tables_walks_go_on c.sound_images_stand_one_way.ensures c.row_walks_go_on.ensures

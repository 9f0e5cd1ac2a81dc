use Rattle.mg_engine_change_laws.specs.rows.RowWalksLaws.{row_walks_go_on}
use Rattle.mg_engine_change_laws.proofs.row_writes.walks.row_walks_go_on.Goals as goal

pub returns : goal.returns
returns c = row_walks_go_on

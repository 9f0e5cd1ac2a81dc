use Rattle.mg_demand_laws.proofs.RowLemmas.{child_row, right_row}
use Rattle.mg_demand_laws.proofs.rows.index_rows.Goals as goal

pub returns-clause-child : goal.returns-clause-child
returns-clause-child c = child_row c.orders_are_needed.ensures.ahead

pub returns-clause-right : goal.returns-clause-right
returns-clause-right c = right_row c.orders_are_needed.ensures.ahead

use Rattle.mg_demand_laws.proofs.RowLemmas.{entry_row, next_row}
use Rattle.mg_demand_laws.proofs.rows.table_rows.Goals as goal

pub returns-clause-entry : goal.returns-clause-entry
returns-clause-entry c = entry_row c.orders_are_needed.ensures.ahead

pub returns-clause-next : goal.returns-clause-next
returns-clause-next c = next_row c.orders_are_needed.ensures.ahead

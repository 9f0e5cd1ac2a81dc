use Rattle.mg_demand_laws.proofs.RowLemmas.{bits_row, catalog_row, last_tip_row, prev_tip_row}
use Rattle.mg_demand_laws.proofs.rows.number_rows.Goals as goal

pub returns-clause-last : goal.returns-clause-last
returns-clause-last c = last_tip_row c.orders_are_needed.ensures.ahead

pub returns-clause-catalog : goal.returns-clause-catalog
returns-clause-catalog c = catalog_row c.orders_are_needed.ensures.ahead

pub returns-clause-prev : goal.returns-clause-prev
returns-clause-prev c = prev_tip_row c.orders_are_needed.ensures.ahead

pub returns-clause-decided : goal.returns-clause-decided
returns-clause-decided c = bits_row c.orders_are_needed.ensures.ahead

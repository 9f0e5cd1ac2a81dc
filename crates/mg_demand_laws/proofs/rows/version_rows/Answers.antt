use Rattle.mg_demand_laws.proofs.RowLemmas.{back_row, freed_row, number_row, slot_row}
use Rattle.mg_demand_laws.proofs.rows.version_rows.Goals as goal

pub returns-clause-number : goal.returns-clause-number
returns-clause-number c = number_row c.orders_are_needed.ensures.ahead

pub returns-clause-back : goal.returns-clause-back
returns-clause-back c = back_row c.orders_are_needed.ensures.ahead

pub returns-clause-slot : goal.returns-clause-slot
returns-clause-slot c = slot_row c.orders_are_needed.ensures.ahead

pub returns-clause-freed : goal.returns-clause-freed
returns-clause-freed c = freed_row c.orders_are_needed.ensures.behind

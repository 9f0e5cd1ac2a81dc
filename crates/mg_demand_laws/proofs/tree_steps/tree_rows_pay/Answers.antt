use Rattle.mg_demand_laws.specs.RowTies.{tree_rows_pay as pays}
use Rattle.mg_demand_laws.proofs.tree_steps.tree_rows_pay.Goals as goal

pub returns : goal.returns
returns c = pays

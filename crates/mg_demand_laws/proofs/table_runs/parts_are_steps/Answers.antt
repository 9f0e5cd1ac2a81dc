use Rattle.mg_space.specs.declared.links.FireLinks.{FireLinks}
use Rattle.mg_demand_laws.specs.Known.{parts_are_steps, table_is_known}
use Rattle.mg_demand_laws.proofs.table_runs.parts_are_steps.Goals as goal

pub returns-clause-known : goal.returns-clause-known
returns-clause-known g c = table_is_known g.row.D.Denot FireLinks

pub returns-clause-steps : goal.returns-clause-steps
returns-clause-steps g c = parts_are_steps g.row.D.Denot FireLinks

use Rattle.mg_demand_laws.specs.TableTies.{tables_are_wanted as wanted}
use Rattle.mg_demand_laws.proofs.ties.tables_are_wanted.Goals as goal

pub returns : goal.returns
returns c = wanted

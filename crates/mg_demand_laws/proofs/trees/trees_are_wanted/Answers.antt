use Rattle.mg_demand_laws.specs.WholeTrees.{trees_are_wanted as are_wanted}
use Rattle.mg_demand_laws.proofs.trees.trees_are_wanted.Goals as goal

pub returns : goal.returns
returns c = are_wanted

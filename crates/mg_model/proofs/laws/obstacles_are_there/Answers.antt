use Rattle.mg_model.specs.ObstacleLaws.{obstacle_is, no_obstacle_is}
use Rattle.mg_model.proofs.laws.obstacles_are_there.Goals as goal

pub returns-clause-found : goal.returns-clause-found
returns-clause-found c = obstacle_is

pub returns-clause-none : goal.returns-clause-none
returns-clause-none c = no_obstacle_is

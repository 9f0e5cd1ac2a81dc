use Rattle.mg_taking_back.specs.TakingLaws.{comes_to_end, gives_on}
use Rattle.mg_taking_back.proofs.laws.steps_come_to_an_end.Goals as goal

pub returns-clause-go : goal.returns-clause-go
returns-clause-go c = gives_on

pub returns-clause-end : goal.returns-clause-end
returns-clause-end c = comes_to_end

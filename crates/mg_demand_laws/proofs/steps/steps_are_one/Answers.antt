use Rattle.mg_demand_laws.proofs.steps.steps_are_one.Goals as goal
use Rattle.mg_demand_laws.specs.WantingLaws.{two_pay}

pub returns : goal.returns
returns c = λ size old mid new orders settled on_disk wanted more most first second.
    two_pay size old mid new orders settled on_disk wanted more most first second

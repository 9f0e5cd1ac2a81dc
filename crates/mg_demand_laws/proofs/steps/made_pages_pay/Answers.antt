use Rattle.mg_demand_laws.proofs.steps.made_pages_pay.Goals as goal
use Rattle.mg_demand_laws.specs.TakeLaws.{make_pays}

pub returns : goal.returns
returns c = λ size old new n orders settled on_disk wanted more was makes.
    make_pays size old new n orders settled on_disk wanted more was makes

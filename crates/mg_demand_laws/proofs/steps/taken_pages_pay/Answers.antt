use Rattle.mg_demand_laws.proofs.steps.taken_pages_pay.Goals as goal
use Rattle.mg_demand_laws.specs.TakeLaws.{take_pays, taken_is_unwanted}

pub returns : goal.returns
returns c = λ g old new n orders settled on_disk wanted lawful takes was. (
  take_pays g old new n orders settled on_disk wanted lawful takes was,
  λ d h. taken_is_unwanted g old new n orders settled on_disk wanted lawful takes was d h,
)

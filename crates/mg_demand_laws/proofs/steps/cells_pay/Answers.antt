use Rattle.mg_demand_laws.proofs.steps.cells_pay.Goals as goal
use Rattle.mg_demand_laws.specs.CellLaws.{cell_pays}
use Rattle.mg_demand_laws.specs.FreeLaws.{free_drops}

pub returns-clause-put : goal.returns-clause-put
returns-clause-put c = λ size old new x slot cell of orders settled on_disk wanted sets keeps is_cell was owes.
    cell_pays size old new x slot cell of orders settled on_disk wanted sets keeps is_cell was owes

pub returns-clause-freed : goal.returns-clause-freed
returns-clause-freed c = λ size old new x slot t orders settled wanted frees was.
    free_drops size old new x slot t orders settled wanted frees was

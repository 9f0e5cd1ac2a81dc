use Rattle.mg_image.specs.Form.{packed_form}
use Rattle.mg_engine_step_laws.specs.commits.DrawnLists.{draws_keep_list}
use Rattle.mg_engine_step_laws.specs.commits.ListShows.{lists_stay}
use Rattle.mg_engine_step_laws.proofs.commits.lists_go_on.Goals as goal

pub returns-clause-stay : goal.returns-clause-stay
returns-clause-stay g c = lists_stay

pub returns-clause-drawn : goal.returns-clause-drawn
returns-clause-drawn g c = draws_keep_list g.row.D.Denot g.row.L.Denot g.D.Disk.meaning packed_form
    c.one_reading.ensures.packed_rows (λ page n is. is)

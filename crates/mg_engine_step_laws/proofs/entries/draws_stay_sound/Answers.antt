use Rattle.mg_image.specs.Form.{packed_form}
use Rattle.mg_engine_step_laws.specs.commits.BeginLaws.{draws_stay_sound}
use Rattle.mg_engine_step_laws.proofs.entries.draws_stay_sound.Goals as goal

pub returns : goal.returns
returns g c = draws_stay_sound g.row.D.Denot g.row.L.Denot g.D.Disk.meaning packed_form
    c.one_reading.ensures.packed_rows (λ page n is. is)

use Rattle.std.proofs.Common.{refl}
use Rattle.mg_image.specs.Form.{packed_form}
use Rattle.mg_engine_step_laws.specs.writes.OwnLaws.{replacements_go_on}
use Rattle.mg_engine_step_laws.proofs.writes.replacements_go_on.Goals as goal

pub returns : goal.returns
returns g c = replacements_go_on packed_form g.row.D.Denot g.row.L.Denot g.D.Disk.meaning
    c.one_reading.ensures.packed_rows (λ page n is. is) refl c.histories_go_on.ensures.begins
    c.writes_go_on.ensures

use Rattle.mg_image.specs.Form.{packed_form}
use Rattle.mg_lasting_laws.specs.ChangingLaws.{changes_last, quiet_holds}
use Rattle.mg_lasting_laws.specs.StepLaws.{begins_first}
use Rattle.mg_engine_step_laws.specs.standing.QuietLaws.{begin_shows}
use Rattle.mg_tie_laws.specs.DrawTies.{draw_row_keeps}
use Rattle.mg_engine_step_laws.specs.writes.BatchLaws.{batches_last}
use Rattle.mg_engine_step_laws.specs.commits.BeginLaws.{begins_go_on}
use Rattle.mg_engine_step_laws.proofs.entries.begins_go_on.Goals as goal

pub returns : goal.returns
returns g c = begins_go_on g.row.D.Denot g.row.L.Denot g.D.Disk.meaning packed_form
    c.one_reading.ensures.packed_rows (λ page n is. is) c.histories_go_on.ensures.begins
    (begins_first packed_form) (draw_row_keeps packed_form (λ page n is. is) g.row.D.Denot g.row.L.Denot
    g.D.Disk.meaning) (batches_last g.row.D.Denot g.row.L.Denot g.D.Disk.meaning packed_form
    (changes_last g.row.D.Denot g.row.L.Denot g.D.Disk.meaning g.met.D.Disk.counts_now g.met.D.Disk.holds
    packed_form)) (quiet_holds packed_form) (begin_shows packed_form) c.standings_go_on.ensures

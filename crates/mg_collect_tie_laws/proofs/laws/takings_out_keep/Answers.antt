use Rattle.std.proofs.Common.{refl}
use Rattle.mg_image.specs.Form.{packed_form}
use Rattle.mg_collect_tie_laws.specs.TakeTies.{dead_keeps, erase_keeps}
use Rattle.mg_collect_tie_laws.proofs.laws.takings_out_keep.Goals as goal

pub returns-clause-dead : goal.returns-clause-dead
returns-clause-dead g c = dead_keeps packed_form c.one_reading.ensures.packed_rows (λ page n is. is) refl g.row.D.Denot
    g.row.L.Denot g.D.Disk.meaning

pub returns-clause-erased : goal.returns-clause-erased
returns-clause-erased g c = erase_keeps packed_form (λ page n is. is) refl g.row.D.Denot g.row.L.Denot g.D.Disk.meaning

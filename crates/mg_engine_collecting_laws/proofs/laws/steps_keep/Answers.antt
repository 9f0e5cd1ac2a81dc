use Rattle.std.proofs.Common.{refl}
use Rattle.mg_image.specs.Form.{packed_form}
use Rattle.mg_engine_collecting_laws.specs.StepKeeps.{step_keeps}
use Rattle.mg_engine_collecting_laws.proofs.laws.steps_keep.Goals as goal

pub returns : goal.returns
returns g c = step_keeps packed_form c.one_reading.ensures.packed_rows (λ page n is. is) refl g.row.D.Denot
    g.D.Disk.meaning

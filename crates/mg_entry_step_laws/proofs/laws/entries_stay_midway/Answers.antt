use Rattle.mg_image.specs.Form.{packed_form}
use Rattle.mg_entry_step_laws.specs.EntryMidwayLaws as laws
use Rattle.mg_entry_step_laws.proofs.laws.entries_stay_midway.Goals as goal

pub returns : goal.returns
returns g c = laws.entries_stay_midway packed_form c.insertions_lay.ensures.lay c.insertions_lay.ensures.keep
    c.insertions_lay.ensures.indexes c.entry_batches_keep.ensures.show g.row.D.Denot g.row.L.Denot g.D.Disk.meaning
    c.batches_last.ensures.still

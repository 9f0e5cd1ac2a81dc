use Rattle.mg_image.specs.Form.{packed_form}
use Rattle.mg_space.specs.declared.links.FireLinks.{FireLinks}
use Rattle.mg_entry_step_laws.specs.EntryStaysLaws as laws
use Rattle.mg_entry_step_laws.proofs.laws.entries_stay.Goals as goal

pub returns : goal.returns
returns g c = laws.entries_stay packed_form c.histories_go_on.ensures.begins c.insertions_lay.ensures.lay
    c.insertions_lay.ensures.keep c.insertions_lay.ensures.indexes c.entry_batches_keep.ensures.show _ FireLinks
    g.D.Disk.meaning c.batches_last.ensures.still

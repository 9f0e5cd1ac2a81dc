use Rattle.mg_image.specs.Form.{packed_form}
use Rattle.mg_entry_overlay_laws.specs.EnteredLaws.{entries_show}
use Rattle.mg_entry_overlay_laws.specs.EntriesKeptLaws.{entries_keep}
use Rattle.mg_entry_overlay_laws.proofs.laws.entry_batches_keep.Goals as goal

pub returns-clause-keep : goal.returns-clause-keep
returns-clause-keep c = entries_keep packed_form (λ page n is. is)

pub returns-clause-show : goal.returns-clause-show
returns-clause-show c = entries_show packed_form (λ page n is. is)

use Rattle.mg_image.specs.Form.{packed_form}
use Rattle.mg_entry_tie_laws.specs.LayLaws as laws
use Rattle.mg_entry_tie_laws.proofs.laws.insertions_lay.Goals as goal

pub returns-clause-lay : goal.returns-clause-lay
returns-clause-lay c = laws.insertions_lay packed_form

pub returns-clause-keep : goal.returns-clause-keep
returns-clause-keep c = laws.insertions_keep packed_form (λ page n is. is)

pub returns-clause-indexes : goal.returns-clause-indexes
returns-clause-indexes c = laws.tables_have_indexes packed_form

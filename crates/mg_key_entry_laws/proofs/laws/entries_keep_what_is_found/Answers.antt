use Rattle.mg_image.specs.Form.{packed_form}
use Rattle.mg_key_entry_laws.specs.KeptEntriesLaws.{entries_keep_found}
use Rattle.mg_key_entry_laws.proofs.laws.entries_keep_what_is_found.Goals as goal

pub returns : goal.returns
returns c = λ size state pool changed a r entries now live found.
    entries_keep_found packed_form size state pool changed a r entries now live found

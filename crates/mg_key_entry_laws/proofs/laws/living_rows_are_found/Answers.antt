use Rattle.mg_image.specs.Form.{packed_form}
use Rattle.mg_key_entry_laws.specs.LivingRowLaws as laws
use Rattle.mg_key_entry_laws.proofs.laws.living_rows_are_found.Goals as goal

pub returns : goal.returns
returns c = laws.living_rows_are_found packed_form

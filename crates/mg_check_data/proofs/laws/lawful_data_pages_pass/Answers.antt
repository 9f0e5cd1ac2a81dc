use Rattle.mg_check_data.proofs.DataLemmas.{data_law}
use Rattle.mg_check_data.proofs.laws.lawful_data_pages_pass.Goals as goal

pub returns : goal.returns
returns c = data_law

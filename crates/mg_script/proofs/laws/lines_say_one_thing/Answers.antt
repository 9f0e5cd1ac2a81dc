use Rattle.mg_script.proofs.FormLemmas.{one_form}
use Rattle.mg_script.proofs.laws.lines_say_one_thing.Goals as goal

pub returns : goal.returns
returns c = one_form

use Rattle.mg_check_pages.proofs.UndrawnLemmas.{undrawn_law}
use Rattle.mg_check_pages.proofs.laws.undrawn_numbers_pass.Goals as goal

pub returns : goal.returns
returns c = undrawn_law

use Rattle.mg_undo.proofs.Given.{gives_first_changes}
use Rattle.mg_undo.proofs.laws.taking_back_gives_first_changes.Goals as goal

pub returns : goal.returns
returns c = gives_first_changes

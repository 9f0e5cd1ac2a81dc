use Rattle.mg_undo.proofs.MachineLemmas.{gives_what_was}
use Rattle.mg_undo.proofs.laws.what_was_is_given.Goals as goal

pub returns : goal.returns
returns c = gives_what_was

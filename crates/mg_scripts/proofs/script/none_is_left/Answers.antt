use Rattle.std.proofs.Common.{◌∙◌, arith}
use Rattle.std.specs.Prelude.{vec_len}
use Rattle.mg_scripts.proofs.EndLemmas.{none_by_length}
use Rattle.mg_scripts.proofs.script.none_is_left.Goals as goal

pub returns : goal.returns
returns g c = c.is_empty.ensures ∙ none_by_length c.args.pending.now.items (vec_len c.args.pending.now) (omega arith)

use Rattle.std.proofs.Common.{◌∙◌}
use Rattle.mg_plan.proofs.TypeLemmas.{column_sort_get}
use Rattle.mg_plan.proofs.typing.type_at.Goals as goal

pub returns : goal.returns
returns c = c.type_found.ensures ∙ column_sort_get c.args.columns.now c.args.place

use Rattle.mg_no_damage_laws.proofs.OrderLemmas.{walks_ascend}
use Rattle.mg_no_damage_laws.proofs.reads.walks_ascend.Goals as goal

pub returns : goal.returns
returns c = walks_ascend c.tables_of_layouts_are_walked.ensures

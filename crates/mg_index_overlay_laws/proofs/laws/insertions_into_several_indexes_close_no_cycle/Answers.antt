use Rattle.mg_index_overlay_laws.specs.OrderLaws.{insertions_begin_beside, insertions_close_no_cycle}
use Rattle.mg_index_overlay_laws.proofs.laws.insertions_into_several_indexes_close_no_cycle.Goals as goal

pub returns-clause-begins : goal.returns-clause-begins
returns-clause-begins c = insertions_begin_beside

pub returns-clause-no_cycle : goal.returns-clause-no_cycle
returns-clause-no_cycle c = insertions_close_no_cycle

use Rattle.mg_index_overlay_laws.specs.PutLaws.{changes_are_of, insertions_change, others_beside, removals_change}
use Rattle.mg_index_overlay_laws.proofs.laws.batches_change_each_index.Goals as goal

pub returns-clause-insertions : goal.returns-clause-insertions
returns-clause-insertions c = insertions_change

pub returns-clause-removals : goal.returns-clause-removals
returns-clause-removals c = removals_change

pub returns-clause-beside : goal.returns-clause-beside
returns-clause-beside c = others_beside

pub returns-clause-of : goal.returns-clause-of
returns-clause-of c = changes_are_of

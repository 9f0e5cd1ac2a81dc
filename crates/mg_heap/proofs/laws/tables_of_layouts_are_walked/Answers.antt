use Rattle.mg_heap.proofs.StandLemmas.{stands_are_tables}
use Rattle.mg_heap.proofs.laws.tables_of_layouts_are_walked.Goals as goal

pub returns : goal.returns
returns c = stands_are_tables

use Rattle.mg_index_overlay_laws.specs.IndexLaws.{batches_keep, overlays_have_trees, writes_keep}
use Rattle.mg_index_overlay_laws.proofs.laws.every_overlay_has_its_indexes.Goals as goal

pub returns-clause-writes : goal.returns-clause-writes
returns-clause-writes c = writes_keep

pub returns-clause-batches : goal.returns-clause-batches
returns-clause-batches c = batches_keep

pub returns-clause-trees : goal.returns-clause-trees
returns-clause-trees c = overlays_have_trees

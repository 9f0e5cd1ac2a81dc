use Rattle.mg_tree_overlay_laws.specs.BatchLaws.{batch_kept}
use Rattle.mg_tree_overlay_laws.specs.EveryTreeLaws.{batches_keep_trees}
use Rattle.mg_tree_overlay_laws.proofs.laws.batches_keep_trees.Goals as goal

pub returns-clause-overlays : goal.returns-clause-overlays
returns-clause-overlays c = λ size owner root old new gone batch orders change levels ends changes row every.
    batches_keep_trees size owner root old new gone batch orders change levels ends changes row every

pub returns-clause-image : goal.returns-clause-image
returns-clause-image c = λ size owner root batch orders change pool changed levels ends set_ image row lays tree
    kept. batch_kept size owner root batch orders change pool changed levels ends set_ image row lays tree kept

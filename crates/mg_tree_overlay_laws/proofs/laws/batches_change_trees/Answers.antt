use Rattle.mg_tree_overlay_laws.specs.DescentLaws.{removed_is_gone}
use Rattle.mg_tree_overlay_laws.specs.FoundLaws.{found_in_leaves, leaves_found}
use Rattle.mg_tree_overlay_laws.specs.KeptLaws.{leaf_found}
use Rattle.mg_tree_overlay_laws.specs.PoolLaws.{pool_changed}
use Rattle.mg_tree_overlay_laws.proofs.laws.batches_change_trees.Goals as goal

pub returns-clause-changes : goal.returns-clause-changes
returns-clause-changes c = λ size owner root batch orders change pool changed levels ends row tree.
    pool_changed size owner root batch orders change pool changed levels ends row tree

pub returns-clause-found : goal.returns-clause-found
returns-clause-found c = λ size owner root pages levels e tree. (
  λ finds. found_in_leaves size pages owner root levels e tree finds,
  λ on. leaves_found size pages owner root levels e tree on,
)

pub returns-clause-added : goal.returns-clause-added
returns-clause-added c = λ size owner root pages levels n e tree placed leaf has.
    leaf_found size pages owner root levels n e tree placed leaf has

pub returns-clause-removed : goal.returns-clause-removed
returns-clause-removed c = λ size owner root pool changed levels n e tree placed leaf has is gone found.
    removed_is_gone size owner root pool changed levels n e tree placed leaf has is gone found

use Rattle.mg_tree_overlay_laws.specs.EveryTreeLaws.{trees_start, writes_keep_trees}
use Rattle.mg_tree_overlay_laws.proofs.laws.trees_start_and_stay.Goals as goal

pub returns-clause-start : goal.returns-clause-start
returns-clause-start c = λ size owner root cache levels none clean tree.
    trees_start size owner root cache levels none clean tree

pub returns-clause-writes : goal.returns-clause-writes
returns-clause-writes c = λ size owner root old new gone levels writes every.
    writes_keep_trees size owner root old new gone levels writes every

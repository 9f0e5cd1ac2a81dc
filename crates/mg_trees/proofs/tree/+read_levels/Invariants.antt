use Rattle.mg_trees.proofs.tree.+read_levels.Given as goal

abbrev pub decreases-read_levels : goal.decreases-read_levels
decreases-read_levels l = l.level

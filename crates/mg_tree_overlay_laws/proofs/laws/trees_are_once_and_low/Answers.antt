use Rattle.mg_tree_overlay_laws.specs.TreeHeightLaws.{trees_are_low}
use Rattle.mg_tree_overlay_laws.specs.TreeOnceLaws.{tree_once}
use Rattle.mg_tree_overlay_laws.proofs.laws.trees_are_once_and_low.Goals as goal

pub returns-clause-once : goal.returns-clause-once
returns-clause-once c = tree_once

pub returns-clause-low : goal.returns-clause-low
returns-clause-low c = trees_are_low

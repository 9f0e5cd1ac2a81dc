use Rattle.mg_tree_overlay_laws.specs.SearchLaws.{covers_below, covers_parent, leaf_has_found}
use Rattle.mg_tree_overlay_laws.proofs.laws.covering_pages.Goals as goal

pub returns-clause-parent : goal.returns-clause-parent
returns-clause-parent c = λ size owner root pages levels e p n tree has_p has_n up of_p of_n.
    covers_parent size owner root pages levels e p n tree has_p has_n up of_p of_n

pub returns-clause-fences : goal.returns-clause-fences
returns-clause-fences c = λ size owner root pages levels e f p n tree has_p has_n up of_p of_n wanted.
    covers_below size owner root pages levels e f p n tree has_p has_n up of_p of_n wanted

pub returns-clause-leaf : goal.returns-clause-leaf
returns-clause-leaf c = λ size owner root pages levels n e tree placed leaf of_n found.
    leaf_has_found size owner root pages levels n e tree placed leaf of_n found

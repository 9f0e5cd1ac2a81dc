-- The indexes of a table have one list of trees at most.
use Rattle.std.proofs.Common.{◌≡◌, refl, ℕ, List, [], ◌∷◌}
use Rattle.mg_model.specs.declared.table.Index.{Index}
use Rattle.mg_image.specs.Form.{Pages}
use Rattle.mg_image.specs.Indexes.{AreTrees}
use Rattle.mg_trees.specs.TreeLaws.{tree_once}

pub trees_once : (size : ℕ) (pages : Pages) (owner : ℕ) (indexes : List Index)
    (a b : List (List (List ℕ))) → AreTrees size pages owner indexes a
    → AreTrees size pages owner indexes b → a ≡ b
trees_once size pages owner [] [] [] first other = refl
trees_once size pages owner [] (l ∷ a) b first other = absurd first
trees_once size pages owner [] [] (l ∷ b) first other = absurd other
trees_once size pages owner (i ∷ is) [] b first other = absurd first
trees_once size pages owner (i ∷ is) (l ∷ a) [] first other = absurd other
trees_once size pages owner (i ∷ is) (l ∷ a) (m ∷ b) first other =
    let here : l ≡ m = tree_once size pages owner i.root.0 l m first.0 other.0 in
    let rest : a ≡ b = trees_once size pages owner is a b first.1 other.1 in λ k. here k ∷ rest k

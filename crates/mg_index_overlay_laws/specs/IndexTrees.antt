-- The trees of the indexes of tables, in an image and in every overlay of a cache.
use Rattle.std.specs.Prelude.{ℕ, List, [], ◌∷◌, ◌++◌}
use Rattle.mg_careful.specs.CarefulWrite.{Cache}
use Rattle.mg_model.specs.declared.table.Index.{Index}
use Rattle.mg_image.specs.Form.{Pages}
use Rattle.mg_image.specs.Indexes.{IsTree}
use Rattle.mg_image.specs.Tables.{Stand}
use Rattle.mg_tree_overlay_laws.specs.TreeSteps.{InTree}
use Rattle.mg_tree_overlay_laws.specs.TreesBehind.{EveryTree}
use Rattle.mg_btree.specs.Changing.{HasNoInventory}

-- each of a list has a property
abbrev pub Each : {A : Type 0} → (A → Type 0) → List A → Type 0
Each P [] = Unit {0}
Each P (x ∷ xs) = P x × Each P xs

-- An index of a table, with the levels of its tree.
pub record IndexTree : Type 0 where
  -- the first pointer page of the table
  pub owner : ℕ
  pub root : ℕ
  pub levels : List (List ℕ)

-- the indexes of a table, with the levels of their trees
abbrev pub trees_of : ℕ → List Index → List (List (List ℕ)) → List IndexTree
trees_of owner [] trees = []
trees_of owner (index ∷ indexes) [] = []
trees_of owner (index ∷ indexes) (levels ∷ trees) =
    record { owner = owner; root = index.root.0; levels = levels } ∷ trees_of owner indexes trees

abbrev pub trees_at : Stand → List IndexTree
trees_at stand = trees_of stand.table.pointer.0 stand.table.indexes stand.trees

-- the indexes of all tables
abbrev pub trees_in : List Stand → List IndexTree
trees_in [] = []
trees_in (stand ∷ stands) = trees_at stand ++ trees_in stands

-- the tree of an index stands in an image
abbrev pub IsIndexTree : ℕ → Pages → IndexTree → Type 0
IsIndexTree size pages t = IsTree size pages t.owner t.root t.levels

-- two indexes share no page
abbrev pub SharesNone : IndexTree → IndexTree → Type 0
SharesNone t u = (n : ℕ) → InTree t.levels n → InTree u.levels n → ⊥

-- no two of these indexes do
abbrev pub AreApart : List IndexTree → Type 0
AreApart [] = Unit {0}
AreApart (t ∷ ts) = Each (SharesNone t) ts × AreApart ts

-- The trees of these indexes stand in an image. No two share a page, and none has a page of the page
-- inventory.
pub record AreIndexes (size : ℕ) (pages : Pages) (trees : List IndexTree) : Type 0 where
  pub each : Each (IsIndexTree size pages) trees
  pub apart : AreApart trees
  pub no_inventory : Each (λ t. HasNoInventory size t.levels) trees

-- each of these indexes has its tree in every overlay of a cache
abbrev pub EveryIndex : ℕ → Cache → List IndexTree → Type 0
EveryIndex size cache trees = Each (λ t. EveryTree size t.owner t.root cache t.levels) trees

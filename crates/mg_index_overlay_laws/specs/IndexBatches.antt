-- What a batch does to the indexes of tables.
use Rattle.std.specs.Prelude.{◌≡◌, ◌⊎◌, ℕ, List, [], ◌∷◌, Option, None, map}
use Rattle.mg_base.specs.declared.numbers.RecId.{RecId}
use Rattle.mg_careful.specs.Precedence.{Orders}
use Rattle.mg_model.specs.declared.table.Index.{Index}
use Rattle.mg_image.specs.Form.{Pages, Row}
use Rattle.mg_image.specs.Indexes.{index_entry}
use Rattle.mg_tree_overlay_laws.specs.TreeBatches.{Add, ChangesTree, EntryChange, IsLeft, Remove, Stay}
use Rattle.mg_index_overlay_laws.specs.IndexTrees.{Each, IndexTree}

-- What becomes of an index: of its tree, and of its entries.
pub record TreeChange : Type 0 where
  pub owner : ℕ
  pub root : ℕ
  pub change : EntryChange
  pub levels : List (List ℕ)
  pub ends : List (List ℕ)

-- the index before, and after
abbrev pub was_tree : TreeChange → IndexTree
was_tree c = record { owner = c.owner; root = c.root; levels = c.levels }

abbrev pub now_tree : TreeChange → IndexTree
now_tree c = record { owner = c.owner; root = c.root; levels = c.ends }

-- an index changes, or stays
abbrev pub changes_to : EntryChange → List (List ℕ) → IndexTree → TreeChange
changes_to change ends t = record {
  owner = t.owner;
  root = t.root;
  change = change;
  levels = t.levels;
  ends = ends;
}

abbrev pub stays_as : IndexTree → TreeChange
stays_as t = changes_to Stay t.levels t

-- one index changes, those before and behind it stay
abbrev pub one_changes : EntryChange → List (List ℕ) → List IndexTree → IndexTree → List IndexTree
    → List TreeChange
one_changes change ends [] t back = changes_to change ends t ∷ map stays_as back
one_changes change ends (u ∷ front) t back = stays_as u ∷ one_changes change ends front t back

-- a batch changes each of these indexes by a row of steps
abbrev pub ChangesIndexes : ℕ → (ℕ → Option (List ℕ)) → Orders → Pages → Pages → List TreeChange
    → Type 0
ChangesIndexes size batch orders pool last changes =
    Each (λ c. ChangesTree size c.owner c.root batch orders c.change pool c.levels last c.ends) changes

-- a batch puts each page that changes
abbrev pub PutsChanges : (ℕ → Option (List ℕ)) → Pages → Pages → Type 0
PutsChanges batch old new = (n : ℕ) → batch n ≡ None → new n ≡ old n

-- ---- one change after another

-- an entry is added or removed by one of two changes, not by both
abbrev pub one_of : EntryChange → EntryChange → EntryChange
one_of Stay second = second
one_of (Add e) second = Add e
one_of (Remove e) second = Remove e

-- a change goes on from another one of the same index, and one of them leaves the entries
abbrev pub Follows : TreeChange → TreeChange → Type 0
Follows c d = (d.owner ≡ c.owner) × (d.root ≡ c.root) × (d.levels ≡ c.ends)
    × ((c.change ≡ Stay) ⊎ (d.change ≡ Stay))

abbrev pub AreFollowed : List TreeChange → List TreeChange → Type 0
AreFollowed [] [] = Unit {0}
AreFollowed [] (d ∷ ds) = ⊥
AreFollowed (c ∷ cs) [] = ⊥
AreFollowed (c ∷ cs) (d ∷ ds) = Follows c d × AreFollowed cs ds

-- two changes as one
abbrev pub joined : TreeChange → TreeChange → TreeChange
joined c d = record {
  owner = c.owner;
  root = c.root;
  change = one_of c.change d.change;
  levels = c.levels;
  ends = d.ends;
}

abbrev pub joined_all : List TreeChange → List TreeChange → List TreeChange
joined_all [] ds = []
joined_all (c ∷ cs) [] = []
joined_all (c ∷ cs) (d ∷ ds) = joined c d ∷ joined_all cs ds

-- ---- what is found

-- these changes are those of a table's indexes, and leave the entries of a record's row
abbrev pub LeaveRow : List Index → RecId → Row → List TreeChange → Type 0
LeaveRow [] p row changes = Unit {0}
LeaveRow (index ∷ indexes) p row [] = ⊥
LeaveRow (index ∷ indexes) p row (c ∷ cs) = (c.root ≡ index.root.0)
    × IsLeft c.change (index_entry index p row) × LeaveRow indexes p row cs

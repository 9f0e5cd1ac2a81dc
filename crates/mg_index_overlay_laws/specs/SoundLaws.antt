-- The indexes of a sound image: their trees stand, share no page, and have none of the page inventory.
use Rattle.std.proofs.Common.{◌≡◌, inl, inr, ◌∙◌, ap, sym, subst, arith, ◌<◌, ◌/◌, ℕ, Bool, List, [], ◌∷◌, ◌++◌}
use Rattle.std.specs.List.{flat_map}
use Rattle.mg_base.specs.Checks.{common_checks}
use Rattle.mg_base.specs.Fields.{byte}
use Rattle.mg_base.specs.declared.geometry.TheConstants.{GREATEST_LIMIT}
use Rattle.mg_model.specs.declared.table.Index.{Index}
use Rattle.mg_image.specs.Form.{Form, Pages}
use Rattle.mg_image.specs.Indexes.{AreNodes, AreTrees, IsNode, first_level}
use Rattle.mg_image.specs.Inventory.{inventory_page}
use Rattle.mg_image.specs.Reached.{tips_of}
use Rattle.mg_image.specs.Sound.{HasInventory, HasRegion, HasTablePages}
use Rattle.mg_image.specs.Tables.{EachStand, Has, IsOnce, Stand, pages_of, stands_of, tree_pages}
use Rattle.mg_image_overlay_laws.specs.pages.DataPages.{all_passes, byte_blank, kind_of}
use Rattle.mg_image_overlay_laws.specs.pages.Growth.{has_back, has_front}
use Rattle.mg_tree_overlay_laws.specs.TreePages.{all_of}
use Rattle.mg_pip.specs.PipPage.{bits}
use Rattle.mg_tree_overlay_laws.specs.StepLaws.{each_has}
use Rattle.mg_tree_overlay_laws.specs.TreeSteps.{InTree}
use Rattle.mg_btree.specs.Changing.{HasNoInventory}
use Rattle.mg_index_overlay_laws.specs.IndexTrees.{AreApart, Each, IndexTree, IsIndexTree, SharesNone, trees_at, trees_in, trees_of}
use Rattle.mg_index_overlay_laws.specs.IndexLaws.{each_start, placed_has}
use Rattle.mg_index_overlay_laws.specs.Laws.{IndexesStart, SoundHasIndexes}

pub each_append : {A : Type 0} (P : A → Type 0) (xs ys : List A) → Each P xs → Each P ys
    → Each P (xs ++ ys)
each_append P [] ys left right = right
each_append P (x ∷ xs) ys left right = (left.0, each_append P xs ys left.1 right)

pub each_map : {A : Type 0} (P Q : A → Type 0) (xs : List A) → ((x : A) → P x → Q x) → Each P xs
    → Each Q xs
each_map P Q [] makes each = tt
each_map P Q (x ∷ xs) makes each = (makes x each.0, each_map P Q xs makes each.1)

-- ---- lists of pages without a repetition

once_front : (ms ns : List ℕ) → IsOnce (ms ++ ns) → IsOnce ms
once_front [] ns once = tt
once_front (m ∷ ms) ns once =
    ((λ has. once.0 (has_front ms ns m has)), once_front ms ns once.1)

once_back : (ms ns : List ℕ) → IsOnce (ms ++ ns) → IsOnce ns
once_back [] ns once = once
once_back (m ∷ ms) ns once = once_back ms ns once.1

once_apart : (ms ns : List ℕ) → IsOnce (ms ++ ns) → (n : ℕ) → Has ms n → Has ns n → ⊥
once_apart [] ns once n left right = left
once_apart (m ∷ ms) ns once n (inl same) right =
    once.0 (has_back ms ns m (subst (Has ns) same right))
once_apart (m ∷ ms) ns once n (inr left) right = once_apart ms ns once.1 n left right

-- ---- the indexes of a table, and of all

module _ (size : ℕ) (pages : Pages) (owner : ℕ) where
  stand_each : (indexes : List Index) (trees : List (List (List ℕ)))
      → AreTrees size pages owner indexes trees
      → Each (IsIndexTree size pages) (trees_of owner indexes trees)
  stand_each [] trees are = tt
  stand_each (index ∷ indexes) [] are = tt
  stand_each (index ∷ indexes) (levels ∷ trees) are = (are.0, stand_each indexes trees are.1)

  -- each page of them is one of a list
  stand_within : (indexes : List Index) (trees : List (List (List ℕ))) (all : List ℕ)
      → ((n : ℕ) → Has (tree_pages trees) n → Has all n)
      → Each (λ t. (n : ℕ) → InTree t.levels n → Has all n) (trees_of owner indexes trees)
  stand_within [] trees all within = tt
  stand_within (index ∷ indexes) [] all within = tt
  stand_within (index ∷ indexes) (levels ∷ trees) all within = (
    (λ n has. within n (has_front (all_of levels) (tree_pages trees) n (placed_has levels n has))),
    stand_within indexes trees all (λ n has. within n (has_back (all_of levels) (tree_pages trees) n has)),
  )

  stand_apart : (indexes : List Index) (trees : List (List (List ℕ))) → IsOnce (tree_pages trees)
      → AreApart (trees_of owner indexes trees)
  stand_apart [] trees once = tt
  stand_apart (index ∷ indexes) [] once = tt
  stand_apart (index ∷ indexes) (levels ∷ trees) once = (
    each_map (λ u. (n : ℕ) → InTree u.levels n → Has (tree_pages trees) n)
        (SharesNone (record { owner = owner; root = index.root.0; levels = levels }))
        (trees_of owner indexes trees)
        (λ u within n here there. once_apart (all_of levels) (tree_pages trees) once n
        (placed_has levels n here) (within n there))
        (stand_within indexes trees (tree_pages trees) (λ n has. has)),
    stand_apart indexes trees (once_back (all_of levels) (tree_pages trees) once),
  )

tree_in_stand : (stand : Stand) (n : ℕ) → Has (tree_pages stand.trees) n → Has (pages_of stand) n
tree_in_stand stand n has =
    has_back (stand.pointers ++ stand.data_pages) (tree_pages stand.trees) n has

all_each : (in_primary : Bool) (size : ℕ) (pages : Pages) (stands : List Stand)
    → EachStand (HasTablePages in_primary size pages) stands
    → Each (IsIndexTree size pages) (trees_in stands)
all_each in_primary size pages [] has_ = tt
all_each in_primary size pages (s ∷ ss) has_ =
    each_append (IsIndexTree size pages) (trees_at s) (trees_in ss)
    (stand_each size pages s.table.pointer.0 s.table.indexes s.trees has_.0.trees)
    (all_each in_primary size pages ss has_.1)

all_within : (size : ℕ) (pages : Pages) (stands : List Stand)
    → Each (λ t. (n : ℕ) → InTree t.levels n → Has (flat_map pages_of stands) n) (trees_in stands)
all_within size pages [] = tt
all_within size pages (s ∷ ss) =
    each_append (λ t. (n : ℕ) → InTree t.levels n → Has (flat_map pages_of (s ∷ ss)) n) (trees_at s)
    (trees_in ss)
    (stand_within size pages s.table.pointer.0 s.table.indexes s.trees (flat_map pages_of (s ∷ ss))
    (λ n has. has_front (pages_of s) (flat_map pages_of ss) n (tree_in_stand s n has)))
    (each_map (λ t. (n : ℕ) → InTree t.levels n → Has (flat_map pages_of ss) n)
    (λ t. (n : ℕ) → InTree t.levels n → Has (flat_map pages_of (s ∷ ss)) n) (trees_in ss)
    (λ t within n has. has_back (pages_of s) (flat_map pages_of ss) n (within n has))
    (all_within size pages ss))

-- no two of two lists of indexes share a page, where the pages of one list are apart from those of the
-- other
both_apart : (left right : List IndexTree) (ms ns : List ℕ)
    → ((n : ℕ) → Has ms n → Has ns n → ⊥)
    → Each (λ t. (n : ℕ) → InTree t.levels n → Has ms n) left
    → Each (λ t. (n : ℕ) → InTree t.levels n → Has ns n) right
    → AreApart left → AreApart right → AreApart (left ++ right)
both_apart [] right ms ns apart in_left in_right of_left of_right = of_right
both_apart (t ∷ ts) right ms ns apart in_left in_right of_left of_right = (
  each_append (SharesNone t) ts right of_left.0
      (each_map (λ u. (n : ℕ) → InTree u.levels n → Has ns n) (SharesNone t) right
      (λ u within n here there. apart n (in_left.0 n here) (within n there)) in_right),
  both_apart ts right ms ns apart in_left.1 in_right of_left.1 of_right,
)

all_apart : (size : ℕ) (pages : Pages) (stands : List Stand) → IsOnce (flat_map pages_of stands)
    → AreApart (trees_in stands)
all_apart size pages [] once = tt
all_apart size pages (s ∷ ss) once =
    both_apart (trees_at s) (trees_in ss) (pages_of s) (flat_map pages_of ss)
    (once_apart (pages_of s) (flat_map pages_of ss) once)
    (stand_within size pages s.table.pointer.0 s.table.indexes s.trees (pages_of s) (tree_in_stand s))
    (all_within size pages ss)
    (stand_apart size pages s.table.pointer.0 s.table.indexes s.trees
    (once_back (s.pointers ++ s.data_pages) (tree_pages s.trees)
    (once_front (pages_of s) (flat_map pages_of ss) once)))
    (all_apart size pages ss (once_back (pages_of s) (flat_map pages_of ss) once))

-- ---- pages of the page inventory are of another kind

-- a page of a tree is marked by its kind, and lies below the limit
pub record IsTreePage (pages : Pages) (n : ℕ) : Type 0 where
  pub below : n < GREATEST_LIMIT
  pub kind : byte (pages n) 0 ≡ 7

tree_page : (size : ℕ) (pages : Pages) (owner : ℕ) (levels : List (List ℕ)) (n : ℕ)
    → AreNodes size pages owner levels → InTree levels n → IsTreePage pages n
tree_page size pages owner [] n nodes has = absurd has
tree_page size pages owner (level ∷ below) n nodes (inl here) =
    let node = each_has (IsNode size pages owner _ (first_level below)) level n here nodes.0 in
    record {
      below = node.wanted.below;
      kind = kind_of (pages n) n 7 owner 0 []
          (all_passes (common_checks (pages n) n 7 owner 0) node.wanted.fields);
    }
tree_page size pages owner (level ∷ below) n nodes (inr later) =
    tree_page size pages owner below n nodes.1 later

no_region : (size : ℕ) (pages : Pages) (region : ℕ) → HasInventory size pages
    → IsTreePage pages (inventory_page size region) → ⊥
no_region size pages region inventory is = at (inventory region is.below)
  where
    at : HasRegion size pages (inventory_page size region) region → ⊥
    at (inl empty) =
        let zero_is : byte (pages (inventory_page size region)) 0 ≡ 0 =
        ap (λ (page : List ℕ). byte page 0) empty ∙ byte_blank size in
        let seven = is.kind in omega (arith, zero_is, seven)
    at (inr wanted) =
        let two : byte (pages (inventory_page size region)) 0 ≡ 2 =
        kind_of (pages (inventory_page size region)) (inventory_page size region) 2 0 region []
        (all_passes (common_checks (pages (inventory_page size region)) (inventory_page size region) 2 0
        region) wanted.fields) in
        let seven = is.kind in omega (arith, two, seven)

pub tree_inventory : (size : ℕ) (pages : Pages) (t : IndexTree) → HasInventory size pages
    → IsIndexTree size pages t → HasNoInventory size t.levels
tree_inventory size pages t inventory tree n placed m same =
    no_region size pages (m / bits size) inventory
    (subst (IsTreePage pages) (sym same) (tree_page size pages t.owner t.levels n tree.nodes placed))

-- ---- so

pub sound_has_indexes : (form : Form) → SoundHasIndexes form
sound_has_indexes form size state pages layout r sound =
    let each = all_each form.in_primary size pages (stands_of layout) sound.tables in
    record {
      each = each;
      apart = all_apart size pages (stands_of layout)
          (once_back (tips_of size pages) (flat_map pages_of (stands_of layout))
          (once_front (tips_of size pages ++ flat_map pages_of (stands_of layout)) layout.sequences
          sound.once));
      no_inventory = each_map (IsIndexTree size pages) (λ t. HasNoInventory size t.levels)
          (trees_in (stands_of layout)) (λ t. tree_inventory size pages t sound.inventory) each;
    }

pub indexes_start : (form : Form) → IndexesStart form
indexes_start form size state cache layout r none clean sound =
    each_start size cache (trees_in (stands_of layout)) none clean
    (all_each form.in_primary size cache.pool (stands_of layout) sound.tables)

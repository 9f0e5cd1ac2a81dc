-- Entries of a row are laid in the indexes of its table, whose trees stand: eighteen pages at most are taken for each, and
-- nothing but want of pages or of memory keeps one from its index.
use Rattle.std.proofs.Common.{◌≡◌, ◌∙◌, inl, inr, refl, ◌+◌, ◌*◌, ◌++◌, ap, sym, subst, arith, ℕ, suc, List, [], ◌∷◌, length, Option}
use Rattle.std.specs.Prelude.{unwrap_or}
use Rattle.std.proofs.lemmas.List.{append_assoc}
use Rattle.mg_base.specs.Disk.{Meaning}
use Rattle.mg_base.specs.Image.{Image}
use Rattle.mg_base.specs.declared.damage.Damaged.{Damaged}
use Rattle.mg_base.specs.declared.numbers.RecId.{RecId}
use Rattle.mg_batches.specs.Batches.{nothing_yet}
use Rattle.mg_btree.specs.Changing.{HasNoInventory}
use Rattle.mg_entries.specs.Entries.{FailsEntry, IsNotPut, LaysAll, LaysEntry, PutsEntry, RefusesEntry, no_index, one_more}
use Rattle.mg_entry_tie_laws.specs.IndexPlaces.{HasRoot}
use Rattle.mg_entry_tie_laws.specs.Laws.{InsertionsAreLawful, InsertionsAreThere, InsertionsMeetNone, InsertionsTakeEighteen}
use Rattle.mg_free_page_laws.specs.FreePages.{IsNotFull}
use Rattle.mg_free_page_laws.specs.Spending.{IsNotShort, SpendsAtMost, ToldAreHeld}
use Rattle.mg_free_page_laws.specs.SpendingLaws.{both_spend, more_spent, nothing_spent, told_short, told_spends}
use Rattle.mg_image.specs.Form.{Pages, Row}
use Rattle.mg_image.specs.Indexes.{IsTree, index_entry}
use Rattle.mg_model.specs.declared.table.Index.{Index}
use Rattle.mg_node.specs.declared.entry.Entry.{Entry}
use Rattle.mg_pool.specs.Pool.{shown}
use Rattle.mg_pool.specs.declared.pool.Pool.{Pool}
use Rattle.mg_space.specs.FreePages.{HasRegions}
use Rattle.mg_space.specs.Taking.{IsGeometry}
use Rattle.mg_space.specs.View.{Tells, viewed}
use Rattle.mg_space.specs.declared.fault.SpaceFault.{SpaceFault}
use Rattle.mg_space.specs.declared.fault.SpaceFault.TheVariants as faults
use Rattle.mg_space.specs.declared.links.FireLinks.{FireLinks}
use Rattle.mg_no_damage_laws.specs.Inventory.{PagesAreTaken}
use Rattle.mg_no_damage_laws.specs.OwnLaws.{own}

-- ---- trees that stand

-- A tree stands at a root, and none of its pages is one of the page inventory.
pub record HasTreeAt (size : ℕ) (pages : Pages) (root : ℕ) : Type 0 where
  pub owner : ℕ
  pub levels : List (List ℕ)
  pub tree : IsTree size pages owner root levels
  pub no_inventory : HasNoInventory size levels

-- over each image that the disk tells a tree stands at the root of each of these indexes
abbrev pub TreesStand : {D : Type 0} → Meaning D → Pool D FireLinks → List Index → Type 0
TreesStand m store indexes = (image : Image) → Tells m store.disk image → (root : ℕ) → HasRoot indexes root
    → HasTreeAt store.geometry.size (shown store.dirty image) root

-- so it is of a row's table before each of its entries is laid, and behind the last one
abbrev pub TreesStandAlong : {D : Type 0} → Meaning D → Pool D FireLinks → List Index → RecId → Row → Type 0
TreesStandAlong {D} m start indexes p row = (first later : List Index) (store : Pool D FireLinks)
    → indexes ≡ first ++ later → LaysAll m first p row start store → TreesStand m store indexes

pub root_there : (first : List Index) (index : Index) (later : List Index) → HasRoot (first ++ index ∷ later) index.root.0
root_there [] index later = inl refl
root_there (x ∷ xs) index later = inr (root_there xs index later)

pub longer : (first : List Index) (index : Index) → length (first ++ index ∷ []) ≡ suc (length first)
longer [] index = refl
longer (x ∷ xs) index = ap suc (longer xs index)

module _ {D : Type 0} (m : Meaning D) (holds : ToldAreHeld m) (eighteen : InsertionsTakeEighteen)
    (there : InsertionsAreThere) where
  -- ---- how many pages are taken

  pub entry_spends : (before after : Pool D FireLinks) (indexes : List Index) (root : ℕ) (e : Entry)
      → TreesStand m before indexes → HasRoot indexes root → LaysEntry m before after root e
      → SpendsAtMost m before after 18
  entry_spends before after indexes root e stand has lays = told_spends m before after _ 18
      (λ image batch tells puts lawful.
      let it : HasTreeAt before.geometry.size (shown before.dirty image) root = stand image tells root has in
      eighteen before.geometry (shown before.dirty image) _ nothing_yet batch it.owner root it.levels e lawful it.tree
      (puts it.owner it.levels it.tree it.no_inventory)) lays

  pub entry_short : (before after : Pool D FireLinks) (indexes : List Index) (root : ℕ) (e : Entry) (fault : SpaceFault)
      → TreesStand m before indexes → HasRoot indexes root → FailsEntry m before after root e fault
      → IsNotShort m before 18 fault
  entry_short before after indexes root e fault stand has fails = told_short m before after _ _ 18 fault
      (λ image tells why lawful.
      let it : HasTreeAt before.geometry.size (shown before.dirty image) root = stand image tells root has in
      by fault image it (why it.owner it.levels it.tree it.no_inventory) lawful) fails
    where
      by : (f : SpaceFault) (image : Image) (it : HasTreeAt before.geometry.size (shown before.dirty image) root)
          → IsNotPut before.geometry (shown before.dirty image) root it.levels e f → IsGeometry before.geometry
          → IsNotFull before.geometry (shown before.dirty image) 18 f
      by (faults.Full limit) image it refused lawful = there before.geometry (shown before.dirty image) it.owner root
          it.levels e (faults.Full limit) it.tree lawful refused
      by (faults.Damaged damage) image it refused lawful = λ regions has named is. absurd cc
      by (faults.Pool it_) image it refused lawful = λ regions has named is. absurd cc

  -- ---- the entries of a row

  pub all_spend : (indexes first later : List Index) (p : RecId) (row : Row) (before after : Pool D FireLinks)
      → indexes ≡ first ++ later → TreesStandAlong m before indexes p row → LaysAll m first p row before after
      → SpendsAtMost m before after (18 * length first)
  all_spend indexes first later p row before after parts along (no_index p_ row_ store) =
      nothing_spent m store store refl
  all_spend indexes first later p row before after parts along (one_more front index p_ row_ before_ mid after_ laid lays) =
      let split : indexes ≡ front ++ (index ∷ later) = parts ∙ append_assoc front (index ∷ []) later in
      let one = longer front index in
      more_spent m before after (18 * length front + 18) (18 * length (front ++ index ∷ [])) (omega (arith, one))
      (both_spend m holds before mid after (18 * length front) 18
      (all_spend indexes front (index ∷ later) p row before mid split along laid)
      (entry_spends mid after indexes index.root.0 (index_entry index p row)
      (along front (index ∷ later) mid split laid)
      (subst (λ (xs : List Index). HasRoot xs index.root.0) (sym split) (root_there front index later)) lays))

-- ---- no damage

module _ {D : Type 0} (m : Meaning D) (lawful_are : InsertionsAreLawful) (none : InsertionsMeetNone)
    (taken : PagesAreTaken) where
  pub entry_meets_none : (before after : Pool D FireLinks) (image : Image) (indexes : List Index) (root : ℕ) (e : Entry)
      (it : Damaged) → Tells m before.disk image → IsGeometry before.geometry
      → HasRegions before.geometry (shown before.dirty image)
      → ((n : ℕ) → length (shown before.dirty image n) ≡ before.geometry.size) → TreesStand m before indexes
      → HasRoot indexes root → FailsEntry m before after root e (faults.Damaged it) → ⊥
  entry_meets_none before after image indexes root e it tells lawful regions whole stand has fails =
      own m before after (λ image_ batch. PutsEntry before image_ nothing_yet batch root e)
      (λ image_ f. RefusesEntry before image_ nothing_yet root e f) it image tells
      (λ keeps why. none before.geometry (shown before.dirty image) tree.owner root tree.levels e it tree.tree lawful
      regions (λ mid mid_regions refused. taken before.geometry mid mid_regions it refused)
      (why tree.owner tree.levels tree.tree tree.no_inventory))
      (λ batch puts. lawful_are before.geometry (shown before.dirty image) (viewed before image batch) batch tree.owner root
      tree.levels e lawful tree.tree (puts tree.owner tree.levels tree.tree tree.no_inventory)
      (λ n bytes is. ap (λ (x : Option (List ℕ)). unwrap_or x (shown before.dirty image n)) is) whole) fails
    where
      tree : HasTreeAt before.geometry.size (shown before.dirty image) root
      tree = stand image tells root has

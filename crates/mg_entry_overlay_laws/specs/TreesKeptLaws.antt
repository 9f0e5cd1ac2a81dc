-- A batch changes index trees by rows of steps that leave their entries: the trees of the pool, and those of an image
-- on which some pages of the batch are laid.
use Rattle.std.proofs.Common.{◌≡◌, sym, subst, ℕ, Bool, true, false, List, [], ◌∷◌, Option, Some}
use Rattle.std.specs.Prelude.{if◌then◌else◌}
use Rattle.mg_base.specs.declared.numbers.RecId.{RecId}
use Rattle.mg_careful.specs.CarefulWrite.{PageSet}
use Rattle.mg_careful.specs.Precedence.{Orders}
use Rattle.mg_node.specs.declared.entry.Entry.{Entry}
use Rattle.mg_overlay_laws.specs.Overlays.{LaysBatch, laid}
use Rattle.mg_image.specs.Form.{Pages, Row}
use Rattle.mg_image.specs.Indexes.{AreTrees, IsFoundIn, index_entry}
use Rattle.mg_image.specs.Sound.{HasTablePages}
use Rattle.mg_image.specs.Tables.{EachStand, Stand, has, table_at}
use Rattle.mg_image_overlay_laws.specs.kept.KeptImages.{AreFrontStands, EachBehind, StandsBehind}
use Rattle.mg_model.specs.declared.table.Index.{Index}
use Rattle.mg_model.specs.declared.table.Table.{Table}
use Rattle.mg_tree_overlay_laws.specs.BatchLaws.{batch_kept}
use Rattle.mg_tree_overlay_laws.specs.PoolLaws.{pool_changed}
use Rattle.mg_tree_overlay_laws.specs.TreeBatches.{Add, EntryChange, IsLeft, Remove, Stay}
use Rattle.mg_entry_overlay_laws.specs.Entered.{KeepsRoots}
use Rattle.mg_entry_overlay_laws.specs.EntryBatches.{LeavesAll, StandsChange, TreesChange}
use Rattle.mg_entry_overlay_laws.specs.Retreed.{Trees, retree}

all_left : (c : EntryChange) → LeavesAll c → (f : Entry) → IsLeft c f
all_left (Add e) all f = tt
all_left (Remove e) all f = absurd all
all_left Stay all f = tt

-- what is found of records is found on
abbrev pub FindsOn : Pages → Pages → List Index → Type 0
FindsOn old new indexes = (p : RecId) (row : Row) → IsFoundIn old indexes p row → IsFoundIn new indexes p row

-- The trees of a table after a batch, in the pool and in an image.
pub record TreesKept (size : ℕ) (pool changed image last : Pages) (owner : ℕ) (indexes : List Index) (ends : Trees)
    : Type 0 where
  pub now : Trees
  pub are : AreTrees size last owner indexes now
  pub of_pool : AreTrees size changed owner indexes ends
  pub behind : EachBehind changed last ends now
  pub found : FindsOn image last indexes
  pub found_pool : FindsOn pool changed indexes
  pub roots_pool : KeepsRoots pool changed indexes

module _ (size : ℕ) (batch : ℕ → Option (List ℕ)) (orders : Orders) (pool changed : Pages) (set_ : PageSet) (image : Pages)
    (lays : LaysBatch pool changed batch orders set_ image) where
  pub trees_kept : (owner : ℕ) (indexes : List Index) (of_pool of_image ends : Trees)
      → AreTrees size pool owner indexes of_pool → AreTrees size image owner indexes of_image
      → EachBehind pool image of_pool of_image
      → TreesChange size batch orders pool changed owner indexes of_pool ends
      → TreesKept size pool changed image (laid batch set_ image) owner indexes ends
  trees_kept owner [] [] [] [] are its behind rows = record {
    now = [];
    are = tt;
    of_pool = tt;
    behind = tt;
    found = λ p row f. tt;
    found_pool = λ p row f. tt;
    roots_pool = tt;
  }
  trees_kept owner [] [] [] (e ∷ es) are its behind rows = absurd rows
  trees_kept owner [] [] (m ∷ ms) ends are its behind rows = absurd its
  trees_kept owner [] (l ∷ ls) of_image ends are its behind rows = absurd are
  trees_kept owner (i ∷ is) [] of_image ends are its behind rows = absurd are
  trees_kept owner (i ∷ is) (l ∷ ls) [] ends are its behind rows = absurd its
  trees_kept owner (i ∷ is) (l ∷ ls) (m ∷ ms) [] are its behind rows = absurd rows
  trees_kept owner (i ∷ is) (l ∷ ls) (m ∷ ms) (e ∷ es) are its behind rows =
      let kept = batch_kept size owner i.root.0 batch orders rows.0.change pool changed l e set_ image rows.0.row lays
      are.0 (m, record { tree = its.0; behind = behind.0 }) in
      let last = pool_changed size owner i.root.0 batch orders rows.0.change pool changed l e rows.0.row are.0 in
      let rest = trees_kept owner is ls ms es are.1 its.1 behind.1 rows.1 in
      record {
        now = kept.0.0 ∷ rest.now;
        are = (kept.0.1.tree, rest.are);
        of_pool = (last.tree, rest.of_pool);
        behind = (kept.0.1.behind, rest.behind);
        found = λ p row f. (
          kept.1 (index_entry i p row) (all_left rows.0.change rows.0.all (index_entry i p row)) f.0,
          rest.found p row f.1,
        );
        found_pool = λ p row f. (
          last.keeps (index_entry i p row) (all_left rows.0.change rows.0.all (index_entry i p row)) f.0,
          rest.found_pool p row f.1,
        );
        roots_pool = (
          (λ f found. last.keeps f (all_left rows.0.change rows.0.all f) found),
          rest.roots_pool,
        );
      }

  abbrev FindsOnAll : Pages → Pages → List Stand → Type 0
  FindsOnAll old new stands = (table : Table) (p : RecId) (row : Row) → table_at stands p.page.0 ≡ Some table
      → IsFoundIn old table.indexes p row → IsFoundIn new table.indexes p row

  -- The trees of all tables.
  pub record StandsKept (ps is : List Stand) (ends : List Trees) : Type 0 where
    pub now : List Trees
    pub are : EachStand (λ s. AreTrees size (laid batch set_ image) s.table.pointer.0 s.table.indexes s.trees) (retree is now)
    pub of_pool : EachStand (λ s. AreTrees size changed s.table.pointer.0 s.table.indexes s.trees) (retree ps ends)
    pub behind : StandsBehind changed (laid batch set_ image) (retree ps ends) (retree is now)
    pub found : FindsOnAll image (laid batch set_ image) is
    pub found_pool : FindsOnAll pool changed ps
    pub roots_pool : EachStand (λ s. KeepsRoots pool changed s.table.indexes) ps

  one_more : (old new : Pages) (s : Stand) (ss : List Stand) → FindsOn old new s.table.indexes
      → FindsOnAll old new ss → FindsOnAll old new (s ∷ ss)
  one_more old new s ss here later table p row is found = at (has s.data_pages p.page.0) is
    where
      at : (b : Bool) → (if b then Some s.table else table_at ss p.page.0) ≡ Some table
          → IsFoundIn new table.indexes p row
      at true same = let its : s.table ≡ table = cc in
          subst (λ (t : Table). IsFoundIn new t.indexes p row) its
          (here p row (subst (λ (t : Table). IsFoundIn old t.indexes p row) (sym its) found))
      at false more = later table p row more found

  pub stands_kept : (in_primary : Bool) (ps is : List Stand) (ends : List Trees) → AreFrontStands is ps
      → EachStand (HasTablePages in_primary size pool) ps → EachStand (HasTablePages in_primary size image) is
      → StandsBehind pool image ps is → StandsChange size batch orders pool changed ps ends → StandsKept ps is ends
  stands_kept in_primary [] [] ends fronts pool_has has_ behind rows = record {
    now = [];
    are = tt;
    of_pool = tt;
    behind = tt;
    found = λ table p row is found. absurd cc;
    found_pool = λ table p row is found. absurd cc;
    roots_pool = tt;
  }
  stands_kept in_primary [] (i ∷ is) ends fronts pool_has has_ behind rows = absurd behind
  stands_kept in_primary (p ∷ ps) [] ends fronts pool_has has_ behind rows = absurd behind
  stands_kept in_primary (p ∷ ps) (i ∷ is) [] fronts pool_has has_ behind rows = absurd rows
  stands_kept in_primary (p ∷ ps) (i ∷ is) (e ∷ es) fronts pool_has has_ behind rows =
      let same = fronts.0.table in
      let kept = trees_kept p.table.pointer.0 p.table.indexes p.trees i.trees e pool_has.0.trees
      (subst (λ (t : Table). AreTrees size image t.pointer.0 t.indexes i.trees) same has_.0.trees) behind.0 rows.0 in
      let rest = stands_kept in_primary ps is es fronts.1 pool_has.1 has_.1 behind.1 rows.1 in
      record {
        now = kept.now ∷ rest.now;
        are = (
          subst (λ (t : Table). AreTrees size (laid batch set_ image) t.pointer.0 t.indexes kept.now) (sym same) kept.are,
          rest.are,
        );
        of_pool = (kept.of_pool, rest.of_pool);
        behind = (kept.behind, rest.behind);
        found = one_more image (laid batch set_ image) i is
            (subst (λ (t : Table). FindsOn image (laid batch set_ image) t.indexes) (sym same) kept.found) rest.found;
        found_pool = one_more pool changed p ps kept.found_pool rest.found_pool;
        roots_pool = (kept.roots_pool, rest.roots_pool);
      }

-- Every overlay of a cache keeps its tree.
use Rattle.std.proofs.Common.{◌≡◌, refl, sym, subst, ℕ, Bool, true, false, ◌||◌, List, Option}
use Rattle.std.proofs.Math.Path.{fun_ext}
use Rattle.mg_careful.specs.Precedence.{Orders}
use Rattle.mg_careful.specs.CarefulWrite.{Cache, IsClosed, Pages, PageSet, overlay}
use Rattle.mg_overlay_laws.specs.BatchLaws.{lays, overlay_is}
use Rattle.mg_overlay_laws.specs.Overlays.{ChangesCache, IsCleanAsDisk, WritesPages, before, laid}
use Rattle.mg_node.specs.declared.entry.Entry.{Entry}
use Rattle.mg_image.specs.Indexes.{Finds, IsTree}
use Rattle.mg_tree_overlay_laws.specs.TreesBehind.{EveryTree, HasKeptTree, IsTreeKept}
use Rattle.mg_tree_overlay_laws.specs.TreeBatches.{ChangesTree, EntryChange, IsLeft}
use Rattle.mg_tree_overlay_laws.specs.Laws.{OverlaysFind}
use Rattle.mg_tree_overlay_laws.specs.BatchLaws.{batch_kept}
use Rattle.mg_tree_overlay_laws.specs.KeptLaws.{kept_by_itself}
use Rattle.mg_tree_overlay_laws.specs.PoolLaws.{pool_changed}

pub trees_start : (size owner root : ℕ) (cache : Cache) (levels : List (List ℕ))
    → ((p : ℕ) → cache.dirty p ≡ false) → IsCleanAsDisk cache
    → IsTree size cache.pool owner root levels → EveryTree size owner root cache levels
trees_start size owner root cache levels none clean tree = record {
  pool = tree;
  overlays = λ set_ closed. (
    levels,
    subst (λ (image : Pages). IsTreeKept size owner root cache.pool image levels levels) (sym (fun_ext (as_pool set_ closed)))
        (kept_by_itself size owner root cache.pool levels tree),
  );
}
  where
    as_pool : (set_ : PageSet) → IsClosed cache set_ → (p : ℕ) → overlay cache set_ p ≡ cache.pool p
    as_pool set_ closed p = at (set_ p) refl
      where
        at : (b : Bool) → set_ p ≡ b → overlay cache set_ p ≡ cache.pool p
        at true i = rw i refl
        at false i = rw i (sym (clean p (none p)))

pub writes_keep_trees : (size owner root : ℕ) (old new : Cache) (gone : PageSet)
    (levels : List (List ℕ)) → WritesPages old new gone → EveryTree size owner root old levels
    → EveryTree size owner root new levels
writes_keep_trees size owner root old new gone levels writes every =
    let pool : new.pool ≡ old.pool = fun_ext writes.pool in
    record {
      pool = subst (λ (pages : Pages). IsTree size pages owner root levels) (sym pool) every.pool;
      overlays = λ set_ closed.
          subst (λ (pages : Pages). HasKeptTree size owner root pages (overlay new set_) levels) (sym pool)
          (subst (λ (image : Pages). HasKeptTree size owner root old.pool image levels)
          (sym (fun_ext (writes.overlays set_ closed)))
          (every.overlays (λ p. gone p || set_ p) (writes.closed set_ closed)));
    }

pub batches_keep_trees : (size owner root : ℕ) (old new : Cache) (gone : PageSet)
    (batch : ℕ → Option (List ℕ)) (orders : Orders) (change : EntryChange)
    (levels ends : List (List ℕ)) → ChangesCache old new gone batch orders
    → ChangesTree size owner root batch orders change old.pool levels new.pool ends
    → EveryTree size owner root old levels
    → EveryTree size owner root new ends × OverlaysFind root change old new gone
batches_keep_trees size owner root old new gone batch orders change levels ends changes row every = (
  record {
    pool = (pool_changed size owner root batch orders change old.pool new.pool levels ends row every.pool).tree;
    overlays = λ set_ closed. subst (λ (image : Pages). HasKeptTree size owner root new.pool image ends)
        (sym (overlay_is old new gone batch orders changes set_ closed)) (kept set_ closed).0;
  },
  λ set_ closed f left found. subst (λ (image : Pages). Finds image f root)
      (sym (overlay_is old new gone batch orders changes set_ closed)) ((kept set_ closed).1 f left found),
)
  where
    kept : (set_ : PageSet) → IsClosed new set_
        → HasKeptTree size owner root new.pool (laid batch set_ (overlay old (before old gone set_))) ends
        × ((f : Entry) → IsLeft change f → Finds (overlay old (before old gone set_)) f root
        → Finds (laid batch set_ (overlay old (before old gone set_))) f root)
    kept set_ closed = batch_kept size owner root batch orders change old.pool new.pool levels ends set_
        (overlay old (before old gone set_)) row (lays old new gone batch orders changes set_ closed) every.pool
        (every.overlays (before old gone set_) (changes.closed set_ closed))

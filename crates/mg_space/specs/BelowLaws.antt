-- A page that can be read lies below the page limit, and so does each page that a batch changes.
use Rattle.std.proofs.Common.{◌≡◌, ◌<◌, ℕ, arith, min, Bool, true, false, List, Option, None, Some, refl, subst, sym}
use Rattle.std.specs.Prelude.{if◌then◌else◌}
use Rattle.mg_base.specs.Disk.{Meaning}
use Rattle.mg_base.specs.declared.geometry.Geometry.{Geometry}
use Rattle.mg_pool.specs.Batch.{AreBelow, content_in}
use Rattle.mg_pool.specs.Change.{or_else}
use Rattle.mg_pool.specs.Clean.{kept_in}
use Rattle.mg_pool.specs.Dirty.{content_of, is_dirty}
use Rattle.mg_pool.specs.Pool.{IsPool, resident}
use Rattle.mg_pool.specs.declared.batch.BatchPage.{BatchPage}
use Rattle.mg_pool.specs.declared.pool.Pool.{Pool}
use Rattle.mg_space.specs.Lawful.{readable}
use Rattle.mg_space.specs.Taking.{taking_limit}
use Rattle.mg_space.specs.View.{AreWhole}

-- a page that can be taken lies below the page limit
pub taken_below : (g : Geometry) (n : ℕ) → n < taking_limit g → n < g.limit
taken_below g n below = omega (arith, below)

-- the pages of a batch lie below the limit
pub all_below : (g : Geometry) (pages : List BatchPage) → AreWhole g pages → AreBelow g.limit pages
all_below g pages whole page bytes is = (whole page bytes is).1

-- and they do by a geometry that is the same
pub below_kept : (a b : Geometry) (pages : List BatchPage) → b ≡ a → AreWhole a pages
    → AreBelow b.limit pages
below_kept a b pages same whole =
    subst (λ (g : Geometry). AreBelow g.limit pages) (sym same) (all_below a pages whole)

-- so does a page that the cache has, dirty or as on the disk
pub resident_below : {D L : Type 0} (m : Meaning D) (store : Pool D L) (page : ℕ) (bytes : List ℕ)
    → IsPool m store → resident store page ≡ Some bytes → page < store.geometry.limit
resident_below m store page bytes pool = at (is_dirty store.dirty page) refl
  where
    at : (b : Bool) → is_dirty store.dirty page ≡ b
        → (if b then content_of store.dirty page else kept_in store.clean page) ≡ Some bytes
        → page < store.geometry.limit
    at true dirty is = pool.below page dirty
    at false clean is = pool.kept_below page bytes is

-- so does a page that one can read who fills a batch
pub readable_below : {D L : Type 0} (m : Meaning D) (store : Pool D L) (pages : List BatchPage)
    (page : ℕ) (bytes : List ℕ) → IsPool m store → AreWhole store.geometry pages
    → readable store pages page ≡ Some bytes → page < store.geometry.limit
readable_below m store pages page bytes pool whole = at (content_in pages page) refl
  where
    at : (found : Option (List ℕ)) → content_in pages page ≡ found
        → or_else found (resident store page) ≡ Some bytes → page < store.geometry.limit
    at None none is = resident_below m store page bytes pool is
    at (Some content) put is = (whole page content put).1

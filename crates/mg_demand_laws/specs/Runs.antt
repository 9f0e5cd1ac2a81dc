-- A caller who makes one batch after another, with page writes in between, keeps one invariant.
use Rattle.std.specs.Prelude.{◌≡◌, ◌≢◌, ◌⊎◌, ℕ, Bool, true, false, is_some}
use Rattle.mg_careful.specs.declared.links.Demand.{Demand}
use Rattle.mg_careful.specs.Precedence.{Orders}
use Rattle.mg_careful.specs.CarefulWrite.{Cache, DemandSet, IsClosed, IsIn, IsLinked, PageSet, either, overlay, three_parts}
use Rattle.mg_careful.specs.CarefulSteps.{Contents, LaysBatch, written_out}
use Rattle.mg_demand_laws.specs.Freeing.{BearsAll, Which, without}
use Rattle.mg_image.specs.Form.{Pages}
use Rattle.mg_space.specs.Demands.{demands_of, meets_of}
use Rattle.mg_space.specs.declared.links.TheConstants.{VERSION}
use Rattle.mg_demand_laws.specs.Wanting.{Drops, IsWanting, Pays, may_go}

-- Which transactions are settled: each has committed, and all of its versions are on the disk. And which
-- versions last, since the disk has them: those of settled transactions, and of one that has asked for its
-- commit those on pages that were written since.
pub record Lasting : Type 0 where
  pub settled : ℕ → Bool
  pub lasts : Which

-- versions alone last, and those of settled transactions do
pub record IsLasting (it : Lasting) : Type 0 where
  pub versions : (d : Demand) → it.lasts d ≡ true → d.what ≡ VERSION
  pub of_settled : (d : Demand) → d.what ≡ VERSION → it.settled d.b ≡ true → it.lasts d ≡ true

-- A cache of the pages of a database bears its demands, and the pool's pages are wanted for what it wants.
-- The disk has the versions that last; and where it leads to a version that may be dropped, the pool does,
-- too, or the page that leads there is written first.
pub record BearsLinks (size : ℕ) (cache : Cache) (it : Lasting) (of_disk of_pool : DemandSet) : Type 0
  where
    pub lasting : IsLasting it
    pub all : BearsAll demands_of meets_of cache of_disk of_pool it.lasts (may_go it.settled)
    pub wants : IsWanting size cache.pool of_pool

-- What a batch pays for its pages, and what it drops of them at its end; in between the pages are `mid`.
pub record PaysThenDrops (size : ℕ) (old new : Pages) (batch : Contents) (orders : Orders) (it : Lasting)
    (on_disk wanted : DemandSet) : Type 0 where
  pub mid : Pages
  pub more : DemandSet
  pub dropped : Which
  pub pays : Pays size old mid orders it.settled on_disk wanted more
  pub fresh : (d : Demand) → IsIn more d → it.lasts d ≡ true → IsIn wanted d
  pub drops : Drops size mid new orders it.settled (either wanted more) dropped
  pub own : (d : Demand) → dropped d ≡ true → is_some (batch d.target) ≡ true

-- whatever disk and pool want, a batch that is laid on the cache pays for its pages
abbrev pub PaysIn : ℕ → Cache → Cache → PageSet → Contents → Orders → Lasting → Type 0
PaysIn size old new gone batch orders it = (of_disk of_pool : DemandSet)
    → BearsLinks size old it of_disk of_pool
    → PaysThenDrops size old.pool new.pool batch orders it (three_parts old gone of_disk of_pool) of_pool

-- More may last after page writes: what is wanted of pages that are clean then; and more transactions may be
-- settled, whose versions all last.
pub record LastsOn (cache : Cache) (gone : PageSet) (old new : Lasting) : Type 0 where
  pub lasting : IsLasting new
  pub more : (d : Demand) → new.lasts d ≡ true
      → (old.lasts d ≡ true) ⊎ ((written_out cache gone).dirty d.target ≡ false)
  pub settled : (t : ℕ) → old.settled t ≡ true → new.settled t ≡ true

-- one cache becomes another by page writes and batches that pay
pub data Goes (size : ℕ) : Cache → Lasting → Cache → Lasting → Type 0 where
  stays : (cache : Cache) (it : Lasting) → Goes size cache it cache it
  writes : (cache last : Cache) (it now end : Lasting) (gone : PageSet) → IsClosed cache gone
      → LastsOn cache gone it now → Goes size (written_out cache gone) now last end
      → Goes size cache it last end
  changes : (old new last : Cache) (it end : Lasting) (gone : PageSet) (batch : Contents) (orders : Orders)
      → IsClosed old gone → LaysBatch old new gone batch orders
      → ((a b : ℕ) → orders a b ≡ true → is_some (batch b) ≡ true)
      → PaysIn size old new gone batch orders it → Goes size new it last end → Goes size old it last end

-- A cache bears its demands still: of what disk and pool had, but for versions, both have each; and the
-- overlay of every closed set is linked from the roots that both have.
pub record StillBears (size : ℕ) (last : Cache) (it : Lasting) (was_disk was_pool : DemandSet) : Type 0
  where
    pub of_disk : DemandSet
    pub of_pool : DemandSet
    pub bears : BearsLinks size last it of_disk of_pool
    pub rooted : (d : Demand) → d.what ≢ VERSION → IsIn was_disk d → IsIn was_pool d
        → IsIn of_disk d × IsIn of_pool d
    pub linked : (roots : DemandSet) → ((d : Demand) → IsIn roots d → IsIn of_disk d × IsIn of_pool d)
        → (set_ : PageSet) → IsClosed last set_
        → IsLinked demands_of meets_of (overlay last set_) roots

-- the law of a run
abbrev pub RunsBear : Type 0
RunsBear = (size : ℕ) (first last : Cache) (it end : Lasting) → Goes size first it last end
    → (of_disk of_pool : DemandSet)
    → BearsLinks size first it of_disk of_pool → StillBears size last end of_disk of_pool

-- The law of one batch, for callers who do not gather runs: where the links were borne before it, they are
-- borne after it, without what it drops.
abbrev pub BatchBearsLinks : Type 0
BatchBearsLinks = (size : ℕ) (old new : Cache) (it : Lasting) (gone : PageSet) (batch : Contents)
    (orders : Orders) → IsClosed old gone → LaysBatch old new gone batch orders
    → ((a b : ℕ) → orders a b ≡ true → is_some (batch b) ≡ true) → (of_disk of_pool : DemandSet)
    → BearsLinks size old it of_disk of_pool
    → PaysThenDrops size old.pool new.pool batch orders it (three_parts old gone of_disk of_pool) of_pool
    → StillBears size new it of_disk of_pool

-- The same, with what disk and pool want then.
abbrev pub BatchBearsExactly : Type 0
BatchBearsExactly = (size : ℕ) (old new : Cache) (it : Lasting) (gone : PageSet) (batch : Contents)
    (orders : Orders) → IsClosed old gone → LaysBatch old new gone batch orders
    → ((a b : ℕ) → orders a b ≡ true → is_some (batch b) ≡ true) → (of_disk of_pool : DemandSet)
    → BearsLinks size old it of_disk of_pool
    → (paid : PaysThenDrops size old.pool new.pool batch orders it (three_parts old gone of_disk of_pool) of_pool)
    → BearsLinks size new it (three_parts old gone of_disk of_pool) (without paid.dropped (either of_pool paid.more))

-- after page writes the disk has what it had and the pool has
abbrev pub ThreeHasBoth : Type 0
ThreeHasBoth = (cache : Cache) (gone : PageSet) (of_disk of_pool : DemandSet) (d : Demand)
    → IsIn of_disk d → IsIn of_pool d → IsIn (three_parts cache gone of_disk of_pool) d

-- The cache of an engine's store, over the image that its disk tells; and a batch of its own, changed over it.
use Rattle.std.specs.Prelude.{◌≡◌, ℕ, true, List, Some}
use Rattle.mg_base.specs.Disk.{Meaning}
use Rattle.mg_base.specs.Image.{Image}
use Rattle.mg_careful.specs.CarefulWrite.{DemandSet, IsIn}
use Rattle.mg_careful.specs.declared.links.Demand.{Demand}
use Rattle.mg_image.specs.Form.{Pages}
use Rattle.mg_image.specs.Tables.{Layout}
use Rattle.mg_pool.specs.Batch.{Changed, content_in, is_in, lists}
use Rattle.mg_pool.specs.Change.{ChangesOverlays}
use Rattle.mg_pool.specs.Dirty.{is_marked}
use Rattle.mg_pool.specs.Pool.{shown}
use Rattle.mg_pool.specs.Run.{HasWritten}
use Rattle.mg_pool.specs.declared.pool.Pool.{Pool}
use Rattle.mg_space.specs.View.{KeepsStore, Tells, viewed}
use Rattle.mg_space.specs.declared.links.TheConstants.{HEADER, NEXT}
use Rattle.mg_base.specs.declared.transaction.TxState.TheVariants.{Active}
use Rattle.mg_demand_laws.specs.Wanting.{IsWanting, want_of}
use Rattle.mg_demand_laws.specs.PoolTies.{cache_over}
use Rattle.mg_demand_laws.specs.Wants.{AreOrderly}
use Rattle.mg_demand_laws.specs.Chained.{IsChained}
use Rattle.mg_engine_demand_laws.specs.Bearing.{Fates, IsBorne, IsBorneWith, PaysForAny}
use Rattle.mg_engine_demand_laws.specs.Wanted.{WantsTables}

-- a store's cache over an image bears its demands
abbrev pub StoreBears : {D L : Type 0} → Pool D L → Image → Fates → Layout → DemandSet → Type 0
StoreBears store image fates layout roots =
    IsBorne store.geometry.size (cache_over store image) (is_marked store.dirty) fates layout roots

-- What is wanted of the pages of a store is there: its pointer pages are orderly, and its versions chained; its tables
-- are wanted, the header is, and the number of each active transaction.
pub record WantsAll (size : ℕ) (pages : Pages) (fates : Fates) (layout : Layout) (wanted : DemandSet) : Type 0 where
  pub wants : IsWanting size pages wanted
  pub orderly : AreOrderly size pages wanted
  pub chained : IsChained size pages wanted
  pub header : IsIn wanted (want_of 0 HEADER 0 0)
  pub tables : WantsTables size wanted layout
  pub numbers : (t : ℕ) → fates.state t ≡ Active → IsIn wanted (want_of 0 NEXT t 0)

-- pages were only read
abbrev pub ReadsKeep : (D L : Type 0) → Meaning D → Type 0
ReadsKeep D L m = (before after : Pool D L) (i : Image) (fates : Fates) (layout : Layout) (roots : DemandSet)
    → KeepsStore m before after → StoreBears before i fates layout roots → StoreBears after i fates layout roots

-- pages were written, each after those that precede it
abbrev pub PageWritesKeep : (D L : Type 0) → Meaning D → Type 0
PageWritesKeep D L m = (before after : Pool D L) (i j : Image) (fates : Fates) (layout : Layout) (roots : DemandSet)
    → HasWritten m before after → Tells m before.disk i → m.held after.disk ≡ Some j
    → StoreBears before i fates layout roots → StoreBears after j fates layout roots

-- Pages were read, and then a batch was changed over the pages of a store: with each of its orders it puts the later
-- page.
pub record ChangesStore {D L : Type 0} (m : Meaning D) (before after : Pool D L) (i j : Image) (batch : Changed)
    : Type 0 where
  pub ready : Pool D L
  pub same_dirty : ready.dirty ≡ before.dirty
  pub same_graph : ready.graph ≡ before.graph
  pub told : Tells m ready.disk i
  pub frame : ChangesOverlays m (content_in batch.pages) batch.orders ready after
  pub geometry : after.geometry ≡ before.geometry
  pub later_in : (a b : ℕ) → lists batch.orders a b ≡ true → is_in batch.pages b ≡ true
  pub held : m.held after.disk ≡ Some j

-- it pays for the pages of the store, whatever lasts and the disk has
abbrev pub BatchPays : {D L : Type 0} → Pool D L → Image → Fates → Layout → Layout → List Demand → DemandSet → Changed
    → Type 0
BatchPays before i fates layout later brings wanted batch = PaysForAny before.geometry.size (shown before.dirty i)
    (viewed before i batch) (content_in batch.pages) (lists batch.orders) fates layout later brings wanted

-- a store's cache bears its demands, and these are wanted
abbrev pub StoreBearsWith : {D L : Type 0} → Pool D L → Image → Fates → Layout → DemandSet → List Demand → Type 0
StoreBearsWith store image fates layout roots brings =
    IsBorneWith store.geometry.size (cache_over store image) (is_marked store.dirty) fates layout roots brings

-- the law: a batch that was changed, and pays for whatever is wanted so
abbrev pub StoreChangesKeep : (D L : Type 0) → Meaning D → Type 0
StoreChangesKeep D L m = (before after : Pool D L) (i j : Image) (batch : Changed) (fates : Fates)
    (layout later : Layout) (roots : DemandSet) (brings : List Demand) → ChangesStore m before after i j batch
    → StoreBears before i fates layout roots
    → ((wanted : DemandSet) → WantsAll before.geometry.size (shown before.dirty i) fates layout wanted
    → BatchPays before i fates layout later brings wanted batch)
    → StoreBearsWith after j fates later roots brings

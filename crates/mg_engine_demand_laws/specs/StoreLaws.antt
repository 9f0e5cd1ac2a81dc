-- The cache of an engine's store bears its demands after pages were read, or written, and after a batch of its own that
-- pays.
use Rattle.std.specs.Prelude.{◌≡◌, ◌&&◌, ℕ, Bool, true, false, not, List, Option, None, Some, is_some, unwrap_or}
use Rattle.std.proofs.Common.{refl, sym, subst, ap, ◌∙◌}
use Rattle.std.proofs.Math.Path.{fun_ext}
use Rattle.mg_base.specs.Disk.{Meaning}
use Rattle.mg_base.specs.Image.{Image}
use Rattle.mg_base.specs.declared.geometry.Geometry.{Geometry}
use Rattle.mg_careful.specs.CarefulWrite.{Cache, DemandSet, IsClosed, PageSet, three_parts}
use Rattle.mg_careful.specs.CarefulSteps.{LaysBatch, written_out}
use Rattle.mg_careful.specs.Graph.{PageGraph}
use Rattle.mg_image.specs.Form.{Pages}
use Rattle.mg_image.specs.Tables.{Layout}
use Rattle.mg_pool.specs.Batch.{Changed, content_in, lists}
use Rattle.mg_careful.specs.declared.graph.Order.{Order}
use Rattle.mg_pool.specs.Change.{Changes, ChangesPages}
use Rattle.mg_pool.specs.declared.batch.BatchPage.{BatchPage}
use Rattle.mg_pool.specs.Dirty.{DirtyPages, bytes_of, content_of, entry_in, is_dirty, is_marked, marked_by}
use Rattle.mg_pool.specs.Pool.{cache_of, shown, taken_out}
use Rattle.mg_pool.specs.Run.{HasWritten}
use Rattle.mg_pool.specs.DirtyPage.{DirtyPage}
use Rattle.mg_pool.specs.declared.pool.Pool.{Pool}
use Rattle.mg_batches.specs.Batches.{ChangesOwn}
use Rattle.mg_space.specs.View.{KeepsStore, Tells, viewed}
use Rattle.mg_space.specs.declared.links.FireLinks.{FireLinks}
use Rattle.mg_demand_laws.specs.PoolTies.{cache_over, lays}
use Rattle.mg_demand_laws.specs.WriteLaws.{written_cache, written_closed}
use Rattle.mg_engine_demand_laws.specs.Bearing.{BatchesKeep, Fates, IsBorne, IsBorneWith, Marks, MarksGo, PaysForAny, WritesKeep, lasting_clean}
use Rattle.mg_engine_demand_laws.specs.Stores.{ChangesStore, PageWritesKeep, ReadsKeep, StoreBears, StoreChangesKeep, WantsAll}

-- what an engine's cache wants
pub wants_all : (size : ℕ) (cache : Cache) (marks : Marks) (fates : Fates) (layout : Layout) (roots : DemandSet)
    (borne : IsBorne size cache marks fates layout roots) → WantsAll size cache.pool fates layout borne.of_pool
wants_all size cache marks fates layout roots borne = record {
  wants = borne.bears.its.bears.wants;
  orderly = borne.bears.its.orderly;
  chained = borne.bears.its.chained;
  header = borne.bears.header;
  tables = borne.bears.tables;
  numbers = borne.bears.numbers;
}

-- a store with the same pages, orders and marks
pub same_store : {D L : Type 0} (before after : Pool D L) (i : Image) (fates : Fates) (layout : Layout)
    (roots : DemandSet) → after.geometry ≡ before.geometry → after.dirty ≡ before.dirty → after.graph ≡ before.graph
    → StoreBears before i fates layout roots → StoreBears after i fates layout roots
same_store before after i fates layout roots geometry dirty graph borne =
    subst (λ (g : Geometry). IsBorne g.size (cache_of after.dirty after.graph i) (is_marked after.dirty) fates layout roots)
    (sym geometry)
    (subst (λ (p : PageGraph). IsBorne before.geometry.size (cache_of after.dirty p i) (is_marked after.dirty) fates layout
    roots) (sym graph)
    (subst (λ (d : DirtyPages). IsBorne before.geometry.size (cache_of d before.graph i) (is_marked d) fates layout roots)
    (sym dirty) borne))

-- a disk that was only read tells what it told
pub reads_told : {D L : Type 0} (m : Meaning D) (before ready : Pool D L) (i : Image) → KeepsStore m before ready
    → Tells m before.disk i → Tells m ready.disk i
reads_told m before ready i keeps tells =
    record { told = keeps.disk.tells ∙ tells.told; held = keeps.disk.held ∙ tells.held }

-- a change leaves the geometry
pub change_geometry : {D L : Type 0} (m : Meaning D) (old new : Pool D L) (pages : List BatchPage) (orders : List Order)
    → Changes m old new pages orders → new.geometry ≡ old.geometry
change_geometry m old new pages orders changes =
    changes.enters.geometry ∙ (changes.puts.geometry ∙ changes.written.geometry)

pub reads_keep : (D L : Type 0) (m : Meaning D) → ReadsKeep D L m
reads_keep D L m before after i fates layout roots keeps borne =
    same_store before after i fates layout roots keeps.geometry keeps.dirty keeps.graph borne

-- what holds of each cache on which a batch was laid, after page writes, holds of the store's
pub laid_store : {D L : Type 0} (m : Meaning D) (before after : Pool D L) (i j : Image) (batch : Changed)
    → ChangesStore m before after i j batch → (P : Cache → Marks → Type 0)
    → ((gone : PageSet) → IsClosed (cache_over before i) gone → (new : Cache)
    → LaysBatch (cache_over before i) new gone (content_in batch.pages) (lists batch.orders)
    → (now : Marks) → MarksGo (is_marked before.dirty) gone now → viewed before i batch ≡ new.pool → P new now)
    → P (cache_over after j) (is_marked after.dirty)
laid_store m before after i j batch it P holds = at (it.frame it.told.told i j it.told.held it.held)
  where
    same : cache_over it.ready i ≡ cache_over before i
    same = λ k. cache_of (it.same_dirty k) (it.same_graph k) i

    at : (gone : PageSet) × ChangesPages it.ready.dirty after.dirty it.ready.graph after.graph i j gone
        (content_in batch.pages) batch.orders → P (cache_over after j) (is_marked after.dirty)
    at (gone, changes) = holds gone (subst (λ (c : Cache). IsClosed c gone) same changes.out) (cache_over after j)
        (subst (λ (c : Cache). LaysBatch c (cache_over after j) gone (content_in batch.pages) (lists batch.orders)) same
        (lays it.ready.dirty after.dirty it.ready.graph after.graph i j gone (content_in batch.pages) batch.orders changes))
        (is_marked after.dirty)
        (subst (λ (d : DirtyPages). MarksGo (is_marked d) gone (is_marked after.dirty)) it.same_dirty changes.marks)
        (sym (fun_ext (λ p. changes.shown_new p
        ∙ ap (λ (d : DirtyPages). unwrap_or (content_in batch.pages p) (shown d i p)) it.same_dirty)))

pub store_changes_keep : (D L : Type 0) (m : Meaning D) → BatchesKeep → StoreChangesKeep D L m
store_changes_keep D L m law before after i j batch fates layout later roots brings it borne pays =
    subst (λ (g : Geometry). IsBorneWith g.size (cache_over after j) (is_marked after.dirty) fates later roots brings)
    (sym it.geometry) (laid_store m before after i j batch it
    (λ cache now. IsBorneWith before.geometry.size cache now fates later roots brings)
    (λ gone closed new laid now marks_go pool. law before.geometry.size (cache_over before i) new
    (is_marked before.dirty) now fates layout later roots borne.of_pool brings borne.it borne.of_disk borne.bears gone closed
    (content_in batch.pages) (lists batch.orders) laid marks_go it.later_in
    (subst (λ (pages : Pages). PaysForAny before.geometry.size (shown before.dirty i) pages (content_in batch.pages)
    (lists batch.orders) fates layout later brings borne.of_pool) pool
    (pays borne.of_pool
    (wants_all before.geometry.size (cache_over before i) (is_marked before.dirty) fates layout roots borne)))))

-- a fresh batch, as one that was changed over the store
pub own_change : {D : Type 0} (m : Meaning D) (before after : Pool D FireLinks) (i j : Image)
    (fills : Image → Changed → Type 0) (own : ChangesOwn m before after fills) → Tells m before.disk i
    → m.held after.disk ≡ Some j → ChangesStore m before after i j own.batch
own_change m before after i j fills own tells held = record {
  ready = own.ready;
  same_dirty = own.keeps.dirty;
  same_graph = own.keeps.graph;
  told = reads_told m before own.ready i own.keeps tells;
  frame = own.changed.frame;
  geometry = own.changed.geometry ∙ own.keeps.geometry;
  later_in = own.changed.lawful.later_in;
  held = held;
}

-- ---- page writes

-- a page that is not dirty has no mark
clean_unmarked : (t : DirtyPages) (page who : ℕ) → is_dirty t page ≡ false → is_marked t page who ≡ false
unfolding content_of is_marked
clean_unmarked t page who clean = at (entry_in t.pages page) clean
  where
    at : (o : Option DirtyPage) → is_some (bytes_of o) ≡ false → marked_by o who ≡ false
    at None none = refl
    at (Some d) some = absurd cc

module _ {D L : Type 0} (m : Meaning D) (before after : Pool D L) (run : HasWritten m before after) where
  abbrev gone : PageSet
  gone = taken_out before.dirty after.dirty

  pub marks_after : MarksGo (is_marked before.dirty) gone (is_marked after.dirty)
  marks_after page who = at (is_dirty after.dirty page) refl (is_dirty before.dirty page) refl
    where
      at : (y : Bool) → is_dirty after.dirty page ≡ y → (x : Bool) → is_dirty before.dirty page ≡ x
          → is_marked after.dirty page who ≡ (is_marked before.dirty page who && not (gone page))
      at true dirty x was = run.marks page who dirty
          ∙ sym (and_true (is_marked before.dirty page who) (gone page) (kept (is_dirty before.dirty page)
          (is_dirty after.dirty page) dirty))
        where
          kept : (a b : Bool) → b ≡ true → (a && not b) ≡ false
          kept true true is = refl
          kept true false is = absurd cc
          kept false b is = refl

          and_true : (a b : Bool) → b ≡ false → (a && not b) ≡ a
          and_true true false is = refl
          and_true true true is = absurd cc
          and_true false b is = refl
      at false clean true was = clean_unmarked after.dirty page who clean
          ∙ sym (written (is_marked before.dirty page who) (is_dirty before.dirty page) (is_dirty after.dirty page) was clean)
        where
          written : (a x y : Bool) → x ≡ true → y ≡ false → (a && not (x && not y)) ≡ false
          written true true false is none = refl
          written false x y is none = refl
          written true false y is none = absurd cc
          written true true true is none = absurd cc
      at false clean false was = clean_unmarked after.dirty page who clean
          ∙ sym (ap (λ (a : Bool). a && not (gone page)) (clean_unmarked before.dirty page who was))

pub page_writes_keep : (D L : Type 0) (m : Meaning D) → WritesKeep → PageWritesKeep D L m
page_writes_keep D L m law before after i j fates layout roots run tells held borne =
    subst (λ (g : Geometry). IsBorne g.size (cache_over after j) (is_marked after.dirty) fates layout roots)
    (sym run.geometry)
    (subst (λ (c : Cache). IsBorne before.geometry.size c (is_marked after.dirty) fates layout roots)
    (sym (written_cache m before after i j run tells.told tells.held held)) borne_out)
  where
    borne_out : IsBorne before.geometry.size (written_out (cache_over before i) (taken_out before.dirty after.dirty)) (is_marked after.dirty) fates
        layout roots
    borne_out = record {
      it = lasting_clean fates (written_out (cache_over before i) (taken_out before.dirty after.dirty)).dirty borne.it;
      of_disk = three_parts (cache_over before i) (taken_out before.dirty after.dirty) borne.of_disk borne.of_pool;
      of_pool = borne.of_pool;
      bears = law before.geometry.size (cache_over before i) (is_marked before.dirty) (is_marked after.dirty) fates layout
          roots borne.it borne.of_disk borne.of_pool borne.bears (taken_out before.dirty after.dirty)
          (written_closed m before after i j run tells.told tells.held held) (marks_after m before after run);
    }

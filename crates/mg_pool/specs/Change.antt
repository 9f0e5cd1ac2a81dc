-- The change of a batch: which pages are written first, and what it leaves.
use Rattle.std.specs.Prelude.{◌≡◌, ◌≢◌, ℕ, ◌+◌, ◌<◌, ◌≤◌, true, false, not, ◌&&◌, ◌||◌, ◌⊎◌, Bool, slice_index_or}
use Rattle.std.specs.Prelude.{List, length, take, Option, Some, None, unwrap_or, if◌then◌else◌}
use Rattle.mg_base.specs.Image.{Image}
use Rattle.mg_base.specs.Disk.{Meaning}
use Rattle.mg_careful.specs.declared.graph.Order.{Order}
use Rattle.mg_careful.specs.Precedence.{Precedes}
use Rattle.mg_careful.specs.Graph.{PageGraph, is_ordered}
use Rattle.mg_careful.specs.CarefulWrite.{PageSet, IsClosed, overlay}
use Rattle.mg_pool.specs.declared.batch.BatchPage.{BatchPage}
use Rattle.mg_pool.specs.declared.pool.Pool.{Pool}
use Rattle.mg_pool.specs.Batch.{LeadsToDue, content_in, is_in, lists, joint, order_at, dirty_with}
use Rattle.mg_pool.specs.Dirty.{DirtyPages, content_of, is_dirty, is_marked, IsLeastPage}
use Rattle.mg_pool.specs.Pool.{cache_of, shown, taken_out, IsPool, IsOverlay}
use Rattle.mg_pool.specs.Run.{HasWritten, WritesWith}

-- With the earlier orders of a list and those of a graph, an order of the list closes no cycle.
abbrev pub IsOpen : PageGraph → List Order → ℕ → Type 0
IsOpen graph orders k =
    Precedes (joint graph (take k orders)) (order_at orders k).later (order_at orders k).first → ⊥

-- What is written towards a goal: what precedes it, and what is or precedes the first page of an
-- order that is due.
pub record WritesDue {D L : Type 0} (m : Meaning D) (orders : List Order) (due : List Bool)
    (goal : ℕ) (before after : Pool D L) : Type 0 where
  pub run : HasWritten m before after
  pub ready : (page : ℕ) → is_ordered after.graph page goal ≡ false
  pub due_out : (i : ℕ) → i < length orders → slice_index_or due i false ≡ true
      → is_dirty after.dirty (order_at orders i).first ≡ false
  pub no_other : (page : ℕ) → taken_out before.dirty after.dirty page ≡ true
      → Precedes (is_ordered before.graph) page goal ⊎ LeadsToDue before.graph orders due page

-- What is written for one order of a batch. Where it would close a cycle with the orders of the
-- pool and the earlier ones of the batch, every dirty page that precedes its first page; else none.
pub record SettlesOrder {D L : Type 0} (m : Meaning D) (earlier : List Order) (o : Order)
    (before after : Pool D L) : Type 0 where
  pub run : HasWritten m before after
  pub written : Precedes (joint before.graph earlier) o.later o.first
      → (page : ℕ) → Precedes (joint before.graph earlier) page o.first
      → is_dirty after.dirty page ≡ false
  pub no_other : (page : ℕ) → taken_out before.dirty after.dirty page ≡ true
      → Precedes (joint before.graph earlier) o.later o.first
      × Precedes (joint before.graph earlier) page o.first

-- what is written for the first orders of a batch, one order after another
pub data SettlesOrders {D L : Type 0} (m : Meaning D) (orders : List Order) (start : Pool D L)
    : ℕ → Pool D L → Type 0 where
  no_order : SettlesOrders m orders start 0 start
  one_more : {k : ℕ} {before : Pool D L} (after : Pool D L)
      → SettlesOrders m orders start k before
      → SettlesOrder m (take k orders) (order_at orders k) before after
      → SettlesOrders m orders start (k + 1) after

-- what is written for the room of a batch: as long as more than 512 pages would be dirty, the least
-- dirty page outside it with those that precede it
pub data MakesRoom {D L : Type 0} (m : Meaning D) (pages : List BatchPage) (start : Pool D L)
    : Pool D L → Type 0 where
  no_page : MakesRoom m pages start start
  one_with : {before : Pool D L} (goal : ℕ) (after : Pool D L)
      → MakesRoom m pages start before
      → 512 < dirty_with before.dirty pages
      → IsLeastPage (λ page. is_dirty before.dirty page && not (is_in pages page)) (Some goal)
      → WritesWith m goal before after → MakesRoom m pages start after

-- the content that a batch puts on a page, else the one that it has
abbrev pub or_else : Option (List ℕ) → Option (List ℕ) → Option (List ℕ)
or_else None other = other
or_else (Some bytes) other = Some bytes

-- pages have new contents, none where a page has none, and nothing else has changed
pub record PutsPages {D L : Type 0} (m : Meaning D) (new : ℕ → Option (List ℕ))
    (before after : Pool D L) : Type 0 where
  pub pool : IsPool m after
  pub contents : (page : ℕ)
      → content_of after.dirty page ≡ or_else (new page) (content_of before.dirty page)
  pub marks : (page who : ℕ) → is_marked after.dirty page who ≡ is_marked before.dirty page who
  pub ordered : (a b : ℕ) → is_ordered after.graph a b ≡ is_ordered before.graph a b
  pub size : after.dirty.size ≡ before.dirty.size
  pub geometry : after.geometry ≡ before.geometry
  pub disk : after.disk ≡ before.disk
  pub offline : after.offline ≡ before.offline
  pub faults : after.faults ≡ before.faults

-- those orders of a list were entered whose first page is dirty, and nothing else has changed
pub record EntersOrders {D L : Type 0} (m : Meaning D) (orders : List Order)
    (before after : Pool D L) : Type 0 where
  pub pool : IsPool m after
  pub ordered : (a b : ℕ) → is_ordered after.graph a b
      ≡ (is_ordered before.graph a b || (lists orders a b && is_dirty before.dirty a))
  pub dirty : after.dirty ≡ before.dirty
  pub geometry : after.geometry ≡ before.geometry
  pub disk : after.disk ≡ before.disk
  pub offline : after.offline ≡ before.offline
  pub faults : after.faults ≡ before.faults

-- A batch was changed. First pages were written out with their old content, for its orders and then
-- for its room and in no other case: each stage is a run of page writes from the stage before it, so
-- no page is written that no rule names. Then its pages were put and its orders entered.
pub record Changes {D L : Type 0} (m : Meaning D) (old new : Pool D L) (pages : List BatchPage)
    (orders : List Order) : Type 0 where
  pub settled : Pool D L
  pub ready : Pool D L
  pub for_orders : SettlesOrders m orders old (length orders) settled
  pub for_room : MakesRoom m pages settled ready
  pub fits : dirty_with ready.dirty pages ≤ 512
  pub written : HasWritten m old ready
  pub put : Pool D L
  pub puts : PutsPages m (content_in pages) ready put
  pub enters : EntersOrders m orders put new

-- the pages of a set that were written out, or that are in another set and were dirty
abbrev pub set_before : DirtyPages → PageSet → PageSet → PageSet
set_before dirty gone set_ page = gone page || (set_ page && is_dirty dirty page)

-- A batch was changed, after the pages of a set had been written out with their old content.
pub record ChangesPages (old_dirty new_dirty : DirtyPages) (old_graph new_graph : PageGraph)
    (old_image new_image : Image) (gone : PageSet) (batch : ℕ → Option (List ℕ))
    (orders : List Order) : Type 0 where
  -- the set was closed, and the disk has the old content of just its pages
  pub out : IsClosed (cache_of old_dirty old_graph old_image) gone
  pub image : IsOverlay old_dirty old_graph old_image gone new_image
  -- the pages of the batch are dirty, and of the others those that were and are not written out
  pub is_laid : (page : ℕ) → batch page ≢ None → is_dirty new_dirty page ≡ true
  pub dirty_else : (page : ℕ) → batch page ≡ None
      → is_dirty new_dirty page ≡ (is_dirty old_dirty page && not (gone page))
  -- a page that was written out has no mark any longer; all other marks stay
  pub marks : (page who : ℕ) → is_marked new_dirty page who
      ≡ (is_marked old_dirty page who && not (gone page))
  -- the orders between pages that were not written out stay, and those of the batch whose first page
  -- is dirty come to them
  pub ordered : (a b : ℕ) → is_ordered new_graph a b
      ≡ ((is_ordered old_graph a b
      && ((is_dirty old_dirty a && not (gone a)) && (is_dirty old_dirty b && not (gone b))))
      || (lists orders a b && is_dirty new_dirty a))
  pub size : new_dirty.size ≡ old_dirty.size
  -- all pages of the batch have their new content, and no other page another one
  pub shown_new : (page : ℕ) → shown new_dirty new_image page
      ≡ unwrap_or (batch page) (shown old_dirty old_image page)
  -- The overlay of a closed set is the overlay of a set that was closed before, with the batch's
  -- pages of the set at their new content.
  pub closed : (set_ : PageSet) → IsClosed (cache_of new_dirty new_graph new_image) set_
      → IsClosed (cache_of old_dirty old_graph old_image) (set_before old_dirty gone set_)
  pub overlays : (set_ : PageSet) → IsClosed (cache_of new_dirty new_graph new_image) set_
      → (page : ℕ) → overlay (cache_of new_dirty new_graph new_image) set_ page
      ≡ unwrap_or (if set_ page then batch page else None)
      (overlay (cache_of old_dirty old_graph old_image) (set_before old_dirty gone set_) page)
  -- with the later page of an order of the batch its first page is in the set, if it is dirty
  pub together : (set_ : PageSet) → IsClosed (cache_of new_dirty new_graph new_image) set_
      → (a b : ℕ) → lists orders a b ≡ true → is_dirty new_dirty a ≡ true → set_ b ≡ true
      → set_ a ≡ true

-- the frame of a change, where the disk tells its images
abbrev pub ChangesOverlays : {D L : Type 0} → Meaning D → (ℕ → Option (List ℕ)) → List Order
    → Pool D L → Pool D L → Type 0
ChangesOverlays m batch orders old new = m.tells old.disk ≡ true → (i j : Image)
    → m.held old.disk ≡ Some i → m.held new.disk ≡ Some j → (gone : PageSet)
    × ChangesPages old.dirty new.dirty old.graph new.graph i j gone batch orders

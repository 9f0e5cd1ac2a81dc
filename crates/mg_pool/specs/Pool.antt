-- What a pool shows over an image of its disk, and what its calls leave.
use Rattle.std.specs.Prelude.{◌≡◌, ℕ, ◌<◌, ◌≤◌, true, false, ◌==◌, ◌||◌, ◌&&◌, not, ◌⊎◌, List, length, Option, Some, None, unwrap_or, if◌then◌else◌}
use Rattle.mg_base.specs.Image.{Image, page_at}
use Rattle.mg_base.specs.Disk.{Meaning, MayLeave, Elapses}
use Rattle.mg_base.specs.Moments.{LeavesOnly}
use Rattle.mg_base.specs.declared.numbers.PageNo.{PageNo}
use Rattle.mg_pool.specs.declared.pool.Pool.{Pool}
use Rattle.mg_careful.specs.Graph.{PageGraph, is_entered, is_ordered, entered_count, room_of}
use Rattle.mg_careful.specs.CarefulWrite.{Pages, PageSet, Cache, IsClosed, overlay}
use Rattle.mg_pool.specs.Clean.{kept_in}
use Rattle.mg_pool.specs.Dirty.{DirtyPages, content_of, is_dirty}
use Rattle.mg_pool.specs.Rooms.{noted_in}
use Rattle.mg_slots.specs.Room.{room_of as room_on}

-- the content of a page as the cache shows it over an image: a dirty page's own, else the image's
abbrev pub shown : DirtyPages → Image → Pages
shown dirty image page = unwrap_or (content_of dirty page) (page_at dirty.size image page)

-- a cache over an image: dirty pages with their orders
abbrev pub cache_of : DirtyPages → PageGraph → Image → Cache
cache_of dirty graph image = record {
  disk = page_at dirty.size image;
  pool = shown dirty image;
  dirty = is_dirty dirty;
  ordered = is_ordered graph;
}

-- the dirty pages are those that are entered in the graph
pub record IsTied (dirty : DirtyPages) (graph : PageGraph) : Type 0 where
  pub entered : (page : ℕ) → is_entered graph page ≡ is_dirty dirty page
  pub count : entered_count graph ≡ length dirty.pages

-- an image is the overlay of a set of dirty pages: these have the pool's content, all others the
-- disk's, and it is as long as the disk's image and these pages need
pub record IsOverlay (dirty : DirtyPages) (graph : PageGraph) (disk : Image) (set_ : PageSet)
    (image : Image) : Type 0 where
  pub pages : (page : ℕ) → page_at dirty.size image page
      ≡ overlay (cache_of dirty graph disk) set_ page
  pub as_long : length disk ≤ length image
  pub reached : (page : ℕ) → set_ page ≡ true → page < length image
  pub no_longer : (end : ℕ) → length disk ≤ end
      → ((page : ℕ) → end ≤ page → set_ page ≡ false) → length image ≤ end

-- an image is the overlay of some closed set
pub record IsClosedOverlay (dirty : DirtyPages) (graph : PageGraph) (disk image : Image) : Type 0
  where
    pub set_ : PageSet
    pub closed : IsClosed (cache_of dirty graph disk) set_
    pub is : IsOverlay dirty graph disk set_ image

-- a set, and one page besides
abbrev pub with_page : PageSet → ℕ → PageSet
with_page set_ page p = p == page || set_ p

-- A page was written out. The closed sets are then those that were closed with it, and their
-- overlays are the same.
pub record WritesOut (old_dirty new_dirty : DirtyPages) (old_graph new_graph : PageGraph)
    (old_image new_image : Image) (page : ℕ) : Type 0 where
  pub size : new_dirty.size ≡ old_dirty.size
  pub image : IsOverlay old_dirty old_graph old_image (λ p. p == page) new_image
  pub shown_same : (p : ℕ) → shown new_dirty new_image p ≡ shown old_dirty old_image p
  pub closed : (set_ : PageSet) → IsClosed (cache_of new_dirty new_graph new_image) set_
      → IsClosed (cache_of old_dirty old_graph old_image) (with_page set_ page)
  pub overlays : (set_ : PageSet) → IsClosed (cache_of new_dirty new_graph new_image) set_
      → (p : ℕ) → overlay (cache_of new_dirty new_graph new_image) set_ p
      ≡ overlay (cache_of old_dirty old_graph old_image) (with_page set_ page) p

-- What a crash since a call's start may leave: what it might have left at the start, or the overlay
-- of a set that was closed then.
abbrev pub LeavesClosed : {D : Type 0} → Meaning D → D → D → DirtyPages → PageGraph → Image → Type 0
LeavesClosed m old new dirty graph image =
    LeavesOnly m old new (λ c. MayLeave m old c ⊎ IsClosedOverlay dirty graph image c)

-- the disk tells how many pages it has, and a page is one of them
abbrev pub IsOnDisk : {D : Type 0} → Meaning D → D → ℕ → Type 0
IsOnDisk m disk page = (n : ℕ) × (m.count disk ≡ Some n) × (page < n)

-- the disk tells how many pages it has
abbrev pub IsCounted : {D : Type 0} → Meaning D → D → Type 0
IsCounted m disk = (n : ℕ) × (m.count disk ≡ Some n)

-- the disk tells how many pages it has, and these are no more than so many
abbrev pub HasAtMost : {D : Type 0} → Meaning D → D → ℕ → Type 0
HasAtMost m disk most = (n : ℕ) × (m.count disk ≡ Some n) × (n ≤ most)

-- A crash at any moment since a call's start leaves what it might have left then, or the overlay of
-- a set that was closed then, where the disk tells its images.
abbrev pub LeavesOverlays : {D L : Type 0} → Meaning D → Pool D L → Pool D L → Type 0
LeavesOverlays m old new = m.tells old.disk ≡ true → (image : Image) → m.held old.disk ≡ Some image
    → LeavesClosed m old.disk new.disk old.dirty old.graph image

-- What every call finds and leaves: pages of the disk's size, the dirty pages entered in the graph,
-- and clean pages that are whole, not dirty, on the disk and as there. No page lies past the page
-- limit: none that is dirty or kept, and none that the disk has. What is noted of the room of a page is
-- so of its content, wherever that is now.
pub record IsPool {D L : Type 0} (m : Meaning D) (pool : Pool D L) : Type 0 where
  pub size : m.size pool.disk ≡ Some pool.geometry.size
  pub page_size : pool.dirty.size ≡ pool.geometry.size
  pub room : pool.dirty.room ≡ 512
  pub few : length pool.dirty.pages ≤ 512
  pub graph_room : room_of pool.graph ≡ 512
  pub tied : IsTied pool.dirty pool.graph
  pub apart : (page : ℕ) → is_dirty pool.dirty page ≡ true → kept_in pool.clean page ≡ None
  pub whole : (page : ℕ) (bytes : List ℕ) → kept_in pool.clean page ≡ Some bytes
      → length bytes ≡ pool.geometry.size
  pub on_disk : pool.offline ≡ None → (page : ℕ) (bytes : List ℕ)
      → kept_in pool.clean page ≡ Some bytes → IsOnDisk m pool.disk page
  pub counted : pool.offline ≡ None → pool.counted ≡ true → IsCounted m pool.disk
  pub clean : m.tells pool.disk ≡ true → (image : Image) → m.held pool.disk ≡ Some image
      → (page : ℕ) (bytes : List ℕ) → kept_in pool.clean page ≡ Some bytes
      → bytes ≡ page_at pool.geometry.size image page
  pub below : (page : ℕ) → is_dirty pool.dirty page ≡ true → page < pool.geometry.limit
  pub kept_below : (page : ℕ) (bytes : List ℕ) → kept_in pool.clean page ≡ Some bytes
      → page < pool.geometry.limit
  pub within : HasAtMost m pool.disk pool.geometry.limit
  pub noted : m.tells pool.disk ≡ true → (image : Image) → m.held pool.disk ≡ Some image
      → (page room : ℕ) → noted_in pool.rooms page ≡ Some room
      → room ≡ room_on (shown pool.dirty image page)

-- the content of a page that the pool can show without the disk
abbrev pub resident : {D L : Type 0} → Pool D L → ℕ → Option (List ℕ)
resident pool page =
    if is_dirty pool.dirty page then content_of pool.dirty page else kept_in pool.clean page

-- a call that writes no page: the disk holds what it held, a crash leaves nothing new, and no page
-- write was asked for; its counts of faults don't fall, and as many page writes pass in all
pub record KeepsContent {D : Type 0} (m : Meaning D) (old new : D) : Type 0 where
  pub held : m.held new ≡ m.held old
  pub tells : m.tells new ≡ m.tells old
  pub most_writes : m.most_writes new ≡ m.most_writes old
  pub never_falls : m.faults old ≤ m.faults new
  pub failed_writes : m.failed_writes old ≤ m.failed_writes new
  pub crash : m.tells old ≡ true → (image : Image) → MayLeave m new image → MayLeave m old image
  pub time : m.tells old ≡ true → Elapses m old new
  pub asked : m.asked new ≡ m.asked old

-- the number of a page, if there is one
abbrev pub number_of : Option PageNo → Option ℕ
number_of None = None
number_of (Some page) = Some page.0

-- Several pages were written out, each after those that precede it. The closed sets are then those
-- that were closed with these pages, and their overlays are the same.
pub record WritesSet (old_dirty new_dirty : DirtyPages) (old_graph new_graph : PageGraph)
    (old_image new_image : Image) (gone : PageSet) : Type 0 where
  pub size : new_dirty.size ≡ old_dirty.size
  pub image : IsOverlay old_dirty old_graph old_image gone new_image
  pub shown_same : (p : ℕ) → shown new_dirty new_image p ≡ shown old_dirty old_image p
  pub closed : (set_ : PageSet) → IsClosed (cache_of new_dirty new_graph new_image) set_
      → IsClosed (cache_of old_dirty old_graph old_image) (λ p. gone p || set_ p)
  pub overlays : (set_ : PageSet) → IsClosed (cache_of new_dirty new_graph new_image) set_
      → (p : ℕ) → overlay (cache_of new_dirty new_graph new_image) set_ p
      ≡ overlay (cache_of old_dirty old_graph old_image) (λ q. gone q || set_ q) p

-- the pages that were dirty and are no longer
abbrev pub taken_out : DirtyPages → DirtyPages → PageSet
taken_out old new page = is_dirty old page && not (is_dirty new page)

-- No page's content has changed: each is shown as it was, and a dirty page has its content.
pub record KeepsPages {D L : Type 0} (m : Meaning D) (old new : Pool D L) : Type 0 where
  pub geometry : new.geometry ≡ old.geometry
  pub same_shown : m.tells old.disk ≡ true → (i j : Image)
      → m.held old.disk ≡ Some i → m.held new.disk ≡ Some j
      → (page : ℕ) → shown new.dirty j page ≡ shown old.dirty i page
  pub contents : (page : ℕ) → is_dirty new.dirty page ≡ true
      → content_of new.dirty page ≡ content_of old.dirty page

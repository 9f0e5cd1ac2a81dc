-- A number is drawn: what becomes of the list, of the batch, and of the pages as viewed.
use Rattle.std.specs.Prelude.{◌≡◌, ◌≢◌, ◌≤◌, ◌+◌, ◌/◌, ◌%◌, ◌++◌, ◌∷◌, [], ◌==◌, ◌&&◌, ℕ, Bool, not, nat_lt, if◌then◌else◌, List, Option, None, Some, Ok, Err, length}
use Rattle.mg_base.specs.Checks.{PassesAll, common_checks}
use Rattle.mg_base.specs.Disk.{Meaning}
use Rattle.mg_base.specs.Image.{Image}
use Rattle.mg_base.specs.declared.geometry.Geometry.{Geometry}
use Rattle.mg_base.specs.declared.geometry.TheConstants.{GREATEST_LIMIT}
use Rattle.mg_base.specs.declared.transaction.TxState.TheVariants.{Active}
use Rattle.mg_careful.specs.declared.graph.Order.{Order}
use Rattle.mg_header.specs.HeaderPage.{AreMarkers, reading}
use Rattle.mg_header.specs.declared.header.Header.{Header}
use Rattle.mg_header.specs.declared.header.TheConstants.{HEADER_KIND, OPENED_MINOR}
use Rattle.mg_image.specs.Form.{Pages}
use Rattle.mg_image.specs.Inventory.{header_of, inventory_page}
use Rattle.mg_pool.specs.Batch.{Changed, IsLawful, PutsPage, content_in}
use Rattle.mg_pool.specs.Change.{Changes, ChangesOverlays}
use Rattle.mg_pool.specs.Pool.{LeavesOverlays, shown}
use Rattle.mg_pool.specs.Refusal.{LeavesRefused}
use Rattle.mg_pool.specs.declared.fault.PoolFault.{PoolFault}
use Rattle.mg_pool.specs.declared.pool.Pool.{Pool}
use Rattle.mg_space.specs.declared.fault.SpaceFault.{SpaceFault}
use Rattle.mg_space.specs.declared.fault.SpaceFault.TheVariants as faults
use Rattle.mg_space.specs.Taking.{PutsInventory, TakesPage, region_of}
use Rattle.mg_space.specs.View.{KeepsStore, ReadsAlone, Tells, viewed}
use Rattle.mg_tip.specs.TipPage.{new_tip_page, places}
use Rattle.mg_txlist.specs.declared.list.TipPage.{TipPage}
use Rattle.mg_txlist.specs.declared.list.TxList.{TxList}
use Rattle.mg_txlist.specs.TxList.{next_said, said}

-- ---- the list

-- the list says what it said
pub record SaysSame (old new : TxList) : Type 0 where
  pub pages : new.pages.items ≡ old.pages.items
  pub own : new.own.items ≡ old.own.items
  pub first : new.first ≡ old.first
  pub size : new.size ≡ old.size

-- the next number is drawn, and active; all others are as they were
pub record AddsNumber (old new : TxList) : Type 0 where
  pub here : said new (next_said old) ≡ Active
  pub others : (u : ℕ) → u ≢ next_said old → said new u ≡ said old u
  pub next : next_said new ≡ next_said old + 1
  pub first : new.first ≡ old.first
  pub size : new.size ≡ old.size

-- the list has one page more, if there is one
abbrev pub AddsPage : TxList → TxList → Option TipPage → Type 0
AddsPage old new None = new.pages.items ≡ old.pages.items
AddsPage old new (Some page) = new.pages.items ≡ old.pages.items ++ page ∷ []

-- a number gets a page exactly where it is the first of one
abbrev pub IsTipFor : ℕ → ℕ → Option TipPage → Type 0
IsTipFor size t None = t % places size ≢ 0
IsTipFor size t (Some page) = (t % places size ≡ 0) × (page.page ≢ 0)
    × (length page.bytes ≡ size)

-- ---- the header

-- a header with the next number one higher, and this last transaction inventory page
abbrev pub raised_header : Header → ℕ → Header
raised_header header last_tip = record header {
  next = record { 0 = header.next.0 + 1 };
  last_tip = record { 0 = last_tip };
}

-- the page is a header page by its common part, and these fields may stand on one
pub record MayBeHeader (header : Header) (page : List ℕ) : Type 0 where
  pub common : PassesAll (common_checks page 0 HEADER_KIND 0 0)
  pub minor : header.minor ≤ OPENED_MINOR
  pub markers : AreMarkers header.oit.0 header.ost.0 header.oat.0 header.next.0

-- the header page is put, one page long
pub record PutsHead (size : ℕ) (old new : Changed) : Type 0 where
  pub bytes : List ℕ
  pub len : length bytes ≡ size
  pub puts : PutsPage old new 0 bytes

-- ---- the page

-- the orders of a page and of the page with its bit, before another page
abbrev pub orders_before : ℕ → ℕ → ℕ → List Order
orders_before size page later = record { first = page; later = later }
    ∷ record { first = inventory_page size (region_of size page); later = later } ∷ []

-- a page may come before a new one: it is one that a database may have, and neither the header page nor the
-- new one (only a damaged header names such a page as its last one)
abbrev pub may_precede : ℕ → ℕ → Bool
may_precede page last = not (last == 0) && (not (last == page) && nat_lt last GREATEST_LIMIT)

-- the orders of the page that a new one leads back to
abbrev pub last_orders : ℕ → ℕ → ℕ → List Order
last_orders size page last = if may_precede page last then orders_before size last page else []

-- the orders of a new page: it comes before the header, which names it, and behind the last one so far, which
-- it names; each with the page that has its bit
abbrev pub tip_orders : ℕ → ℕ → ℕ → List Order
tip_orders size page last = orders_before size page 0 ++ last_orders size page last

-- A page was taken and made the transaction inventory page of a number, behind this one.
pub record PutsTip {D L : Type 0} (m : Meaning D) (store : Pool D L) (old new : Changed)
    (t last_tip : ℕ) (page : TipPage) : Type 0 where
  pub taken : Changed
  pub inventory : PutsInventory store.geometry old taken page.page
  pub takes : (image : Image) → Tells m store.disk image
      → TakesPage store.geometry (viewed store image old) (viewed store image taken) page.page
  pub bytes_are : page.bytes
      ≡ new_tip_page store.geometry.size page.page (t / places store.geometry.size) last_tip
  pub put : Changed
  pub puts : PutsPage taken put page.page page.bytes
  pub pages : new.pages ≡ put.pages
  pub orders : new.orders ≡ old.orders ++ tip_orders store.geometry.size page.page last_tip

-- ---- the pages as viewed

-- the header reads with the next number one higher, and this last page
pub record RaisesHead (size : ℕ) (old new : Pages) (last_tip : ℕ) : Type 0 where
  pub reads : reading (new 0) size ≡ Ok (raised_header (header_of old) last_tip)
  pub len : length (new 0) ≡ size

-- a number was drawn: the header alone has changed, or its page was taken and made, too
pub data DrawsOn (g : Geometry) (t : ℕ) (old new : Pages) : Option TipPage → List Order → Type 0
  where
    on_last : RaisesHead g.size old new (header_of old).last_tip.0
        → ((p : ℕ) → p ≢ 0 → new p ≡ old p) → DrawsOn g t old new None []
    on_new : (page : TipPage) (taken : Pages) → TakesPage g old taken page.page
        → page.bytes ≡ new_tip_page g.size page.page (t / places g.size) (header_of old).last_tip.0
        → new page.page ≡ page.bytes → RaisesHead g.size old new page.page
        → ((p : ℕ) → p ≢ 0 → p ≢ page.page → new p ≡ taken p)
        → DrawsOn g t old new (Some page) (tip_orders g.size page.page (header_of old).last_tip.0)

-- A number was drawn: pages were read, and then one batch was changed, which is lawful; the number got a page exactly
-- where it is the first of one.
pub record DrawsIn {D L : Type 0} (m : Meaning D) (old new : TxList) (before after : Pool D L)
    : Type 0 where
  pub ready : Pool D L
  pub batch : Changed
  pub page : Option TipPage
  pub keeps : KeepsStore m before ready
  pub lawful : IsLawful before.geometry.size batch.pages batch.orders
  pub first : IsTipFor before.geometry.size (next_said old) page
  pub changes : Changes m ready after batch.pages batch.orders
  pub frame : ChangesOverlays m (content_in batch.pages) batch.orders ready after
  pub crash : LeavesOverlays m ready after
  pub views : (image : Image) → Tells m before.disk image → DrawsOn before.geometry
      (next_said old) (shown before.dirty image) (viewed before image batch) page batch.orders
  pub adds : AddsPage old new page

-- What a drawing leaves that is refused: it has only read, and is refused as a reading is; or it had read and
-- then its batch was not changed.
pub data FailsDraw {D L : Type 0} (m : Meaning D) (old new : Pool D L) : SpaceFault → Type 0 where
  only_read : (fault : SpaceFault) → ReadsAlone {T = Unit {0}} (Err fault) → KeepsStore m old new
      → FailsDraw m old new fault
  not_changed : (ready : Pool D L) (fault : PoolFault) → KeepsStore m old ready
      → LeavesRefused {T = Unit {0}} m ready new (Err fault)
      → FailsDraw m old new (faults.Pool fault)

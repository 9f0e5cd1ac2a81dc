-- The rows of the file format's table of orders that pay a demand: what a page leads to has to come before it.
use Rattle.std.specs.Prelude.{◌≡◌, ◌≢◌, ◌<◌, ◌+◌, ◌-◌, ◌*◌, ◌/◌, ◌^◌, ℕ, true, false, length, Some}
use Rattle.mg_base.specs.Fields.{u32_at}
use Rattle.mg_base.specs.Geometry.{is_page_size}
use Rattle.mg_demand_laws.specs.Wanting.{want_of}
use Rattle.mg_careful.specs.CarefulWrite.{Cache}
use Rattle.mg_careful.specs.declared.links.Demand.{Demand}
use Rattle.mg_header.specs.HeaderPage.{header_in}
use Rattle.mg_image.specs.Inventory.{inventory_page}
use Rattle.mg_image.specs.Records.{slot_cell}
use Rattle.mg_demand_laws.specs.Needed.{IsNeeded}
use Rattle.mg_node.specs.NodePage.{count_in as node_count, entry_at, is_inner, level_in, place_of as node_place, right_in}
use Rattle.mg_pip.specs.PipPage.{bits}
use Rattle.mg_pointer.specs.PointerPage.{capacity, count_in, next_in, place_of}
use Rattle.mg_slots.specs.DataPage.{cell_of, slot_count}
use Rattle.mg_space.specs.Demands.{demands_of, is_decided, meets_of}
use Rattle.mg_space.specs.declared.links.TheConstants.{BIT, DATA, HEADER, NEXT, NODE, POINTER, TRANSACTIONS, TREE, VERSION}
use Rattle.mg_tip.specs.TipPage.{places, prev_in, state_in}
use Rattle.mg_version.specs.Cells.{IsLink}
use Rattle.mg_version.specs.declared.cell.Cell.TheVariants as cells
use Rattle.mg_version.specs.declared.cell.Link.{Link}
use Rattle.mg_version.specs.declared.cell.Version.{Version}

-- a page of a cache is changed: it is dirty, and one page long
pub record IsChanged (size : ℕ) (cache : Cache) (p : ℕ) : Type 0 where
  pub lawful : is_page_size size ≡ true
  pub dirty : cache.dirty p ≡ true
  pub len : length (cache.pool p) ≡ size

-- a page number, that of its inventory page, and two more numbers fit the fields of a demand
pub record FitsFields (size n a b : ℕ) : Type 0 where
  pub page : n < 2 ^ 32
  pub inventory : inventory_page size (n / bits size) < 2 ^ 32
  pub first : a < 2 ^ 32
  pub second : b < 2 ^ 32

-- What a page leads to comes first: where the disk does not have it, the order of its page before that one is needed.
abbrev pub ComesFirst : Cache → Demand → Demand → Type 0
ComesFirst cache d e = e.target ≢ d.target → meets_of (cache.disk e.target) e ≡ false
    → IsNeeded demands_of meets_of cache d e.target d.target

-- so does a page that is led to, and the inventory page with its bit
pub record BothComeFirst (size : ℕ) (cache : Cache) (d : Demand) (n what a b : ℕ) : Type 0 where
  pub thing : ComesFirst cache d (want_of n what a b)
  pub bit : ComesFirst cache d (want_of (inventory_page size (n / bits size)) BIT n 0)

-- the version that a link leads to
abbrev pub version_of : Link → Demand
version_of link = want_of link.rec.page.0 VERSION link.rec.slot link.tx.0

-- the header: its last transaction inventory page
abbrev pub LastTipRow : Type 0
LastTipRow = (size : ℕ) (cache : Cache) (n s a b : ℕ) → IsChanged size cache 0
    → (header_in (cache.pool 0)).last_tip.0 ≡ n → ((header_in (cache.pool 0)).next.0 - 1) / places size ≡ s
    → FitsFields size n s 0
    → BothComeFirst size cache (want_of 0 HEADER a b) n TRANSACTIONS s 0

-- the header, where a database is made: the catalog's first pointer page
abbrev pub CatalogRow : Type 0
CatalogRow = (size : ℕ) (cache : Cache) (n a b : ℕ) → IsChanged size cache 0
    → (header_in (cache.pool 0)).catalog.0 ≡ n → FitsFields size n n 0
    → BothComeFirst size cache (want_of 0 HEADER a b) n POINTER n 0

-- a transaction inventory page: the one before it
abbrev pub PrevTipRow : Type 0
PrevTipRow = (size : ℕ) (cache : Cache) (p s n b : ℕ) → IsChanged size cache p → s ≢ 0
    → prev_in (cache.pool p) ≡ n → FitsFields size n (s - 1) 0
    → BothComeFirst size cache (want_of p TRANSACTIONS s b) n TRANSACTIONS (s - 1) 0

-- a pointer page's entry: its data page
abbrev pub EntryRow : Type 0
EntryRow = (size : ℕ) (cache : Cache) (q owner at k n : ℕ) → IsChanged size cache q
    → k < count_in (cache.pool q) → u32_at (cache.pool q) (place_of k) ≡ n
    → FitsFields size n owner (at * capacity size + k)
    → BothComeFirst size cache (want_of q POINTER owner at) n DATA owner (at * capacity size + k)

-- a pointer page: the next one
abbrev pub NextPointerRow : Type 0
NextPointerRow = (size : ℕ) (cache : Cache) (q owner at n : ℕ) → IsChanged size cache q
    → next_in (cache.pool q) ≡ n → n ≢ 0 → FitsFields size n owner (at + 1)
    → BothComeFirst size cache (want_of q POINTER owner at) n POINTER owner (at + 1)

-- a version: the header with a next transaction above its own
abbrev pub NumberRow : Type 0
NumberRow = (size : ℕ) (cache : Cache) (x slot t : ℕ) (v : Version) → IsChanged size cache x
    → slot_cell (cell_of (cache.pool x) slot) ≡ Some (cells.Version v) → v.tx.0 < 2 ^ 32
    → ComesFirst cache (want_of x VERSION slot t) (want_of 0 NEXT v.tx.0 0)

-- a version: the one that it leads back to
abbrev pub BackRow : Type 0
BackRow = (size : ℕ) (cache : Cache) (x slot t : ℕ) (v : Version) (link : Link) → IsChanged size cache x
    → slot_cell (cell_of (cache.pool x) slot) ≡ Some (cells.Version v) → v.back ≡ Some link → IsLink link
    → ComesFirst cache (want_of x VERSION slot t) (version_of link)

-- a primary slot: the version that it leads to
abbrev pub SlotRow : Type 0
SlotRow = (size : ℕ) (cache : Cache) (x slot owner at : ℕ) (link : Link) → IsChanged size cache x
    → slot < slot_count (cache.pool x) → slot_cell (cell_of (cache.pool x) slot) ≡ Some (cells.Anchor link)
    → IsLink link
    → ComesFirst cache (want_of x DATA owner at) (version_of link)

-- the bits of a transaction in limbo or committed: the header with a next transaction above it
abbrev pub BitsRow : Type 0
BitsRow = (size : ℕ) (cache : Cache) (p s place b : ℕ) → IsChanged size cache p → place < places size
    → is_decided (state_in (cache.pool p) place) ≡ true → s * places size + place < 2 ^ 32
    → ComesFirst cache (want_of p TRANSACTIONS s b) (want_of 0 NEXT (s * places size + place) 0)

-- an inner index page: its children, as a page of its level, and as the root
abbrev pub ChildRow : Type 0
ChildRow = (size : ℕ) (cache : Cache) (p owner b k n : ℕ) → IsChanged size cache p
    → is_inner (cache.pool p) ≡ true → k < node_count (cache.pool p)
    → (entry_at true (cache.pool p) (node_place (cache.pool p) k)).child.0 ≡ n
    → FitsFields size n owner (level_in (cache.pool p) - 1)
    → BothComeFirst size cache (want_of p NODE owner b) n NODE owner (level_in (cache.pool p) - 1)
    × BothComeFirst size cache (want_of p TREE owner b) n NODE owner (level_in (cache.pool p) - 1)

-- an index page: its right neighbour
abbrev pub RightRow : Type 0
RightRow = (size : ℕ) (cache : Cache) (p owner b n : ℕ) → IsChanged size cache p
    → right_in (cache.pool p) ≡ n → n ≢ 0 → FitsFields size n owner (level_in (cache.pool p))
    → BothComeFirst size cache (want_of p NODE owner b) n NODE owner (level_in (cache.pool p))

-- A freed cell: the page of the primary slot that led to it on the disk comes before the page that does not have its version
-- any more.
abbrev pub FreedRow : Type 0
FreedRow = (size : ℕ) (cache : Cache) (x slot owner at : ℕ) (link : Link) → is_page_size size ≡ true
    → length (cache.disk x) ≡ size → slot < slot_count (cache.disk x)
    → slot_cell (cell_of (cache.disk x) slot) ≡ Some (cells.Anchor link) → IsLink link
    → cache.dirty link.rec.page.0 ≡ true → x ≢ link.rec.page.0
    → meets_of (cache.pool link.rec.page.0) (version_of link) ≡ false
    → IsNeeded demands_of meets_of cache (want_of x DATA owner at) x link.rec.page.0

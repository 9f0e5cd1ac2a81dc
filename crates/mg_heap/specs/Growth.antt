-- A table gets a data page: what a batch has more, step by step.
use Rattle.std.specs.Prelude.{◌≡◌, ◌<◌, ◌⊎◌, ◌+◌, ℕ, List, [], ◌∷◌, ◌++◌, length}
use Rattle.mg_base.specs.Disk.{Meaning}
use Rattle.mg_base.specs.Image.{Image}
use Rattle.mg_base.specs.declared.geometry.Geometry.{Geometry}
use Rattle.mg_base.specs.declared.numbers.PageNo.{PageNo}
use Rattle.mg_careful.specs.declared.graph.Order.{Order}
use Rattle.mg_image.specs.Inventory.{inventory_page}
use Rattle.mg_pointer.specs.PointerPage.{AddsEntry, SetsNext, capacity, entries_of, new_pointer_page}
use Rattle.mg_pool.specs.Batch.{Changed, PutsPage}
use Rattle.mg_pool.specs.declared.pool.Pool.{Pool}
use Rattle.mg_slots.specs.DataPage.{IsNewPage}
use Rattle.mg_space.specs.Taking.{PutsInventory, RefusesTake, TakesPage, region_of}
use Rattle.mg_space.specs.View.{viewed}
use Rattle.mg_space.specs.declared.fault.SpaceFault.{SpaceFault}
use Rattle.mg_heap.specs.Table.{RefusesPointerPage}

-- a page is to be written before another
abbrev pub before : ℕ → ℕ → Order
before first later = record { first = first; later = later }

-- the orders of a page that comes to point to a page that was taken: the inventory page with its bit,
-- and the page itself, are written before it
abbrev pub orders_to : ℕ → ℕ → ℕ → List Order
orders_to size n later =
    before (inventory_page size (region_of size n)) later ∷ before n later ∷ []

-- the batch has these orders more, and the same pages
pub record AddsOrders (old new : Changed) (orders : List Order) : Type 0 where
  pub same_pages : new.pages ≡ old.pages
  pub added : new.orders ≡ old.orders ++ orders

-- a page of the batch is made an empty data page of an owner at a place
pub record MakesData (size : ℕ) (old new : Changed) (owner place n : ℕ) (bytes : List ℕ)
    : Type 0 where
  pub made : IsNewPage bytes size n owner place
  pub puts : PutsPage old new n bytes

-- A data page is taken, made, and listed by a pointer page that has room. Between these steps the
-- batch is `taken`, `made` and `listed`.
pub record ListsInLast {D L : Type 0} (g : Geometry) (store : Pool D L) (image : Image)
    (old new : Changed) (owner place q n : ℕ) (pointer bytes : List ℕ) : Type 0 where
  pub taken : Changed
  pub made : Changed
  pub listed : Changed
  pub bit : PutsInventory g old taken n
  pub takes : TakesPage g (viewed store image old) (viewed store image taken) n
  pub makes : MakesData g.size taken made owner place n bytes
  pub page : List ℕ
  pub adds : AddsEntry pointer page n
  pub puts : PutsPage made listed q page
  pub orders : AddsOrders listed new (orders_to g.size n q)

-- A pointer page is taken, and a data page, which is made; the pointer page is made with the data page
-- as its entry, and then the last one is linked to it. Between these steps the batch is `with_bit`,
-- `taken`, `made`, `begun` and `linked`.
pub record ListsInNew {D L : Type 0} (g : Geometry) (store : Pool D L) (image : Image)
    (old new : Changed) (owner place at q p n : ℕ) (pointer bytes : List ℕ) : Type 0 where
  pub with_bit : Changed
  pub taken : Changed
  pub made : Changed
  pub begun : Changed
  pub linked : Changed
  pub bit_pointer : PutsInventory g old with_bit p
  pub takes_pointer : TakesPage g (viewed store image old) (viewed store image with_bit) p
  pub bit : PutsInventory g with_bit taken n
  pub takes : TakesPage g (viewed store image with_bit) (viewed store image taken) n
  pub makes : MakesData g.size taken made owner place n bytes
  pub page : List ℕ
  pub adds : AddsEntry (new_pointer_page g.size p owner at) page n
  pub puts : PutsPage made begun p page
  pub link : List ℕ
  pub links : SetsNext pointer link p
  pub puts_link : PutsPage begun linked q link
  pub orders : AddsOrders linked new (orders_to g.size n p ++ orders_to g.size p q)

-- a pointer page has room for an entry
abbrev pub HasEntryRoom : List ℕ → Type 0
HasEntryRoom pointer = length (entries_of pointer) < capacity (length pointer)

-- A table of so many data pages has got one more: behind its last pointer page, which stands at a
-- place of the chain, a new pointer page comes exactly where that one is full.
abbrev pub GrowsTable : {D L : Type 0} → Geometry → Pool D L → Image → Changed → Changed → ℕ → ℕ → ℕ → ℕ
    → List ℕ → ℕ → List ℕ → Type 0
GrowsTable g store image old new owner place at q pointer n bytes =
    (HasEntryRoom pointer × ListsInLast g store image old new owner place q n pointer bytes)
    ⊎ ((HasEntryRoom pointer → ⊥)
    × ((p : ℕ) × ListsInNew g store image old new owner place (at + 1) q p n pointer bytes))

-- Two pages have been taken, one after the other.
pub record TakesTwo {D L : Type 0} (g : Geometry) (store : Pool D L) (image : Image)
    (old new : Changed) (first second : ℕ) : Type 0 where
  pub with_bit : Changed
  pub bit_first : PutsInventory g old with_bit first
  pub takes_first : TakesPage g (viewed store image old) (viewed store image with_bit) first
  pub bit_second : PutsInventory g with_bit new second
  pub takes_second : TakesPage g (viewed store image with_bit) (viewed store image new) second

-- One page has been taken, and no second one is.
pub record RefusesSecond {D L : Type 0} (g : Geometry) (store : Pool D L) (image : Image)
    (old : Changed) (fault : SpaceFault) : Type 0 where
  pub with_bit : Changed
  pub first : ℕ
  pub bit_first : PutsInventory g old with_bit first
  pub takes_first : TakesPage g (viewed store image old) (viewed store image with_bit) first
  pub refused : RefusesTake g (viewed store image with_bit) fault

-- why two pages are not taken
abbrev pub RefusesTwo : {D L : Type 0} → Geometry → Pool D L → Image → Changed → SpaceFault → Type 0
RefusesTwo g store image old fault =
    RefusesTake g (viewed store image old) fault ⊎ RefusesSecond g store image old fault

-- a page of the batch is made a pointer page with one entry
pub record MakesPointer (size : ℕ) (old new : Changed) (owner at p n : ℕ) : Type 0 where
  pub page : List ℕ
  pub adds : AddsEntry (new_pointer_page size p owner at) page n
  pub puts : PutsPage old new p page

-- why a table gets no page, but for faults of the cache: its last pointer page is not as wanted at its
-- place, or the page, or the two, that are needed are not taken
abbrev pub RefusesGrowth : {D L : Type 0} → Meaning D → Pool D L → Pool D L → Image → Changed → ℕ → ℕ
    → PageNo → SpaceFault → Type 0
RefusesGrowth m old new image batch owner at q fault =
    RefusesPointerPage m new batch.pages (viewed old image batch q.0) owner at q fault
    ⊎ (RefusesTake old.geometry (viewed old image batch) fault
    ⊎ RefusesTwo old.geometry old image batch fault)

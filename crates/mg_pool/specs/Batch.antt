-- A batch: the contents that it puts on pages, and its orders.
use Rattle.std.specs.Prelude.{◌≡◌, ◌≢◌, ℕ, ◌+◌, ◌<◌, ◌≤◌, Bool, true, false, not, ◌==◌, ◌||◌, ◌&&◌, ◌⊎◌}
use Rattle.std.specs.Prelude.{List, [], ◌∷◌, length, count_by, take, slice_index_or}
use Rattle.std.specs.Prelude.{Option, Some, None, is_some, if◌then◌else◌}
use Rattle.mg_base.specs.declared.numbers.PageNo.{PageNo}
use Rattle.mg_careful.specs.declared.graph.Order.{Order}
use Rattle.mg_careful.specs.Precedence.{Orders, Precedes}
use Rattle.mg_careful.specs.Graph.{PageGraph, is_ordered}
use Rattle.mg_careful.specs.CarefulWrite.{PageSet}
use Rattle.mg_pool.specs.declared.batch.BatchPage.{BatchPage}
use Rattle.mg_pool.specs.declared.batch.TheConstants.{BATCH_PAGES}
use Rattle.mg_pool.specs.DirtyPage.{DirtyPage}
use Rattle.mg_pool.specs.Dirty.{DirtyPages, is_dirty}

-- the pages that are to change, and which of them has to be written before which page
pub record Changed : Type 0 where
  pub pages : List BatchPage
  pub orders : List Order

-- the content that a batch puts on a page, none where it puts none
abbrev pub content_in : List BatchPage → ℕ → Option (List ℕ)
content_in [] page = None
content_in (x ∷ xs) page = if x.page == page then Some x.bytes else content_in xs page

-- one page with a new content
abbrev pub one_page : ℕ → List ℕ → List BatchPage
one_page page bytes = record { page = page; bytes = bytes } ∷ []

-- whether a batch changes a page
abbrev pub is_in : List BatchPage → PageSet
is_in pages page = is_some (content_in pages page)

-- the page of an entry of the dirty table that isn't in a batch
abbrev pub outside_in : List BatchPage → DirtyPage → Option ℕ
outside_in pages d = if is_in pages d.page then None else Some d.page

-- each page that a batch changes lies below a limit
abbrev pub AreBelow : ℕ → List BatchPage → Type 0
AreBelow limit pages = (page : ℕ) (bytes : List ℕ) → content_in pages page ≡ Some bytes
    → page < limit

-- each page is in the list once
abbrev pub IsOnce : List BatchPage → Type 0
IsOnce [] = Unit {0}
IsOnce (x ∷ xs) = (content_in xs x.page ≡ None) × IsOnce xs

-- the order at a place of a list
abbrev pub order_at : List Order → ℕ → Order
order_at orders place = slice_index_or orders place (record { first = 0; later = 0 })

-- the order of a page that may be given, before another page
abbrev pub orders_of : Option PageNo → PageNo → List Order
orders_of None page = []
orders_of (Some first) page = record { first = first.0; later = page.0 } ∷ []

-- whether a list has the order of one page before another
abbrev pub lists : List Order → Orders
lists [] a b = false
lists (o ∷ os) a b = (o.first == a && o.later == b) || lists os a b

-- the orders of a graph and those of a list, taken together
abbrev pub joint : PageGraph → List Order → Orders
joint graph orders a b = is_ordered graph a b || lists orders a b

-- how many pages would be dirty with those of a batch
abbrev pub dirty_with : DirtyPages → List BatchPage → ℕ
dirty_with dirty pages = length dirty.pages + count_by (λ x. not (is_dirty dirty x.page)) pages

-- What a batch has to be: of at most BATCH_PAGES pages, each content one page long; its orders have no
-- cycle among themselves, and the later page of each is in it.
pub record IsLawful (size : ℕ) (pages : List BatchPage) (orders : List Order) : Type 0 where
  pub few : length pages ≤ BATCH_PAGES
  pub whole : (page : ℕ) (bytes : List ℕ) → content_in pages page ≡ Some bytes → length bytes ≡ size
  pub acyclic : (page : ℕ) → Precedes (lists orders) page page → ⊥
  pub later_in : (a b : ℕ) → lists orders a b ≡ true → is_in pages b ≡ true

-- one page gets a content, all others keep theirs, and the orders stay
pub record PutsPage (old new : Changed) (page : ℕ) (bytes : List ℕ) : Type 0 where
  pub here : content_in new.pages page ≡ Some bytes
  pub others : (other : ℕ) → other ≢ page
      → content_in new.pages other ≡ content_in old.pages other
  pub count : length new.pages
      ≡ (if is_in old.pages page then length old.pages else (length old.pages + 1))
  pub same_orders : new.orders ≡ old.orders

-- a page is the goal, or precedes it
abbrev pub IsOrPrecedes : Orders → ℕ → ℕ → Type 0
IsOrPrecedes ordered page goal = (page ≡ goal) ⊎ Precedes ordered page goal

-- a page is, or precedes, the first page of an order that is due
pub record LeadsToDue (graph : PageGraph) (orders : List Order) (due : List Bool) (page : ℕ)
    : Type 0 where
  pub place : ℕ
  pub inside : place < length orders
  pub is_due : slice_index_or due place false ≡ true
  pub leads : IsOrPrecedes (is_ordered graph) page (order_at orders place).first

-- a page is or precedes the goal by the orders of a graph and those that are due
abbrev pub Leads : PageGraph → List Order → List Bool → ℕ → ℕ → Type 0
Leads graph orders due page goal =
    IsOrPrecedes (is_ordered graph) page goal ⊎ LeadsToDue graph orders due page

-- those of the first orders of a list are due whose first page precedes the goal
pub record IsDue (graph : PageGraph) (orders : List Order) (count goal : ℕ) (due : List Bool)
    : Type 0 where
  pub as_long : length due ≡ length orders
  pub sound : (i : ℕ) → slice_index_or due i false ≡ true
      → (i < count) × Precedes (joint graph (take count orders)) (order_at orders i).first goal
  pub all : (i : ℕ) → i < count → Leads graph orders due (order_at orders i).later goal
      → slice_index_or due i false ≡ true

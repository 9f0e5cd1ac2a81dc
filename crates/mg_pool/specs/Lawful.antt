-- How a batch is tested: pages are marked one after another, each once no page that is not marked is
-- ordered before it.
use Rattle.std.specs.Prelude.{◌≡◌, ℕ, ◌<◌, Bool, true, false, List, [], length, slice_index_or}
use Rattle.mg_careful.specs.declared.graph.Order.{Order}
use Rattle.mg_careful.specs.Precedence.{Precedes}
use Rattle.mg_pool.specs.declared.batch.BatchPage.{BatchPage}
use Rattle.mg_pool.specs.Batch.{lists, order_at, is_in}

-- the page at a place of a batch
abbrev pub page_in : List BatchPage → ℕ → ℕ
page_in pages place = (slice_index_or pages place (record { page = 0; bytes = [] })).page

-- each content is of this length
abbrev pub AreLong : ℕ → List BatchPage → Type 0
AreLong size pages = (i : ℕ) (d : BatchPage) → i < length pages
    → length (slice_index_or pages i d).bytes ≡ size

-- the later page of each order is in the batch
abbrev pub HasLater : List BatchPage → List Order → Type 0
HasLater pages orders = (a b : ℕ) → lists orders a b ≡ true → is_in pages b ≡ true

-- no page precedes itself
abbrev pub HasNoCycle : List Order → Type 0
HasNoCycle orders = (page : ℕ) → Precedes (lists orders) page page → ⊥

-- a page waits: it stands in the batch at a place without mark
abbrev pub IsWaiting : List BatchPage → List Bool → ℕ → Type 0
IsWaiting pages marks page = (i : ℕ) × (i < length pages) × (page_in pages i ≡ page)
    × (slice_index_or marks i false ≡ false)

-- a page is free: no page that waits is ordered before it
abbrev pub IsFree : List BatchPage → List Order → List Bool → ℕ → Type 0
IsFree pages orders marks page = (k : ℕ) → k < length orders → (order_at orders k).later ≡ page
    → IsWaiting pages marks (order_at orders k).first → ⊥

-- pages that don't precede themselves are marked, as many as can be: each of the others waits for
-- another one that does
pub record MarksFree (pages : List BatchPage) (orders : List Order) (marks : List Bool) : Type 0 where
  pub safe : (i : ℕ) → slice_index_or marks i false ≡ true
      → Precedes (lists orders) (page_in pages i) (page_in pages i) → ⊥
  pub most : (i : ℕ) → i < length pages → slice_index_or marks i false ≡ false
      → IsFree pages orders marks (page_in pages i) → ⊥

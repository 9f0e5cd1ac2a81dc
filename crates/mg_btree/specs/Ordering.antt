-- The orders of page writes of a split, and of a root that splits.
use Rattle.std.specs.Prelude.{◌≡◌, ◌≢◌, ℕ, true, List, [], ◌∷◌, ◌++◌, length, None, Some}
use Rattle.mg_base.specs.declared.numbers.PageNo.{PageNo}
use Rattle.mg_careful.specs.declared.graph.Order.{Order}
use Rattle.mg_pool.specs.Batch.{Changed, PutsPage, content_in, lists}
use Rattle.mg_pool.specs.declared.batch.BatchPage.{BatchPage}
use Rattle.mg_tree_overlay_laws.specs.TreeBatches.{inventory_of}

-- a page is to be written before another
abbrev pub before : ℕ → ℕ → Order
before first later = record { first = first; later = later }

-- each order of a list has a property
abbrev pub EachOrder : (ℕ → ℕ → Type 0) → List Order → Type 0
EachOrder P os = (a b : ℕ) → lists os a b ≡ true → P a b

-- a page comes to name another: that one, and the inventory page with its bit, are written before it
abbrev pub orders_to : ℕ → ℕ → ℕ → List Order
orders_to size n later = before (inventory_of size n) later ∷ before n later ∷ []

-- the same of each of these pages
abbrev pub orders_for : ℕ → List PageNo → ℕ → List Order
orders_for size [] later = []
orders_for size (n ∷ ns) later = orders_to size n.0 later ++ orders_for size ns later

-- A split: what the right page r names is written before it; r before the left page l, and before the
-- page p above, which comes to name it; and l before p.
abbrev pub split_orders : ℕ → List PageNo → ℕ → ℕ → ℕ → List Order
split_orders size names l r p =
    orders_for size names r ++ (orders_to size r l ++ (orders_to size r p ++ (before l p ∷ [])))

-- The root splits: what its halves a and b name is written before them, and they before the root.
abbrev pub root_orders : ℕ → List PageNo → List PageNo → ℕ → ℕ → ℕ → List Order
root_orders size left right root a b =
    orders_for size right b
    ++ (orders_for size left a ++ (orders_to size a root ++ orders_to size b root))

-- the batch has these orders more, and the same pages
pub record AddsOrders (old new : Changed) (orders : List Order) : Type 0 where
  pub same_pages : new.pages ≡ old.pages
  pub added : new.orders ≡ old.orders ++ orders

-- each content of a batch is one page long
abbrev pub AreLong : ℕ → List BatchPage → Type 0
AreLong size pages = (page : ℕ) (bytes : List ℕ) → content_in pages page ≡ Some bytes
    → length bytes ≡ size

-- A batch has the pages and the orders of an older one, and its contents are one page long still.
pub record Widens (size : ℕ) (old new : Changed) : Type 0 where
  pub whole : AreLong size old.pages → AreLong size new.pages
  pub has : (n : ℕ) → content_in old.pages n ≢ None → content_in new.pages n ≢ None
  pub ordered : (a b : ℕ) → lists old.orders a b ≡ true → lists new.orders a b ≡ true

-- three pages were put, one after another
pub record PutsThree (old new : Changed) (a b c : ℕ) (of_a of_b of_c : List ℕ) : Type 0 where
  pub first : Changed
  pub second : Changed
  pub puts_a : PutsPage old first a of_a
  pub puts_b : PutsPage first second b of_b
  pub puts_c : PutsPage second new c of_c

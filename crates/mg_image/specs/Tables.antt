-- Where the tables of an image stand: chains of pages, and which data page belongs to which table.
use Rattle.std.specs.Prelude.{◌≡◌, ◌≢◌, ◌⊎◌, ◌==◌, ◌||◌, ℕ, suc, Bool, false, List, [], ◌∷◌, ◌++◌, Option, None, Some, if◌then◌else◌}
use Rattle.std.specs.List.{flat_map}
use Rattle.mg_pointer.specs.PointerPage.{entries_of, next_in}
use Rattle.mg_model.specs.declared.table.Table.{Table}
use Rattle.mg_image.specs.Form.{Pages}

-- the pages from one on, each followed by the one that it names as the next, until 0 is named
pub data LinkChain (next : ℕ → ℕ) : ℕ → List ℕ → Type 0 where
  ended : LinkChain next 0 []
  goes : (n : ℕ) (ns : List ℕ) → n ≢ 0 → LinkChain next (next n) ns → LinkChain next n (n ∷ ns)

-- the pointer pages from one on
abbrev pub PointerChain : Pages → ℕ → List ℕ → Type 0
PointerChain pages first ns = LinkChain (λ n. next_in (pages n)) first ns

-- the entries of these pointer pages, one page after another
abbrev pub entries_in : Pages → List ℕ → List ℕ
entries_in pages ns = flat_map (λ n. entries_of (pages n)) ns

-- a number is one of these
abbrev pub Has : List ℕ → ℕ → Type 0
Has [] n = ⊥
Has (m ∷ ms) n = (n ≡ m) ⊎ Has ms n

-- whether a number is one of these
abbrev pub has : List ℕ → ℕ → Bool
has [] n = false
has (m ∷ ms) n = n == m || has ms n

-- no number stands twice
abbrev pub IsOnce : List ℕ → Type 0
IsOnce [] = Unit {0}
IsOnce (n ∷ ns) = (Has ns n → ⊥) × IsOnce ns

-- each number of a list has a property at its place, counted from a place on
abbrev pub EachFrom : (ℕ → ℕ → Type 0) → ℕ → List ℕ → Type 0
EachFrom P at [] = Unit {0}
EachFrom P at (n ∷ ns) = P at n × EachFrom P (suc at) ns

-- Where a table stands.
pub record Stand : Type 0 where
  pub table : Table
  -- its pointer pages, in the order of their chain
  pub pointers : List ℕ
  -- its data pages, in the order of the entries
  pub data_pages : List ℕ
  -- for each of its indexes the levels from the root down, each from its leftmost page on
  pub trees : List (List (List ℕ))

-- the pages of all trees
abbrev pub tree_pages : List (List (List ℕ)) → List ℕ
tree_pages trees = flat_map (λ levels. flat_map (λ level. level) levels) trees

-- all pages of a table
abbrev pub pages_of : Stand → List ℕ
pages_of stand = stand.pointers ++ stand.data_pages ++ tree_pages stand.trees

-- Where all that is reached from the catalog stands.
pub record Layout : Type 0 where
  pub catalog : Stand
  -- the tables that the catalog's rows name
  pub tables : List Stand
  -- the pages of sequences
  pub sequences : List ℕ

-- where the catalog and the tables stand
abbrev pub stands_of : Layout → List Stand
stands_of layout = layout.catalog ∷ layout.tables

-- the table that a data page belongs to
abbrev pub table_at : List Stand → ℕ → Option Table
table_at [] n = None
table_at (stand ∷ stands) n =
    if has stand.data_pages n then Some stand.table else table_at stands n

-- each of these stands has a property
abbrev pub EachStand : (Stand → Type 0) → List Stand → Type 0
EachStand P [] = Unit {0}
EachStand P (stand ∷ stands) = P stand × EachStand P stands

-- a stand is one of these
abbrev pub HasStand : List Stand → Stand → Type 0
HasStand [] stand = ⊥
HasStand (other ∷ stands) stand = (stand ≡ other) ⊎ HasStand stands stand

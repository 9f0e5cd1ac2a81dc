-- The openings that a database gives: where a history begins, whole.
use Rattle.std.specs.Prelude.{◌≡◌, ◌≢◌, ◌≤◌, ◌+◌, ℕ, Bool, true, false, List, [], ◌∷◌, ◌++◌, length, Option, None, Some, IsSome, if◌then◌else◌}
use Rattle.mg_base.specs.declared.transaction.TxState.TheVariants.{Active, Limbo}
use Rattle.mg_value.specs.declared.shape.Shape.{Shape}
use Rattle.mg_value.specs.declared.value.Value.{Value}
use Rattle.mg_value.specs.Rows.{RowFits}
use Rattle.mg_model.specs.declared.change.Change.{Change}
use Rattle.mg_model.specs.declared.opening.LimboChange.{LimboChange}
use Rattle.mg_model.specs.declared.opening.Opening.{Opening}
use Rattle.mg_model.specs.declared.opening.TheConstants.{MOST_TRANSACTIONS}
use Rattle.mg_model.specs.Changes.{Cells, has_change, row_at}
use Rattle.mg_model.specs.Catalog.{CatalogRows, catalog_name, key_in, shape_in, told_if_there}
use Rattle.mg_model.specs.CatalogRules.{IsCatalog}
use Rattle.mg_model.specs.Machine.{opening_rows, opening_state}

-- ---- an opening's database, and what it may come to be

-- the changes of the transactions in limbo that are chosen
abbrev pub chosen_changes : (ℕ → Bool) → List LimboChange → List Change
chosen_changes chosen [] = []
chosen_changes chosen (c ∷ cs) =
    if chosen c.by.0
    then record { table = c.table; key = c.key; row = c.row } ∷ chosen_changes chosen cs
    else chosen_changes chosen cs

-- all transactions
abbrev pub everyone : ℕ → Bool
everyone t = true

-- what an opening's catalog has
abbrev pub opening_catalog : Opening → CatalogRows
opening_catalog o = row_at (opening_rows o) catalog_name

-- what it comes to have where these of the transactions in limbo come to be committed
abbrev pub catalog_with : Opening → (ℕ → Bool) → CatalogRows
catalog_with o chosen = row_at (chosen_changes chosen o.limbo ++ opening_rows o) catalog_name

-- ---- lawful parts

-- each of a list has a property
abbrev pub Each : {A : Type 0} → (A → Type 0) → List A → Type 0
Each P [] = Unit {0}
Each P (x ∷ xs) = P x × Each P xs

-- no two of these changes are of one key of one table
abbrev pub HaveOwnKeys : List Change → Type 0
HaveOwnKeys [] = Unit {0}
HaveOwnKeys (c ∷ cs) = (has_change cs c.table c.key ≡ false) × HaveOwnKeys cs

-- The rows of a catalog are lawful as a history has them: with some page numbers in place of the
-- zeros.
pub record IsToldCatalog (rows : CatalogRows) : Type 0 where
  pub stored : CatalogRows
  pub lawful : IsCatalog stored
  pub told : (key : Value) → rows key ≡ told_if_there (stored key)

-- a row fits the columns of its table
abbrev pub FitsTable : CatalogRows → List ℕ → Cells → Type 0
FitsTable rows table row =
    (shape : Shape) × (shape_in rows table ≡ Some shape) × RowFits shape.columns row

-- so does the row that a key comes to have, which has that key; where it is deleted, there is the
-- table
abbrev pub FitsUnder : CatalogRows → List ℕ → Value → Option Cells → Type 0
FitsUnder rows table key None = IsSome (shape_in rows table)
FitsUnder rows table key (Some row) = FitsTable rows table row × (key_in rows table row ≡ key)

-- ---- whole openings

-- A database gives this opening.
pub record IsOpening (o : Opening) : Type 0 where
  -- the number that is drawn next: at least 1, and at most the limit, which can't be drawn
  pub first : 1 ≤ o.next.0
  pub last : o.next.0 ≤ o.limit.0
  pub limit : o.limit.0 ≤ MOST_TRANSACTIONS
  -- there is a state for each number below it, and nobody is active
  pub states : length o.states + 1 ≡ o.next.0
  pub ended : (t : ℕ) → opening_state o t ≢ Active
  -- the changes are those of transactions in limbo
  pub in_limbo : Each (λ c. opening_state o c.by.0 ≡ Limbo) o.limbo
  -- no key of a table stands twice among the rows, nor among the changes
  pub rows_apart : HaveOwnKeys (opening_rows o)
  pub changes_apart : HaveOwnKeys (chosen_changes everyone o.limbo)
  -- whichever of the transactions in limbo come to be committed, the catalog is lawful, and a table
  -- that it names now keeps its shape
  pub lawful : (chosen : ℕ → Bool) → IsToldCatalog (catalog_with o chosen)
  pub shapes : (chosen : ℕ → Bool) (table : List ℕ) → IsSome (shape_in (opening_catalog o) table)
      → shape_in (catalog_with o chosen) table ≡ shape_in (opening_catalog o) table
  -- all rows fit their tables
  pub rows_fit : Each (λ p. FitsTable (opening_catalog o) p.table p.row) o.rows
  pub changes_fit : Each (λ c. FitsUnder (catalog_with o everyone) c.table c.key c.row) o.limbo

-- Which tables a transaction sees once it has made the rows of the catalog that say a new one.
use Rattle.std.specs.Prelude.{◌≡◌, ◌≢◌, ℕ, List, Some}
use Rattle.mg_base.specs.declared.numbers.TxNo.{TxNo}
use Rattle.mg_value.specs.declared.shape.Shape.{Shape}
use Rattle.mg_model.specs.declared.opening.Opening.{Opening}
use Rattle.mg_model.specs.Catalog.{catalog_name}
use Rattle.mg_model.specs.History.{Entries}
use Rattle.mg_records.specs.Reading.{shape_seen}
use Rattle.mg_records.specs.Writing.{IsNewShape, rows_made}
use Rattle.mg_engine_change_laws.specs.tables.Rows.{with_rows}

-- It sees the new table, and every other one as before.
pub record SeesMade (o : Opening) (h : Entries) (t : TxNo) (name : List ℕ) (shape : Shape) : Type 0 where
  pub made : shape_seen o (with_rows t (rows_made name shape) h) t.0 name ≡ Some shape
  pub others : (other : List ℕ) → other ≢ name
      → shape_seen o (with_rows t (rows_made name shape) h) t.0 other ≡ shape_seen o h t.0 other

abbrev pub MadeAreSeen : Type 0
MadeAreSeen = (o : Opening) (h : Entries) (t : TxNo) (name : List ℕ) (shape : Shape) → name ≢ catalog_name
    → IsNewShape shape → SeesMade o h t name shape

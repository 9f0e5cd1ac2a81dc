-- A new database is an opening.
use Rattle.std.specs.Prelude.{◌≡◌, ◌≢◌, ◌≤◌, ℕ, ◌==◌, nat_lt, Bool, true, false, List, Option, None, Some, cond, refl}
use Rattle.std.specs.Prelude.{codes, pos}
use Rattle.std.proofs.Common.{lit≤, arith}
use Rattle.std.proofs.lemmas.Bool.{false≢true}
use Rattle.mg_base.specs.declared.transaction.TxState.TheVariants.{Active, Committed, Dead}
use Rattle.mg_value.specs.declared.shape.Kind.TheVariants as kinds
use Rattle.mg_value.specs.declared.value.Value.{Value}
use Rattle.mg_value.specs.declared.value.Value.TheVariants.{Int, Null, Text}
use Rattle.mg_value.specs.Rows.{FitsColumn, FitsKind, RowFits}
use Rattle.mg_model.specs.declared.opening.TheConstants.{MOST_TRANSACTIONS}
use Rattle.mg_model.specs.Changes.{Cells, same_key}
use Rattle.mg_model.specs.Catalog.{catalog_column, catalog_shape, column_key, table_key, told_cells, told_if_there}
use Rattle.mg_model.specs.CatalogRules.{catalog_row}
use Rattle.mg_model.specs.Machine.{opening_state}
use Rattle.mg_model.specs.NewDatabase.{kv_name, new_opening}
use Rattle.mg_model.specs.NewCatalogLaws.{catalog_lawful, catalog_rows, first_key, key_row, second_key, table_row, third_key, value_row}
use Rattle.mg_model.specs.Openings.{IsOpening, IsToldCatalog, catalog_with}

module _ (limit free : ℕ) where
  nobody_is_active : (t : ℕ) → opening_state (new_opening limit free) t ≢ Active
  nobody_is_active t = at (t == 0) (nat_lt t 1)
    where
      at : (a b : Bool) → cond a Committed (cond b Dead Dead) ≢ Active
      at true b is = absurd cc
      at false true is = absurd cc
      at false false is = absurd cc

  told : (chosen : ℕ → Bool) (key : Value)
      → catalog_with (new_opening limit free) chosen key ≡ told_if_there (catalog_rows key)
  told chosen key = at (same_key first_key key) (same_key second_key key) (same_key third_key key)
    where
      some : Cells → Option Cells
      some row = Some row

      at : (a b c : Bool)
          → cond a (some (told_cells key_row)) (cond b (some (told_cells value_row))
          (cond c (some (told_cells table_row)) None))
          ≡ told_if_there (cond a (some key_row) (cond b (some value_row)
          (cond c (some table_row) None)))
      at true b c = refl
      at false true c = refl
      at false false true = refl
      at false false false = refl

  catalog_is_lawful : (chosen : ℕ → Bool) → IsToldCatalog (catalog_with (new_opening limit free) chosen)
  catalog_is_lawful chosen = record {
    stored = catalog_rows;
    lawful = catalog_lawful;
    told = told chosen;
  }

-- a row of the catalog fits its columns where its two texts do
row_fits : (key name : Value) (a b c d : ℕ) → key ≢ Null → FitsKind (kinds.Text 40) key
    → FitsKind (kinds.Text 31) name → RowFits catalog_shape.columns (catalog_row key name a b c d)
row_fits key name a b c d there first second = (
  record { kind = first; allowed = λ is. there },
  (
    record { kind = second; allowed = λ not. absurd (false≢true not) },
    (
      number (codes "A") a,
      (
        number (codes "B") b,
        (
          number (codes "C") c,
          (number (codes "D") d, tt),
        ),
      ),
    ),
  ),
)
  where
    number : (column : List ℕ) (n : ℕ)
        → FitsColumn (catalog_column column kinds.Int false) (Int (pos n))
    number column n = record { kind = tt; allowed = λ not. absurd (false≢true not) }

pub new_is_opening : (limit free : ℕ) → 1 ≤ limit → limit ≤ MOST_TRANSACTIONS
    → IsOpening (new_opening limit free)
new_is_opening limit free some most = record {
  first = omega arith;
  last = some;
  limit = most;
  states = refl;
  ended = nobody_is_active limit free;
  in_limbo = tt;
  rows_apart = (refl, (refl, (refl, tt)));
  changes_apart = tt;
  lawful = catalog_is_lawful limit free;
  shapes = λ chosen table there. refl;
  rows_fit = (
    (
      catalog_shape,
      refl,
      row_fits (column_key kv_name 0) (Text (codes "K")) 0 3 1 0
          (λ is. absurd cc) (lit≤ tt) (lit≤ tt),
    ),
    (
      (
        catalog_shape,
        refl,
        row_fits (column_key kv_name 1) (Text (codes "V")) 0 0 1 1
            (λ is. absurd cc) (lit≤ tt) (lit≤ tt),
      ),
      (
        (
          catalog_shape,
          refl,
          row_fits (table_key kv_name) Null 0 2 0 0
              (λ is. absurd cc) (lit≤ tt) tt,
        ),
        tt,
      ),
    ),
  );
  changes_fit = tt;
}

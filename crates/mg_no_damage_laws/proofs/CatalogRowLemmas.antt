-- The rows that say a new table fit the catalog, and a page has room for each with an anchor beside it.
use Rattle.std.proofs.Common.{◌≡◌, ◌≤◌, ◌+◌, ◌-◌, ◌*◌, ◌++◌, ◌∷◌, [], ℕ, List, length, length-append, ap, arith, refl, subst, sym}
use Rattle.std.specs.Prelude.{All, codes, pos, replicate}
use Rattle.std.specs.Int.{to_le_bytes, w16}
use Rattle.std.proofs.lemmas.List.{length-replicate}
use Rattle.std.proofs.lemmas.List.Elements.{All-head, All-tail}
use Rattle.mg_base.specs.declared.damage.Damaged.{Damaged}
use Rattle.mg_catalog.specs.RowsSaid.{column_rows}
use Rattle.mg_image.specs.Form.{Row}
use Rattle.mg_model.specs.Catalog.{catalog_shape, two_digits}
use Rattle.mg_model.specs.CatalogRules.{catalog_row}
use Rattle.mg_model.specs.declared.table.Table.{Table}
use Rattle.mg_rle.specs.Runs.{AreInOrder, Literal, Repeat, Run, StandsFor, packed_text, plain_text}
use Rattle.mg_row_writes.specs.Storing.{IsStored}
use Rattle.mg_records.specs.declared.write.Write.TheVariants as writes
use Rattle.mg_space.specs.declared.fault.SpaceFault.TheVariants as faults
use Rattle.mg_table_batch.specs.Filling.{rows_at}
use Rattle.mg_table_batch.specs.Refusals.{RefusesStoring, no_memory, too_long, unfit}
use Rattle.mg_value.specs.Names.{IsName}
use Rattle.mg_value.specs.Rows.{FitsKind, RowFits, row_bytes, value_bytes}
use Rattle.mg_value.specs.declared.shape.Column.{Column}
use Rattle.mg_value.specs.declared.shape.Kind.TheVariants as kinds
use Rattle.mg_value.specs.declared.shape.Shape.{Shape}
use Rattle.mg_value.specs.declared.value.Value.{Value}
use Rattle.mg_value.specs.declared.value.Value.TheVariants.{Int, Null, Text}
use Rattle.mg_version.specs.declared.cell.Version.{Version}
use Rattle.mg_no_damage_laws.specs.NewTables.{EachRow}

-- ---- packed texts

runs_short : (runs : List Run) → AreInOrder runs → length (packed_text runs) ≤ 2 * length (plain_text runs)
runs_short [] order = omega arith
runs_short (Literal bytes ∷ later) order =
    let rest = runs_short later order.2 in let some = order.0.0 in
    omega (
      arith,
      length-append bytes (packed_text later),
      length-append bytes (plain_text later),
      rest,
      some,
    )
runs_short (Repeat count byte ∷ later) order =
    let rest = runs_short later order.2 in let least = order.0.0 in
    let plain : length (replicate count byte) ≡ count = length-replicate {A = ℕ} count byte in
    omega (arith, length-append (replicate count byte) (plain_text later), rest, least, plain)

short_packed : (packed plain : List ℕ) → StandsFor packed plain → length packed ≤ 2 * length plain
short_packed packed plain is =
    let short = runs_short is.runs is.accepted.in_order in
    let packed_is = ap (λ (x : List ℕ). length x) is.spelled in
    let plain_is = ap (λ (x : List ℕ). length x) is.means in omega (arith, short, packed_is, plain_is)

-- ---- how long the bytes of a row are

text_len : (most : ℕ) (text : List ℕ) → length text ≤ most
    → length (value_bytes (kinds.Text most) (Text text)) ≡ 2 + most
text_len most text short = omega (
  arith,
  short,
  length-append (to_le_bytes w16 (length text) ++ text) (replicate (2 + most - 2 - length text) 0),
  length-append (to_le_bytes w16 (length text)) text,
  length-replicate {A = ℕ} (2 + most - 2 - length text) 0,
)

name_len : (name : Value) → FitsKind (kinds.Text 31) name → length (value_bytes (kinds.Text 31) name) ≡ 33
name_len Null fits = refl
name_len (Int number) fits = absurd fits
name_len (Text text) fits = text_len 31 text fits

abbrev number_bytes : ℕ → List ℕ
number_bytes n = value_bytes kinds.Int (Int (pos n))

row_len : (key : List ℕ) (name : Value) (a b c d : ℕ) → length key ≤ 40 → FitsKind (kinds.Text 31) name
    → length (row_bytes catalog_shape.columns (catalog_row (Text key) name a b c d)) ≤ 108
row_len key name a b c d short fits =
    let first = text_len 40 key short in
    let second = name_len name fits in
    let numbers : List ℕ = number_bytes a ++ (number_bytes b ++ (number_bytes c ++ (number_bytes d ++ []))) in
    let both = length-append (value_bytes (kinds.Text 40) (Text key)) (value_bytes (kinds.Text 31) name ++ numbers) in
    let rest = length-append (value_bytes (kinds.Text 31) name) numbers in
    omega (arith, first, second, both, rest)

-- ---- the rows of a new table

-- A row of the catalog fits it, and its bytes are few.
pub record IsShortRow (row : Row) : Type 0 where
  pub fits : RowFits catalog_shape.columns row
  pub few : length (row_bytes catalog_shape.columns row) ≤ 108

short_row : (key : List ℕ) (name : Value) (a b c d : ℕ) → length key ≤ 40 → FitsKind (kinds.Text 31) name
    → IsShortRow (catalog_row (Text key) name a b c d)
short_row key name a b c d short fits = record {
  fits = (
    record { kind = short; allowed = λ is same. absurd cc },
    (
      record { kind = fits; allowed = λ is. absurd cc },
      (
        record { kind = tt; allowed = λ is. absurd cc },
        (
          record { kind = tt; allowed = λ is. absurd cc },
          (record { kind = tt; allowed = λ is. absurd cc }, (record { kind = tt; allowed = λ is. absurd cc }, tt)),
        ),
      ),
    ),
  );
  few = row_len key name a b c d short fits;
}

column_key_len : (table : List ℕ) (place : ℕ) → length table ≤ 31
    → length (codes "C" ++ table ++ codes "." ++ two_digits place) ≤ 40
column_key_len table place short = omega (
  arith,
  short,
  length-append (codes "C" ++ table ++ codes ".") (two_digits place),
  length-append (codes "C" ++ table) (codes "."),
  length-append (codes "C") table,
)

columns_short : (name : List ℕ) (key place : ℕ) (columns : List Column) → length name ≤ 31
    → All (λ (c : Column). IsName c.name) columns → EachRow IsShortRow (column_rows name key place columns)
columns_short name key place [] short named = tt
columns_short name key place (column ∷ columns) short named = (
  short_row (codes "C" ++ name ++ codes "." ++ two_digits place) (Text column.name) _ _ _ _
      (column_key_len name place short) (All-head (λ (c : Column). IsName c.name) column columns named).most,
  columns_short name key (place + 1) columns short (All-tail (λ (c : Column). IsName c.name) column columns named),
)

pub rows_short : (name : List ℕ) (shape : Shape) (page : ℕ) → IsName name
    → All (λ (c : Column). IsName c.name) shape.columns
    → EachRow IsShortRow (rows_at name shape page)
rows_short name shape page named columns = (
  short_row (codes "T" ++ name) Null _ _ _ _
      (let short = named.most in omega (arith, short, length-append (codes "T") name)) tt,
  columns_short name shape.key 0 shape.columns named.most columns,
)

-- ---- the version that stores such a row

module _ (size : ℕ) (catalog : Table) (t : ℕ) (row : Row) (short : IsShortRow row)
    (shaped : catalog.shape ≡ catalog_shape) where
  -- it is short
  pub body_short : (v : Version) → IsStored catalog t (writes.Insert row) v → length v.body ≤ 216
  body_short v stored =
      let packed : StandsFor v.body (row_bytes catalog_shape.columns row) =
      subst (λ (s : Shape). StandsFor v.body (row_bytes s.columns row)) shaped stored.row.packed in
      let most = short_packed v.body (row_bytes catalog_shape.columns row) packed in
      let few = short.few in omega (arith, most, few)

  -- so it is stored
  pub stored_so : (catalog.pointer.0 ≡ 0 → ⊥) → 1024 ≤ size → (it : Damaged)
      → RefusesStoring size catalog t row (faults.Damaged it) → ⊥
  stored_so some least it (no_memory is) = absurd cc
  stored_so some least it (unfit none is) =
      none (subst (λ (s : Shape). RowFits s.columns row) (sym shaped) short.fits)
  stored_so some least it (too_long v stored none is) = none (record {
    some = some;
    short = let few = body_short v stored in omega (arith, few, least);
  })

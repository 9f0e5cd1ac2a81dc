-- A version that a write stores in a table of a sound image fits a page, and so do the keys of its row.
use Rattle.std.proofs.Common.{◌≡◌, ◌⊎◌, ◌+◌, ◌/◌, ◌≤◌, inl, inr, ℕ, zero, suc, Bool, true, false, List, [], ◌∷◌, get_or, length, refl, subst, arith}
use Rattle.mg_entries.specs.Entries.{KeyFits, KeysFit}
use Rattle.mg_image.specs.Catalog.{FitsPages, longest_key}
use Rattle.mg_image.specs.RecordRules.{columns_for}
use Rattle.mg_image_overlay_laws.specs.tables.TableOwners.{IsOneOf}
use Rattle.mg_model.specs.CatalogRules.{EachIndex, EachTable}
use Rattle.mg_model.specs.declared.table.Index.{Index}
use Rattle.mg_model.specs.declared.table.Table.{Table}
use Rattle.mg_records.specs.Writing.{FitsShape}
use Rattle.mg_records.specs.declared.write.Write.{Write}
use Rattle.mg_records.specs.declared.write.Write.TheVariants as writes
use Rattle.mg_row_writes.specs.Laying.{KeysMayBeLaid}
use Rattle.mg_row_writes.specs.Storing.{IsStored, erases, row_stored}
use Rattle.mg_sortkey.specs.KeyBytes.{key_bytes}
use Rattle.mg_sortkey.specs.KeyLaws.{keys_are_short}
use Rattle.mg_value.specs.Rows.{RowFits, row_bytes, row_len_of}
use Rattle.mg_value.specs.declared.shape.Column.{Column}
use Rattle.mg_value.specs.declared.value.Value.{Value}
use Rattle.mg_value.specs.declared.value.Value.TheVariants.{Null}
use Rattle.mg_version.specs.declared.cell.Version.{Version}
use Rattle.mg_no_damage_laws.proofs.PackedLemmas.{erased_len, packed_short, row_len}

-- a table that is one of these has rows of half a page
pub rows_fit : (size : ℕ) (tables : List Table) (table : Table) → EachTable (FitsPages size) tables
    → IsOneOf tables table → row_len_of table.shape.columns ≤ size / 2
rows_fit size [] table fit is = absurd is
rows_fit size (t ∷ ts) table fit (inl same) =
    subst (λ (t : Table). row_len_of t.shape.columns ≤ size / 2) same fit.0.rows
rows_fit size (t ∷ ts) table fit (inr later) = rows_fit size ts table fit.1 later

columns_len : (table : Table) (deleted : Bool) → row_len_of (columns_for table deleted) ≡ row_len_of table.shape.columns
columns_len table false = refl
columns_len table true = erased_len table.shape.key table.shape.columns

-- so the version that a write stores there is short
pub stored_short : (size : ℕ) (table : Table) (t : ℕ) (write : Write) (v : Version) → IsStored table t write v
    → row_len_of table.shape.columns ≤ size / 2 → 1024 ≤ size → length v.body + 42 ≤ size
stored_short size table t write v stored half least =
    let packed = packed_short v.body (row_bytes (columns_for table (erases write)) (row_stored table write))
    stored.row.packed in
    let row = row_len (columns_for table (erases write)) (row_stored table write) stored.row.fits in
    let columns = columns_len table (erases write) in omega (arith, packed, row, columns, half, least)

-- ---- the keys of its row

-- a table that is one of these has keys of an eighth of a page
pub keys_fit : (size : ℕ) (tables : List Table) (table : Table) → EachTable (FitsPages size) tables
    → IsOneOf tables table
    → EachIndex (λ index. longest_key table.shape.columns index.column ≤ size / 8) table.indexes
keys_fit size [] table fit is = absurd is
keys_fit size (t ∷ ts) table fit (inl same) =
    subst (λ (t : Table). EachIndex (λ index. longest_key t.shape.columns index.column ≤ size / 8) t.indexes) same
    fit.0.indexes
keys_fit size (t ∷ ts) table fit (inr later) = keys_fit size ts table fit.1 later

-- a value of a row has no more key bytes than its column may have; a column that is not there has the key of NULL
value_short : (columns : List Column) (row : List Value) (n : ℕ) → RowFits columns row
    → (length (key_bytes (get_or row n Null)) ≤ longest_key columns n) ⊎ (length (key_bytes (get_or row n Null)) ≡ 1)
unfolding key_bytes
value_short [] [] zero fits = inr refl
value_short [] [] (suc n) fits = inr refl
value_short [] (v ∷ vs) n fits = absurd fits
value_short (c ∷ cs) [] n fits = absurd fits
value_short (c ∷ cs) (v ∷ vs) zero fits = inl (keys_are_short c.kind v fits.0.kind)
value_short (c ∷ cs) (v ∷ vs) (suc n) fits = value_short cs vs n fits.1

key_short : (size : ℕ) (columns : List Column) (row : List Value) → RowFits columns row → 1024 ≤ size → (index : Index)
    → longest_key columns index.column ≤ size / 8 → KeyFits size row index
key_short size columns row fits least index most = at (value_short columns row index.column fits)
  where
    at : (length (key_bytes (get_or row index.column Null)) ≤ longest_key columns index.column)
        ⊎ (length (key_bytes (get_or row index.column Null)) ≡ 1) → KeyFits size row index
    at (inl few) = omega (arith, few, most)
    at (inr one) = omega (arith, one, least)

each_short : (size : ℕ) (columns : List Column) (row : List Value) → RowFits columns row → 1024 ≤ size
    → (indexes : List Index) → EachIndex (λ index. longest_key columns index.column ≤ size / 8) indexes
    → KeysFit size row indexes
each_short size columns row fits least [] each = tt
each_short size columns row fits least (x ∷ xs) each =
    (key_short size columns row fits least x each.0, each_short size columns row fits least xs each.1)

pub write_keys_short : (size : ℕ) (table : Table) (write : Write) → FitsShape table.shape write
    → EachIndex (λ index. longest_key table.shape.columns index.column ≤ size / 8) table.indexes → 1024 ≤ size
    → KeysMayBeLaid size table write
write_keys_short size table (writes.Insert row) fits short least =
    each_short size table.shape.columns row fits least table.indexes short
write_keys_short size table (writes.Change key row) fits short least =
    each_short size table.shape.columns row fits.0 least table.indexes short
write_keys_short size table (writes.Erase key) fits short least = tt

-- The row of a version that a write stores, as it is read.
use Rattle.std.proofs.Common.{◌≡◌, ◌≢◌, ◌++◌, ◌+◌, ◌-◌, ◌==◌, get_or, ℕ, zero, suc, Bool, true, false, List, [], ◌∷◌, length, Option, None, Some, refl, sym, ap, ◌∙◌, subst, arith}
use Rattle.std.specs.Prelude.{if◌then◌else◌, nat_le, replicate, take, slice_get, slice_index_or}
use Rattle.std.specs.List.{prefix_len}
use Rattle.std.specs.Str.{bytes_eq}
use Rattle.std.proofs.lemmas.Bool.{eq-eqb, false≢true, ne_eqb}
use Rattle.mg_value.specs.Rows.{RowFits, columns_of, row_bytes}
use Rattle.mg_value.specs.declared.shape.Column.{Column}
use Rattle.mg_value.specs.declared.shape.Shape.{Shape}
use Rattle.mg_value.specs.declared.value.Value.{Value}
use Rattle.mg_value.specs.declared.value.Value.TheVariants.{Null}
use Rattle.mg_image.specs.Catalog.{IsSameTable}
use Rattle.mg_image.specs.Form.{Row, packed_coding}
use Rattle.mg_image.specs.Held.{told_row}
use Rattle.mg_image.specs.RecordRules.{IsKeyAlone, allowing_null, columns_for, erased_from}
use Rattle.mg_image.specs.Records.{key_of}
use Rattle.mg_model.specs.declared.table.Table.{Table}
use Rattle.mg_model.specs.Catalog.{catalog_name}
use Rattle.mg_model.specs.Changes.{same_name}
use Rattle.mg_records.specs.Writing.{FitsShape, IsOfColumn}
use Rattle.mg_records.specs.declared.write.Write.{Write}
use Rattle.mg_records.specs.declared.write.Write.TheVariants as writes
use Rattle.mg_rle.specs.Runs.{StandsFor}
use Rattle.mg_row_writes.specs.Storing.{IsStored, alone_at, erases, row_stored, written_at}
use Rattle.mg_rowcode.specs.Faults.{DecodesTo}
use Rattle.mg_version.specs.declared.cell.Version.{Version}
use Rattle.mg_engine_meaning_laws.specs.PlainTables.{AreFirst}
use Rattle.mg_engine_change_laws.specs.rows.Codes.{StoredRowsAreCoded}
use Rattle.mg_engine_change_laws.specs.rows.Kept.{row_given}
use Rattle.mg_engine_step_laws.specs.writes.Knowing.{CodesRow}

-- ---- columns of the first format

one_more : (c : Column) (cs : List Column) (n : ℕ) → take n cs ≡ cs → take (1 + n) (c ∷ cs) ≡ c ∷ cs
one_more c cs n is = let counted : suc n ≡ 1 + n = omega arith in
    subst (λ (k : ℕ). take k (c ∷ cs) ≡ c ∷ cs) counted (ap (λ (xs : List Column). c ∷ xs) is)

all_columns : (columns : List Column) → AreFirst columns → columns_of columns 1 ≡ columns
all_columns [] first = refl
all_columns (c ∷ cs) first =
    let on : nat_le c.since 1 ≡ true = ap (λ (n : ℕ). nat_le n 1) first.0 in
    let more : columns_of cs 1 ≡ cs = all_columns cs first.1 in
    rw on (one_more c cs (prefix_len (λ (column : Column). nat_le column.since 1) cs) more)

erased_first : (key at : ℕ) (columns : List Column) → AreFirst columns → AreFirst (erased_from key at columns)
erased_first key at [] first = tt
erased_first key at (c ∷ cs) first = (one (at == key), erased_first key (at + 1) cs first.1)
  where
    one : (b : Bool) → (if b then c else allowing_null c).since ≡ 1
    one true = first.0
    one false = first.0

pub for_first : (table : Table) (deleted : Bool) → AreFirst table.shape.columns → AreFirst (columns_for table deleted)
for_first table false first = first
for_first table true first = erased_first table.shape.key 0 table.shape.columns first

same_length : (columns : List Column) (row : List Value) → RowFits columns row → length row ≡ length columns
same_length [] [] fits = refl
same_length [] (v ∷ vs) fits = absurd fits
same_length (c ∷ cs) [] fits = absurd fits
same_length (c ∷ cs) (v ∷ vs) fits = ap suc (same_length cs vs fits.1)

none_left : (n m : ℕ) → n ≡ m → replicate (m - n) Null ≡ []
none_left n m same = ap (λ (k : ℕ). replicate k Null) (let is : m - n ≡ 0 = omega (arith, same) in is)

append_none : (xs : List Value) → xs ++ [] ≡ xs
append_none [] = refl
append_none (x ∷ xs) = ap (λ (ys : List Value). x ∷ ys) (append_none xs)

decodes : (columns : List Column) (body : List ℕ) (row : Row) → AreFirst columns → RowFits columns row
    → StandsFor body (row_bytes columns row) → DecodesTo columns 1 body row
decodes columns body row first fits stands = record {
  values = row;
  fits = subst (λ (cs : List Column). RowFits cs row) (sym (all_columns columns first)) fits;
  stands = subst (λ (cs : List Column). StandsFor body (row_bytes cs row)) (sym (all_columns columns first)) stands;
  whole = sym (ap (λ (xs : List Value). row ++ xs) (none_left (length row) (length columns)
      (same_length columns row fits)) ∙ append_none row);
}

-- what a body of such columns gives fits them
pub first_fits : (columns : List Column) (body : List ℕ) (row : Row) → AreFirst columns → DecodesTo columns 1 body row
    → RowFits columns row
first_fits columns body row first it =
    let fits : RowFits columns it.values = subst (λ (cs : List Column). RowFits cs it.values) (all_columns columns first) it.fits in
    subst (RowFits columns) (sym (it.whole ∙ (ap (λ (xs : List Value). it.values ++ xs)
    (none_left (length it.values) (length columns) (same_length columns it.values fits)) ∙ append_none it.values))) fits

-- ---- values by their places

pub index_is : (xs : List Value) (i : ℕ) → get_or xs i Null ≡ slice_index_or xs i Null
index_is [] i = refl
index_is (x ∷ xs) zero = refl
index_is (x ∷ xs) (suc i) = index_is xs i

-- the row of a deletion has its key alone
alone_else : (key at : ℕ) (value : Value) (columns : List Column) (i : ℕ) → at + i ≢ key
    → get_or (alone_at key at value columns) i Null ≡ Null
alone_else key at value [] i ne = refl
alone_else key at value (c ∷ cs) zero ne =
    let off : (at == key) ≡ false = ne_eqb at key (λ same. ne (omega (arith, same))) in rw off refl
alone_else key at value (c ∷ cs) (suc i) ne =
    alone_else key (at + 1) value cs i (λ same. ne (omega (arith, same)))

alone_here : (key at : ℕ) (value : Value) (columns : List Column) (i : ℕ) (column : Column) → at + i ≡ key
    → slice_get columns i ≡ Some column → get_or (alone_at key at value columns) i Null ≡ value
alone_here key at value [] i column is there = absurd cc
alone_here key at value (c ∷ cs) zero column is there =
    let on : (at == key) ≡ true = eq-eqb at key (omega (arith, is)) in rw on refl
alone_here key at value (c ∷ cs) (suc i) column is there =
    alone_here key (at + 1) value cs i column (omega (arith, is)) there

-- ---- the row

module _ (its table : Table) (t : ℕ) (v : Version) (same : IsSameTable its table)
    (other : same_name table.name catalog_name ≡ false) (first : AreFirst table.shape.columns) where
  columns_same : (deleted : Bool) → columns_for its deleted ≡ columns_for table deleted
  columns_same true = ap (λ (s : Shape). erased_from s.key 0 s.columns) same.shape
  columns_same false = ap (λ (s : Shape). s.columns) same.shape

  key_place : its.shape.key ≡ table.shape.key
  key_place = ap (λ (s : Shape). s.key) same.shape

  plain : (row : Row) → told_row its row ≡ row
  plain row = let off : bytes_eq its.name catalog_name ≡ false =
      ap (λ (n : List ℕ). bytes_eq n catalog_name) same.name ∙ other in rw off refl

  key_is : (row : Row) → key_of its row ≡ slice_index_or row table.shape.key Null
  key_is row = ap (λ (n : ℕ). get_or row n Null) key_place ∙ index_is row table.shape.key

  codes : (write : Write) → FitsShape table.shape write → IsStored table t write v → key_of its (row_stored table write) ≡ written_at table write
      → (erases write ≡ true → IsKeyAlone its (row_stored table write))
      → (if erases write then None else Some (told_row its (row_stored table write))) ≡ row_given write
      → CodesRow packed_coding its v (row_stored table write) t (written_at table write) (row_given write)
  codes write fits stored keyed alone given = record {
    its = stored.its;
    format = stored.format;
    spelled = subst (λ (f : ℕ). DecodesTo (columns_for its v.deleted) f v.body (row_stored table write))
        (sym stored.format) (subst (λ (d : Bool). DecodesTo (columns_for its d) 1 v.body (row_stored table write))
        (sym stored.deleted) (subst (λ (cs : List Column). DecodesTo cs 1 v.body (row_stored table write))
        (sym (columns_same (erases write))) (decodes (columns_for table (erases write)) v.body
        (row_stored table write) (for_first table (erases write) first) stored.row.fits stored.row.packed)));
    storable = stored.row.storable;
    erased = λ gone. alone (sym stored.deleted ∙ gone);
    keyed = keyed;
    given = ap (λ (d : Bool). if d then None else Some (told_row its (row_stored table write))) stored.deleted ∙ given;
  }

  erased_key : (key : Value) (column : Option Column) → slice_get table.shape.columns table.shape.key ≡ column
      → IsOfColumn column key
      → get_or (alone_at table.shape.key 0 key table.shape.columns) table.shape.key Null ≡ key
  erased_key key None is of = absurd of
  erased_key key (Some column) is of = alone_here table.shape.key 0 key table.shape.columns table.shape.key column
      (let zero_less : 0 + table.shape.key ≡ table.shape.key = omega arith in zero_less) is

  pub coded : (write : Write) → FitsShape table.shape write → IsStored table t write v
      → CodesRow packed_coding its v (row_stored table write) t (written_at table write) (row_given write)
  coded (writes.Insert row) fits stored = codes (writes.Insert row) fits stored (key_is row)
      (λ gone. absurd (false≢true gone)) (ap Some (plain row))
  coded (writes.Change key row) fits stored = codes (writes.Change key row) fits stored
      (key_is row ∙ fits.1) (λ gone. absurd (false≢true gone)) (ap Some (plain row))
  coded (writes.Erase key) fits stored = codes (writes.Erase key) fits stored
      (ap (λ (n : ℕ). get_or (alone_at table.shape.key 0 key table.shape.columns) n Null) key_place
      ∙ erased_key key (slice_get table.shape.columns table.shape.key) refl fits)
      (λ gone i ne. alone_else table.shape.key 0 key table.shape.columns i (λ same_.
      let plus : i ≡ 0 + i = omega arith in ne (plus ∙ (same_ ∙ sym key_place)))) refl

pub stored_rows_are_coded : StoredRowsAreCoded
stored_rows_are_coded its table t write v same other first fits stored =
    coded its table t v same other first write fits stored

-- A write that fits a lawful table has its key.
use Rattle.std.proofs.Common.{◌≡◌, ◌≢◌, ℕ, zero, suc, List, [], ◌∷◌}
use Rattle.std.specs.Prelude.{slice_index_or}
use Rattle.mg_core.specs.Writing.{NamesKey, key_memory, key_null}
use Rattle.mg_model.specs.declared.table.Table.{Table}
use Rattle.mg_no_damage_laws.specs.Keyed.{IsKeyAt, IsKeyed}
use Rattle.mg_records.specs.Writing.{FitsShape}
use Rattle.mg_records.specs.declared.write.Write.{Write}
use Rattle.mg_records.specs.declared.write.Write.TheVariants as writes
use Rattle.mg_row_writes.specs.Storing.{written_at}
use Rattle.mg_value.specs.Rows.{RowFits}
use Rattle.mg_value.specs.declared.shape.Column.{Column}
use Rattle.mg_value.specs.declared.value.Value.{Value}
use Rattle.mg_value.specs.declared.value.Value.TheVariants.{Null}
use Rattle.mg_no_damage_laws.specs.CoreReads.{KeysAreNamed}

-- the value in the column of a key is not NULL
key_some : (columns : List Column) (row : List Value) (at : ℕ) → RowFits columns row → IsKeyAt columns at
    → slice_index_or row at Null ≢ Null
key_some [] row at fits is = absurd is
key_some (column ∷ columns) [] at fits is = absurd fits
key_some (column ∷ columns) (value ∷ row) zero fits is = fits.0.allowed is.1
key_some (column ∷ columns) (value ∷ row) (suc at) fits is = key_some columns row at fits.1 is.1

named : (table : Table) (write : Write) → IsKeyed table.shape → FitsShape table.shape write → NamesKey write
    → written_at table write ≡ Null → ⊥
named table (writes.Insert row) keyed fits names null =
    key_some table.shape.columns row table.shape.key fits keyed null
named table (writes.Change key row) keyed fits names null = names null
named table (writes.Erase key) keyed fits names null = names null

pub keys_are_named : (D : Type 0) → KeysAreNamed D
keys_are_named D old new table write keyed fits page field found wanted (key_memory told) =
    let no = told.0 in absurd cc
keys_are_named D old new table write keyed fits page field found wanted (key_null null) =
    named table write keyed fits null.2 null.0

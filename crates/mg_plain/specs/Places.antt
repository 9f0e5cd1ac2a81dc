-- Where a key stands among rows in key order.
use Rattle.std.specs.Prelude.{◌≡◌, ℕ, zero, suc, Bool, true, false, [], ◌∷◌, ◌++◌, take, drop, Option}
use Rattle.std.specs.List.{remove}
use Rattle.std.specs.declared.cmp.Ordering.TheVariants.{Less, Equal, Greater}
use Rattle.mg_value.specs.declared.value.Value.{Value}
use Rattle.mg_value.specs.Values.{value_cmp}
use Rattle.mg_model.specs.Changes.{Cells, KeyedRows, with_row}

-- the row at this place has the key, or the first row from there on has a greater one; the rows
-- before it have less ones
abbrev pub IsPlace : KeyedRows → Value → ℕ → Bool → Type 0
IsPlace [] key place found = (place ≡ 0) × (found ≡ false)
IsPlace (r ∷ rows) key zero true = value_cmp key r.0 ≡ Equal
IsPlace (r ∷ rows) key zero false = value_cmp key r.0 ≡ Less
IsPlace (r ∷ rows) key (suc place) found = (value_cmp key r.0 ≡ Greater) × IsPlace rows key place found

-- rows without the one at a place, if it was found there
abbrev pub without_row : ℕ → Bool → KeyedRows → KeyedRows
without_row place true rows = remove rows place
without_row place false rows = rows

-- rows with a row at a place, if there is one
abbrev pub with_row_at : ℕ → Value → Option Cells → KeyedRows → KeyedRows
with_row_at place key row rows = take place rows ++ with_row key row (drop place rows)

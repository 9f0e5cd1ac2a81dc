-- The printed text of where a history begins.
use Rattle.std.specs.Prelude.{ℕ, List, ◌++◌, codes, decimal, Option, Some, None}
use Rattle.std.specs.List.{flat_map}
use Rattle.mg_value.specs.declared.value.Value.{Value}
use Rattle.mg_value.specs.Values.{printed}
use Rattle.mg_model.specs.declared.opening.LimboChange.{LimboChange}
use Rattle.mg_model.specs.declared.opening.Opening.{Opening}
use Rattle.mg_model.specs.declared.opening.PlacedRow.{PlacedRow}
use Rattle.mg_model.specs.Changes.{Cells}
use Rattle.mg_script.specs.Transcript.{joined}
use Rattle.mg_trace.specs.Text.{by_text}

-- the number that is drawn next
abbrev pub next_line : ℕ → List ℕ
next_line next = codes "OPEN NEXT " ++ (decimal next ++ codes "\n")

-- a row of a table: its values, behind a blank
abbrev pub bare_text : Cells → List ℕ
bare_text row = codes " " ++ joined row

abbrev pub row_line : PlacedRow → List ℕ
row_line placed = codes "OPEN " ++ (placed.table ++ (bare_text placed.row ++ codes "\n"))

-- what a key comes to have in limbo: a row, or it is deleted
abbrev pub what_text : Value → Option Cells → List ℕ
what_text key None = codes " DELETE " ++ printed key
what_text key (Some row) = bare_text row

abbrev pub limbo_line : LimboChange → List ℕ
limbo_line c = by_text (codes "LIMBO ") c.by.0
    ++ (codes " " ++ (c.table ++ (what_text c.key c.row ++ codes "\n")))

-- an opening: the number that is drawn next, its rows, and the changes of the transactions in limbo, each in the order
-- of the lists
abbrev pub opening_text : Opening → List ℕ
opening_text o = next_line o.next.0 ++ (flat_map row_line o.rows ++ flat_map limbo_line o.limbo)

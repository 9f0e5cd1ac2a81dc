-- A walk over the records of a table, one behind another.
use Rattle.std.specs.Prelude.{◌≡◌, ◌≤◌, ◌+◌, ℕ, Bool, true, List, [], ◌∷◌, ◌++◌, filter, nat_le, Option, None, Some, IsPermutation}
use Rattle.mg_base.specs.declared.numbers.RecId.{RecId}
use Rattle.mg_heap.specs.Table.{IsTable}
use Rattle.mg_heap.specs.Walk.{GivesNext, behind}
use Rattle.mg_image.specs.Form.{Pages, Row, packed_coding}
use Rattle.mg_image.specs.Held.{told_row}
use Rattle.mg_image.specs.RecordRules.{AreRecords, Facts}
use Rattle.mg_image.specs.Records.{Reading, cells_of, key_of, shown}
use Rattle.mg_image.specs.Tables.{Has, IsOnce}
use Rattle.mg_chain.specs.Chains.{takes_version}
use Rattle.mg_chain.specs.Views.{BaseIsTold}
use Rattle.mg_model.specs.Answers.{is_active}
use Rattle.mg_model.specs.Changes.{KeyedRows, rows_of}
use Rattle.mg_model.specs.History.{Entries}
use Rattle.mg_model.specs.Machine.{state_of, view}
use Rattle.mg_model.specs.declared.opening.Opening.{Opening}
use Rattle.mg_model.specs.declared.table.Table.{Table}
use Rattle.mg_snap.specs.Live.{State}
use Rattle.mg_value.specs.declared.value.Value.{Value}
use Rattle.mg_seek.specs.Histories.{AreItsPages, DieAlike, HasSpeaker}
use Rattle.mg_seek.specs.TableRecords.{records_in, records_on}

-- the records of a page from a slot on
abbrev pub records_from : List ℕ → ℕ → ℕ → List RecId
records_from b n from = filter (λ rec. nat_le from rec.slot) (records_on b n)

-- the records of a table behind one, or all of them, in the order of its data pages and their slots
abbrev pub records_behind : Pages → List ℕ → Option RecId → List RecId
records_behind view data_pages None = records_in view data_pages
records_behind view data_pages (Some x) =
    records_from (view x.page.0) x.page.0 (x.slot + 1)
    ++ records_in view (behind data_pages x.page.0)

-- a walk stands at a record of some data pages, or at their beginning
abbrev pub StandsAt : List ℕ → Option RecId → Type 0
StandsAt data_pages None = Unit {0}
StandsAt data_pages (Some x) = Has data_pages x.page.0

-- these records come next: one and those behind it, or none is left
abbrev pub ComesTo : Pages → List ℕ → Option RecId → List RecId → Type 0
ComesTo view data_pages None records = records ≡ []
ComesTo view data_pages (Some x) records =
    (records ≡ x ∷ records_behind view data_pages (Some x)) × Has data_pages x.page.0

-- Where no data page of a table stands twice, a walk from the beginning comes to each record of the
-- table once, in their order: the record that is given behind another is the next of those behind it.
abbrev pub WalksInOrder : Type 0
WalksInOrder = (view : Pages) (owner : ℕ) (pointers data_pages : List ℕ) (after found : Option RecId)
    → IsTable view owner pointers data_pages → IsOnce data_pages → StandsAt data_pages after
    → GivesNext view owner after found
    → ComesTo view data_pages found (records_behind view data_pages after)

-- a row of a table with its key, as a history has it, in front of others, if there is one
abbrev pub keyed : Table → Option Row → KeyedRows → KeyedRows
keyed table None rows = rows
keyed table (Some row) rows = (key_of table row, told_row table row) ∷ rows

-- the rows that records show by those who count, in the order of the records
abbrev pub rows_shown : (ℕ → Bool) → Table → Reading → List RecId → KeyedRows
rows_shown counts table r [] = []
rows_shown counts table r (rec ∷ recs) = keyed table (shown counts (r rec)) (rows_shown counts table r recs)

-- Where for each key of a table one record at most speaks, the rows that an active transaction sees of
-- the table's records are those of its view, each once.
abbrev pub WalksShowViews : Type 0
WalksShowViews = (o : Opening) (h : Entries) (live : State) (t : ℕ) (pages : Pages) (table : Table)
    (data_pages : List ℕ) (f : Facts) (r : Reading) (speaker : Value → Option RecId)
    → AreRecords packed_coding f (cells_of pages) r → DieAlike o h f
    → IsOnce data_pages → AreItsPages f table data_pages
    → ((key : Value) → HasSpeaker o h f r table key (speaker key))
    → is_active (state_of o h t) ≡ true → BaseIsTold o h live t
    → IsPermutation
    (rows_shown (takes_version (state_of o h) live t) table r (records_in pages data_pages))
    (rows_of (view o h t) table.name)

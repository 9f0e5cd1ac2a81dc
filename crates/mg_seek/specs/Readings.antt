-- What is found of a record, in the terms of a reading of the image.
use Rattle.std.specs.Prelude.{◌≡◌, ◌↔◌, ℕ, Bool, false, List, [], ◌∷◌, Option, None, Some}
use Rattle.mg_base.specs.declared.numbers.RecId.{RecId}
use Rattle.mg_base.specs.declared.numbers.TxNo.{TxNo}
use Rattle.mg_base.specs.declared.transaction.TxState.{TxState}
use Rattle.mg_chain.specs.Chains.{takes_version}
use Rattle.mg_chain.specs.Views.{first_entry}
use Rattle.mg_image.specs.Form.{Pages, Row, packed_coding}
use Rattle.mg_image.specs.RecordRules.{AreRecords, Facts, table_in}
use Rattle.mg_image.specs.Records.{Cells, Chain, Reading, cells_of, record_key, shown}
use Rattle.mg_image.specs.declared.entry.Entry.{Entry}
use Rattle.mg_model.specs.declared.table.Table.{Table}
use Rattle.mg_snap.specs.Live.{State}
use Rattle.mg_value.specs.declared.value.Value.{Value}
use Rattle.mg_version.specs.declared.cell.Link.{Link}
use Rattle.mg_seek.specs.declared.views.Obstacle.{Obstacle}
use Rattle.mg_seek.specs.declared.walk.Placed.{Placed}
use Rattle.mg_seek.specs.declared.whose.Wanted.TheVariants.{Living}
use Rattle.mg_seek.specs.Speaking.{Speaks, is_erased_for_all}
use Rattle.mg_seek.specs.Versions.{FirstAt, placed, wants}
use Rattle.mg_seek.specs.Views.{IsKeyOf, IsObstacle, IsRowSeen, obstacle_of}

-- an entry's version where it stands, if there is one
abbrev pub placed_if : Option Entry → Option Placed
placed_if None = None
placed_if (Some e) = Some (placed e.at e.version)

-- what is found from a link on is the first of the versions of every reading
abbrev pub PlacesOfReadings : Type 0
PlacesOfReadings = (h : Cells) (takes : ℕ → Bool) (link : Option Link) (found : Option Placed)
    (es : List Entry) → FirstAt h takes link found → Chain h link es
    → found ≡ placed_if (first_entry takes es)

-- A record of a table is read with others of the image, and they are lawful.
pub record IsReadAt (view : Pages) (f : Facts) (r : Reading) (table : Table) (rec : RecId) : Type 0
  where
    pub lawful : AreRecords packed_coding f (cells_of view) r
    pub of_table : table_in f rec ≡ Some table

-- the row that a transaction sees of a record is the one that its versions show in every reading
abbrev pub RowsOfReadings : Type 0
RowsOfReadings = (state : ℕ → TxState) (live : State) (t : TxNo) (view : Pages) (table : Table)
    (rec : RecId) (row : Option Row) (f : Facts) (r : Reading) → IsReadAt view f r table rec
    → IsRowSeen state live t view table rec row
    → row ≡ shown (takes_version state live t.0) (r rec)

-- the key of a record is that of its versions in every reading, none where it has none
abbrev pub key_in : Table → List Entry → Option Value
key_in table [] = None
key_in table (e ∷ es) = Some (record_key table (e ∷ es))

abbrev pub KeysOfReadings : Type 0
KeysOfReadings = (state : ℕ → TxState) (live : State) (view : Pages) (table : Table) (rec : RecId)
    (key : Option Value) (f : Facts) (r : Reading) → IsReadAt view f r table rec
    → IsKeyOf state live view table rec key → key ≡ key_in table (r rec)

-- These versions of a record speak for a key: the newest that is no dead transaction's is no
-- committed deletion that every base sees, and the record has the key.
pub record SpeakIn (state : ℕ → TxState) (live : State) (table : Table) (key : Value)
    (es : List Entry) : Type 0 where
  pub newest : Entry
  pub first : first_entry (wants state live Living) es ≡ Some newest
  pub stays : is_erased_for_all state live newest.version ≡ false
  pub keyed : record_key table es ≡ key

-- a record speaks for a key exactly where its versions do in every reading
abbrev pub SpeakersOfReadings : Type 0
SpeakersOfReadings = (state : ℕ → TxState) (live : State) (view : Pages) (table : Table) (key : Value)
    (rec : RecId) (f : Facts) (r : Reading) → IsReadAt view f r table rec
    → Speaks state live view table key rec ↔ SpeakIn state live table key (r rec)

-- the writer of an entry, where it can be in the way of t
abbrev pub obstacle_by : (ℕ → TxState) → State → ℕ → Option Entry → Option Obstacle
obstacle_by state live t None = None
obstacle_by state live t (Some e) = obstacle_of state live t e.version.tx

-- the obstacle of a record is the writer of its newest version that is no dead transaction's, in
-- every reading, where it can be in the way
abbrev pub ObstaclesOfReadings : Type 0
ObstaclesOfReadings = (state : ℕ → TxState) (live : State) (t : ℕ) (view : Pages) (table : Table)
    (rec : RecId) (obstacle : Option Obstacle) (f : Facts) (r : Reading)
    → IsReadAt view f r table rec → IsObstacle state live t view rec obstacle
    → obstacle ≡ obstacle_by state live t (first_entry (wants state live Living) (r rec))

-- The table of a name that a transaction sees, by the catalog's pages of an engine.
use Rattle.std.specs.Prelude.{◌≡◌, ℕ, List, Option}
use Rattle.mg_base.specs.declared.numbers.TxNo.{TxNo}
use Rattle.mg_base.specs.declared.transaction.TxState.TheVariants.{Active}
use Rattle.mg_model.specs.declared.opening.Opening.{Opening}
use Rattle.mg_model.specs.declared.table.Table.{Table}
use Rattle.mg_model.specs.History.{Entries}
use Rattle.mg_model.specs.Legal.{IsLegal, MayBegin}
use Rattle.mg_model.specs.Machine.{state_of}
use Rattle.mg_records.specs.Reading.{shape_seen}
use Rattle.mg_image.specs.Form.{Pages}
use Rattle.mg_seek.specs.TableRows.{IsTableSeen}
use Rattle.mg_engine_step_laws.specs.standing.Standing.{IsSeenAs, Standing}
use Rattle.mg_engine_step_laws.specs.standing.Known.{KnowsPages}

-- the table that is found under a name by the rows of the catalog that an active transaction sees is the one
-- that the history tells: it has the name and that shape, or none is told
abbrev pub TablesAreTold : Type 0
TablesAreTold = (size : ℕ) (o : Opening) (h : Entries) (s : Standing) (pages : Pages)
    (knows : KnowsPages size o h s pages) (t : TxNo) (name : List ℕ) (found : Option Table)
    → MayBegin o → IsLegal o h → state_of o h t.0 ≡ Active
    → IsTableSeen s.state s.live t pages knows.shows.layout.catalog.table name found
    → IsSeenAs name (shape_seen o h t.0 name) found

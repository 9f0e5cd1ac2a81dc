-- The record that is found for a key that is still to be taken back.
use Rattle.std.specs.Prelude.{◌≡◌, ℕ, true, List, ◌∷◌, Option, Some}
use Rattle.mg_base.specs.declared.numbers.RecId.{RecId}
use Rattle.mg_base.specs.declared.transaction.TxState.TheVariants.{Active}
use Rattle.mg_engine_step_laws.specs.backs.Shown.{ShowsMidway}
use Rattle.mg_image_overlay_laws.specs.tables.Growing.{IsTableOf}
use Rattle.mg_image.specs.Form.{Pages, packed_form}
use Rattle.mg_image.specs.Histories.{newest_at, row_change}
use Rattle.mg_image.specs.Records.{record_key, writer}
use Rattle.mg_image.specs.Tables.{stands_of, table_at}
use Rattle.mg_image.specs.declared.entry.Entry.{Entry as Read}
use Rattle.mg_model.specs.Changes.{Cells, has_change}
use Rattle.mg_model.specs.History.{Entries, Entry}
use Rattle.mg_model.specs.declared.change.Change.{Change}
use Rattle.mg_model.specs.declared.opening.Opening.{Opening}
use Rattle.mg_model.specs.declared.table.Table.{Table}
use Rattle.mg_seek.specs.Speaking.{IsSpeaker}
use Rattle.mg_seek.specs.Versions.{IsFirst, wants}
use Rattle.mg_seek.specs.declared.walk.Placed.{Placed}
use Rattle.mg_seek.specs.declared.whose.Wanted.TheVariants.{Any}
use Rattle.mg_engine_step_laws.specs.standing.Standing.{Remembers, ShowsHistory, Standing}
use Rattle.mg_value.specs.declared.value.Value.{Value}

-- A record spoke at first for a key of a table; it has the key still, and its newest version is the transaction's own.
pub record IsItsRecord (size : ℕ) (o : Opening) (h : Entries) (e : Entry) (t : ℕ) (whole left : List Change)
    (s : Standing) (begun pages : Pages) (first : ShowsHistory packed_form size o h s begun)
    (midway : ShowsMidway packed_form size o h e t whole left s begun first pages) (its : Table) (key : Value)
    (rec : RecId) : Type 0 where
  pub of_table : table_at (stands_of midway.layout) rec.page.0 ≡ Some its
  pub keyed : record_key its (midway.reading rec) ≡ key
  pub newest : Read
  pub older : List Read
  pub read : midway.reading rec ≡ newest ∷ older
  pub own : writer newest ≡ t
  pub spoken : first.versions.speaker its.name key ≡ Some rec

-- What is found in the middle to speak for a key, with a newest version of the transaction's own, is that record.
abbrev pub ItsRecordIsFound : Type 0
ItsRecordIsFound = (size : ℕ) (o : Opening) (h : Entries) (e : Entry) (t : ℕ) (whole left : List Change)
    (s : Standing) (begun pages : Pages) (first : ShowsHistory packed_form size o h s begun)
    (midway : ShowsMidway packed_form size o h e t whole left s begun first pages) → Remembers o h s
    → s.state t ≡ Active → (its : Table) → IsTableOf midway.layout its → (key : Value) (rec : RecId)
    (newest : Placed) → IsSpeaker s.state s.live pages its key (Some rec)
    → IsFirst pages (wants s.state s.live Any) rec (Some newest) → newest.version.tx.0 ≡ t
    → IsItsRecord size o h e t whole left s begun pages first midway its key rec

-- The newest change at a key, which gives a row, or none.
pub record HasNewest (cs : List Change) (name : List ℕ) (key : Value) : Type 0 where
  pub row : Option Cells
  pub is_ : newest_at cs name key ≡ Some (row_change row)

-- where a list has a change of a key, it has a newest one there
abbrev pub ChangesAreThere : Type 0
ChangesAreThere = (cs : List Change) (name : List ℕ) (key : Value) → has_change cs name key ≡ true
    → HasNewest cs name key

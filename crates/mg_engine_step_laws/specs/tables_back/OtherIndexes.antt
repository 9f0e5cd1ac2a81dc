-- A table but for its indexes: what is read of it is the same.
use Rattle.std.proofs.Common.{◌≡◌, refl, sym, subst, ℕ, Bool, true, false, List, [], ◌∷◌, Option, None, Some}
use Rattle.mg_base.specs.declared.numbers.RecId.{RecId}
use Rattle.mg_base.specs.declared.numbers.TxNo.{TxNo}
use Rattle.mg_base.specs.declared.transaction.TxState.{TxState}
use Rattle.mg_value.specs.declared.shape.Column.{Column}
use Rattle.mg_value.specs.declared.value.Value.{Value}
use Rattle.mg_version.specs.declared.cell.Version.{Version}
use Rattle.mg_model.specs.declared.table.Index.{Index}
use Rattle.mg_model.specs.declared.table.Table.{Table}
use Rattle.mg_rowcode.specs.Faults.{DecodesTo}
use Rattle.mg_snap.specs.Live.{State}
use Rattle.mg_image.specs.Catalog.{IsSameTable}
use Rattle.mg_image.specs.Form.{Pages, Row}
use Rattle.mg_image.specs.RecordRules.{columns_for}
use Rattle.mg_seek.specs.declared.walk.Placed.{Placed}
use Rattle.mg_seek.specs.Rows.{GivesRow, IsRowFound, IsRowOr}
use Rattle.mg_seek.specs.Speaking.{IsSpeaker, Speaks, SpeaksAmong}
use Rattle.mg_seek.specs.TableRecords.{EachRecord}
use Rattle.mg_seek.specs.Views.{IsRowSeen}

-- what holds of a table with the indexes of another, which is the same but for them, holds of that
pub as_other : (its table : Table) → IsSameTable its table → (P : Table → Type 0)
    → P (record table { indexes = its.indexes }) → P its
as_other its table same P holds = subst P (λ i. record {
  name = (sym same.name) i;
  shape = (sym same.shape) i;
  pointer = (sym same.pointer) i;
  indexes = its.indexes;
}) holds

pub as_first : (its table : Table) → IsSameTable its table → (P : Table → Type 0) → P its
    → P (record table { indexes = its.indexes })
as_first its table same P holds = subst P (λ i. record {
  name = same.name i;
  shape = same.shape i;
  pointer = same.pointer i;
  indexes = its.indexes;
}) holds

module _ (table : Table) (indexes : List Index) where
  abbrev other : Table
  other = record table { indexes = indexes }

  columns_same : (b : Bool) → columns_for table b ≡ columns_for other b
  columns_same true = refl
  columns_same false = refl

  gives_on : (v : Version) (row : Row) → GivesRow table v row → GivesRow other v row
  gives_on v row gives = record {
    coded = subst (λ (cs : List Column). DecodesTo cs v.format v.body row) (columns_same v.deleted) gives.coded;
    storable = gives.storable;
  }

  gives_off : (v : Version) (row : Row) → GivesRow other v row → GivesRow table v row
  gives_off v row gives = record {
    coded = subst (λ (cs : List Column). DecodesTo cs v.format v.body row) (sym (columns_same v.deleted))
        gives.coded;
    storable = gives.storable;
  }

  module _ (state : ℕ → TxState) (live : State) (view : Pages) where
    speaks_on : (key : Value) (rec : RecId) → Speaks state live view table key rec
        → Speaks state live view other key rec
    speaks_on key rec speaks = record {
      newest = speaks.newest;
      living = speaks.living;
      stays = speaks.stays;
      row = speaks.row;
      given = gives_on speaks.newest.version speaks.row speaks.given;
      keyed = speaks.keyed;
    }

    speaks_off : (key : Value) (rec : RecId) → Speaks state live view other key rec
        → Speaks state live view table key rec
    speaks_off key rec speaks = record {
      newest = speaks.newest;
      living = speaks.living;
      stays = speaks.stays;
      row = speaks.row;
      given = gives_off speaks.newest.version speaks.row speaks.given;
      keyed = speaks.keyed;
    }

    none_on : (key : Value) (recs : List RecId)
        → EachRecord (λ rec. Speaks state live view table key rec → ⊥) recs
        → EachRecord (λ rec. Speaks state live view other key rec → ⊥) recs
    none_on key [] each = tt
    none_on key (rec ∷ recs) each =
        ((λ speaks. each.0 (speaks_off key rec speaks)), none_on key recs each.1)

    among_on : (key : Value) (recs : List RecId) (found : Option RecId)
        → SpeaksAmong state live view table key recs found
        → SpeaksAmong state live view other key recs found
    among_on key recs None each = none_on key recs each
    among_on key recs (Some rec) speaks = (speaks.0, speaks_on key rec speaks.1)

    pub speaker_on : (key : Value) (found : Option RecId)
        → IsSpeaker state live view table key found → IsSpeaker state live view other key found
    speaker_on key found is = record {
      records = is.records;
      of_table = is.of_table;
      speaks = among_on key is.records found is.speaks;
    }

    row_or_on : (b : Bool) (v : Version) (row : Option Row) → IsRowOr b table v row
        → IsRowOr b other v row
    row_or_on true v row is = is
    row_or_on false v row is = (is.0, is.1, gives_on v is.0 is.2)

    row_found_on : (found : Option Placed) (row : Option Row) → IsRowFound table found row
        → IsRowFound other found row
    row_found_on None row is = is
    row_found_on (Some p) row is = row_or_on p.version.deleted p.version row is

    pub row_seen_on : (t : TxNo) (rec : RecId) (row : Option Row)
        → IsRowSeen state live t view table rec row → IsRowSeen state live t view other rec row
    row_seen_on t rec row is = record {
      found = is.found;
      first = is.first;
      gives = row_found_on is.found row is.gives;
    }

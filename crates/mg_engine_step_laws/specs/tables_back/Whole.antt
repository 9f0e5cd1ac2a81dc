-- The rows of the catalog that a transaction takes back are of whole tables, if their keys are.
use Rattle.std.specs.Prelude.{◌≡◌, ℕ, Bool, true, List, [], ◌∷◌, None, Some}
use Rattle.mg_base.specs.declared.numbers.RecId.{RecId}
use Rattle.mg_base.specs.declared.transaction.TxState.{TxState}
use Rattle.mg_base.specs.declared.transaction.TxState.TheVariants.{Limbo}
use Rattle.mg_value.specs.declared.value.Value.{Value}
use Rattle.mg_model.specs.declared.change.Change.{Change as OwnChange}
use Rattle.mg_model.specs.declared.opening.Opening.{Opening}
use Rattle.mg_model.specs.Catalog.{catalog_name, column_key, index_key, table_key}
use Rattle.mg_model.specs.History.{Entries}
use Rattle.mg_model.specs.Machine.{own}
use Rattle.mg_image.specs.declared.entry.Entry.{Entry}
use Rattle.mg_image.specs.Catalog.{committed_with}
use Rattle.mg_image.specs.Form.{Form, Pages, Rows}
use Rattle.mg_image.specs.Held.{AreRows}
use Rattle.mg_image.specs.Histories.{newest_at}
use Rattle.mg_image.specs.RecordRules.{table_in}
use Rattle.mg_image.specs.Records.{Change, key_of, writer}
use Rattle.mg_image.specs.Sound.{facts_by}
use Rattle.mg_image_overlay_laws.specs.kept.KeptImages.{IsKept}
use Rattle.mg_engine_step_laws.specs.tables_back.TakenRows.{AreWhole}

-- Of the keys of the catalog that own changes are at some go: the key of a column goes where that of its table does, and
-- none is of an index. (The undo list in memory has these keys, so it can be tested.)
pub record GoWhole (changes : List OwnChange) (gone : Value → Bool) : Type 0 where
  pub changed : (key : Value) → gone key ≡ true → (c : Change) × (newest_at changes catalog_name key ≡ Some c)
  pub columns : (name : List ℕ) (place : ℕ) (c : Change)
      → newest_at changes catalog_name (column_key name place) ≡ Some c
      → gone (column_key name place) ≡ gone (table_key name)
  pub indexes : (name : List ℕ) → newest_at changes catalog_name (index_key name) ≡ None

-- So whole tables go, whichever transactions in limbo come to be committed, where the rows that go are first versions of
-- their records. (What others have put beside such a table would not be lawful without it.)
abbrev pub GoneAreWhole : Form → Type 0
GoneAreWhole form = (size : ℕ) (o : Opening) (h : Entries) (now : ℕ → TxState) (t : ℕ) (pages : Pages)
    (kept : IsKept form size o h now pages pages) (gone : Value → Bool) → now t ≡ Limbo → GoWhole (own o h t) gone
    → ((p : RecId) (e : Entry) (older : List Entry)
    → table_in (facts_by now pages kept.layout) p ≡ Some kept.layout.catalog.table
    → kept.reading p ≡ e ∷ older → writer e ≡ t → gone (key_of kept.layout.catalog.table e.row) ≡ true → older ≡ [])
    → (chosen : ℕ → Bool) (rows : Rows) → AreRows (facts_by now pages kept.layout)
    (committed_with (facts_by now pages kept.layout) chosen) kept.reading kept.layout.catalog.table rows
    → AreWhole gone rows

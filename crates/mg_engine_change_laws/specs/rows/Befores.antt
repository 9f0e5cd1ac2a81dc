-- What stands at a key before it is written is what the transaction's own changes have there.
use Rattle.std.specs.Prelude.{◌≡◌, ℕ, Option}
use Rattle.mg_base.specs.declared.numbers.RecId.{RecId}
use Rattle.mg_base.specs.declared.numbers.TxNo.{TxNo}
use Rattle.mg_base.specs.declared.transaction.TxState.TheVariants.{Active}
use Rattle.mg_value.specs.declared.value.Value.{Value}
use Rattle.mg_model.specs.declared.opening.Opening.{Opening}
use Rattle.mg_model.specs.declared.table.Table.{Table}
use Rattle.mg_model.specs.Catalog.{catalog_name}
use Rattle.mg_model.specs.Changes.{same_name}
use Rattle.mg_model.specs.History.{Entries}
use Rattle.mg_model.specs.Machine.{own, state_of}
use Rattle.mg_engine_meaning_laws.specs.Formers.{MayReturn}
use Rattle.mg_engine_meaning_laws.specs.PlainTables.{AreFirst}
use Rattle.mg_engine_step_laws.specs.standing.Known.{IsShown, KnowsPages}
use Rattle.mg_engine_step_laws.specs.reads.AnswersLaws.{TellsSpeaker}
use Rattle.mg_image.specs.Form.{Pages}
use Rattle.mg_row_writes.specs.Befores.{IsBefore}
use Rattle.mg_row_writes.specs.declared.before.Before.{Before}
use Rattle.mg_engine_step_laws.specs.standing.Standing.{Standing}
use Rattle.mg_undo.specs.Machine.{was_in}
use Rattle.std.proofs.Common.{false}

-- at a key of a table that is not the catalog, and that came with all its columns, by the record that speaks for it; and it
-- may come back to the table
abbrev pub BeforesAreTold : Type 0
BeforesAreTold = (size : ℕ) (o : Opening) (h : Entries) (s : Standing) (pages : Pages)
    (knows : KnowsPages size o h s pages) (t : TxNo) (table : Table) (key : Value) (rec : Option RecId)
    (before : Before) → state_of o h t.0 ≡ Active → IsShown knows.shows.layout table
    → same_name table.name catalog_name ≡ false → AreFirst table.shape.columns → TellsSpeaker size o h s pages knows table.name key rec
    → IsBefore s.state s.live t.0 pages table rec before
    → (before.was ≡ was_in (own o h t.0) table.name key) × MayReturn table.shape key before.was

-- What a put writes.
use Rattle.std.proofs.Common.{◌≡◌, ◌==◌, ◌&&◌, ℕ, ℤ, Bool, true, false, List, [], ◌∷◌, Option, Some, None, refl, sym, ap, subst}
use Rattle.std.specs.Prelude.{is_some}
use Rattle.std.proofs.lemmas.Bool.{eqb-true}
use Rattle.mg_base.specs.declared.numbers.TxNo.{TxNo}
use Rattle.mg_value.specs.declared.shape.Column.{Column}
use Rattle.mg_value.specs.declared.shape.Kind.{Kind}
use Rattle.mg_value.specs.declared.shape.Kind.TheVariants as kinds
use Rattle.mg_value.specs.declared.shape.Shape.{Shape}
use Rattle.mg_value.specs.declared.value.Value.TheVariants as values
use Rattle.mg_value.specs.Rows.{FitsColumn, FitsKind, RowFits}
use Rattle.mg_model.specs.Changes.{Cells, row_at}
use Rattle.mg_model.specs.Catalog.{key_of}
use Rattle.mg_model.specs.History.{Entries, entry, transaction_of}
use Rattle.mg_model.specs.Legal.{is_lasting}
use Rattle.mg_model.specs.declared.answer.Answer.TheVariants.{Fine}
use Rattle.mg_records.specs.declared.write.Write.{Write}
use Rattle.mg_records.specs.declared.write.Write.TheVariants as writes
use Rattle.mg_model.specs.Machine.{state_of, view}
use Rattle.mg_model.specs.NewDatabase.{kv_name}
use Rattle.mg_model.specs.declared.opening.Opening.{Opening}
use Rattle.mg_model.specs.declared.refusal.Refusal.{Refusal}
use Rattle.mg_model.specs.declared.refusal.Refusal.TheVariants.{NoTable}
use Rattle.mg_base.specs.declared.transaction.TxState.TheVariants.{Active}
use Rattle.mg_records.specs.Meaning.{Means}
use Rattle.mg_records.specs.Reading.{TellsTable}
use Rattle.mg_records.specs.Writing.{FitsShape, event_of}
use Rattle.mg_rows.specs.declared.statement_fault.StatementFault.TheVariants.{Engine}
use Rattle.mg_script.specs.declared.reply.Reply.{Reply}
use Rattle.mg_transcript.specs.Shorthand.{GivesUp, Puts, sees_none, finds_not, are_two_numbers, is_number, is_of_numbers, pair_of, put_event}
use Rattle.mg_shorthand.specs.Keys.{sees_key, write_of}
use Rattle.mg_transcript.specs.OutsideLaws.{refused_outside}
use Rattle.std.proofs.Common.{Err}

both : (a b : Bool) → (a && b) ≡ true → (a ≡ true) × (b ≡ true)
both true true is = (refl, refl)
both true false is = absurd cc
both false b is = absurd cc

number_fits : (column : Column) (number : ℤ) → is_number column.kind ≡ true → FitsColumn column (values.Int number)
number_fits column number is = record { kind = fits column.kind is; allowed = λ not same. absurd cc }
  where
    fits : (kind : Kind) → is_number kind ≡ true → FitsKind kind (values.Int number)
    fits kinds.Int is = tt
    fits (kinds.Text most) is = absurd cc

pair_fits : (columns : List Column) (key value : ℤ) → are_two_numbers columns ≡ true
    → RowFits columns (pair_of key value)
pair_fits [] key value is = absurd cc
pair_fits (a ∷ []) key value is = absurd cc
pair_fits (a ∷ b ∷ []) key value is =
    let each = both (is_number a.kind) (is_number b.kind) is in
    (number_fits a key each.0, (number_fits b value each.1, tt))
pair_fits (a ∷ b ∷ d ∷ more) key value is = absurd cc

-- the write fits the table
pub write_fits : (shape : Shape) (sees : Bool) (key value : ℤ) → is_of_numbers (Some shape) ≡ true
    → FitsShape shape (write_of sees key value)
write_fits shape true key value is =
    let each = both (shape.key == 0) (are_two_numbers shape.columns) is in (
      pair_fits shape.columns key value each.1,
      subst (λ (n : ℕ). key_of (record shape { key = n }) (pair_of key value) ≡ values.Int key)
          (sym (eqb-true shape.key 0 each.0)) refl,
    )
write_fits shape false key value is =
    pair_fits shape.columns key value (both (shape.key == 0) (are_two_numbers shape.columns) is).1

-- its event is that of the put
pub event_is : (o : Opening) (h : Entries) (t : TxNo) (sees : Bool) (key value : ℤ)
    → sees ≡ sees_key o h t.0 kv_name (values.Int key)
    → event_of t kv_name (write_of sees key value)
    ≡ put_event t key value (row_at (view o h t.0) kv_name (values.Int key))
event_is o h t sees key value is = at (row_at (view o h t.0) kv_name (values.Int key)) sees is
  where
    at : (row : Option Cells) (sees : Bool) → sees ≡ is_some row
        → event_of t kv_name (write_of sees key value) ≡ put_event t key value row
    at None true is = absurd cc
    at None false is = refl
    at (Some row) true is = refl
    at (Some row) false is = absurd cc

-- the table can't be given
pub no_table : {R P : Type 0} (m : Means R P) (old : R) (o : Opening) (h : Entries) (t : TxNo) (key value : ℤ)
    (refusal : Refusal) (after : Entries) (reply : Reply) → m.stands old o h → state_of o h t.0 ≡ Active
    → TellsTable m old t.0 kv_name (Err refusal) → GivesUp o h t (Engine refusal) after reply
    → Puts o key value h t after reply
no_table m old o h t key value NoTable after reply stands active tells up =
    sees_none after reply (ap is_of_numbers (tells o h stands).1) up
no_table m old o h t key value refusal after reply stands active tells up =
    finds_not refusal after reply (refused_outside o h t.0 refusal active (tells o h stands)) up

-- ---- the entry of a write

pub event_its : (t : TxNo) (name : List ℕ) (w : Write) → transaction_of (event_of t name w) ≡ Some t.0
event_its t name (writes.Insert row) = refl
event_its t name (writes.Change key row) = refl
event_its t name (writes.Erase key) = refl

pub event_quiet : (t : TxNo) (name : List ℕ) (w : Write) → is_lasting (event_of t name w) ≡ false
event_quiet t name (writes.Insert row) = refl
event_quiet t name (writes.Change key row) = refl
event_quiet t name (writes.Erase key) = refl

pub event_active : (o : Opening) (h : Entries) (t : TxNo) (name : List ℕ) (w : Write)
    → state_of o h t.0 ≡ Active → state_of o (entry (event_of t name w) Fine ∷ h) t.0 ≡ Active
event_active o h t name (writes.Insert row) active = active
event_active o h t name (writes.Change key row) active = active
event_active o h t name (writes.Erase key) active = active

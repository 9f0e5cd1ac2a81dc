-- The transaction of a line that is one of its own.
use Rattle.std.specs.Prelude.{◌≡◌, ℕ, Bool, List, ◌∷◌, Option, Some, None, Result, Ok, Err}
use Rattle.mg_base.specs.declared.numbers.TxNo.{TxNo}
use Rattle.mg_model.specs.declared.answer.Answer.TheVariants as answers
use Rattle.mg_model.specs.declared.event.Event.TheVariants as events
use Rattle.mg_model.specs.declared.event.Mode.{Mode}
use Rattle.mg_model.specs.declared.opening.Opening.{Opening}
use Rattle.mg_model.specs.declared.refusal.Refusal.{Refusal}
use Rattle.mg_model.specs.History.{Entries, entry}
use Rattle.mg_model.specs.Legal.{IsLawful}
use Rattle.mg_records.specs.Meaning.{Means}
use Rattle.mg_rows.specs.declared.statement_fault.StatementFault.{StatementFault}
use Rattle.mg_rows.specs.declared.statement_fault.StatementFault.TheVariants.{Engine, InTransaction}
use Rattle.mg_transcript.specs.Sessions.{Unfinished, transaction_of}
use Rattle.mg_courses.specs.Running.{RunMeans, refusal_of}
use Rattle.mg_pending.specs.declared.pending.Pending.{Pending}
use Rattle.mg_pending.specs.declared.transactions.Transaction.{Transaction}
use Rattle.mg_sessions.specs.Coming.{ComesTo}

-- its session
abbrev pub OWN : ℕ
OWN = 16

abbrev pub begun_with : TxNo → Bool → Transaction
begun_with t read_only = record { number = t; read_only = read_only }

-- the session has one still, or the beginning is refused
pub data BeginsNone (o : Opening) (h : Entries) (mode : Mode) : StatementFault → Entries → Type 0 where
  one_still : (t : TxNo) → transaction_of o h OWN ≡ Some t → BeginsNone o h mode InTransaction h
  is_refused : (refusal : Refusal) → transaction_of o h OWN ≡ None
      → IsLawful o h (entry (events.Begin OWN mode) (answers.No refusal))
      → BeginsNone o h mode (Engine refusal) (entry (events.Begin OWN mode) (answers.No refusal) ∷ h)

-- it has begun
pub record BeginsOne (o : Opening) (h : Entries) (mode : Mode) (t : TxNo) (after : Entries) : Type 0 where
  pub none : transaction_of o h OWN ≡ None
  pub lawful : IsLawful o h (entry (events.Begin OWN mode) (answers.Tx t))
  pub is : after ≡ entry (events.Begin OWN mode) (answers.Tx t) ∷ h

-- the statements that are unfinished are the same
abbrev pub BeginsOwn : {R P Run : Type 0} → Means R P → RunMeans R Run → R → R → Opening → Entries
    → List Unfinished → Mode → List (Option Transaction) → List (Pending Run) → Result TxNo StatementFault
    → Type 0
BeginsOwn m runs old new o h us mode all ps (Ok t) =
    ComesTo m runs old new o h all ps (λ after then_. BeginsOne o h mode t after × (then_ ≡ us))
BeginsOwn m runs old new o h us mode all ps (Err fault) =
    ComesTo m runs old new o h all ps (λ after then_. BeginsNone o h mode fault after × (then_ ≡ us))

-- the refusal of the keeper that is told
abbrev pub refusal_at_begin : Result TxNo StatementFault → Option Refusal
refusal_at_begin (Ok t) = None
refusal_at_begin (Err fault) = refusal_of fault

-- SAVEPOINT and ROLLBACK TO.
use Rattle.std.specs.Prelude.{◌≡◌, ℕ, true, false, List, Result, Ok, Err, if◌then◌else◌}
use Rattle.mg_base.specs.declared.numbers.TxNo.{TxNo}
use Rattle.mg_base.specs.declared.transaction.TxState.TheVariants.{Active}
use Rattle.mg_model.specs.declared.answer.Answer.TheVariants.{Fine, No}
use Rattle.mg_model.specs.declared.change.Point.TheVariants.{SavepointNamed}
use Rattle.mg_model.specs.declared.event.Event.TheVariants.{BackTo, Savepoint}
use Rattle.mg_model.specs.declared.opening.Opening.{Opening}
use Rattle.mg_model.specs.declared.refusal.Refusal.{Refusal}
use Rattle.mg_model.specs.History.{Entries, entry}
use Rattle.mg_model.specs.Legal.{IsLawful}
use Rattle.mg_model.specs.Machine.{state_of, steps, has_point}
use Rattle.mg_records.specs.Meaning.{Means}
use Rattle.mg_records.specs.TakingBack.{after_refusal, is_given_up}
use Rattle.mg_rows.specs.declared.outcome.Outcome.TheVariants as outcomes
use Rattle.mg_rows.specs.declared.statement_fault.StatementFault.{StatementFault}
use Rattle.mg_rows.specs.declared.statement_fault.StatementFault.TheVariants.{Engine, NoSavepoint}
use Rattle.mg_calls.specs.Writes.{Comes}
use Rattle.mg_exec.specs.declared.phase.Phase.{Phase}
use Rattle.mg_exec.specs.declared.phase.Phase.TheVariants as phases
use Rattle.mg_exec.specs.declared.phase.Step.{Step}
use Rattle.mg_exec.specs.declared.phase.Step.TheVariants.{Done}
use Rattle.mg_exec.specs.declared.phase.Turn.{Turn}
use Rattle.mg_exec.specs.Phases.{ended, rolled_back}

-- SAVEPOINT gives its event, and is at its end
abbrev pub SavesSo : {R P : Type 0} → Means R P → R → Opening → Entries → TxNo → List ℕ → Phase P
    → Result Step StatementFault → Type 0
SavesSo m new o h t name phases.Ended (Ok (Done outcomes.Fine)) = Comes m new o h (Savepoint t name) Fine
SavesSo m new o h t name phases.Ended (Err (Engine refusal)) =
    Comes m new o h (Savepoint t name) (No refusal)
SavesSo m new o h t name phase answer = ⊥

abbrev pub Saves : {R P : Type 0} → Means R P → R → Opening → Entries → TxNo → List ℕ → Turn P → Type 0
Saves m new o h t name turn = SavesSo m new o h t name turn.phase turn.answer

-- ROLLBACK TO gives its event where there is such a savepoint; where there is none, it gives no event.
-- Where the going back is refused, the transaction is rolled back if the refusal is one of those that
-- give it up.
abbrev pub ReturnsSo : {R P : Type 0} → Means R P → R → Opening → Entries → TxNo → List ℕ → Phase P
    → Result Step StatementFault → Type 0
ReturnsSo m new o h t name phases.Ended (Ok (Done outcomes.Fine)) =
    (has_point t.0 (SavepointNamed name) (steps o h) ≡ true) × Comes m new o h (BackTo t name) Fine
ReturnsSo m new o h t name phases.Ended (Err NoSavepoint) = (state_of o h t.0 ≡ Active)
    × (has_point t.0 (SavepointNamed name) (steps o h) ≡ false) × m.stands new o h
ReturnsSo m new o h t name phases.Ended (Err (Engine refusal)) = (is_given_up refusal ≡ false)
    × Comes m new o h (BackTo t name) (No refusal)
ReturnsSo m new o h t name phases.RolledBack (Err (Engine refusal)) = (is_given_up refusal ≡ true)
    × IsLawful o h (entry (BackTo t name) (No refusal))
    × m.stands new o (after_refusal o h t (BackTo t name) refusal)
ReturnsSo m new o h t name phase answer = ⊥

abbrev pub Returns : {R P : Type 0} → Means R P → R → Opening → Entries → TxNo → List ℕ → Turn P → Type 0
Returns m new o h t name turn = ReturnsSo m new o h t name turn.phase turn.answer

-- a going back was refused
abbrev pub given_up_or_refused : {P : Type 0} → Refusal → Turn P
given_up_or_refused refusal =
    if is_given_up refusal then rolled_back refusal else ended (Err (Engine refusal))

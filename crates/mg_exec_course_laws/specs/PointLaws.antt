-- SAVEPOINT and ROLLBACK TO.
use Rattle.std.proofs.Common.{◌≡◌, ℕ, false, List, ◌∷◌, Result, Ok, Err, refl, sym, ap, subst}
use Rattle.mg_base.specs.declared.numbers.TxNo.{TxNo}
use Rattle.mg_statements.specs.Plain.{RollbackTo, Savepoint}
use Rattle.mg_model.specs.declared.answer.Answer.TheVariants.{Fine, No}
use Rattle.mg_model.specs.declared.event.Event.{Event}
use Rattle.mg_model.specs.declared.event.Event.TheVariants as events
use Rattle.mg_model.specs.declared.opening.Opening.{Opening}
use Rattle.mg_model.specs.declared.refusal.Refusal.{Refusal}
use Rattle.mg_model.specs.Answers.{is_active}
use Rattle.mg_model.specs.History.{Entries, entry}
use Rattle.mg_records.specs.Meaning.{Means}
use Rattle.mg_records.specs.TakingBack.{after_refusal, is_given_up}
use Rattle.mg_rows.specs.declared.outcome.Outcome.TheVariants as outcomes
use Rattle.mg_rows.specs.declared.statement_fault.StatementFault.{StatementFault}
use Rattle.mg_rows.specs.declared.statement_fault.StatementFault.TheVariants.{Engine, NoSavepoint}
use Rattle.mg_script.specs.declared.reply.Reply.TheVariants as replies
use Rattle.mg_exec.specs.declared.phase.Phase.{Phase}
use Rattle.mg_exec.specs.declared.phase.Phase.TheVariants as phases
use Rattle.mg_exec.specs.declared.phase.Step.{Step}
use Rattle.mg_exec.specs.declared.phase.Step.TheVariants.{Done}
use Rattle.mg_exec.specs.Points.{ReturnsSo, SavesSo}
use Rattle.mg_transcript.specs.Courses.{Begun, Ends}
use Rattle.mg_transcript.specs.Steps.{goes_back, goes_not, goes_nowhere, refused, saves}
use Rattle.mg_exec_course_laws.specs.ActiveLaws.{given_up_ends, kept_active}
use Rattle.mg_exec_course_laws.specs.Courses.{ReturnsTell, SavesTell, Tells}

saves_so : {R P : Type 0} (m : Means R P) (new : R) (o : Opening) (h : Entries) (t : TxNo) (name : List ℕ)
    (taken : ℕ) (phase : Phase P) (answer : Result Step StatementFault) → SavesSo m new o h t name phase answer
    → Tells m new o h t (Savepoint name) (Begun (Savepoint name) taken) (record { phase = phase; answer = answer })
saves_so m new o h t name taken phases.Ended (Ok (Done outcomes.Fine)) came = record {
  after = entry (events.Savepoint t name) Fine ∷ h;
  comes = Ends (replies.Ok outcomes.Fine);
  steps = saves name taken Fine came.lawful;
  stands = came.stands;
  stays = tt;
  active = λ was. ap is_active was;
  told = refl;
}
saves_so m new o h t name taken phases.Ended (Err (Engine refusal)) came = record {
  after = entry (events.Savepoint t name) (No refusal) ∷ h;
  comes = refused refusal;
  steps = saves name taken (No refusal) came.lawful;
  stands = came.stands;
  stays = tt;
  active = λ was. ap is_active was;
  told = refl;
}
saves_so m new o h t name taken phase answer came = absurd came

pub saves_tell : {R P : Type 0} (m : Means R P) → SavesTell m
saves_tell m new o h t name taken turn came = saves_so m new o h t name taken turn.phase turn.answer came

-- a refusal that gives nothing up adds its entry alone
pub kept_after : (o : Opening) (h : Entries) (t : TxNo) (event : Event) (refusal : Refusal)
    → is_given_up refusal ≡ false → entry event (No refusal) ∷ h ≡ after_refusal o h t event refusal
kept_after o h t event refusal is = sym (rw is refl)

returns_so : {R P : Type 0} (m : Means R P) (new : R) (o : Opening) (h : Entries) (t : TxNo) (name : List ℕ)
    (taken : ℕ) (phase : Phase P) (answer : Result Step StatementFault) → ReturnsSo m new o h t name phase answer
    → Tells m new o h t (RollbackTo name) (Begun (RollbackTo name) taken) (record { phase = phase; answer = answer })
returns_so m new o h t name taken phases.Ended (Ok (Done outcomes.Fine)) (has, came) = record {
  after = entry (events.BackTo t name) Fine ∷ h;
  comes = Ends (replies.Ok outcomes.Fine);
  steps = goes_back name taken has came.lawful;
  stands = came.stands;
  stays = tt;
  active = λ was. ap is_active was;
  told = refl;
}
returns_so m new o h t name taken phases.Ended (Err NoSavepoint) (active, none, stands) = record {
  after = h;
  comes = Ends (replies.No NoSavepoint);
  steps = goes_nowhere name taken none;
  stands = stands;
  stays = tt;
  active = λ was. ap is_active was;
  told = refl;
}
returns_so m new o h t name taken phases.Ended (Err (Engine refusal)) (kept, came) = record {
  after = after_refusal o h t (events.BackTo t name) refusal;
  comes = refused refusal;
  steps = goes_not name taken refusal came.lawful;
  stands = subst (m.stands new o) (kept_after o h t (events.BackTo t name) refusal kept) came.stands;
  stays = tt;
  active = kept_active o h t (events.BackTo t name) refusal kept;
  told = refl;
}
returns_so m new o h t name taken phases.RolledBack (Err (Engine refusal)) (given, lawful, stands) = record {
  after = after_refusal o h t (events.BackTo t name) refusal;
  comes = refused refusal;
  steps = goes_not name taken refusal lawful;
  stands = stands;
  stays = tt;
  active = given_up_ends o h t (events.BackTo t name) refusal given;
  told = refl;
}
returns_so m new o h t name taken phase answer came = absurd came

pub returns_tell : {R P : Type 0} (m : Means R P) → ReturnsTell m
returns_tell m new o h t name taken turn came = returns_so m new o h t name taken turn.phase turn.answer came

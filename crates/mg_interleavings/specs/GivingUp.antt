-- What becomes of a keeper where a statement that has waited too long is given up.
use Rattle.std.specs.Prelude.{◌≡◌, Some, None, Result, Ok, Err}
use Rattle.mg_base.specs.declared.numbers.TxNo.{TxNo}
use Rattle.mg_model.specs.declared.change.Point.TheVariants.{LastMark}
use Rattle.mg_model.specs.declared.opening.Opening.{Opening}
use Rattle.mg_model.specs.declared.refusal.Refusal.{Refusal}
use Rattle.mg_model.specs.History.{Entries}
use Rattle.mg_records.specs.Crashing.{LeavesQuietly}
use Rattle.mg_records.specs.Keeping.{FaultsAreTold, Leaves, MeetsNoDamage, refusal_in}
use Rattle.mg_records.specs.Meaning.{Means}
use Rattle.mg_records.specs.Room.{TakesFewBack}
use Rattle.mg_records.specs.Sessions.{SessionsStay, given_up_in}
use Rattle.mg_records.specs.TakingBack.{Undoes}
use Rattle.mg_rows.specs.declared.statement_fault.StatementFault.TheVariants.{Engine}
use Rattle.mg_script.specs.declared.reply.Reply.TheVariants as replies
use Rattle.mg_interleavings.specs.declared.answered.Answered.{Answered}
use Rattle.mg_interleavings.specs.declared.answered.Answered.TheVariants.{LockTimeout, Replied}
use Rattle.mg_interleavings.specs.Interleavings.{TimesOut}

-- it is answered that it has waited too long, or by the refusal of the taking back
abbrev pub timed_out : TxNo → Result (Unit {0}) Refusal → Answered
timed_out on (Ok x) = LockTimeout on
timed_out on (Err refusal) = Replied (replies.No (Engine refusal))

-- All since the mark of t is taken back, as a taking back leaves it; and this is answered of it.
pub record GivesUpWaiting {R P : Type 0} (m : Means R P) (old new : R) (t on : TxNo) (answer : Answered) : Type 0 where
  pub done : Result (Unit {0}) Refusal
  pub is : answer ≡ timed_out on done
  pub undoes : Undoes m old new t done
  pub leaves : Leaves m old new (refusal_in done) (Some t.0) (Some t.0)
  pub told : FaultsAreTold m old new (refusal_in done)
  pub undamaged : MeetsNoDamage m old new
  pub room : TakesFewBack m old new (refusal_in done) t.0 LastMark
  pub crash : LeavesQuietly m old new
  pub sessions : SessionsStay m old new None (given_up_in t.0 done)

-- A history goes on to where its statement has timed out, and the keeper stands for that.
pub record ComesOut {R P : Type 0} (m : Means R P) (new : R) (o : Opening) (h : Entries) (t on : TxNo)
    (answer : Answered) : Type 0 where
  pub after : Entries
  pub out : TimesOut o h t on after answer
  pub stands : m.stands new o after

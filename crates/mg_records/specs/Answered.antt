-- That a commit is answered Ok where its transaction is active and no page write fails.
use Rattle.std.specs.Prelude.{◌≡◌, ℕ, true, None, Result, IsOk}
use Rattle.mg_base.specs.Disk.{Rose}
use Rattle.mg_base.specs.declared.numbers.TxNo.{TxNo}
use Rattle.mg_base.specs.declared.transaction.TxState.TheVariants.{Active}
use Rattle.mg_model.specs.declared.event.Event.{Event}
use Rattle.mg_model.specs.declared.opening.Opening.{Opening}
use Rattle.mg_model.specs.declared.refusal.Refusal.{Refusal}
use Rattle.mg_model.specs.History.{Entries}
use Rattle.mg_model.specs.Machine.{state_of}
use Rattle.mg_records.specs.Adding.{Adds, AnswersAll, fine_or}
use Rattle.mg_records.specs.Asking.{EndsInItsRoom, TakesNothing}
use Rattle.mg_records.specs.Keeping.{Causes, refusal_in}
use Rattle.mg_records.specs.Meaning.{Means}

-- A transaction is active, no page write has failed before a call, and the disk's count of faults doesn't rise in it.
pub record GoesWell {R P : Type 0} (m : Means R P) (old new : R) (o : Opening) (h : Entries) (t : ℕ) : Type 0 where
  pub stands : m.stands old o h
  pub active : state_of o h t ≡ Active
  pub online : m.down old ≡ None
  pub steady : Rose (m.faults old) (m.faults new) → ⊥

-- So is a call that takes nothing and gives no event, as the asking for a commit, and each step of one,
abbrev pub StepsAreAnswered : {R P : Type 0} → Means R P → Type 0 → Type 0
StepsAreAnswered {R} m T = (old new : R) (o : Opening) (h : Entries) (t : ℕ) (result : Result T Refusal)
    → GoesWell m old new o h t → AnswersAll m old t result → TakesNothing (refusal_in result)
    → Causes m old new (refusal_in result) → IsOk result

-- and so is the end of one, and a rolling back, where the room for it is taken when the transaction begins.
abbrev pub EndsAreAnswered : {R P : Type 0} → Means R P → (TxNo → Event) → Type 0
EndsAreAnswered {R} m event = (old new : R) (o : Opening) (h : Entries) (t : TxNo) (result : Result (Unit {0}) Refusal)
    → m.reserves_ends ≡ true → GoesWell m old new o h t.0 → Adds m old new (event t) (fine_or result)
    → EndsInItsRoom m (refusal_in result)
    → Causes m old new (refusal_in result) → IsOk result

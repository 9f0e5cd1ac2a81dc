-- A write of a statement that has set its mark.
use Rattle.std.specs.Prelude.{◌≡◌, ℕ, Bool, true, false, List, ◌∷◌, Option, Some, None, if◌then◌else◌}
use Rattle.mg_base.specs.declared.numbers.TxNo.{TxNo}
use Rattle.mg_faults.specs.Faults.{worse}
use Rattle.mg_model.specs.declared.answer.Answer.{Answer}
use Rattle.mg_model.specs.declared.answer.Answer.TheVariants.{Fine, No}
use Rattle.mg_model.specs.declared.event.Event.{Event}
use Rattle.mg_model.specs.declared.opening.Opening.{Opening}
use Rattle.mg_model.specs.declared.refusal.Refusal.{Refusal}
use Rattle.mg_model.specs.declared.refusal.Refusal.TheVariants.{Waits}
use Rattle.mg_model.specs.declared.table.Table.{Table}
use Rattle.mg_model.specs.History.{Entries, entry}
use Rattle.mg_model.specs.Legal.{IsLawful}
use Rattle.mg_records.specs.Meaning.{Means}
use Rattle.mg_records.specs.TakingBack.{is_given_up}
use Rattle.mg_calls.specs.declared.writing.Written.{Written}
use Rattle.mg_calls.specs.declared.writing.Written.TheVariants as written
use Rattle.mg_calls.specs.Frames.{Frames}
use Rattle.mg_calls.specs.Undoing.{Undoes, is_waiting}

-- an event came and was answered so, lawfully
pub record Comes {R P : Type 0} (m : Means R P) (new : R) (o : Opening) (h : Entries)
    (event : Event) (answer : Answer) : Type 0 where
  pub lawful : IsLawful o h (entry event answer)
  pub stands : m.stands new o (entry event answer ∷ h)

-- an event came and was refused, and then its statement was undone
pub record ComesToNothing {R P : Type 0} (m : Means R P) (new : R) (o : Opening) (h : Entries)
    (t : TxNo) (event : Event) (result : Written) : Type 0 where
  pub first : Refusal
  pub final : is_waiting first ≡ false
  pub lawful : IsLawful o h (entry event (No first))
  pub undone : Undoes m new o (entry event (No first) ∷ h) t first result

-- a write takes effect; it waits, and is to be tried again; it is refused, and its statement is
-- undone; or its transaction is rolled back
abbrev pub WritesOne : {R P : Type 0} → Means R P → R → Opening → Entries → TxNo → Event → Written
    → Type 0
WritesOne m new o h t event written.Done = Comes m new o h event Fine
WritesOne m new o h t event (written.Waits on) = Comes m new o h event (No (Waits on))
WritesOne m new o h t event (written.Refused answer) =
    ComesToNothing m new o h t event (written.Refused answer)
WritesOne m new o h t event (written.RolledBack answer) =
    ComesToNothing m new o h t event (written.RolledBack answer)

-- a write was refused first, and the undoing of its statement later
abbrev pub refused_twice : Refusal → Refusal → Written
refused_twice first later =
    if is_given_up later then written.RolledBack (worse first later) else written.Refused (worse first later)

-- the refusal that is answered
abbrev pub refusal_written : Written → Option Refusal
refusal_written written.Done = None
refusal_written (written.Waits on) = Some (Waits on)
refusal_written (written.Refused refusal) = Some refusal
refusal_written (written.RolledBack refusal) = Some refusal

-- the transaction that has ended
abbrev pub ended_by : ℕ → Written → Option ℕ
ended_by t written.Done = None
ended_by t (written.Waits on) = None
ended_by t (written.Refused refusal) = None
ended_by t (written.RolledBack refusal) = Some t

-- the statement goes on after the write, or can try it again
abbrev pub goes_on : Written → Bool
goes_on written.Done = true
goes_on (written.Waits on) = true
goes_on (written.Refused refusal) = false
goes_on (written.RolledBack refusal) = false

-- What such a write leaves. As long as the statement goes on, its transaction sees the tables that
-- were given to it.
pub record IsWritten {R P : Type 0} (m : Means R P) (old new : R) (t : ℕ) (result : Written)
    : Type 0 where
  pub frames : Frames m old new t (refusal_written result)
  pub tables : goes_on result ≡ true → (name : List ℕ) (table : Table)
      → m.table old t name ≡ Some table → m.table new t name ≡ Some table

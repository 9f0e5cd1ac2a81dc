-- The writes of a statement, one a step.
use Rattle.std.specs.Prelude.{◌≡◌, ◌≢◌, ◌⊎◌, ℕ, ◌+◌, List, [], ◌∷◌, length, All, Option, Some, None}
use Rattle.mg_base.specs.declared.numbers.TxNo.{TxNo}
use Rattle.mg_model.specs.declared.answer.Answer.TheVariants.{Fine, No}
use Rattle.mg_model.specs.declared.event.Event.TheVariants.{Mark}
use Rattle.mg_model.specs.declared.opening.Opening.{Opening}
use Rattle.mg_model.specs.declared.refusal.Refusal.{Refusal}
use Rattle.mg_model.specs.declared.refusal.Refusal.TheVariants.{Waits}
use Rattle.mg_model.specs.History.{Entries, entry}
use Rattle.mg_model.specs.Legal.{IsLawful}
use Rattle.mg_records.specs.declared.write.Write.{Write}
use Rattle.mg_records.specs.Meaning.{Means}
use Rattle.mg_records.specs.Writing.{event_of, FitsShape}
use Rattle.mg_calls.specs.declared.steps.Writes.{Writes}
use Rattle.mg_calls.specs.declared.steps.Wrote.{Wrote}
use Rattle.mg_calls.specs.declared.steps.Wrote.TheVariants as wrote
use Rattle.mg_calls.specs.Frames.{Frames}
use Rattle.mg_calls.specs.declared.writing.Written.TheVariants as written
use Rattle.mg_calls.specs.Writes.{Comes, ComesToNothing}

-- the transaction sees the table, and each write fits its shape
pub record AreReady {R P : Type 0} (m : Means R P) (r : R) (t : ℕ) (w : Writes) : Type 0 where
  pub table : m.table r t w.table.name ≡ Some w.table
  pub fits : All (FitsShape w.table.shape) w.left.items

-- a statement that goes on is ready for it
abbrev pub AreReadyIf : {R P : Type 0} → Means R P → R → ℕ → Writes → Wrote → Type 0
AreReadyIf m r t w wrote.More = AreReady m r t w
AreReadyIf m r t w wrote.Done = Unit {0}
AreReadyIf m r t w (wrote.Waits on) = AreReady m r t w
AreReadyIf m r t w (wrote.Refused refusal) = Unit {0}
AreReadyIf m r t w (wrote.RolledBack refusal) = Unit {0}

-- the refusal that is answered
abbrev pub refusal_wrote : Wrote → Option Refusal
refusal_wrote wrote.More = None
refusal_wrote wrote.Done = None
refusal_wrote (wrote.Waits on) = Some (Waits on)
refusal_wrote (wrote.Refused refusal) = Some refusal
refusal_wrote (wrote.RolledBack refusal) = Some refusal

-- the transaction that has ended
abbrev pub ended_at : ℕ → Wrote → Option ℕ
ended_at t wrote.More = None
ended_at t wrote.Done = None
ended_at t (wrote.Waits on) = None
ended_at t (wrote.Refused refusal) = None
ended_at t (wrote.RolledBack refusal) = Some t

-- The first of some writes is made: it is the only one, or more are left. Where it waits it is still
-- the first; where it is refused the statement is undone, or the transaction rolled back.
abbrev pub WritesFirst : {R P : Type 0} → Means R P → R → Opening → Entries → TxNo → List ℕ → Write
    → List Write → List Write → Wrote → Type 0
WritesFirst m new o h t table first rest left wrote.More =
    Comes m new o h (event_of t table first) Fine × (left ≡ rest) × (rest ≢ [])
WritesFirst m new o h t table first rest left wrote.Done =
    Comes m new o h (event_of t table first) Fine × (rest ≡ [])
WritesFirst m new o h t table first rest left (wrote.Waits on) =
    Comes m new o h (event_of t table first) (No (Waits on)) × (left ≡ first ∷ rest)
WritesFirst m new o h t table first rest left (wrote.Refused answer) =
    ComesToNothing m new o h t (event_of t table first) (written.Refused answer)
WritesFirst m new o h t table first rest left (wrote.RolledBack answer) =
    ComesToNothing m new o h t (event_of t table first) (written.RolledBack answer)

-- the next of some writes is made; where there is none, nothing is done
abbrev pub WritesNext : {R P : Type 0} → Means R P → R → Opening → Entries → TxNo → List ℕ
    → List Write → List Write → Wrote → Type 0
WritesNext m new o h t table [] left result = (result ≡ wrote.Done) × m.stands new o h
WritesNext m new o h t table (first ∷ rest) left result =
    WritesFirst m new o h t table first rest left result

-- the statement's mark is set, and then the first of its writes is made; or the mark is refused
abbrev pub MarksAndWrites : {R P : Type 0} → Means R P → R → Opening → Entries → TxNo → List ℕ
    → List Write → List Write → Wrote → Type 0
MarksAndWrites m new o h t table writes left result =
    ((refusal : Refusal) × (result ≡ wrote.Refused refusal) × Comes m new o h (Mark t) (No refusal))
    ⊎ (IsLawful o h (entry (Mark t) Fine)
    × WritesNext m new o (entry (Mark t) Fine ∷ h) t table writes left result)

-- a step that leaves more to do has made one write; one that waits has made none
abbrev pub AreFewer : List Write → List Write → Wrote → Type 0
AreFewer before after wrote.More = length before ≡ length after + 1
AreFewer before after wrote.Done = Unit {0}
AreFewer before after (wrote.Waits on) = after ≡ before
AreFewer before after (wrote.Refused refusal) = Unit {0}
AreFewer before after (wrote.RolledBack refusal) = Unit {0}

-- What a step leaves.
pub record StepsOn {R P : Type 0} (m : Means R P) (old new : R) (t : ℕ) (before after : Writes)
    (result : Wrote) : Type 0 where
  pub frames : Frames m old new t (refusal_wrote result)
  pub table : after.table ≡ before.table
  pub ready : AreReadyIf m new t after result
  pub fewer : AreFewer before.left.items after.left.items result

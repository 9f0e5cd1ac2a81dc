-- The undoing of a refused statement.
use Rattle.std.specs.Prelude.{◌≡◌, Bool, true, false, ◌∷◌}
use Rattle.mg_base.specs.declared.numbers.TxNo.{TxNo}
use Rattle.mg_faults.specs.Faults.{worse}
use Rattle.mg_model.specs.declared.answer.Answer.TheVariants.{Fine, No}
use Rattle.mg_model.specs.declared.event.Event.TheVariants.{UndoMark}
use Rattle.mg_model.specs.declared.opening.Opening.{Opening}
use Rattle.mg_model.specs.declared.refusal.Refusal.{Refusal}
use Rattle.mg_model.specs.declared.refusal.Refusal.TheVariants.{Waits}
use Rattle.mg_model.specs.History.{Entries, entry}
use Rattle.mg_model.specs.Legal.{IsLawful}
use Rattle.mg_records.specs.Meaning.{Means}
use Rattle.mg_records.specs.TakingBack.{after_refusal, is_given_up}
use Rattle.mg_calls.specs.declared.writing.Written.{Written}
use Rattle.mg_calls.specs.declared.writing.Written.TheVariants as written

-- a refusal that undoes nothing, since the event waits and is tried again
abbrev pub is_waiting : Refusal → Bool
is_waiting (Waits on) = true
is_waiting refusal = false

-- A statement that had set its mark was refused, and its transaction goes on; the last is the refusal
-- that is answered.
pub data IsUndone {R P : Type 0} (m : Means R P) (new : R) (o : Opening) (h : Entries) (t : TxNo)
    (first : Refusal) : Refusal → Type 0 where
  -- all since the mark is taken back: its own refusal is answered
  taken_back : IsLawful o h (entry (UndoMark t) Fine)
      → m.stands new o (entry (UndoMark t) Fine ∷ h) → IsUndone m new o h t first first
  -- that is refused too, and the worse of the two is answered: nothing is taken back, and the transaction
  -- goes on
  left_so : (later : Refusal) → is_given_up later ≡ false
      → IsLawful o h (entry (UndoMark t) (No later))
      → m.stands new o (entry (UndoMark t) (No later) ∷ h) → IsUndone m new o h t first (worse first later)

-- The undoing is refused too, and the worse of the two is answered: the transaction is rolled back.
pub record IsGivenUp {R P : Type 0} (m : Means R P) (new : R) (o : Opening) (h : Entries) (t : TxNo)
    (first answer : Refusal) : Type 0 where
  pub later : Refusal
  pub answered : answer ≡ worse first later
  pub gives_up : is_given_up later ≡ true
  pub undoing : IsLawful o h (entry (UndoMark t) (No later))
  pub stands : m.stands new o (after_refusal o h t (UndoMark t) later)

-- a statement that had set its mark was refused so, and is undone
abbrev pub Undoes : {R P : Type 0} → Means R P → R → Opening → Entries → TxNo → Refusal → Written → Type 0
Undoes m new o h t first written.Done = ⊥
Undoes m new o h t first (written.Waits on) = ⊥
Undoes m new o h t first (written.Refused answer) = IsUndone m new o h t first answer
Undoes m new o h t first (written.RolledBack answer) = IsGivenUp m new o h t first answer

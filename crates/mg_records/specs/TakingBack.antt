-- Taking a transaction back to a mark or a savepoint.
use Rattle.std.specs.Prelude.{◌≡◌, ℕ, ◌&&◌, Bool, true, false, List, ◌∷◌, Result, Ok, Err, cond}
use Rattle.mg_base.specs.declared.numbers.TxNo.{TxNo}
use Rattle.mg_base.specs.declared.transaction.TxState.TheVariants.{Active}
use Rattle.mg_model.specs.declared.answer.Answer.TheVariants.{Fine, No}
use Rattle.mg_model.specs.declared.change.Point.TheVariants.{SavepointNamed}
use Rattle.mg_model.specs.declared.event.Event.{Event}
use Rattle.mg_model.specs.declared.event.Event.TheVariants.{UndoMark, BackTo, Rollback}
use Rattle.mg_model.specs.declared.opening.Opening.{Opening}
use Rattle.mg_model.specs.declared.refusal.Refusal.{Refusal}
use Rattle.mg_model.specs.declared.refusal.Refusal.TheVariants.{DatabaseFull, DiskRead, Damaged, Memory}
use Rattle.mg_model.specs.History.{Entries, entry}
use Rattle.mg_model.specs.Machine.{state_of, steps, has_point}
use Rattle.mg_model.specs.Answers.{is_active}
use Rattle.mg_model.specs.Legal.{IsLawful}
use Rattle.mg_records.specs.Meaning.{Means}
use Rattle.mg_records.specs.Adding.{Adds}

-- a refusal after which a transaction that was to be taken back is rolled back: pages are short, a
-- page can't be read or is damaged, or memory is short
abbrev pub is_given_up : Refusal → Bool
is_given_up (DatabaseFull limit) = true
is_given_up (DiskRead faults) = true
is_given_up (Damaged page field found wanted) = true
is_given_up Memory = true
is_given_up refusal = false

-- the entries of an event that was to take a transaction back and was refused
abbrev pub after_refusal : Opening → Entries → TxNo → Event → Refusal → Entries
after_refusal o h t event refusal =
    cond (is_given_up refusal && is_active (state_of o h t.0))
    (entry (Rollback t) Fine ∷ entry event (No refusal) ∷ h)
    (entry event (No refusal) ∷ h)

-- such an event was refused
abbrev pub GivesUp : {R P : Type 0} → Means R P → R → R → TxNo → Event → Refusal → Type 0
GivesUp m old new t event refusal = (o : Opening) (h : Entries) → m.stands old o h
    → IsLawful o h (entry event (No refusal))
    × m.stands new o (after_refusal o h t event refusal)

-- a transaction is taken back to its last mark
abbrev pub Undoes : {R P : Type 0} → Means R P → R → R → TxNo → Result (Unit {0}) Refusal → Type 0
Undoes m old new t (Ok x) = Adds m old new (UndoMark t) Fine
Undoes m old new t (Err refusal) = GivesUp m old new t (UndoMark t) refusal

-- a transaction is taken back to its last savepoint of a name; without one there is no entry
abbrev pub GoesBack : {R P : Type 0} → Means R P → R → R → TxNo → List ℕ → Result Bool Refusal → Type 0
GoesBack m old new t name (Ok true) = (o : Opening) (h : Entries) → m.stands old o h
    → (has_point t.0 (SavepointNamed name) (steps o h) ≡ true)
    × IsLawful o h (entry (BackTo t name) Fine) × m.stands new o (entry (BackTo t name) Fine ∷ h)
GoesBack m old new t name (Ok false) = (o : Opening) (h : Entries) → m.stands old o h
    → (state_of o h t.0 ≡ Active) × (has_point t.0 (SavepointNamed name) (steps o h) ≡ false)
    × m.stands new o h
GoesBack m old new t name (Err refusal) = GivesUp m old new t (BackTo t name) refusal

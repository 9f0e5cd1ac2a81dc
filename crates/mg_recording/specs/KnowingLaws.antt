-- What is known of a history once an event of it is noted.
use Rattle.std.proofs.Common.{◌≡◌, ◌≢◌, inr, ℕ, Bool, ◌&&◌, cond, true, false, List, [], ◌∷◌, Result, Ok, Err, refl, subst, sym, ap, ◌∙◌}
use Rattle.std.proofs.lemmas.Bool.{false≢true}
use Rattle.mg_base.specs.declared.numbers.TxNo.{TxNo}
use Rattle.mg_base.specs.declared.transaction.TxState.{TxState}
use Rattle.mg_base.specs.declared.transaction.TxState.TheVariants.{Active, Limbo, Dead, Committed}
use Rattle.mg_model.specs.declared.answer.Answer.{Answer}
use Rattle.mg_model.specs.declared.answer.Answer.TheVariants.{Fine, No}
use Rattle.mg_model.specs.declared.event.Event.{Event}
use Rattle.mg_model.specs.declared.event.Event.TheVariants as events
use Rattle.mg_model.specs.declared.event.Mode.{Mode}
use Rattle.mg_model.specs.declared.opening.Opening.{Opening}
use Rattle.mg_model.specs.declared.refusal.Refusal.{Refusal}
use Rattle.mg_model.specs.Answers.{is_active}
use Rattle.mg_model.specs.Changes.{Cells}
use Rattle.mg_model.specs.History.{Entries, Entry, entry}
use Rattle.mg_model.specs.Machine.{opening_state, state_of}
use Rattle.mg_records.specs.Adding.{fine_or, number_or}
use Rattle.mg_records.specs.TakingBack.{after_refusal, is_given_up}
use Rattle.mg_trace.specs.declared.trace.Trace.{Trace}
use Rattle.mg_trace.specs.Putting.{AddsLine, Has, IsBeginning, Stops}
use Rattle.mg_trace.specs.PuttingLaws.{has_none, has_one}
use Rattle.mg_recording.specs.Active.{AreActive}
use Rattle.mg_recording.specs.ActiveLaws.{active_begun, active_committed, active_rolled_back}
use Rattle.mg_recording.specs.Backs.{NotesEnd, NotesRefused, must_end}
use Rattle.mg_recording.specs.Knowing.{Knows, after_end, with_drawn}
use Rattle.mg_recording.specs.Making.{with_rows}

-- ---- a trace that has stopped

-- it has each history that goes on from one that it has a beginning of
pub stopped_knows : (new : Trace) (after : List ℕ) (o : Opening) (h : Entries) → new.whole ≡ false
    → IsBeginning new.text.items h → Knows new after o h
stopped_knows new after o h whole begins = record {
  has = record { whole = λ w. absurd (false≢true (sym whole ∙ w)); beginning = begins };
  are = λ w. absurd (false≢true (sym whole ∙ w));
}

pub stopped : (old new : Trace) (h : Entries) → Stops old new → Has old h → IsBeginning new.text.items h
stopped old new h stops has = subst (λ (text : List ℕ). IsBeginning text h) (sym stops.text) has.beginning

rows_begin : (text : List ℕ) (t : TxNo) (table : List ℕ) (rows : List Cells) (h : Entries) → IsBeginning text h
    → IsBeginning text (with_rows t table rows h)
rows_begin text t table [] h begins = begins
rows_begin text t table (row ∷ rows) h begins =
    rows_begin text t table rows (entry (events.Insert t table row) Fine ∷ h) (inr begins)

-- so has one that stops the history with new rows
pub stopped_rows : (old new : Trace) (t : TxNo) (table : List ℕ) (rows : List Cells) (h : Entries) → Stops old new
    → Has old h → Has new (with_rows t table rows h)
stopped_rows old new t table rows h stops has = record {
  whole = λ w. absurd (false≢true (sym stops.whole ∙ w));
  beginning = rows_begin new.text.items t table rows h (stopped old new h stops has);
}

-- a line that is added to it is not there
line_lost : (old new : Trace) (event : Event) (answer : Answer) → AddsLine old new event answer → old.whole ≡ false
    → (new.whole ≡ false) × (new.text.items ≡ old.text.items)
line_lost old new event answer line lost = at new.whole refl
  where
    at : (b : Bool) → new.whole ≡ b → (new.whole ≡ false) × (new.text.items ≡ old.text.items)
    at true is = absurd (false≢true (sym lost ∙ (line.whole is).0))
    at false is = (is, line.short is)

-- ---- the beginning

not_active : (s : TxState) → s ≢ Active → is_active s ≡ false
not_active Active not_so = absurd (not_so refl)
not_active Limbo not_so = refl
not_active Dead not_so = refl
not_active Committed not_so = refl

-- no text and no number, where the history has no entry and no transaction was active
pub known_first : (trace : Trace) (active : List ℕ) (o : Opening) → trace.text.items ≡ [] → active ≡ []
    → ((t : ℕ) → opening_state o t ≢ Active) → Knows trace active o []
known_first trace active o empty none ended = record {
  has = has_none trace empty;
  are = λ w. subst (λ (us : List ℕ). AreActive us o []) (sym none) (λ u. not_active (opening_state o u) (ended u));
}

-- ---- one event

-- it is noted, and the numbers are those of the longer history
pub knows_one : (old new : Trace) (before after : List ℕ) (o : Opening) (h : Entries) (event : Event) (answer : Answer)
    → AddsLine old new event answer
    → (new.whole ≡ true → AreActive before o h → AreActive after o (entry event answer ∷ h))
    → Knows old before o h → Knows new after o (entry event answer ∷ h)
knows_one old new before after o h event answer line step knows = record {
  has = has_one old new h event answer line knows.has;
  are = λ w. step w (knows.are (line.whole w).0);
}

-- a transaction begins, or is refused to
pub begun_step : (before after : List ℕ) (o : Opening) (h : Entries) (session : ℕ) (mode : Mode)
    (drawn : Result TxNo Refusal) → after ≡ with_drawn before drawn → AreActive before o h
    → AreActive after o (entry (events.Begin session mode) (number_or drawn) ∷ h)
begun_step before after o h session mode (Ok t) is are =
    subst (λ (us : List ℕ). AreActive us o (entry (events.Begin session mode) (number_or (Ok t)) ∷ h)) (sym is)
    (active_begun before o h session mode t are)
begun_step before after o h session mode (Err refusal) is are =
    subst (λ (us : List ℕ). AreActive us o h) (sym is) are

-- one is committed, or rolled back, or is refused to be
pub commit_step : (before after : List ℕ) (o : Opening) (h : Entries) (t : TxNo) (done : Result (Unit {0}) Refusal)
    → after ≡ after_end before t done → AreActive before o h
    → AreActive after o (entry (events.Commit t) (fine_or done) ∷ h)
commit_step before after o h t (Ok x) is are =
    subst (λ (us : List ℕ). AreActive us o (entry (events.Commit t) Fine ∷ h)) (sym is)
    (active_committed before o h t are)
commit_step before after o h t (Err refusal) is are = subst (λ (us : List ℕ). AreActive us o h) (sym is) are

pub rollback_step : (before after : List ℕ) (o : Opening) (h : Entries) (t : TxNo) (done : Result (Unit {0}) Refusal)
    → after ≡ after_end before t done → AreActive before o h
    → AreActive after o (entry (events.Rollback t) (fine_or done) ∷ h)
rollback_step before after o h t (Ok x) is are =
    subst (λ (us : List ℕ). AreActive us o (entry (events.Rollback t) Fine ∷ h)) (sym is)
    (active_rolled_back before o h t are)
rollback_step before after o h t (Err refusal) is are = subst (λ (us : List ℕ). AreActive us o h) (sym is) are

-- ---- a taking back that was refused

-- the rolling back that follows it, if the test is true
end_known : (old new : Trace) (before after : List ℕ) (o : Opening) (h : Entries) (t : TxNo) (must : Bool)
    → NotesEnd old new before after t must → Knows old before o h
    → Knows new after o (cond must (entry (events.Rollback t) Fine ∷ h) h)
end_known old new before after o h t true noted knows =
    knows_one old new before after o h (events.Rollback t) Fine noted.0
    (λ w are. subst (λ (us : List ℕ). AreActive us o (entry (events.Rollback t) Fine ∷ h)) (sym noted.1)
    (active_rolled_back before o h t are)) knows
end_known old new before after o h t false noted knows =
    subst (λ (us : List ℕ). Knows new us o h) (sym noted.1)
    (subst (λ (trace : Trace). Knows trace before o h) (sym noted.0) knows)

-- nothing of it is there where the trace had stopped
end_lost : (old new : Trace) (before after : List ℕ) (t : TxNo) (must : Bool) → NotesEnd old new before after t must
    → old.whole ≡ false → (new.whole ≡ false) × (new.text.items ≡ old.text.items)
end_lost old new before after t true noted lost = line_lost old new (events.Rollback t) Fine noted.0 lost
end_lost old new before after t false noted lost =
    (ap (λ (trace : Trace). trace.whole) noted.0 ∙ lost, ap (λ (trace : Trace). trace.text.items) noted.0)

begins_on : (text : List ℕ) (h : Entries) (event : Event) (refusal : Refusal) (end : Entry) (ends : Bool)
    → IsBeginning text h
    → IsBeginning text (cond ends (end ∷ entry event (No refusal) ∷ h) (entry event (No refusal) ∷ h))
begins_on text h event refusal end true begins = inr (inr begins)
begins_on text h event refusal end false begins = inr begins

-- the history goes on as the machine says
pub knows_back : (old new : Trace) (before after : List ℕ) (o : Opening) (h : Entries) (t : TxNo) (event : Event)
    (refusal : Refusal) → NotesRefused old new before after t event refusal → Knows old before o h
    → Knows new after o (after_refusal o h t event refusal)
knows_back old new before after o h t event refusal noted knows = at old.whole refl
  where
    at : (b : Bool) → old.whole ≡ b → Knows new after o (after_refusal o h t event refusal)
    at true is =
        let first : Knows noted.mid before o (entry event (No refusal) ∷ h) =
        knows_one old noted.mid before before o h event (No refusal) noted.line (λ w are. are) knows in
        subst (λ (active : Bool). Knows new after o (cond (is_given_up refusal && active)
        (entry (events.Rollback t) Fine ∷ entry event (No refusal) ∷ h) (entry event (No refusal) ∷ h)))
        (sym (knows.are is t.0))
        (end_known noted.mid new before after o (entry event (No refusal) ∷ h) t (must_end before t refusal) noted.end
        first)
    at false is =
        let line = line_lost old noted.mid event (No refusal) noted.line is in
        let end = end_lost noted.mid new before after t (must_end before t refusal) noted.end line.0 in
        stopped_knows new after o (after_refusal o h t event refusal) end.0
        (begins_on new.text.items h event refusal (entry (events.Rollback t) Fine)
        (is_given_up refusal && is_active (state_of o h t.0))
        (subst (λ (text : List ℕ). IsBeginning text h) (sym (end.1 ∙ line.1)) knows.has.beginning))

-- ---- new rows

-- rows of a table begin and end no transaction
pub rows_active : (active : List ℕ) (o : Opening) (t : TxNo) (table : List ℕ) (rows : List Cells) (h : Entries)
    → AreActive active o h → AreActive active o (with_rows t table rows h)
rows_active active o t table [] h are = are
rows_active active o t table (row ∷ rows) h are =
    rows_active active o t table rows (entry (events.Insert t table row) Fine ∷ h) are

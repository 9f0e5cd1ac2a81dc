-- What the entries of a step leave of whether its transaction is active.
use Rattle.std.proofs.Common.{◌≡◌, ◌&&◌, ℕ, Bool, false, true, List, [], ◌∷◌, ◌++◌, Option, refl, ap, ◌∙◌}
use Rattle.std.specs.Prelude.{cond, if◌then◌else◌}
use Rattle.std.proofs.lemmas.Bool.{eq-eqb}
use Rattle.std.proofs.lemmas.List.{append_assoc}
use Rattle.mg_base.specs.declared.numbers.TxNo.{TxNo}
use Rattle.mg_base.specs.declared.transaction.TxState.{TxState}
use Rattle.mg_base.specs.declared.transaction.TxState.TheVariants.{Dead}
use Rattle.mg_model.specs.declared.answer.Answer.TheVariants.{Fine, No}
use Rattle.mg_model.specs.declared.event.Event.{Event}
use Rattle.mg_model.specs.declared.event.Event.TheVariants as events
use Rattle.mg_model.specs.declared.opening.Opening.{Opening}
use Rattle.mg_model.specs.declared.refusal.Refusal.{Refusal}
use Rattle.mg_model.specs.Answers.{is_active}
use Rattle.mg_model.specs.Catalog.{catalog_name}
use Rattle.mg_model.specs.Changes.{Cells}
use Rattle.mg_model.specs.History.{Entries, entry}
use Rattle.mg_model.specs.Machine.{state_of}
use Rattle.mg_records.specs.declared.write.Write.{Write}
use Rattle.mg_records.specs.declared.write.Write.TheVariants as writes_
use Rattle.mg_records.specs.TakingBack.{after_refusal, is_given_up}
use Rattle.mg_records.specs.Writing.{event_of}
use Rattle.mg_calls.specs.Tables.{AreInserted, none_left, one_came, one_refused}
use Rattle.mg_exec_course_laws.specs.Courses.{StaysActive}

-- an event was to take a transaction back, and was refused; by whether that gives it up
abbrev refused_so : Opening → Entries → TxNo → Event → Refusal → (gives_up active : Bool) → Bool
refused_so o h t event refusal gives_up active = is_active (state_of o (cond (gives_up && active)
    (entry (events.Rollback t) Fine ∷ entry event (No refusal) ∷ h) (entry event (No refusal) ∷ h)) t.0)

pub kept_active : (o : Opening) (h : Entries) (t : TxNo) (event : Event) (refusal : Refusal)
    → is_given_up refusal ≡ false → StaysActive o h t (after_refusal o h t event refusal) false
kept_active o h t event refusal kept was =
    ap (λ (b : Bool). refused_so o h t event refusal b (is_active (state_of o h t.0))) kept ∙ ap is_active was

pub given_up_ends : (o : Opening) (h : Entries) (t : TxNo) (event : Event) (refusal : Refusal)
    → is_given_up refusal ≡ true → StaysActive o h t (after_refusal o h t event refusal) true
given_up_ends o h t event refusal given was =
    ap (λ (b : Bool). refused_so o h t event refusal b (is_active (state_of o h t.0))) given
    ∙ (ap (λ (s : TxState). refused_so o h t event refusal true (is_active s)) was
    ∙ ap (λ (b : Bool). is_active (if b then Dead else state_of o h t.0)) (eq-eqb t.0 t.0 refl))

-- a write changes the state of no transaction
pub write_stays : (o : Opening) (h : Entries) (t : TxNo) (table : List ℕ) (w : Write) (u : ℕ)
    → state_of o (entry (event_of t table w) Fine ∷ h) u ≡ state_of o h u
write_stays o h t table (writes_.Insert row) u = refl
write_stays o h t table (writes_.Change key row) u = refl
write_stays o h t table (writes_.Erase key) u = refl

-- nor do the rows of a new table
pub inserted_stay : {t : TxNo} {rows : List Cells} {refusal : Option Refusal} {more : Entries} (o : Opening)
    (h : Entries) (u : ℕ) → AreInserted t rows refusal more → state_of o (more ++ h) u ≡ state_of o h u
inserted_stay o h u none_left = refl
inserted_stay {t = t} o h u (one_came {more = behind} row came) =
    ap (λ (k : Entries). state_of o k u) (append_assoc behind (entry (events.Insert t catalog_name row) Fine ∷ []) h)
    ∙ inserted_stay o (entry (events.Insert t catalog_name row) Fine ∷ h) u came
inserted_stay o h u (one_refused row rows refusal) = refl

-- A write that is refused, and what undoes its statement.
use Rattle.std.proofs.Common.{◌≡◌, ℕ, suc, Bool, true, false, List, ◌∷◌, Option, Some, None, refl, sym, ap, subst, ◌∙◌, arith}
use Rattle.std.proofs.lemmas.Bool.{false≢true}
use Rattle.std.specs.Prelude.{◌&&◌, ◌++◌, ◌<◌, ◌+◌, length, not, All, MatchOption, cond, if◌then◌else◌}
use Rattle.std.specs.Option.{option_to_list}
use Rattle.mg_value.specs.declared.shape.Shape.{Shape}
use Rattle.mg_base.specs.declared.numbers.TxNo.{TxNo}
use Rattle.mg_faults.specs.FaultLaws.{worse_tells}
use Rattle.mg_faults.specs.Faults.{FaultCount, tells_failed_write, tells_fault, tells_rise, worse}
use Rattle.mg_model.specs.declared.answer.Answer.{Answer}
use Rattle.mg_model.specs.declared.answer.Answer.TheVariants.{Fine, No}
use Rattle.mg_model.specs.declared.event.Event.{Event}
use Rattle.mg_model.specs.declared.event.Event.TheVariants.{Rollback, UndoMark}
use Rattle.mg_model.specs.declared.opening.Opening.{Opening}
use Rattle.mg_model.specs.declared.refusal.Refusal.{Refusal}
use Rattle.mg_model.specs.declared.refusal.Refusal.TheVariants.{Waits}
use Rattle.mg_model.specs.Answers.{is_active}
use Rattle.mg_model.specs.History.{Entries, entry}
use Rattle.mg_model.specs.Legal.{IsLawful, is_lasting}
use Rattle.mg_model.specs.Machine.{state_of}
use Rattle.mg_records.specs.declared.write.Write.{Write}
use Rattle.mg_records.specs.declared.write.Write.TheVariants as writes
use Rattle.mg_records.specs.Meaning.{Means}
use Rattle.mg_records.specs.Adding.{Adds}
use Rattle.mg_records.specs.Crashing.{LeavesQuietly}
use Rattle.mg_records.specs.Keeping.{FaultsAreTold, Leaves, MeetsNoDamage}
use Rattle.mg_records.specs.Sessions.{SessionsStay}
use Rattle.mg_records.specs.TakingBack.{GivesUp, after_refusal, is_given_up}
use Rattle.mg_records.specs.Writing.{FitsShape, event_of}
use Rattle.mg_calls.specs.Frames.{Frames}
use Rattle.mg_calls.specs.Quiet.{AreQuiet}
use Rattle.mg_calls.specs.QuietLaws.{quiet_event, quiet_given_up}
use Rattle.mg_calls.specs.declared.writing.Written.TheVariants as written
use Rattle.mg_calls.specs.declared.writing.Written.{Written}
use Rattle.mg_calls.specs.FrameLaws.{frames_after, frames_changes, frames_first, frames_leaves, frames_then, frames_writes}
use Rattle.mg_calls.specs.declared.steps.Writes.{Writes}
use Rattle.mg_calls.specs.declared.steps.Wrote.{Wrote}
use Rattle.mg_calls.specs.Steps.{StepsOn, refusal_wrote}
use Rattle.mg_calls.specs.Undoing.{Undoes, is_waiting, left_so}
use Rattle.mg_calls.specs.Writes.{Comes, IsWritten, WritesOne, ended_by, goes_on, refusal_written, refused_twice}

-- the undoing was refused, and the transaction rolled back if the refusal is one that gives it up
pub not_undone : {R P : Type 0} (m : Means R P) (old new : R) (t : TxNo) (refusal later : Refusal)
    → GivesUp m old new t (UndoMark t) later → (o : Opening) (h : Entries) → m.stands old o h
    → Undoes m new o h t refusal (refused_twice refusal later)
not_undone m old new t refusal later back o h stands = by (is_given_up later) refl undoes.1
  where
    undoes : IsLawful o h (entry (UndoMark t) (No later))
        × m.stands new o (after_refusal o h t (UndoMark t) later)
    undoes = back o h stands

    by : (b : Bool) → is_given_up later ≡ b → m.stands new o (after_refusal o h t (UndoMark t) later)
        → Undoes m new o h t refusal
        (if b then written.RolledBack (worse refusal later) else written.Refused (worse refusal later))
    by true gives is =
        record { later = later; answered = refl; gives_up = gives; undoing = undoes.0; stands = is }
    by false keeps is = left_so later keeps undoes.0
        (subst (λ (b : Bool). m.stands new o (cond (b && is_active (state_of o h t.0))
        (entry (Rollback t) Fine ∷ entry (UndoMark t) (No later) ∷ h)
        (entry (UndoMark t) (No later) ∷ h))) keeps is)

pub ends_twice : (first later : Refusal) → goes_on (refused_twice first later) ≡ false
ends_twice first later = by (is_given_up later)
  where
    by : (b : Bool) → goes_on (if b then written.RolledBack (worse first later)
        else written.Refused (worse first later)) ≡ false
    by true = refl
    by false = refl

told_twice : (first later : Refusal) → refusal_written (refused_twice first later) ≡ Some (worse first later)
told_twice first later = by (is_given_up later)
  where
    by : (b : Bool) → refusal_written (if b then written.RolledBack (worse first later)
        else written.Refused (worse first later)) ≡ Some (worse first later)
    by true = refl
    by false = refl

pub not_undone_frames : {R P : Type 0} (m : Means R P) (before old new : R) (t : ℕ)
    (refusal later : Refusal) → Frames m before old t (Some refusal)
    → Leaves m old new (Some later) (Some t) (Some t) → FaultsAreTold m old new (Some later)
    → Frames m before new t (refusal_written (refused_twice refusal later))
not_undone_frames m before old new t refusal later first second told_on =
    subst (λ (told : Option Refusal). Frames m before new t told) (sym (told_twice refusal later))
    (by (tells_fault (Some refusal) && not (tells_failed_write (Some later))) refl)
  where
    undoing : Frames m old new t (Some later)
    undoing = frames_changes m old new t (Some later) second told_on

    untold : (b : Bool) → (tells_fault (Some refusal) && not (tells_failed_write (Some later))) ≡ b → (k : FaultCount)
        → tells_rise k (Some (if b then refusal else later)) ≡ false
        → (tells_rise k (Some refusal) ≡ false) × (tells_rise k (Some later) ≡ false)
    untold b is k quiet = worse_tells k refusal later
        (subst (λ (c : Bool). tells_rise k (Some (if c then refusal else later)) ≡ false) (sym is) quiet)

    by : (b : Bool) → (tells_fault (Some refusal) && not (tells_failed_write (Some later))) ≡ b
        → Frames m before new t (Some (if b then refusal else later))
    by true is = frames_first m before old new t (Some refusal) (Some later) (λ k quiet. (untold true is k quiet).1)
        first undoing
    by false is = frames_then m before old new t (Some refusal) (Some later) (λ k quiet. (untold false is k quiet).0)
        first undoing

-- a write was refused, and its statement undone
pub comes_to_nothing : {R P : Type 0} (m : Means R P) (old mid new : R) (t : TxNo) (event : Event)
    (refusal : Refusal) (result : Written) → is_waiting refusal ≡ false
    → Adds m old mid event (No refusal)
    → ((o : Opening) (h : Entries) → m.stands mid o h → Undoes m new o h t refusal result)
    → (o : Opening) (h : Entries) → m.stands old o h → WritesOne m new o h t event result
comes_to_nothing m old mid new t event refusal result final adds undoes o h stands =
    by result (undoes o (entry event (No refusal) ∷ h) came.1)
  where
    came : IsLawful o h (entry event (No refusal)) × m.stands mid o (entry event (No refusal) ∷ h)
    came = adds o h stands

    by : (result : Written) → Undoes m new o (entry event (No refusal) ∷ h) t refusal result
        → WritesOne m new o h t event result
    by written.Done is = absurd is
    by (written.Waits on) is = absurd is
    by (written.Refused answer) is =
        record { first = refusal; final = final; lawful = came.0; undone = is }
    by (written.RolledBack answer) is =
        record { first = refusal; final = final; lawful = came.0; undone = is }

-- a statement that is at its end leaves no more than the frames
pub ended_leaves : {R P : Type 0} (m : Means R P) (old new : R) (t : ℕ) (result : Written)
    → goes_on result ≡ false → Frames m old new t (refusal_written result)
    → IsWritten m old new t result
ended_leaves m old new t result ends frames =
    record { frames = frames; tables = λ on. absurd (false≢true (sym ends ∙ on)) }

-- a write that took effect, or waits, leaves the tables of its transaction
pub written_leaves : {R P : Type 0} (m : Means R P) (old new : R) (t : ℕ)
    → Leaves m old new None None (Some t) → FaultsAreTold m old new None → IsWritten m old new t written.Done
written_leaves m old new t leaves told = record {
  frames = frames_writes m old new t None leaves told;
  tables = λ on name table was. leaves.tables_stay t name table refl was;
}

-- a write that waits was refused so, and leaves no more
pub waits_lawfully : {R P : Type 0} (m : Means R P) (old new : R) (event : Event) (refusal : Refusal) (on : TxNo)
    → refusal ≡ Waits on → Adds m old new event (No refusal) → (o : Opening) (h : Entries) → m.stands old o h
    → Comes m new o h event (No (Waits on))
waits_lawfully m old new event refusal on is adds o h stands =
    subst (λ (x : Refusal). Comes m new o h event (No x)) is
    (record { lawful = (adds o h stands).0; stands = (adds o h stands).1 })

pub waiting_leaves : {R P : Type 0} (m : Means R P) (old new : R) (t : ℕ) (refusal : Refusal) (on : TxNo)
    → refusal ≡ Waits on → Leaves m old new (Some refusal) None (Some t) → FaultsAreTold m old new (Some refusal)
    → IsWritten m old new t (written.Waits on)
waiting_leaves m old new t refusal on is leaves told = record {
  frames = subst (λ (x : Refusal). Frames m old new t (Some x)) is
      (frames_writes m old new t (Some refusal) leaves told);
  tables = λ on name table was. leaves.tables_stay t name table refl was;
}

-- a step behind the mark of its statement
pub steps_behind : {R P : Type 0} (m : Means R P) (old mid new : R) (t : ℕ) (before after : Writes)
    (result : Wrote) → Leaves m old mid None None None → FaultsAreTold m old mid None
    → StepsOn m mid new t before after result → StepsOn m old new t before after result
steps_behind m old mid new t before after result leaves told steps = record {
  frames = frames_after m old mid new t (refusal_wrote result) (frames_leaves m old mid t None leaves told)
      steps.frames;
  table = steps.table;
  ready = steps.ready;
  fewer = steps.fewer;
}

-- ---- quiet calls

writes_quietly : (t : TxNo) (name : List ℕ) (w : Write) → is_lasting (event_of t name w) ≡ false
writes_quietly t name (writes.Insert row) = refl
writes_quietly t name (writes.Change key row) = refl
writes_quietly t name (writes.Erase key) = refl

pub quiet_write : {R P : Type 0} (m : Means R P) (old new : R) (t : TxNo) (name : List ℕ) (w : Write)
    (answer : Answer) (refusal : Option Refusal) → Adds m old new (event_of t name w) answer
    → Leaves m old new refusal None (Some t.0) → MeetsNoDamage m old new → LeavesQuietly m old new
    → SessionsStay m old new None None → AreQuiet m old new None
quiet_write m old new t name w answer refusal adds leaves undamaged crash sessions =
    quiet_event m old new (event_of t name w) answer refusal None (Some t.0) (writes_quietly t name w)
    adds leaves undamaged crash sessions

-- the undoing of a refused statement was refused
pub quiet_not_undone : {R P : Type 0} (m : Means R P) (old new : R) (t : TxNo) (first refusal : Refusal)
    (tables walks : Option ℕ) → GivesUp m old new t (UndoMark t) refusal
    → Leaves m old new (Some refusal) tables walks → MeetsNoDamage m old new → LeavesQuietly m old new
    → SessionsStay m old new None (if is_given_up refusal then Some t.0 else None)
    → AreQuiet m old new (ended_by t.0 (refused_twice first refusal))
quiet_not_undone m old new t first refusal tables walks gives leaves undamaged crash sessions =
    subst (λ (ends : Option ℕ). AreQuiet m old new ends) (by (is_given_up refusal))
    (quiet_given_up m old new t (UndoMark t) refusal tables walks refl gives leaves undamaged crash sessions)
  where
    by : (b : Bool) → (if b then Some t.0 else None)
        ≡ ended_by t.0 (if b then written.RolledBack (worse first refusal)
        else written.Refused (worse first refusal))
    by true = refl
    by false = refl

-- one is fewer where the first is taken
pub one_taken : (popped : Option Write) (all_ rest : List Write) (n k : ℕ)
    → all_ ≡ option_to_list popped ++ rest → 0 < n
    → MatchOption popped ((n ≡ 0) × (k ≡ 0)) (λ w. k + 1 ≡ n) → length all_ ≡ length rest + 1
one_taken None all_ rest n k is some none = absurd (omega (arith, some, none.0))
one_taken (Some w) all_ rest n k is some one = omega (arith, ap (length {A = Write}) is)

-- what is true of all is true of those behind the first
pub all_behind : (shape : Shape) (first : Option Write) (all_ rest : List Write)
    → all_ ≡ option_to_list first ++ rest → All (FitsShape shape) all_ → All (FitsShape shape) rest
all_behind shape None all_ rest is each = subst (All (FitsShape shape)) is each
all_behind shape (Some w) all_ rest is each = behind (subst (All (FitsShape shape)) is each)
  where
    behind : All (FitsShape shape) (w ∷ rest) → All (FitsShape shape) rest
    behind each k d below = each (suc k) d (omega (arith, below))

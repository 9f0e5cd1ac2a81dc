-- The writes of a statement whose mark is set.
use Rattle.std.proofs.Common.{inl, inr, ◌≡◌, ◌≢◌, ℕ, Bool, false, true, List, [], ◌∷◌, Some, refl, sym, ap, ◌∙◌, subst}
use Rattle.std.specs.Prelude.{map, length}
use Rattle.mg_base.specs.declared.numbers.TxNo.{TxNo}
use Rattle.mg_statements.specs.Plain.{Plain}
use Rattle.mg_model.specs.declared.answer.Answer.TheVariants.{Fine, No}
use Rattle.mg_model.specs.declared.event.Event.{Event}
use Rattle.mg_model.specs.declared.event.Event.TheVariants as events
use Rattle.mg_model.specs.declared.opening.Opening.{Opening}
use Rattle.mg_model.specs.declared.refusal.Refusal.{Refusal}
use Rattle.mg_model.specs.declared.refusal.Refusal.TheVariants.{Waits}
use Rattle.mg_model.specs.declared.table.Table.{Table}
use Rattle.mg_model.specs.Answers.{is_active}
use Rattle.mg_model.specs.History.{Entries, entry, transaction_of}
use Rattle.mg_records.specs.declared.write.Write.{Write}
use Rattle.mg_records.specs.declared.write.Write.TheVariants as writes_
use Rattle.mg_records.specs.Meaning.{Means}
use Rattle.mg_records.specs.TakingBack.{after_refusal}
use Rattle.mg_records.specs.Writing.{event_of}
use Rattle.mg_rows.specs.declared.outcome.Outcome.{Outcome}
use Rattle.mg_rows.specs.declared.outcome.Outcome.TheVariants as outcomes
use Rattle.mg_calls.specs.declared.steps.Writes.{Writes as Left}
use Rattle.mg_calls.specs.declared.steps.Wrote.{Wrote}
use Rattle.mg_calls.specs.declared.steps.Wrote.TheVariants as wrote_
use Rattle.mg_calls.specs.declared.writing.Written.TheVariants as written_
use Rattle.mg_calls.specs.Steps.{MarksAndWrites, WritesFirst, WritesNext}
use Rattle.mg_calls.specs.Undoing.{IsGivenUp, IsUndone as IsUndoneThere, is_waiting, left_so, taken_back as took_back}
use Rattle.mg_calls.specs.Writes.{ComesToNothing}
use Rattle.mg_exec.specs.Phases.{StandsAt}
use Rattle.mg_exec.specs.Changing.{turned, with_left as changing_with}
use Rattle.mg_exec.specs.declared.phase.Turn.{Turn}
use Rattle.mg_exec.specs.Running.{is_rolled_back_at}
use Rattle.mg_script.specs.declared.reply.Reply.TheVariants as replies
use Rattle.mg_transcript.specs.Courses.{Comes, Course, Parks, Writing, with_left, Ends}
use Rattle.mg_transcript.specs.Steps.{IsUndone, Writes, done, given_up, is_final, refused, taken_back, undone, waits, writes_on, Marks, first_event, no_event, refused_mark}
use Rattle.mg_exec_course_laws.specs.ActiveLaws.{given_up_ends, kept_active, write_stays}
use Rattle.mg_exec_course_laws.specs.Courses.{ChangesTell, IsTurned, IsWritingCourse, StaysActive, Tells}
use Rattle.mg_exec_course_laws.specs.PointLaws.{kept_after}

-- ---- a statement is undone

pub final_of : (refusal : Refusal) → is_waiting refusal ≡ false → is_final refusal ≡ true
final_of (Waits on) is = absurd cc
final_of refusal is = refl

-- Entries by which a statement that was refused is undone, and for which a keeper stands.
pub record UndoneHere {R P : Type 0} (m : Means R P) (new : R) (o : Opening) (h : Entries) (t : TxNo)
    (first answered : Refusal) (over : Bool) : Type 0 where
  pub after : Entries
  pub undone_so : IsUndone o h t first after answered
  pub stands : m.stands new o after
  pub active : StaysActive o h t after over

pub undone_here : {R P : Type 0} (m : Means R P) (new : R) (o : Opening) (h : Entries) (t : TxNo) (first answered : Refusal)
    → IsUndoneThere m new o h t first answered → UndoneHere m new o h t first answered false
undone_here m new o h t first answered (took_back lawful stands) = record {
  after = entry (events.UndoMark t) Fine ∷ h;
  undone_so = taken_back lawful;
  stands = stands;
  active = λ was. ap is_active was;
}
undone_here m new o h t first answered (left_so later kept lawful stands) = record {
  after = after_refusal o h t (events.UndoMark t) later;
  undone_so = given_up later lawful;
  stands = subst (m.stands new o) (kept_after o h t (events.UndoMark t) later kept) stands;
  active = kept_active o h t (events.UndoMark t) later kept;
}

pub given_here : {R P : Type 0} (m : Means R P) (new : R) (o : Opening) (h : Entries) (t : TxNo) (first answered : Refusal)
    → IsGivenUp m new o h t first answered → UndoneHere m new o h t first answered true
given_here m new o h t first answered given = record {
  after = after_refusal o h t (events.UndoMark t) given.later;
  undone_so = subst (λ (r : Refusal). IsUndone o h t first (after_refusal o h t (events.UndoMark t) given.later) r)
      (sym given.answered) (given_up given.later given.undoing);
  stands = given.stands;
  active = given_up_ends o h t (events.UndoMark t) given.later given.gives_up;
}

-- an event came to nothing
pub record NothingCame {R P : Type 0} (m : Means R P) (new : R) (o : Opening) (h : Entries) (t : TxNo) (event : Event)
    (more : List Event) (outcome : Outcome) (answered : Refusal) (over : Bool) : Type 0 where
  pub after : Entries
  pub writes : Writes o h t event more outcome after (refused answered)
  pub stands : m.stands new o after
  pub active : StaysActive o h t after over

pub nothing_refused : {R P : Type 0} (m : Means R P) (new : R) (o : Opening) (h : Entries) (t : TxNo) (event : Event)
    (more : List Event) (outcome : Outcome) (answered : Refusal) → transaction_of event ≡ Some t.0
    → ComesToNothing m new o h t event (written_.Refused answered)
    → NothingCame m new o h t event more outcome answered false
nothing_refused m new o h t event more outcome answered whose nothing =
    let it = undone_here m new o (entry event (No nothing.first) ∷ h) t nothing.first answered nothing.undone in record {
      after = it.after;
      writes = undone nothing.first answered it.after whose (final_of nothing.first nothing.final) nothing.lawful
          it.undone_so;
      stands = it.stands;
      active = it.active;
    }

pub nothing_given_up : {R P : Type 0} (m : Means R P) (new : R) (o : Opening) (h : Entries) (t : TxNo) (event : Event)
    (more : List Event) (outcome : Outcome) (answered : Refusal) → transaction_of event ≡ Some t.0
    → ComesToNothing m new o h t event (written_.RolledBack answered)
    → NothingCame m new o h t event more outcome answered true
nothing_given_up m new o h t event more outcome answered whose nothing =
    let it = given_here m new o (entry event (No nothing.first) ∷ h) t nothing.first answered nothing.undone in record {
      after = it.after;
      writes = undone nothing.first answered it.after whose (final_of nothing.first nothing.final) nothing.lawful
          it.undone_so;
      stands = it.stands;
      active = it.active;
    }

-- ---- the next write

event_is : (t : TxNo) (table : List ℕ) (w : Write) → transaction_of (event_of t table w) ≡ Some t.0
event_is t table (writes_.Insert row) = refl
event_is t table (writes_.Change key row) = refl
event_is t table (writes_.Erase key) = refl

-- The next of the writes of a statement came, and it is told what it came to.
pub record WriteTold {R P : Type 0} (m : Means R P) (new : R) (o : Opening) (h : Entries) (t : TxNo) (s : Plain)
    (name : List ℕ) (count : ℕ) (first : Write) (rest : List Write) (turn : Turn P) : Type 0 where
  pub after : Entries
  pub comes : Comes
  pub writes : Writes o h t (event_of t name first) (map (event_of t name) rest) (outcomes.Count count) after comes
  pub stands : m.stands new o after
  pub stays : StandsAt m new o after t.0 turn.phase
  pub active : StaysActive o h t after (is_rolled_back_at turn.phase)
  pub told : IsTurned t s turn comes

module _ {R P : Type 0} (m : Means R P) (new : R) (o : Opening) (h : Entries) (t : TxNo) (s : Plain) (table : Table)
    (count : ℕ) (left : Left) (stays : left.table ≡ table) where
  -- what is left, as a course
  course_is : (ws : List Write) → left.left.items ≡ ws
      → Writing (map (event_of t table.name) ws) (outcomes.Count count)
      ≡ Writing (map (event_of t left.table.name) left.left.items) (outcomes.Count count)
  course_is ws same = ap (λ (xs : List Write). Writing (map (event_of t table.name) xs) (outcomes.Count count)) (sym same)
      ∙ ap (λ (tb : Table). Writing (map (event_of t tb.name) left.left.items) (outcomes.Count count)) (sym stays)

  some_left : (w : Write) (ws : List Write) → left.left.items ≡ w ∷ ws → left.left.items ≢ []
  some_left w ws same none = let both : w ∷ ws ≡ [] = sym same ∙ none in absurd cc

  left_course : (w : Write) (ws : List Write) → left.left.items ≡ w ∷ ws
      → IsWritingCourse t (changing_with left count)
      (Writing (map (event_of t table.name) (w ∷ ws)) (outcomes.Count count))
  left_course w ws same = (some_left w ws same, course_is (w ∷ ws) same)

  first_tells : (first : Write) (rest : List Write) (result : Wrote)
      → WritesFirst m new o h t table.name first rest left.left.items result
      → WriteTold {P = P} m new o h t s table.name count first rest (turned (changing_with left count) result)
  first_tells first rest wrote_.More (came, same, some) = at rest same some
    where
      at : (rest : List Write) → left.left.items ≡ rest → rest ≢ []
          → WriteTold {P = P} m new o h t s table.name count first rest (turned (changing_with left count) wrote_.More)
      at [] same some = absurd (some refl)
      at (w ∷ ws) same some = record {
        after = entry (event_of t table.name first) Fine ∷ h;
        comes = with_left (map (event_of t table.name) (w ∷ ws)) (outcomes.Count count);
        writes = done (event_is t table.name first) came.lawful;
        stands = came.stands;
        stays = tt;
        active = λ was. ap is_active (write_stays o h t table.name first t.0 ∙ was);
        told = left_course w ws same;
      }
  first_tells first rest wrote_.Done (came, none) = record {
    after = entry (event_of t table.name first) Fine ∷ h;
    comes = with_left (map (event_of t table.name) rest) (outcomes.Count count);
    writes = done (event_is t table.name first) came.lawful;
    stands = came.stands;
    stays = tt;
    active = λ was. ap is_active (write_stays o h t table.name first t.0 ∙ was);
    told = ap (λ (ws : List Write). with_left (map (event_of t table.name) ws) (outcomes.Count count)) none;
  }
  first_tells first rest (wrote_.Waits on) (came, same) = record {
    after = entry (event_of t table.name first) (No (Waits on)) ∷ h;
    comes = Parks on (Writing (map (event_of t table.name) (first ∷ rest)) (outcomes.Count count));
    writes = waits on (event_is t table.name first) came.lawful;
    stands = came.stands;
    stays = tt;
    active = λ was. ap is_active was;
    told = (refl, left_course first rest same);
  }
  first_tells first rest (wrote_.Refused answered) nothing =
      let it = nothing_refused m new o h t (event_of t table.name first) (map (event_of t table.name) rest)
      (outcomes.Count count) answered (event_is t table.name first) nothing in record {
        after = it.after;
        comes = refused answered;
        writes = it.writes;
        stands = it.stands;
        stays = tt;
        active = it.active;
        told = refl;
      }
  first_tells first rest (wrote_.RolledBack answered) nothing =
      let it = nothing_given_up m new o h t (event_of t table.name first) (map (event_of t table.name) rest)
      (outcomes.Count count) answered (event_is t table.name first) nothing in record {
        after = it.after;
        comes = refused answered;
        writes = it.writes;
        stands = it.stands;
        stays = tt;
        active = it.active;
        told = refl;
      }

-- The mark was set, or refused, and the first of some writes came; it is told what that came to.
pub record MarkTold {R P : Type 0} (m : Means R P) (new : R) (o : Opening) (h : Entries) (t : TxNo) (s : Plain)
    (name : List ℕ) (made : List Write) (turn : Turn P) : Type 0 where
  pub after : Entries
  pub comes : Comes
  pub marks : Marks o h t (outcomes.Count (length made)) (map (event_of t name) made) after comes
  pub stands : m.stands new o after
  pub stays : StandsAt m new o after t.0 turn.phase
  pub active : StaysActive o h t after (is_rolled_back_at turn.phase)
  pub told : IsTurned t s turn comes

pub marks_tell : {R P : Type 0} (m : Means R P) (new : R) (o : Opening) (h : Entries) (t : TxNo) (s : Plain)
    (table : Table) (left : Left) → left.table ≡ table → (made : List Write) (result : Wrote)
    → MarksAndWrites m new o h t table.name made left.left.items result
    → MarkTold {P = P} m new o h t s table.name made (turned (changing_with left (length made)) result)
marks_tell {P = P} m new o h t s table left stays made result (inl (refusal, same, came)) =
    subst (λ (w : Wrote). MarkTold {P = P} m new o h t s table.name made (turned (changing_with left (length made)) w))
    (sym same) (record {
      after = entry (events.Mark t) (No refusal) ∷ h;
      comes = refused refusal;
      marks = refused_mark (map (event_of t table.name) made) refusal came.lawful;
      stands = came.stands;
      stays = tt;
      active = λ was. ap is_active was;
      told = refl;
    })
marks_tell {P = P} m new o h t s table left stays made result (inr (lawful, next)) = at made next
  where
    at : (ws : List Write)
        → WritesNext m new o (entry (events.Mark t) Fine ∷ h) t table.name ws left.left.items result
        → MarkTold {P = P} m new o h t s table.name ws (turned (changing_with left (length ws)) result)
    at [] (same, stands) = subst (λ (w : Wrote). MarkTold {P = P} m new o h t s table.name []
        (turned (changing_with left 0) w)) (sym same) (record {
          after = entry (events.Mark t) Fine ∷ h;
          comes = Ends (replies.Ok (outcomes.Count 0));
          marks = no_event lawful;
          stands = stands;
          stays = tt;
          active = λ was. ap is_active was;
          told = refl;
        })
    at (first ∷ rest) next =
        let it = first_tells m new o (entry (events.Mark t) Fine ∷ h) t s table (length (first ∷ rest)) left stays first
        rest result next in record {
          after = it.after;
          comes = it.comes;
          marks = first_event (event_of t table.name first) (map (event_of t table.name) rest) it.after it.comes lawful
              it.writes;
          stands = it.stands;
          stays = it.stays;
          active = it.active;
          told = it.told;
        }

pub changes_tell : {R P : Type 0} (m : Means R P) → ChangesTell m
changes_tell {P = P} m new o h t s c course turn (some, is) changes =
    subst (λ (course : Course). Tells m new o h t s course turn) (sym is)
    (subst (Tells m new o h t s (Writing (map (event_of t c.writes.table.name) c.writes.left.items)
    (outcomes.Count c.count))) (sym changes.stands_so) (at c.writes.left.items some changes.writes))
  where
    at : (ws : List Write) → ws ≢ []
        → WritesNext m new o h t c.writes.table.name ws changes.left.left.items changes.result
        → Tells {P = P} m new o h t s (Writing (map (event_of t c.writes.table.name) ws) (outcomes.Count c.count))
        (turned (changing_with changes.left c.count) changes.result)
    at [] some next = absurd (some refl)
    at (first ∷ rest) some next =
        let it = first_tells m new o h t s c.writes.table c.count changes.left changes.table first rest changes.result
        next in record {
          after = it.after;
          comes = it.comes;
          steps = writes_on (event_of t c.writes.table.name first) (map (event_of t c.writes.table.name) rest)
              (outcomes.Count c.count) it.after it.comes it.writes;
          stands = it.stands;
          stays = it.stays;
          active = it.active;
          told = it.told;
        }

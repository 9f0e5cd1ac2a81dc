-- A statement waits for a transaction that is active.
use Rattle.std.proofs.Common.{◌≡◌, true, List, [], ◌∷◌, refl}
use Rattle.mg_base.specs.declared.numbers.TxNo.{TxNo}
use Rattle.mg_value.specs.declared.shape.Shape.{Shape}
use Rattle.mg_statements.specs.Plain.{Plain}
use Rattle.mg_model.specs.declared.answer.Answer.TheVariants as answers
use Rattle.mg_model.specs.declared.event.Event.{Event}
use Rattle.mg_model.specs.declared.opening.Opening.{Opening}
use Rattle.mg_model.specs.declared.refusal.Refusal.TheVariants as refusals
use Rattle.mg_model.specs.Answers.{is_active}
use Rattle.mg_model.specs.AnswerWaitLaws.{entry_waits}
use Rattle.mg_model.specs.Changes.{Cells}
use Rattle.mg_model.specs.History.{Entries, entry}
use Rattle.mg_model.specs.Machine.{state_of}
use Rattle.mg_rows.specs.declared.outcome.Outcome.{Outcome}
use Rattle.mg_transcript.specs.Courses.{Comes, Course, Ends, Later, Parks, with_left}
use Rattle.mg_transcript.specs.Steps.{Follows, Marks, Runs, Steps, Writes, WritesAll, answers_so, commits, done, ends_now, fails, falls_short, faults, finds, finds_not, first_event, goes_back, goes_not, goes_nowhere, has_fault, inserts, inserts_not, makes, makes_not, makes_on, no_event, none_left, one_more, one_step, parks, refused_mark, saves, stops, undone, visits, waits, waits_now, writes_no_page, writes_on, writes_page, writes_so}

-- what it waits for, if it does, is active
abbrev pub WaitsOnActive : Opening → Entries → Comes → Type 0
WaitsOnActive o h (Parks on course) = is_active (state_of o h on.0) ≡ true
WaitsOnActive o h (Later course) = Unit {0}
WaitsOnActive o h (Ends reply) = Unit {0}

left_waits : (o : Opening) (h : Entries) (more : List Event) (outcome : Outcome)
    → WaitsOnActive o h (with_left more outcome)
left_waits o h [] outcome = tt
left_waits o h (event ∷ more) outcome = tt

writes_wait : {o : Opening} {h after : Entries} {t : TxNo} {event : Event} {more : List Event}
    {outcome : Outcome} {comes : Comes} → Writes o h t event more outcome after comes → WaitsOnActive o after comes
writes_wait {o = o} {h = h} {event = event} {more = more} {outcome = outcome} (done its lawful) =
    left_waits o (entry event answers.Fine ∷ h) more outcome
writes_wait {o = o} {h = h} {t = t} {event = event} (waits on its lawful) =
    (entry_waits o h (entry event (answers.No (refusals.Waits on))) lawful t.0 on.0 its refl).0
writes_wait (undone first answered after its final lawful undoing) = tt

all_wait : {o : Opening} {t : TxNo} {all : List Event} {outcome : Outcome} {h after : Entries}
    {news : List Event} {comes : Comes} → WritesAll o t all outcome h news after comes
    → WaitsOnActive o after comes
all_wait none_left = tt
all_wait (one_more its lawful more) = all_wait more
all_wait (parks write) = writes_wait write
all_wait (fails write) = tt

marks_wait : {o : Opening} {h after : Entries} {t : TxNo} {outcome : Outcome} {news : List Event}
    {comes : Comes} → Marks o h t outcome news after comes → WaitsOnActive o after comes
marks_wait (refused_mark news refusal lawful) = tt
marks_wait (no_event lawful) = tt
marks_wait (first_event event more after comes lawful write) = writes_wait write

follows_wait : {o : Opening} {h after : Entries} {t : TxNo} {s : Plain} {shape : Shape}
    {rows : List Cells} {comes : Comes} → Follows o h t s shape rows after comes → WaitsOnActive o after comes
follows_wait (answers_so given is answer) = tt
follows_wait (writes_so news after comes is made marks) = marks_wait marks
follows_wait (has_fault fault is made) = tt
follows_wait (falls_short refusal is) = tt

steps_wait : {o : Opening} {h after : Entries} {t : TxNo} {course : Course} {comes : Comes}
    → Steps o h t course after comes → WaitsOnActive o after comes
steps_wait (visits s taken is) = tt
steps_wait (stops s taken refusal is) = tt
steps_wait (faults s taken shape is seen found) = tt
steps_wait (finds s taken shape rows find after comes read is lawful follows) = follows_wait follows
steps_wait (finds_not s taken shape rows find refusal read is lawful) = tt
steps_wait (inserts table columns values taken shape news after comes seen made marks) = marks_wait marks
steps_wait (inserts_not table columns values taken shape fault seen made) = tt
steps_wait (makes name columns taken after comes lawful all) = all_wait all
steps_wait (makes_not name columns taken refusal lawful) = tt
steps_wait (saves name taken answer lawful) = tt
steps_wait (goes_back name taken there lawful) = tt
steps_wait (goes_nowhere name taken gone) = tt
steps_wait (goes_not name taken refusal lawful) = tt
steps_wait (writes_on event more outcome after comes write) = writes_wait write
steps_wait (makes_on all outcome after comes write) = all_wait write
steps_wait (writes_page written) = tt
steps_wait (writes_no_page refusal is) = tt
steps_wait (commits answer lawful) = tt

pub runs_wait : {o : Opening} {t : TxNo} {h after : Entries} {from comes : Comes}
    → Runs o t h from after comes → WaitsOnActive o h from → WaitsOnActive o after comes
runs_wait (waits_now on course) active = active
runs_wait (ends_now reply) active = tt
runs_wait (one_step step more) active = runs_wait more (steps_wait step)

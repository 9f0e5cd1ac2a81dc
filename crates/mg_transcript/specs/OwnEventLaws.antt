-- All that a statement does is of its transaction.
use Rattle.std.specs.Prelude.{◌≡◌, ◌&&◌, ℕ, Bool, true, false, List, ◌∷◌, Some, refl, cond}
use Rattle.std.proofs.Common.{ap}
use Rattle.mg_base.specs.declared.numbers.TxNo.{TxNo}
use Rattle.mg_value.specs.declared.shape.Shape.{Shape}
use Rattle.mg_statements.specs.Plain.{Plain}
use Rattle.mg_model.specs.declared.answer.Answer.{Answer}
use Rattle.mg_model.specs.declared.answer.Answer.TheVariants as answers
use Rattle.mg_model.specs.declared.event.Event.{Event}
use Rattle.mg_model.specs.declared.event.Event.TheVariants as events
use Rattle.mg_model.specs.declared.opening.Opening.{Opening}
use Rattle.mg_model.specs.declared.refusal.Refusal.{Refusal}
use Rattle.mg_model.specs.Answers.{is_active}
use Rattle.mg_model.specs.Changes.{Cells}
use Rattle.mg_model.specs.History.{Entries, entry, transaction_of}
use Rattle.mg_model.specs.Machine.{state_of}
use Rattle.mg_records.specs.TakingBack.{after_refusal, is_given_up}
use Rattle.mg_rows.specs.declared.outcome.Outcome.{Outcome}
use Rattle.mg_transcript.specs.Courses.{Course, Comes}
use Rattle.mg_transcript.specs.Growing.{GrowsBy, as_it_was, by_one, grown_then}
use Rattle.mg_transcript.specs.Steps.{IsUndone, taken_back, given_up, Writes, done, waits, undone, WritesAll, none_left, one_more, parks, fails, Marks, refused_mark, no_event, first_event, IsFind, Follows, answers_so, writes_so, has_fault, falls_short, Steps, visits, stops, faults, finds, finds_not, inserts, inserts_not, makes, makes_not, saves, goes_back, goes_nowhere, goes_not, writes_on, makes_on, writes_page, writes_no_page, commits, Starts, looks_not, fails_test, tests_not, passes, sets_savepoint, takes_back, asks, asks_not, rolls_back, Runs, waits_now, ends_now, one_step, Takes, enough_now, waits_then, ends_then, step_more}

after_refusal_own : (o : Opening) (h : Entries) (t : TxNo) (event : Event) (refusal : Refusal)
    → transaction_of event ≡ Some t.0 → GrowsBy t h (after_refusal o h t event refusal)
after_refusal_own o h t event refusal its = at (is_given_up refusal && is_active (state_of o h t.0))
  where
    at : (b : Bool) → GrowsBy t h (cond b
        (entry (events.Rollback t) answers.Fine ∷ entry event (answers.No refusal) ∷ h)
        (entry event (answers.No refusal) ∷ h))
    at true = by_one (entry (events.Rollback t) answers.Fine) refl
        (by_one (entry event (answers.No refusal)) its as_it_was)
    at false = by_one (entry event (answers.No refusal)) its as_it_was

one : {h : Entries} (t : TxNo) (event : Event) (answer : Answer) → transaction_of event ≡ Some t.0
    → GrowsBy t h (entry event answer ∷ h)
one t event answer its = by_one (entry event answer) its as_it_was

undone_own : {o : Opening} {h after : Entries} {t : TxNo} {first answered : Refusal}
    → IsUndone o h t first after answered → GrowsBy t h after
undone_own {t = t} (taken_back lawful) = one t (events.UndoMark t) answers.Fine refl
undone_own {o = o} {h = h} {t = t} (given_up later lawful) =
    after_refusal_own o h t (events.UndoMark t) later refl

writes_own : {o : Opening} {h after : Entries} {t : TxNo} {event : Event} {more : List Event}
    {outcome : Outcome} {comes : Comes} → Writes o h t event more outcome after comes
    → GrowsBy t h after
writes_own {t = t} {event = event} (done its lawful) = one t event answers.Fine its
writes_own {t = t} {event = event} (waits on its lawful) = by_one _ its as_it_was
writes_own {t = t} {event = event} (undone first answered after its final lawful undoing) =
    grown_then (one t event (answers.No first) its) (undone_own undoing)

all_own : {o : Opening} {t : TxNo} {all : List Event} {outcome : Outcome} {h after : Entries}
    {news : List Event} {comes : Comes} → WritesAll o t all outcome h news after comes
    → GrowsBy t h after
all_own none_left = as_it_was
all_own {t = t} (one_more {event = event} its lawful more) =
    grown_then (one t event answers.Fine its) (all_own more)
all_own (parks write) = writes_own write
all_own (fails write) = writes_own write

marks_own : {o : Opening} {h after : Entries} {t : TxNo} {outcome : Outcome} {news : List Event}
    {comes : Comes} → Marks o h t outcome news after comes → GrowsBy t h after
marks_own {t = t} (refused_mark news refusal lawful) = one t (events.Mark t) (answers.No refusal) refl
marks_own {t = t} (no_event lawful) = one t (events.Mark t) answers.Fine refl
marks_own {t = t} (first_event event more after comes lawful write) =
    grown_then (one t (events.Mark t) answers.Fine refl) (writes_own write)

follows_own : {o : Opening} {h after : Entries} {t : TxNo} {s : Plain} {shape : Shape}
    {rows : List Cells} {comes : Comes} → Follows o h t s shape rows after comes → GrowsBy t h after
follows_own (answers_so given is answer) = as_it_was
follows_own (writes_so news after comes is made marks) = marks_own marks
follows_own (has_fault fault is made) = as_it_was
follows_own (falls_short refusal is) = as_it_was

find_own : {t : TxNo} {s : Plain} {shape : Shape} {event : Event} → IsFind t s shape event
    → transaction_of event ≡ Some t.0
find_own find = ap transaction_of find.is

pub steps_own : {o : Opening} {h after : Entries} {t : TxNo} {course : Course} {comes : Comes}
    → Steps o h t course after comes → GrowsBy t h after
steps_own (visits s taken is) = as_it_was
steps_own (stops s taken refusal is) = as_it_was
steps_own (faults s taken shape is seen found) = as_it_was
steps_own {t = t} (finds s taken shape rows find after comes read is lawful follows) =
    grown_then (by_one _ (find_own is) as_it_was) (follows_own follows)
steps_own (finds_not s taken shape rows find refusal read is lawful) = by_one _ (find_own is) as_it_was
steps_own (inserts table columns values taken shape news after comes seen made marks) = marks_own marks
steps_own (inserts_not table columns values taken shape fault seen made) = as_it_was
steps_own {t = t} (makes name columns taken after comes lawful all) =
    grown_then (one t (events.Mark t) answers.Fine refl) (all_own all)
steps_own {t = t} (makes_not name columns taken refusal lawful) =
    one t (events.Mark t) (answers.No refusal) refl
steps_own {t = t} (saves name taken answer lawful) = one t (events.Savepoint t name) answer refl
steps_own {t = t} (goes_back name taken there lawful) = one t (events.BackTo t name) answers.Fine refl
steps_own (goes_nowhere name taken gone) = as_it_was
steps_own {o = o} {h = h} {t = t} (goes_not name taken refusal lawful) =
    after_refusal_own o h t (events.BackTo t name) refusal refl
steps_own (writes_on event more outcome after comes write) = writes_own write
steps_own (makes_on all outcome after comes write) = all_own write
steps_own (writes_page written) = as_it_was
steps_own (writes_no_page refusal is) = as_it_was
steps_own {t = t} (commits answer lawful) = one t (events.Commit t) answer refl

pub starts_own : {o : Opening} {h after : Entries} {t : TxNo} {size : ℕ} {s : Plain} {comes : Comes}
    → Starts o h t size s after comes → GrowsBy t h after
starts_own {t = t} (looks_not s refusal is lawful) = one t (events.Look t) (answers.No refusal) refl
starts_own {t = t} (fails_test s fault is lawful found) = one t (events.Look t) answers.Fine refl
starts_own {t = t} (tests_not s refusal is lawful outside) = one t (events.Look t) answers.Fine refl
starts_own {t = t} (passes s is lawful none) = one t (events.Look t) answers.Fine refl
starts_own (sets_savepoint name) = as_it_was
starts_own (takes_back name) = as_it_was
starts_own asks = as_it_was
starts_own (asks_not refusal is) = as_it_was
starts_own {t = t} (rolls_back answer lawful) = one t (events.Rollback t) answer refl

pub runs_own : {o : Opening} {t : TxNo} {h after : Entries} {from comes : Comes}
    → Runs o t h from after comes → GrowsBy t h after
runs_own (waits_now on course) = as_it_was
runs_own (ends_now reply) = as_it_was
runs_own (one_step step more) = grown_then (steps_own step) (runs_own more)

pub takes_own : {o : Opening} {t : TxNo} {n : ℕ} {h after : Entries} {from comes : Comes}
    → Takes o t n h from after comes → GrowsBy t h after
takes_own (enough_now course) = as_it_was
takes_own (waits_then on course) = as_it_was
takes_own (ends_then reply) = as_it_was
takes_own (step_more step more) = grown_then (steps_own step) (takes_own more)

-- ---- the law

-- what a statement does at its start, and until it waits or is at its end
abbrev pub StatementsAreOwn : Type 0
StatementsAreOwn = (o : Opening) (t : TxNo) (size : ℕ) (s : Plain) (h mid after : Entries)
    (begun comes : Comes) → Starts o h t size s mid begun → Runs o t mid begun after comes
    → GrowsBy t h after

-- and by so many of its steps
abbrev pub StepsAreOwn : Type 0
StepsAreOwn = (o : Opening) (t : TxNo) (n : ℕ) (h after : Entries) (from comes : Comes)
    → Takes o t n h from after comes → GrowsBy t h after

-- The steps of a statement that is no COMMIT give no event that outlasts a crash.
use Rattle.std.specs.Prelude.{◌≡◌, ◌&&◌, ℕ, Bool, true, false, List, [], ◌∷◌, map, Result, Ok, Err, refl, cond, if◌then◌else◌}
use Rattle.std.proofs.Common.{ap, subst}
use Rattle.mg_base.specs.declared.numbers.TxNo.{TxNo}
use Rattle.mg_value.specs.declared.shape.Shape.{Shape}
use Rattle.mg_statements.specs.declared.statement.Def.{Def}
use Rattle.mg_statements.specs.Plain.{Plain, Table, Insert, Update, Delete, Totals, Select, SetTransaction, Commit, Rollback, RollbackTo, Savepoint}
use Rattle.mg_plan.specs.Statements.{bound_plain, places_in}
use Rattle.mg_plan.specs.Shapes.{shape_of}
use Rattle.mg_model.specs.declared.answer.Answer.{Answer}
use Rattle.mg_model.specs.declared.answer.Answer.TheVariants as answers
use Rattle.mg_model.specs.declared.event.Event.{Event}
use Rattle.mg_model.specs.declared.event.Event.TheVariants as events
use Rattle.mg_model.specs.declared.opening.Opening.{Opening}
use Rattle.mg_model.specs.declared.refusal.Refusal.{Refusal}
use Rattle.mg_model.specs.Answers.{is_active}
use Rattle.mg_model.specs.Catalog.{catalog_name}
use Rattle.mg_model.specs.Changes.{Cells}
use Rattle.mg_model.specs.History.{Entries, entry}
use Rattle.mg_model.specs.Legal.{is_lasting}
use Rattle.mg_model.specs.Machine.{state_of}
use Rattle.mg_records.specs.TakingBack.{after_refusal, is_given_up}
use Rattle.mg_records.specs.Writing.{rows_made}
use Rattle.mg_rows.specs.declared.fault.NewRowFault.{NewRowFault}
use Rattle.mg_rows.specs.declared.outcome.Outcome.{Outcome}
use Rattle.mg_calls.specs.Quiet.{IsQuietly, as_it_was, with_entry}
use Rattle.mg_transcript.specs.Courses.{Course, Comes}
use Rattle.mg_transcript.specs.Statements.{changes, erases, makings, made_of, written_by, events_of}
use Rattle.mg_transcript.specs.Steps.{IsUndone, taken_back, given_up, Writes, done, waits, undone, WritesAll, none_left, one_more, parks, fails, Marks, refused_mark, no_event, first_event, IsFind, Follows, answers_so, writes_so, has_fault, falls_short, Steps, visits, stops, faults, finds, finds_not, inserts, inserts_not, makes, makes_not, saves, goes_back, goes_nowhere, goes_not, writes_on, makes_on, writes_page, writes_no_page, commits}
use Rattle.mg_courses.specs.Carrying.{are_quiet, is_quiet}

-- ---- histories

then_quietly : {h mid longer : Entries} → IsQuietly h mid → IsQuietly mid longer → IsQuietly h longer
then_quietly first as_it_was = first
then_quietly first (with_entry e quiet rest) = with_entry e quiet (then_quietly first rest)

one : {h : Entries} (event : Event) (answer : Answer) → is_lasting event ≡ false
    → IsQuietly h (entry event answer ∷ h)
one event answer quiet = with_entry (entry event answer) quiet as_it_was

after_refusal_quiet : (o : Opening) (h : Entries) (t : TxNo) (event : Event) (refusal : Refusal)
    → is_lasting event ≡ false → IsQuietly h (after_refusal o h t event refusal)
after_refusal_quiet o h t event refusal quiet = at (is_given_up refusal && is_active (state_of o h t.0))
  where
    at : (b : Bool) → IsQuietly h (cond b
        (entry (events.Rollback t) answers.Fine ∷ entry event (answers.No refusal) ∷ h)
        (entry event (answers.No refusal) ∷ h))
    at true = with_entry (entry (events.Rollback t) answers.Fine) refl (one event (answers.No refusal) quiet)
    at false = one event (answers.No refusal) quiet

-- ---- the events of a statement

first_is : (event : Event) (more : List Event) → are_quiet (event ∷ more) ≡ true → is_lasting event ≡ false
first_is event more quiet = at (is_lasting event) quiet
  where
    at : (b : Bool) → (if b then false else are_quiet more) ≡ true → b ≡ false
    at true is = absurd cc
    at false is = refl

rest_are : (event : Event) (more : List Event) → are_quiet (event ∷ more) ≡ true → are_quiet more ≡ true
rest_are event more quiet = at (is_lasting event) quiet
  where
    at : (b : Bool) → (if b then false else are_quiet more) ≡ true → are_quiet more ≡ true
    at true is = absurd cc
    at false is = is

changes_quiet : (t : TxNo) (table : List ℕ) (shape : Shape) (news : List Cells)
    → are_quiet (changes t table shape news) ≡ true
changes_quiet t table shape [] = refl
changes_quiet t table shape (new ∷ news) = changes_quiet t table shape news

erases_quiet : (t : TxNo) (table : List ℕ) (shape : Shape) (rows : List Cells)
    → are_quiet (erases t table shape rows) ≡ true
erases_quiet t table shape [] = refl
erases_quiet t table shape (row ∷ rows) = erases_quiet t table shape rows

inserts_quiet : (t : TxNo) (table : List ℕ) (rows : List Cells)
    → are_quiet (map (λ row. events.Insert t table row) rows) ≡ true
inserts_quiet t table [] = refl
inserts_quiet t table (row ∷ rows) = inserts_quiet t table rows

pub makings_quiet : (t : TxNo) (name : List ℕ) (columns : List Def)
    → are_quiet (makings t (Table name columns)) ≡ true
makings_quiet t name columns = inserts_quiet t catalog_name (rows_made name (shape_of columns))

-- what is made of a result is quiet where each that can be made is
made_quiet : {A : Type 0} (f : A → List Event) → ((x : A) → are_quiet (f x) ≡ true)
    → (computed : Result A NewRowFault) (news : List Event) → made_of f computed ≡ Ok news
    → are_quiet news ≡ true
made_quiet f each (Ok x) news is =
    let same : f x ≡ news = cc is in subst (λ (all : List Event). are_quiet all ≡ true) same (each x)
made_quiet f each (Err fault) news is = absurd cc

given_quiet : (given news : List Event) → are_quiet given ≡ true
    → ◌≡◌ {A = Result (List Event) NewRowFault} (Ok given) (Ok news) → are_quiet news ≡ true
given_quiet given news quiet is =
    let same : given ≡ news = cc is in subst (λ (all : List Event). are_quiet all ≡ true) same quiet

written_quiet : (t : TxNo) (shape : Shape) (places : List ℕ) (s : Plain) (rows : List Cells)
    (news : List Event) → written_by t shape places s rows ≡ Ok news → are_quiet news ≡ true
written_quiet t shape places (Insert table columns values) rows news is =
    made_quiet (λ (row : Cells). events.Insert t table row ∷ []) (λ row. refl) _ news is
written_quiet t shape places (Update table sets filter) rows news is =
    made_quiet (changes t table shape) (λ rest. changes_quiet t table shape rest) _ news is
written_quiet t shape places (Delete table filter) rows news is =
    given_quiet (erases t table shape rows) news (erases_quiet t table shape rows) is
written_quiet t shape places (Totals table totals filter) rows news is = given_quiet [] news refl is
written_quiet t shape places (Select table values filter sorted) rows news is = given_quiet [] news refl is
written_quiet t shape places (Table name columns) rows news is = given_quiet [] news refl is
written_quiet t shape places (SetTransaction read_only wait snapshot) rows news is = given_quiet [] news refl is
written_quiet t shape places Commit rows news is = given_quiet [] news refl is
written_quiet t shape places Rollback rows news is = given_quiet [] news refl is
written_quiet t shape places (RollbackTo name) rows news is = given_quiet [] news refl is
written_quiet t shape places (Savepoint name) rows news is = given_quiet [] news refl is

events_quiet : (t : TxNo) (shape : Shape) (s : Plain) (rows : List Cells) (news : List Event)
    → events_of t shape s rows ≡ Ok news → are_quiet news ≡ true
events_quiet t shape s rows news is =
    written_quiet t shape (places_in shape.columns s) (bound_plain shape.columns s) rows news is

-- ---- steps

undone_quiet : {o : Opening} {h after : Entries} {t : TxNo} {first answered : Refusal}
    → IsUndone o h t first after answered → IsQuietly h after
undone_quiet {t = t} (taken_back lawful) = one (events.UndoMark t) answers.Fine refl
undone_quiet {o = o} {h = h} {t = t} (given_up later lawful) =
    after_refusal_quiet o h t (events.UndoMark t) later refl

writes_quiet : {o : Opening} {h after : Entries} {t : TxNo} {event : Event} {more : List Event}
    {outcome : Outcome} {comes : Comes} → is_lasting event ≡ false
    → Writes o h t event more outcome after comes → IsQuietly h after
writes_quiet {event = event} quiet (done its lawful) = one event answers.Fine quiet
writes_quiet quiet (waits on its lawful) = with_entry _ quiet as_it_was
writes_quiet {event = event} quiet (undone first answered after its final lawful undoing) =
    then_quietly (one event (answers.No first) quiet) (undone_quiet undoing)

all_quiet : {o : Opening} {t : TxNo} {all : List Event} {outcome : Outcome} {h after : Entries}
    {news : List Event} {comes : Comes} → are_quiet news ≡ true
    → WritesAll o t all outcome h news after comes
    → IsQuietly h after
all_quiet quiet none_left = as_it_was
all_quiet quiet (one_more {event = event} {more = more} its lawful rest) =
    then_quietly (one event answers.Fine (first_is event more quiet)) (all_quiet (rest_are event more quiet) rest)
all_quiet quiet (parks {event = event} {more = more} write) = writes_quiet (first_is event more quiet) write
all_quiet quiet (fails {event = event} {more = more} write) = writes_quiet (first_is event more quiet) write

marks_quiet : {o : Opening} {h after : Entries} {t : TxNo} {outcome : Outcome} {news : List Event}
    {comes : Comes} → are_quiet news ≡ true → Marks o h t outcome news after comes
    → IsQuietly h after
marks_quiet {t = t} quiet (refused_mark news refusal lawful) = one (events.Mark t) (answers.No refusal) refl
marks_quiet {t = t} quiet (no_event lawful) = one (events.Mark t) answers.Fine refl
marks_quiet {t = t} quiet (first_event event more after comes lawful write) =
    then_quietly (one (events.Mark t) answers.Fine refl) (writes_quiet (first_is event more quiet) write)

follows_quiet : {o : Opening} {h after : Entries} {t : TxNo} {s : Plain} {shape : Shape}
    {rows : List Cells} {comes : Comes} → Follows o h t s shape rows after comes → IsQuietly h after
follows_quiet (answers_so given is answer) = as_it_was
follows_quiet {t = t} {s = s} {shape = shape} {rows = rows} (writes_so news after comes is made marks) =
    marks_quiet (events_quiet t shape s rows news made) marks
follows_quiet (has_fault fault is made) = as_it_was
follows_quiet (falls_short refusal is) = as_it_was

find_quiet : {t : TxNo} {s : Plain} {shape : Shape} {event : Event} → IsFind t s shape event
    → is_lasting event ≡ false
find_quiet find = ap is_lasting find.is

pub steps_quiet : {o : Opening} {h after : Entries} {t : TxNo} {course : Course} {comes : Comes}
    → is_quiet course ≡ true → Steps o h t course after comes → IsQuietly h after
steps_quiet quiet (visits s taken is) = as_it_was
steps_quiet quiet (stops s taken refusal is) = as_it_was
steps_quiet quiet (faults s taken shape is seen found) = as_it_was
steps_quiet quiet (finds s taken shape rows find after comes read is lawful follows) =
    then_quietly (with_entry _ (find_quiet is) as_it_was) (follows_quiet follows)
steps_quiet quiet (finds_not s taken shape rows find refusal read is lawful) =
    with_entry _ (find_quiet is) as_it_was
steps_quiet {t = t} quiet (inserts table columns values taken shape news after comes seen made marks) =
    marks_quiet (events_quiet t shape (Insert table columns values) [] news made) marks
steps_quiet quiet (inserts_not table columns values taken shape fault seen made) = as_it_was
steps_quiet {t = t} quiet (makes name columns taken after comes lawful all) =
    then_quietly (one (events.Mark t) answers.Fine refl) (all_quiet (makings_quiet t name columns) all)
steps_quiet {t = t} quiet (makes_not name columns taken refusal lawful) =
    one (events.Mark t) (answers.No refusal) refl
steps_quiet {t = t} quiet (saves name taken answer lawful) = one (events.Savepoint t name) answer refl
steps_quiet {t = t} quiet (goes_back name taken there lawful) = one (events.BackTo t name) answers.Fine refl
steps_quiet quiet (goes_nowhere name taken gone) = as_it_was
steps_quiet {o = o} {h = h} {t = t} quiet (goes_not name taken refusal lawful) =
    after_refusal_quiet o h t (events.BackTo t name) refusal refl
steps_quiet quiet (writes_on event more outcome after comes write) =
    writes_quiet (first_is event more quiet) write
steps_quiet quiet (makes_on all outcome after comes write) = all_quiet quiet write
steps_quiet quiet (writes_page written) = absurd cc
steps_quiet quiet (writes_no_page refusal is) = absurd cc
steps_quiet quiet (commits answer lawful) = absurd cc

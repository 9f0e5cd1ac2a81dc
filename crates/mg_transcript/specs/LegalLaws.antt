-- Each history of a script is legal.
use Rattle.std.specs.Prelude.{◌≡◌, ◌&&◌, ℕ, Bool, true, false, List, ◌∷◌, refl, cond}
use Rattle.std.proofs.Common.{inl}
use Rattle.std.specs.Prelude.{ℤ}
use Rattle.mg_value.specs.declared.shape.Shape.{Shape}
use Rattle.mg_model.specs.Changes.{Cells}
use Rattle.mg_base.specs.declared.numbers.TxNo.{TxNo}
use Rattle.mg_base.specs.declared.transaction.TxState.{TxState}
use Rattle.mg_base.specs.declared.transaction.TxState.TheVariants.{Active, Limbo, Dead, Committed}
use Rattle.mg_statements.specs.Plain.{Plain}
use Rattle.mg_model.specs.declared.answer.Answer.TheVariants as answers
use Rattle.mg_model.specs.declared.event.Event.{Event}
use Rattle.mg_model.specs.declared.event.Event.TheVariants as events
use Rattle.mg_model.specs.declared.event.Mode.{Mode}
use Rattle.mg_model.specs.declared.opening.Opening.{Opening}
use Rattle.mg_model.specs.declared.refusal.Refusal.{Refusal}
use Rattle.mg_model.specs.Answers.{is_active, if_active}
use Rattle.mg_model.specs.History.{Entries, entry}
use Rattle.mg_model.specs.Legal.{IsLawful, IsLegal}
use Rattle.mg_model.specs.Machine.{state_of}
use Rattle.mg_records.specs.TakingBack.{after_refusal, is_given_up}
use Rattle.mg_rows.specs.declared.outcome.Outcome.{Outcome}
use Rattle.mg_rows.specs.declared.statement_fault.StatementFault.{StatementFault}
use Rattle.mg_script.specs.declared.line.LineKind.{LineKind}
use Rattle.mg_script.specs.declared.reply.Reply.{Reply}
use Rattle.mg_script.specs.declared.reply.Reply.TheVariants as replies
use Rattle.mg_transcript.specs.declared.turn.Spoken.{Spoken}
use Rattle.mg_transcript.specs.Courses.{Course, Comes}
use Rattle.mg_transcript.specs.Steps.{IsUndone, taken_back, given_up, Writes, done, waits, undone, WritesAll, none_left, one_more, parks, fails, Marks, refused_mark, no_event, first_event, Follows, answers_so, writes_so, has_fault, falls_short, Steps, visits, stops, faults, finds, finds_not, inserts, inserts_not, makes, makes_not, saves, goes_back, goes_nowhere, goes_not, writes_on, makes_on, writes_page, writes_no_page, commits, Starts, looks_not, fails_test, tests_not, passes, sets_savepoint, takes_back, asks, asks_not, rolls_back, Runs, waits_now, ends_now, one_step, Takes, enough_now, waits_then, ends_then, step_more}
use Rattle.mg_transcript.specs.Sessions.{Unfinished}
use Rattle.mg_transcript.specs.Scripts.{Obeyed, AreObeyed, no_line, one_line, AreCutShort, at_line}
use Rattle.mg_transcript.specs.Shorthand as short
use Rattle.mg_transcript.specs.Lines as line

-- ---- a statement

still_active : (s : TxState) → is_active s ≡ true → answers.Fine ≡ if_active s answers.Fine
still_active Active is = refl
still_active Limbo is = absurd cc
still_active Dead is = absurd cc
still_active Committed is = absurd cc

both : (a b : Bool) → (a && b) ≡ true → b ≡ true
both true true is = refl
both true false is = absurd cc
both false b is = absurd cc

after_refusal_legal : (o : Opening) (h : Entries) (t : TxNo) (event : Event) (refusal : Refusal)
    → IsLawful o h (entry event (answers.No refusal)) → IsLegal o h
    → IsLegal o (after_refusal o h t event refusal)
after_refusal_legal o h t event refusal lawful legal =
    at (is_given_up refusal && is_active (state_of o h t.0)) refl
  where
    at : (b : Bool) → (is_given_up refusal && is_active (state_of o h t.0)) ≡ b
        → IsLegal o (cond b
        (entry (events.Rollback t) answers.Fine ∷ entry event (answers.No refusal) ∷ h)
        (entry event (answers.No refusal) ∷ h))
    at true is = (
      inl (still_active (state_of o h t.0)
          (both (is_given_up refusal) (is_active (state_of o h t.0)) is)),
      (lawful, legal),
    )
    at false is = (lawful, legal)

undone_legal : {o : Opening} {h after : Entries} {t : TxNo} {first answered : Refusal}
    → IsUndone o h t first after answered → IsLegal o h → IsLegal o after
undone_legal (taken_back lawful) legal = (lawful, legal)
undone_legal {o = o} {h = h} {t = t} (given_up later lawful) legal =
    after_refusal_legal o h t (events.UndoMark t) later lawful legal

writes_legal : {o : Opening} {h after : Entries} {t : TxNo} {event : Event} {more : List Event}
    {outcome : Outcome} {comes : Comes}
    → Writes o h t event more outcome after comes → IsLegal o h → IsLegal o after
writes_legal (done its lawful) legal = (lawful, legal)
writes_legal (waits on its lawful) legal = (lawful, legal)
writes_legal (undone first answered after its final lawful undoing) legal = undone_legal undoing (lawful, legal)

all_legal : {o : Opening} {t : TxNo} {all : List Event} {outcome : Outcome} {h after : Entries}
    {news : List Event} {comes : Comes} → WritesAll o t all outcome h news after comes → IsLegal o h
    → IsLegal o after
all_legal none_left legal = legal
all_legal (one_more its lawful more) legal = all_legal more (lawful, legal)
all_legal (parks write) legal = writes_legal write legal
all_legal (fails write) legal = writes_legal write legal

marks_legal : {o : Opening} {h after : Entries} {t : TxNo} {outcome : Outcome} {news : List Event}
    {comes : Comes} → Marks o h t outcome news after comes → IsLegal o h → IsLegal o after
marks_legal (refused_mark news refusal lawful) legal = (lawful, legal)
marks_legal (no_event lawful) legal = (lawful, legal)
marks_legal (first_event event more after comes lawful write) legal = writes_legal write (lawful, legal)

follows_legal : {o : Opening} {h after : Entries} {t : TxNo} {s : Plain} {shape : Shape}
    {rows : List Cells} {comes : Comes}
    → Follows o h t s shape rows after comes → IsLegal o h → IsLegal o after
follows_legal (answers_so given is answer) legal = legal
follows_legal (writes_so news after comes is made marks) legal = marks_legal marks legal
follows_legal (has_fault fault is made) legal = legal
follows_legal (falls_short refusal is) legal = legal

steps_legal : {o : Opening} {h after : Entries} {t : TxNo} {course : Course} {comes : Comes}
    → Steps o h t course after comes → IsLegal o h → IsLegal o after
steps_legal (visits s taken is) legal = legal
steps_legal (stops s taken refusal is) legal = legal
steps_legal (faults s taken shape is seen found) legal = legal
steps_legal (finds s taken shape rows find after comes read is lawful follows) legal =
    follows_legal follows (lawful, legal)
steps_legal (finds_not s taken shape rows find refusal read is lawful) legal = (lawful, legal)
steps_legal (inserts table columns values taken shape news after comes seen made marks) legal =
    marks_legal marks legal
steps_legal (inserts_not table columns values taken shape fault seen made) legal = legal
steps_legal (makes name columns taken after comes lawful all) legal = all_legal all (lawful, legal)
steps_legal (makes_not name columns taken refusal lawful) legal = (lawful, legal)
steps_legal (saves name taken answer lawful) legal = (lawful, legal)
steps_legal (goes_back name taken there lawful) legal = (lawful, legal)
steps_legal (goes_nowhere name taken gone) legal = legal
steps_legal {o = o} {h = h} {t = t} (goes_not name taken refusal lawful) legal =
    after_refusal_legal o h t (events.BackTo t name) refusal lawful legal
steps_legal (writes_on event more outcome after comes write) legal = writes_legal write legal
steps_legal (makes_on all outcome after comes write) legal = all_legal write legal
steps_legal (writes_page written) legal = legal
steps_legal (writes_no_page refusal is) legal = legal
steps_legal (commits answer lawful) legal = (lawful, legal)

pub starts_legal : {o : Opening} {h after : Entries} {t : TxNo} {size : ℕ} {s : Plain} {comes : Comes}
    → Starts o h t size s after comes → IsLegal o h → IsLegal o after
starts_legal (looks_not s refusal is lawful) legal = (lawful, legal)
starts_legal (fails_test s fault is lawful found) legal = (lawful, legal)
starts_legal (tests_not s refusal is lawful outside) legal = (lawful, legal)
starts_legal (passes s is lawful none) legal = (lawful, legal)
starts_legal (sets_savepoint name) legal = legal
starts_legal (takes_back name) legal = legal
starts_legal asks legal = legal
starts_legal (asks_not refusal is) legal = legal
starts_legal (rolls_back answer lawful) legal = (lawful, legal)

pub runs_legal : {o : Opening} {t : TxNo} {h after : Entries} {from comes : Comes}
    → Runs o t h from after comes → IsLegal o h → IsLegal o after
runs_legal (waits_now on course) legal = legal
runs_legal (ends_now reply) legal = legal
runs_legal (one_step step more) legal = runs_legal more (steps_legal step legal)

pub takes_legal : {o : Opening} {t : TxNo} {n : ℕ} {h after : Entries} {from comes : Comes}
    → Takes o t n h from after comes → IsLegal o h → IsLegal o after
takes_legal (enough_now course) legal = legal
takes_legal (waits_then on course) legal = legal
takes_legal (ends_then reply) legal = legal
takes_legal (step_more step more) legal = takes_legal more (steps_legal step legal)

-- ---- `@put` and `@get`

gives_up_legal : {o : Opening} {h after : Entries} {t : TxNo} {fault : StatementFault} {reply : Reply}
    → short.GivesUp o h t fault after reply → IsLegal o h → IsLegal o after
gives_up_legal (short.at_once is) legal = legal
gives_up_legal (short.rolled_back is lawful) legal = (lawful, legal)
gives_up_legal (short.not_even later is lawful) legal = (lawful, legal)

settles_legal : {o : Opening} {h after : Entries} {t : TxNo} {given reply : Reply}
    → short.Settles o h t given after reply → IsLegal o h → IsLegal o after
settles_legal (short.committed lawful) legal = (lawful, legal)
settles_legal (short.pages_refused refusal after answered is up) legal = gives_up_legal up legal
settles_legal (short.commit_refused refusal after answered lawful up) legal =
    gives_up_legal up (lawful, legal)

puts_legal : {o : Opening} {key value : ℤ} {h after : Entries} {t : TxNo} {reply : Reply}
    → short.Puts o key value h t after reply → IsLegal o h → IsLegal o after
puts_legal (short.sees_none after reply is up) legal = gives_up_legal up legal
puts_legal (short.finds_not refusal after reply is up) legal = gives_up_legal up legal
puts_legal (short.puts_row event after reply is put lawful settles) legal =
    settles_legal settles (lawful, legal)
puts_legal (short.puts_not event refusal after reply is put lawful up) legal =
    gives_up_legal up (lawful, legal)

got_legal : (o : Opening) (h : Entries) (t : TxNo) (given : Reply) (after : Entries) (reply : Reply)
    → short.IsGot o h t given after reply → IsLegal o h → IsLegal o after
got_legal o h t (replies.No fault) after reply up legal = gives_up_legal up legal
got_legal o h t (replies.Ok outcome) after reply settles legal = settles_legal settles legal
got_legal o h t (replies.Tx u) after reply settles legal = settles_legal settles legal
got_legal o h t replies.Held after reply settles legal = settles_legal settles legal
got_legal o h t replies.Bad after reply settles legal = settles_legal settles legal

gets_legal : {o : Opening} {key : ℤ} {size : ℕ} {h after : Entries} {t : TxNo} {reply : Reply}
    → short.Gets o key size h t after reply → IsLegal o h → IsLegal o after
gets_legal (short.fails_test fault after reply is up) legal = gives_up_legal up legal
gets_legal (short.tests_not refusal after reply is up) legal = gives_up_legal up legal
gets_legal {o = o} {t = t} (short.reads_it given mid after reply is runs got) legal =
    got_legal o mid t given after reply got (runs_legal runs legal)

own_legal : {o : Opening} {h after : Entries} {mode : Mode} {reply : Reply}
    {rest : Entries → TxNo → Entries → Reply → Type 0}
    → ((h : Entries) (t : TxNo) (after : Entries) (reply : Reply)
    → rest h t after reply → IsLegal o h → IsLegal o after)
    → short.InTransactionOfItsOwn o h mode rest after reply → IsLegal o h → IsLegal o after
own_legal each (short.has_one t is) legal = legal
own_legal each (short.begins_none refusal none lawful) legal = (lawful, legal)
own_legal each (short.begins_one t after reply none lawful does) legal =
    each _ t after reply does (lawful, legal)

-- ---- lines

pub does_legal : {o : Opening} {h after : Entries} {size : ℕ} {pending then_ : List Unfinished}
    {kind : LineKind} {reply : Reply}
    → line.Does o h size pending kind reply after then_ → IsLegal o h → IsLegal o after
does_legal (line.wants_memory kind) legal = legal
does_legal line.silent legal = legal
does_legal line.bad legal = legal
does_legal (line.declines session text fault why) legal = legal
does_legal (line.begins_one session text read_only wait snapshot answer free parses none lawful) legal =
    (lawful, legal)
does_legal (line.runs session text t s mid after begun comes its starts runs) legal =
    runs_legal runs (starts_legal starts legal)
does_legal (line.declines_held session text fault why) legal = legal
does_legal (line.holds session text t s after comes its starts) legal = starts_legal starts legal
does_legal (line.steps_none session most none) legal = legal
does_legal (line.goes_none session none) legal = legal
does_legal (line.steps_on session most u others after comes holds takes) legal = takes_legal takes legal
does_legal (line.goes_on session u others after comes holds runs) legal = runs_legal runs legal
does_legal (line.puts key value after reply does) legal =
    own_legal (λ h t after reply puts. puts_legal puts) does legal
does_legal (line.gets key after reply does) legal =
    own_legal (λ h t after reply gets. gets_legal gets) does legal
does_legal (line.prepares_busy session is) legal = legal
does_legal (line.prepares_none session free none) legal = legal
does_legal (line.prepares session t free its lawful) legal = (lawful, legal)
does_legal (line.prepares_not session t refusal free its lawful) legal = (lawful, legal)
does_legal (line.prepares_no_page session t refusal free its is) legal = legal
does_legal (line.tends kind is) legal = legal
does_legal (line.tends_not kind refusal is outside) legal = legal

pub acts_legal : {o : Opening} {h : Entries} {size : ℕ} {pending : List Unfinished}
    {kind : LineKind} {reply : Reply} {released : List Spoken} {after : Entries} {then_ : List Unfinished}
    → line.Acts o h size pending kind reply released after then_ → IsLegal o h → IsLegal o after
acts_legal (line.itself reply after then_ does) legal = does_legal does legal
acts_legal (line.released reply before mid after now u others comes acts flows first runs) legal =
    runs_legal runs (acts_legal acts legal)

-- the lines that were obeyed, and those of a run that was cut short, give a legal history
abbrev pub HistoriesAreLegal : Type 0
HistoriesAreLegal = (o : Opening) (size : ℕ) (turns : List Obeyed) (h : Entries)
    (pending : List Unfinished) → AreObeyed o size turns h pending → IsLegal o h

pub obeyed_legal : {o : Opening} {size : ℕ} {turns : List Obeyed} {h : Entries}
    {pending : List Unfinished} → AreObeyed o size turns h pending → IsLegal o h
obeyed_legal no_line = tt
obeyed_legal (one_line turns h after pending then_ line reply released lines acts whole) =
    acts_legal acts (obeyed_legal lines)

abbrev pub CutHistoriesAreLegal : Type 0
CutHistoriesAreLegal = (o : Opening) (size : ℕ) (turns : List Obeyed) (h : Entries)
    (pending : List Unfinished) → AreCutShort o size turns h pending → IsLegal o h

pub cut_legal : {o : Opening} {size : ℕ} {turns : List Obeyed} {h : Entries}
    {pending : List Unfinished} → AreCutShort o size turns h pending → IsLegal o h
cut_legal (at_line turns h after pending then_ line reply released lines acts) =
    acts_legal acts (obeyed_legal lines)

-- The reading of a get: its steps, and what it has come to.
use Rattle.std.proofs.Common.{◌≡◌, ◌⊎◌, inl, inr, ℕ, ℤ, not, Bool, true, false, Option, Some, None, refl, sym, ap, ◌∙◌, subst}
use Rattle.std.specs.Prelude.{List}
use Rattle.mg_base.specs.declared.numbers.TxNo.{TxNo}
use Rattle.mg_base.specs.declared.transaction.TxState.TheVariants.{Active}
use Rattle.mg_value.specs.declared.shape.Shape.{Shape}
use Rattle.mg_statements.specs.Plain.{Plain}
use Rattle.mg_model.specs.Changes.{Cells}
use Rattle.mg_model.specs.declared.opening.Opening.{Opening}
use Rattle.mg_model.specs.declared.refusal.Refusal.{Refusal}
use Rattle.mg_model.specs.Answers.{is_active}
use Rattle.mg_model.specs.History.{Entries}
use Rattle.mg_model.specs.Machine.{mode_of, state_of}
use Rattle.mg_records.specs.Reading.{shape_seen}
use Rattle.mg_records.specs.Crashing.{HoldsOn}
use Rattle.mg_records.specs.Meaning.{Means}
use Rattle.mg_records.specs.Sessions.{SessionsStay}
use Rattle.mg_rows.specs.declared.statement_fault.StatementFault.{StatementFault}
use Rattle.mg_script.specs.declared.reply.Reply.{Reply}
use Rattle.mg_script.specs.declared.reply.Reply.TheVariants as replies
use Rattle.mg_calls.specs.Frames.{Frames}
use Rattle.mg_transcript.specs.Courses.{Course, Begun, Writing, Making, Committing, Comes, Later, Parks, Ends}
use Rattle.mg_transcript.specs.OwnEventLaws.{runs_own}
use Rattle.mg_transcript.specs.Shorthand.{Gets, GivesUp, IsGot, Settles, fails_test, reads_it, tests_not, value_of_key}
use Rattle.mg_transcript.specs.Statements.{fault_of, fault_seen, selects, table_of}
use Rattle.mg_transcript.specs.Steps.{Steps, Follows, answers_so, writes_so, has_fault, falls_short, visits, stops, faults, finds, finds_not, inserts, inserts_not, makes, makes_not, saves, goes_back, goes_nowhere, goes_not, writes_on, makes_on, writes_page, writes_no_page, commits, Runs, waits_now, ends_now, one_step}
use Rattle.mg_exec_course_laws.specs.Courses.{IsOutsideFault}
use Rattle.mg_courses.specs.declared.statements.Stepped.{Stepped}
use Rattle.mg_courses.specs.declared.statements.Stepped.TheVariants.{More, Waits, Ended}
use Rattle.mg_courses.specs.declared.work.Work.{Work}
use Rattle.mg_courses.specs.Running.{RunMeans, fault_if_looks, over_in, refusal_answered, refusal_of, refusal_told, rests}
use Rattle.mg_courses.specs.Working.{IsWorkTold, WorkDone}
use Rattle.mg_shorthand.specs.Going.{GoesAt, Spares, Went, over_if}
use Rattle.mg_shorthand.specs.Replies.{at_end, fault_in}
use Rattle.mg_shorthand.proofs.GoingLemmas.{spares_then, went_on}

-- ---- the steps of a statement that only answers

abbrev pub Selects : Course → Type 0
Selects (Begun s taken) = selects s ≡ true
Selects (Writing events outcome) = ⊥
Selects (Making events outcome) = ⊥
Selects (Committing written) = ⊥

abbrev pub StillSelects : Comes → Type 0
StillSelects (Later course) = Selects course
StillSelects (Parks on course) = ⊥
StillSelects (Ends reply) = Unit {0}

follows_selecting : {o : Opening} {h after : Entries} {t : TxNo} {s : Plain} {shape : Shape}
    {rows : List Cells} {comes : Comes} → selects s ≡ true → Follows o h t s shape rows after comes
    → (state_of o after t.0 ≡ state_of o h t.0) × StillSelects comes
follows_selecting sel (answers_so given is answer) = (refl, tt)
follows_selecting sel (writes_so news after comes is made marks) = absurd (cc (sel, is))
follows_selecting sel (has_fault fault is made) = absurd (cc (sel, is))
follows_selecting sel (falls_short refusal is) = (refl, tt)

steps_selecting : {o : Opening} {h after : Entries} {t : TxNo} {course : Course} {comes : Comes}
    → Selects course → Steps o h t course after comes
    → (state_of o after t.0 ≡ state_of o h t.0) × StillSelects comes
steps_selecting sel (visits s taken is) = (refl, sel)
steps_selecting sel (stops s taken refusal is) = (refl, tt)
steps_selecting sel (faults s taken shape is seen found) = (refl, tt)
steps_selecting sel (finds s taken shape rows find after comes read is lawful follows) =
    follows_selecting sel follows
steps_selecting sel (finds_not s taken shape rows find refusal read is lawful) = (refl, tt)
steps_selecting sel (inserts table columns values taken shape news after comes seen made marks) = absurd cc
steps_selecting sel (inserts_not table columns values taken shape fault seen made) = absurd cc
steps_selecting sel (makes name columns taken after comes lawful all) = absurd cc
steps_selecting sel (makes_not name columns taken refusal lawful) = absurd cc
steps_selecting sel (saves name taken answer lawful) = absurd cc
steps_selecting sel (goes_back name taken there lawful) = absurd cc
steps_selecting sel (goes_nowhere name taken gone) = absurd cc
steps_selecting sel (goes_not name taken refusal lawful) = absurd cc
steps_selecting sel (writes_on event more outcome after comes write) = absurd sel
steps_selecting sel (makes_on all outcome after comes write) = absurd sel
steps_selecting sel (writes_page written) = absurd sel
steps_selecting sel (writes_no_page refusal is) = absurd sel
steps_selecting sel (commits answer lawful) = absurd sel

pub runs_selecting : {o : Opening} {t : TxNo} {h after : Entries} {from comes : Comes} → StillSelects from
    → Runs o t h from after comes → (state_of o after t.0 ≡ state_of o h t.0) × StillSelects comes
runs_selecting sel (waits_now on course) = absurd sel
runs_selecting sel (ends_now reply) = (refl, tt)
runs_selecting sel (one_step step more) =
    let first = steps_selecting sel step in
    let rest = runs_selecting first.1 more in
    (rest.0 ∙ first.0, rest.1)

-- ---- what it has answered

pub refusal_at_end : (stepped : Stepped) → refusal_told stepped ≡ refusal_answered (at_end stepped).reply
refusal_at_end More = refl
refusal_at_end (Waits on) = refl
refusal_at_end (Ended ending) = refl

pub over_at_end : (t : ℕ) (stepped : Stepped) → over_in t stepped ≡ over_if t (at_end stepped).over
over_at_end t More = refl
over_at_end t (Waits on) = refl
over_at_end t (Ended ending) = refl

pub spares_run : {R P : Type 0} (m : Means R P) (before old new : R) (t : TxNo) (stepped : Stepped)
    → Spares m before old t None false → Frames m old new t.0 (refusal_told stepped)
    → SessionsStay m old new None (over_in t.0 stepped)
    → Spares m before new t (refusal_answered (at_end stepped).reply) (at_end stepped).over
spares_run m before old new t stepped spares frames sessions =
    spares_then m before old new t (refusal_answered (at_end stepped).reply) (at_end stepped).over spares
    (record {
      frames = subst (λ (r : Option Refusal). Frames m old new t.0 r) (refusal_at_end stepped) frames;
      sessions = subst (λ (ends : Option ℕ). SessionsStay m old new None ends) (over_at_end t.0 stepped) sessions;
    })

not_over : (over : Bool) → not over ≡ true → over ≡ false
not_over true is = absurd cc
not_over false is = refl

-- the reading has run, and its transaction then ends
pub read_so : {R P Run : Type 0} (m : Means R P) (runs : RunMeans R Run) (lasts : HoldsOn m) (old mid new : R)
    (o : Opening) (h : Entries) (t : TxNo) (work : Work Run) (stepped : Stepped) (key : ℤ) (size : ℕ)
    (over : Bool) (reply : Reply) → rests stepped ≡ true → state_of o h t.0 ≡ Active
    → fault_seen o h t size (value_of_key key) ≡ None
    → WorkDone m runs old mid o h t work stepped (Runs o t h (Later (Begun (value_of_key key) 0)))
    → ((after : Entries) → (at_end stepped).over ≡ false
    → GoesAt m mid new o after t over (λ last. IsGot o after t (at_end stepped).reply last reply))
    → Went m old new o h t over (λ last. Gets o key size h t last reply)
read_so m runs lasts old mid new o h t work More key size over reply rest active none done ends = absurd cc
read_so m runs lasts old mid new o h t work (Waits on) key size over reply rest active none done ends =
    parks done.comes done.does done.told
  where
    parks : (comes : Comes) → Runs o t h (Later (Begun (value_of_key key) 0)) done.after comes
        → IsWorkTold runs mid o done.after t work (Waits on) comes
        → Went m old new o h t over (λ last. Gets o key size h t last reply)
    parks (Later course) goes told = absurd told
    parks (Parks by course) goes told = absurd (runs_selecting refl goes).1
    parks (Ends given) goes told = absurd told
read_so m runs lasts old mid new o h t work (Ended ending) key size over reply rest active none done ends =
    at_its_end done.comes done.does done.told
  where
    whole : (given : Reply) → Runs o t h (Later (Begun (value_of_key key) 0)) done.after (Ends given)
        → ending.reply ≡ given → Went m old new o h t over (λ last. Gets o key size h t last reply)
    whole given goes same =
        let still = (runs_selecting refl goes).0 ∙ active in
        let lives : is_active (state_of o done.after t.0) ≡ true = ap is_active still in
        went_on m lasts old mid new o h done.after t over (λ last. IsGot o done.after t ending.reply last reply)
        (λ last. Gets o key size h t last reply) (runs_own goes) done.carries
        (λ last got. reads_it given done.after last reply none goes
        (subst (λ (r : Reply). IsGot o done.after t r last reply) same got))
        (ends done.after (not_over ending.over (sym done.active ∙ lives)) done.stands still)

    at_its_end : (comes : Comes) → Runs o t h (Later (Begun (value_of_key key) 0)) done.after comes
        → IsWorkTold runs mid o done.after t work (Ended ending) comes
        → Went m old new o h t over (λ last. Gets o key size h t last reply)
    at_its_end (Later course) goes told = absurd told
    at_its_end (Parks by course) goes told = absurd told
    at_its_end (Ends given) goes told = whole given goes told

-- ---- the end

pub got_fault : (o : Opening) (h : Entries) (t : TxNo) (given : Reply) (fault : StatementFault) (after : Entries)
    (reply : Reply) → fault_in given ≡ Some fault → GivesUp o h t fault after reply
    → IsGot o h t given after reply
got_fault o h t (replies.No own) fault after reply is up =
    let same : fault ≡ own = sym (cc is) in subst (λ (f : StatementFault). GivesUp o h t f after reply) same up
got_fault o h t (replies.Ok outcome) fault after reply is up = absurd cc
got_fault o h t (replies.Tx n) fault after reply is up = absurd cc
got_fault o h t replies.Held fault after reply is up = absurd cc
got_fault o h t replies.Bad fault after reply is up = absurd cc

pub got_fine : (o : Opening) (h : Entries) (t : TxNo) (given : Reply) (after : Entries) (reply : Reply)
    → fault_in given ≡ None → Settles o h t given after reply → IsGot o h t given after reply
got_fine o h t (replies.No own) after reply is settles = absurd cc
got_fine o h t (replies.Ok outcome) after reply is settles = settles
got_fine o h t (replies.Tx n) after reply is settles = settles
got_fine o h t replies.Held after reply is settles = settles
got_fine o h t replies.Bad after reply is settles = settles

pub refusal_fault : (given : Reply) (fault : StatementFault) → fault_in given ≡ Some fault
    → refusal_answered given ≡ refusal_of fault
refusal_fault (replies.No own) fault is = let same : own ≡ fault = cc is in ap refusal_of same
refusal_fault (replies.Ok outcome) fault is = absurd cc
refusal_fault (replies.Tx n) fault is = absurd cc
refusal_fault replies.Held fault is = absurd cc
refusal_fault replies.Bad fault is = absurd cc

pub refusal_none : (given : Reply) → fault_in given ≡ None → refusal_answered given ≡ None
refusal_none (replies.No own) is = absurd cc
refusal_none given is = refl

-- the test told a fault, or was refused from outside
pub test_failed : (o : Opening) (h : Entries) (t : TxNo) (key : ℤ) (size : ℕ) (fault : StatementFault)
    (after : Entries) (reply : Reply)
    → (fault_seen o h t size (value_of_key key) ≡ Some fault) ⊎ IsOutsideFault fault
    → GivesUp o h t fault after reply → Gets o key size h t after reply
test_failed o h t key size fault after reply (inl is) up = fails_test fault after reply is up
test_failed o h t key size fault after reply (inr out) up = tests_not out.refusal after reply out.outside
    (subst (λ (f : StatementFault). GivesUp o h t f after reply) out.is up)

-- a transaction that only reads has the fault that its tests tell
pub seen_or_outside : (o : Opening) (h : Entries) (t : TxNo) (key : ℤ) (size : ℕ) (fault : StatementFault)
    → (mode_of h t.0).read_only ≡ true
    → (fault_if_looks o h t true size (value_of_key key) ≡ Some fault) ⊎ IsOutsideFault fault
    → (fault_seen o h t size (value_of_key key) ≡ Some fault) ⊎ IsOutsideFault fault
seen_or_outside o h t key size fault mode (inl is) =
    inl (ap (λ (b : Bool). fault_of b (shape_seen o h t.0 (table_of (value_of_key key))) size (value_of_key key)) mode ∙ is)
seen_or_outside o h t key size fault mode (inr out) = inr out

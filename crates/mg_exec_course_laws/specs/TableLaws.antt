-- CREATE TABLE.
use Rattle.std.proofs.Common.{◌≡◌, inl, inr, Bool, false, true, not, List, [], ◌∷◌, ◌++◌, None, Some, refl, sym, ap, ◌∙◌, subst}
use Rattle.std.specs.Prelude.{map}
use Rattle.std.proofs.lemmas.List.{append_assoc}
use Rattle.mg_base.specs.declared.numbers.TxNo.{TxNo}
use Rattle.mg_value.specs.declared.shape.Shape.{Shape}
use Rattle.mg_statements.specs.Plain.{Plain, Table as Creation}
use Rattle.mg_model.specs.declared.answer.Answer.TheVariants.{Fine, No}
use Rattle.mg_model.specs.declared.event.Event.{Event}
use Rattle.mg_model.specs.declared.event.Event.TheVariants as events
use Rattle.mg_model.specs.declared.opening.Opening.{Opening}
use Rattle.mg_model.specs.declared.refusal.Refusal.{Refusal}
use Rattle.mg_model.specs.declared.refusal.Refusal.TheVariants.{Waits}
use Rattle.mg_model.specs.Answers.{is_active}
use Rattle.mg_model.specs.Catalog.{catalog_name}
use Rattle.mg_model.specs.Changes.{Cells}
use Rattle.mg_model.specs.History.{Entries, Entry, entry}
use Rattle.mg_model.specs.Legal.{IsLawful}
use Rattle.mg_records.specs.Meaning.{Means}
use Rattle.mg_records.specs.Writing.{rows_made}
use Rattle.mg_rows.specs.declared.outcome.Outcome.TheVariants as outcomes
use Rattle.mg_calls.specs.declared.writing.Written.{Written}
use Rattle.mg_calls.specs.declared.writing.Written.TheVariants as written_
use Rattle.mg_calls.specs.Tables.{AreInserted, AreLawful, MakesOne, MarksAndMakes, none_left as all_came, one_came, one_refused}
use Rattle.mg_calls.specs.Undoing.{is_waiting}
use Rattle.mg_exec.specs.Phases.{StandsAt}
use Rattle.mg_exec.specs.declared.phase.NewTable.{NewTable}
use Rattle.mg_exec.specs.declared.phase.Phase.TheVariants as phases
use Rattle.mg_exec.specs.declared.phase.Turn.{Turn}
use Rattle.mg_exec.specs.Creating.{turned_table}
use Rattle.mg_exec.specs.Running.{is_rolled_back_at}
use Rattle.mg_script.specs.declared.reply.Reply.TheVariants as replies
use Rattle.mg_transcript.specs.Courses.{Begun, Comes, Ends, Making, Parks}
use Rattle.mg_transcript.specs.Statements.{makings}
use Rattle.mg_transcript.specs.Steps.{IsUndone, Steps, WritesAll, fails, is_final, makes, makes_not, makes_on, none_left, one_more, parks, refused, undone, waits}
use Rattle.mg_exec_course_laws.specs.ActiveLaws.{inserted_stay}
use Rattle.mg_exec_course_laws.specs.Courses.{CreatesTell, IsCourse, IsPlannedHere, IsTurned, RetriesTell, StaysActive, Tells}
use Rattle.mg_exec_course_laws.specs.WriteLaws.{UndoneHere, final_of, given_here, undone_here}

-- the event of a row of the catalog
abbrev insertion : TxNo → Cells → Event
insertion t row = events.Insert t catalog_name row

-- the first of lawful entries, and those that came behind it
first_lawful : (o : Opening) (h : Entries) (e : Entry) (more : Entries) → AreLawful o h (more ++ e ∷ []) → IsLawful o h e
first_lawful o h e [] are = are.0
first_lawful o h e (x ∷ more) are = first_lawful o h e more are.1

rest_lawful : (o : Opening) (h : Entries) (e : Entry) (more : Entries) → AreLawful o h (more ++ e ∷ [])
    → AreLawful o (e ∷ h) more
rest_lawful o h e [] are = tt
rest_lawful o h e (x ∷ more) are =
    (subst (λ (k : Entries). IsLawful o k x) (append_assoc more (e ∷ []) h) are.0, rest_lawful o h e more are.1)

-- rows come one after another
module _ (o : Opening) (t : TxNo) (all : List Event) where
  all_tell : (rows : List Cells) (more h : Entries) → AreInserted t rows None more → AreLawful o h more
      → WritesAll o t all outcomes.Fine h (map (insertion t) rows) (more ++ h) (Ends (replies.Ok outcomes.Fine))
  all_tell rows more h all_came lawful = none_left
  all_tell rows more h (one_came {rows = rest} {more = behind} row came) lawful =
      subst (λ (k : Entries). WritesAll o t all outcomes.Fine h (insertion t row ∷ map (insertion t) rest) k
      (Ends (replies.Ok outcomes.Fine))) (sym (append_assoc behind (entry (insertion t row) Fine ∷ []) h))
      (one_more refl (first_lawful o h (entry (insertion t row) Fine) behind lawful)
      (all_tell rest behind (entry (insertion t row) Fine ∷ h) came
      (rest_lawful o h (entry (insertion t row) Fine) behind lawful)))

  waits_tell : (rows : List Cells) (more h : Entries) (refusal : Refusal) (on : TxNo)
      → AreInserted t rows (Some refusal) more → refusal ≡ Waits on → AreLawful o h more
      → WritesAll o t all outcomes.Fine h (map (insertion t) rows) (more ++ h) (Parks on (Making all outcomes.Fine))
  waits_tell rows more h refusal on (one_came {rows = rest} {more = behind} row came) is lawful =
      subst (λ (k : Entries). WritesAll o t all outcomes.Fine h (insertion t row ∷ map (insertion t) rest) k
      (Parks on (Making all outcomes.Fine))) (sym (append_assoc behind (entry (insertion t row) Fine ∷ []) h))
      (one_more refl (first_lawful o h (entry (insertion t row) Fine) behind lawful)
      (waits_tell rest behind (entry (insertion t row) Fine ∷ h) refusal on came is
      (rest_lawful o h (entry (insertion t row) Fine) behind lawful)))
  waits_tell rows more h refusal on (one_refused row rest last) is lawful =
      subst (λ (r : Refusal). WritesAll o t all outcomes.Fine h (insertion t row ∷ map (insertion t) rest)
      (entry (insertion t row) (No r) ∷ h) (Parks on (Making all outcomes.Fine))) (sym is)
      (parks (waits on refl (subst (λ (r : Refusal). IsLawful o h (entry (insertion t row) (No r))) is lawful.0)))

  -- one was refused, and then the statement was undone
  nothing_tells : (rows : List Cells) (more h after : Entries) (first answered : Refusal)
      → AreInserted t rows (Some first) more → is_final first ≡ true → AreLawful o h more
      → IsUndone o (more ++ h) t first after answered
      → WritesAll o t all outcomes.Fine h (map (insertion t) rows) after (refused answered)
  nothing_tells rows more h after first answered (one_came {rows = rest} {more = behind} row came) final lawful undoing =
      one_more refl (first_lawful o h (entry (insertion t row) Fine) behind lawful)
      (nothing_tells rest behind (entry (insertion t row) Fine ∷ h) after first answered came final
      (rest_lawful o h (entry (insertion t row) Fine) behind lawful)
      (subst (λ (k : Entries). IsUndone o k t first after answered)
      (append_assoc behind (entry (insertion t row) Fine ∷ []) h) undoing))
  nothing_tells rows more h after first answered (one_refused row rest last) final lawful undoing =
      fails (undone first answered after refl final lawful.0 undoing)

-- The rows of a table were to come, and it is told what that came to.
record TableTold {R P : Type 0} (m : Means R P) (new : R) (o : Opening) (h : Entries) (t : TxNo) (s : Plain)
    (rows : List Cells) (turn : Turn P) : Type 0 where
  after : Entries
  comes : Comes
  writes : WritesAll o t (makings t s) outcomes.Fine h (map (insertion t) rows) after comes
  stands : m.stands new o after
  stays : StandsAt m new o after t.0 turn.phase
  active : StaysActive o h t after (is_rolled_back_at turn.phase)
  told : IsTurned t s turn comes

module _ {R P : Type 0} (m : Means R P) (new : R) (o : Opening) (h : Entries) (t : TxNo) (s : Plain) (table : NewTable)
    (planned : IsPlannedHere s table) (rows : List Cells) where
  nothing_here : (first answered : Refusal) (more : Entries) → AreInserted t rows (Some first) more
      → is_waiting first ≡ false → AreLawful o h more → (over : Bool)
      → (it : UndoneHere m new o (more ++ h) t first answered over) → (turn : Turn P)
      → IsTurned t s turn (refused answered) → StandsAt m new o it.after t.0 turn.phase
      → over ≡ is_rolled_back_at turn.phase → TableTold m new o h t s rows turn
  nothing_here first answered more came final lawful over it turn told stays same = record {
    after = it.after;
    comes = refused answered;
    writes = nothing_tells o t (makings t s) rows more h it.after first answered came (final_of first final) lawful
        it.undone_so;
    stands = it.stands;
    stays = stays;
    active = λ was. it.active (inserted_stay o h t.0 came ∙ was) ∙ ap not same;
    told = told;
  }

  retry_course : IsCourse {P = P} t s (phases.Retrying table) (Making (makings t s) outcomes.Fine)
  retry_course = (planned, refl)

  makes_tell : (result : Written) → MakesOne m new o h t rows result
      → TableTold {P = P} m new o h t s rows (turned_table table result)
  makes_tell written_.Done came = record {
    after = came.entries ++ h;
    comes = Ends (replies.Ok outcomes.Fine);
    writes = all_tell o t (makings t s) rows came.entries h came.inserted came.lawful;
    stands = came.stands;
    stays = tt;
    active = λ was. ap is_active (inserted_stay o h t.0 came.inserted ∙ was);
    told = refl;
  }
  makes_tell (written_.Waits on) came = record {
    after = came.entries ++ h;
    comes = Parks on (Making (makings t s) outcomes.Fine);
    writes = waits_tell o t (makings t s) rows came.entries h (Waits on) on came.inserted refl came.lawful;
    stands = came.stands;
    stays = tt;
    active = λ was. ap is_active (inserted_stay o h t.0 came.inserted ∙ was);
    told = (refl, retry_course);
  }
  makes_tell (written_.Refused answered) nothing = nothing_here nothing.first answered nothing.entries nothing.inserted
      nothing.final nothing.lawful false
      (undone_here m new o (nothing.entries ++ h) t nothing.first answered nothing.undone)
      (turned_table table (written_.Refused answered)) refl tt refl
  makes_tell (written_.RolledBack answered) nothing = nothing_here nothing.first answered nothing.entries
      nothing.inserted nothing.final nothing.lawful true
      (given_here m new o (nothing.entries ++ h) t nothing.first answered nothing.undone)
      (turned_table table (written_.RolledBack answered)) refl tt refl

-- the events of a table are those of its rows
events_are : (t : TxNo) (s : Plain) (table : NewTable) → IsPlannedHere s table
    → makings t s ≡ map (insertion t) (rows_made table.name table.shape)
events_are t s table planned = ap (makings t) planned.statement
    ∙ ap (λ (shape : Shape). map (insertion t) (rows_made table.name shape)) (sym planned.shaped)

pub retries_tell : {R P : Type 0} (m : Means R P) → RetriesTell m
retries_tell m new o h t s table turn planned retries =
    subst (Tells m new o h t s (Making (makings t s) outcomes.Fine)) (sym retries.stands_so)
    (let it = makes_tell m new o h t s table planned (rows_made table.name table.shape) retries.result retries.makes in
    record {
      after = it.after;
      comes = it.comes;
      steps = makes_on (makings t s) outcomes.Fine it.after it.comes
          (subst (λ (news : List Event). WritesAll o t (makings t s) outcomes.Fine h news it.after it.comes)
          (sym (events_are t s table planned)) it.writes);
      stands = it.stands;
      stays = it.stays;
      active = it.active;
      told = it.told;
    })

pub creates_tell : {R P : Type 0} (m : Means R P) → CreatesTell m
creates_tell {P = P} m new o h t s taken table turn planned creates =
    subst (Tells m new o h t s (Begun s taken)) (sym creates.stands_so) (at creates.makes)
  where
    begun_so : (k : Plain) → k ≡ Creation table.name planned.columns → (after : Entries) (comes : Comes)
        → Steps o h t (Begun (Creation table.name planned.columns) taken) after comes
        → Steps o h t (Begun k taken) after comes
    begun_so k is after comes steps = subst (λ (p : Plain). Steps o h t (Begun p taken) after comes) (sym is) steps

    at : MarksAndMakes m new o h t (rows_made table.name table.shape) creates.result
        → Tells {P = P} m new o h t s (Begun s taken) (turned_table table creates.result)
    at (inl (refusal, is, came)) = subst (λ (w : Written). Tells {P = P} m new o h t s (Begun s taken)
        (turned_table table w)) (sym is) (record {
          after = entry (events.Mark t) (No refusal) ∷ h;
          comes = refused refusal;
          steps = begun_so s planned.statement (entry (events.Mark t) (No refusal) ∷ h) (refused refusal)
              (makes_not table.name planned.columns taken refusal came.lawful);
          stands = came.stands;
          stays = tt;
          active = λ was. ap is_active was;
          told = refl;
        })
    at (inr (lawful, came)) =
        let it = makes_tell m new o (entry (events.Mark t) Fine ∷ h) t s table planned
        (rows_made table.name table.shape) creates.result came in record {
          after = it.after;
          comes = it.comes;
          steps = begun_so s planned.statement it.after it.comes
              (makes table.name planned.columns taken it.after it.comes lawful
              (subst (λ (news : List Event). WritesAll o t news outcomes.Fine (entry (events.Mark t) Fine ∷ h) news
              it.after it.comes) (ap (makings t) planned.statement)
              (subst (λ (news : List Event). WritesAll o t (makings t s) outcomes.Fine (entry (events.Mark t) Fine ∷ h)
              news it.after it.comes) (sym (events_are t s table planned)) it.writes)));
          stands = it.stands;
          stays = it.stays;
          active = it.active;
          told = it.told;
        }

-- Each step gives what its statement says next.
use Rattle.std.proofs.Common.{◌≡◌, ℕ, ◌&&◌, Bool, true, false, List, [], ◌∷◌, ◌++◌, length, Option, Some, Result, Ok, Err, cond, inl, inr, refl, sym, ap, subst, ◌∙◌}
use Rattle.std.proofs.lemmas.List.{append-nil}
use Rattle.mg_base.specs.declared.numbers.TxNo.{TxNo}
use Rattle.mg_value.specs.declared.shape.Column.{Column}
use Rattle.mg_statements.specs.Plain.{Plain, RollbackTo, Savepoint, Insert, Update, Delete, Totals, Select}
use Rattle.mg_plan.specs.Statements.{bound_plain}
use Rattle.mg_plan.specs.declared.bound.Bound.{Bound}
use Rattle.mg_model.specs.declared.answer.Answer.TheVariants.{Fine, No, Rows}
use Rattle.mg_model.specs.declared.event.Event.TheVariants as events
use Rattle.mg_model.specs.declared.opening.Opening.{Opening}
use Rattle.mg_model.specs.declared.refusal.Refusal.{Refusal}
use Rattle.mg_model.specs.declared.refusal.Refusal.TheVariants.{Waits}
use Rattle.mg_model.specs.declared.table.Table.{Table}
use Rattle.mg_model.specs.Answers.{is_active}
use Rattle.mg_model.specs.Changes.{Cells}
use Rattle.mg_model.specs.History.{Entries, entry}
use Rattle.mg_model.specs.Legal.{IsLawful, is_lasting}
use Rattle.mg_model.specs.Machine.{is_of, state_of}
use Rattle.mg_records.specs.declared.write.Write.{Write}
use Rattle.mg_records.specs.declared.write.Write.TheVariants as writes_
use Rattle.mg_records.specs.Meaning.{Means}
use Rattle.mg_records.specs.Reading.{shape_seen}
use Rattle.mg_records.specs.TakingBack.{after_refusal, is_given_up}
use Rattle.mg_records.specs.Writing.{event_of}
use Rattle.mg_rows.specs.declared.outcome.Outcome.TheVariants as outcomes
use Rattle.mg_rows.specs.declared.statement_fault.StatementFault.{StatementFault}
use Rattle.mg_rows.specs.declared.statement_fault.StatementFault.TheVariants.{Engine, NoSavepoint}
use Rattle.mg_calls.specs.declared.steps.Writes.{Writes}
use Rattle.mg_calls.specs.declared.steps.Wrote.{Wrote}
use Rattle.mg_calls.specs.declared.steps.Wrote.TheVariants as wrote_
use Rattle.mg_calls.specs.declared.writing.Written.TheVariants as written_
use Rattle.mg_calls.specs.Frames.{Frames}
use Rattle.mg_calls.specs.Steps.{MarksAndWrites, WritesNext}
use Rattle.mg_calls.specs.WalkLaws.{walks_go_on, walks_stay_ready}
use Rattle.mg_calls.specs.Writes.{ComesToNothing}
use Rattle.mg_exec.specs.declared.phase.Phase.{Phase}
use Rattle.mg_exec.specs.declared.phase.Phase.TheVariants as phases
use Rattle.mg_exec.specs.declared.phase.Step.{Step}
use Rattle.mg_exec.specs.declared.phase.Step.TheVariants.{Done}
use Rattle.mg_exec.specs.declared.phase.Turn.{Turn}
use Rattle.mg_exec.specs.Changing.{StartsToWrite, begins, makes_none, turned, with_left}
use Rattle.mg_exec.specs.Making.{writes_made}
use Rattle.mg_exec.specs.Phases.{StandsAt, ended, is_insert, rolled_back}
use Rattle.mg_exec.specs.Points.{Saves, SavesSo, Returns, ReturnsSo}
use Rattle.mg_exec.specs.Reading.{Finds, GoesOnWith, answers, writes, Reads, comes_on, finds, faults, stops, find_of}
use Rattle.mg_exec.specs.Running.{Goes}
use Rattle.mg_exec.specs.Statements.{Asked, IsBoundTo, its_look, its_find, before_mark, marked, wrote, waited, IsWriting, entries_given_up, saved, not_saved, returned, no_savepoint, not_returned, stopped, faulted, not_found, selected, none_made, not_marked, written, undone, IsAt, Gives, StatementsGoOn, StatementsStayReady, table_named}
use Rattle.mg_exec.specs.Starting.{IsStarted}
use Rattle.mg_exec.proofs.CreateLemmas.{ready_to_create}
use Rattle.mg_exec.proofs.CreateGiveLemmas.{creating, retrying}
use Rattle.mg_exec.proofs.EntryLemmas.{given_up, gives_behind, nothing_more, one_more, over, refused_gives, rolled_by, undone_by}

pub inside : {P : Type 0} (a b : Phase P)
    → ◌≡◌ {A = Result (Phase P) StatementFault} (Ok a) (Ok b) → a ≡ b
inside a b is = cc

-- ---- SAVEPOINT and ROLLBACK TO

saving_so : {R P : Type 0} (m : Means R P) (new : R) (o : Opening) (looked h : Entries) (a : Asked)
    (name : List ℕ) (phase : Phase P) (answer : Result Step StatementFault) → a.statement ≡ Savepoint name
    → SavesSo m new o h a.t name phase answer
    → Gives m new o looked h a [] (record { phase = phase; answer = answer })
saving_so m new o looked h a name phases.Ended (Ok (Done outcomes.Fine)) is c =
    one_more m new o looked h a [] _ _ refl c.lawful c.stands (saved name is refl refl) (over true refl)
saving_so m new o looked h a name phases.Ended (Err (Engine refusal)) is c =
    one_more m new o looked h a [] _ _ refl c.lawful c.stands (not_saved name refusal is refl refl) (over true refl)
saving_so m new o looked h a name phase answer is c = absurd c

saving : {R P : Type 0} (m : Means R P) (new : R) (o : Opening) (looked h : Entries) (a : Asked)
    (name : List ℕ) (turn : Turn P) → a.statement ≡ Savepoint name
    → Saves m new o h a.t name turn → Gives m new o looked h a [] turn
saving m new o looked h a name turn is c = saving_so m new o looked h a name turn.phase turn.answer is c

not_back : {R P : Type 0} (m : Means R P) (new : R) (o : Opening) (looked h : Entries) (a : Asked)
    (name : List ℕ) (refusal : Refusal) → a.statement ≡ RollbackTo name → is_given_up refusal ≡ true
    → IsLawful o h (entry (events.BackTo a.t name) (No refusal))
    → m.stands new o (after_refusal o h a.t (events.BackTo a.t name) refusal)
    → Gives {P = P} m new o looked h a [] (rolled_back refusal)
not_back m new o looked h a name refusal is gives lawful stands =
    let g = given_up m new o h a.t (events.BackTo a.t name) refusal refl gives lawful stands in
    record {
      more = g.entries;
      lawful = g.lawful;
      quietly = g.quietly;
      stands = g.stands;
      so = (
        not_returned name refusal h is
            (ap (λ (given : Entries). given ++ h) (sym (append-nil g.entries))) (append-nil g.entries ∙ g.are) refl,
        g.inactive,
      );
      goes_on = over true refl;
    }

returning_so : {R P : Type 0} (m : Means R P) (new : R) (o : Opening) (looked h : Entries) (a : Asked)
    (name : List ℕ) (phase : Phase P) (answer : Result Step StatementFault)
    → a.statement ≡ RollbackTo name → ReturnsSo m new o h a.t name phase answer
    → Gives m new o looked h a [] (record { phase = phase; answer = answer })
returning_so m new o looked h a name phases.Ended (Ok (Done outcomes.Fine)) is c =
    one_more m new o looked h a [] _ _ refl c.1.lawful c.1.stands (returned name is refl refl) (over true refl)
returning_so m new o looked h a name phases.Ended (Err NoSavepoint) is c =
    nothing_more m new o looked h a [] _ c.2 (no_savepoint name is c.1 refl refl) (over true refl)
returning_so m new o looked h a name phases.Ended (Err (Engine refusal)) is c =
    one_more m new o looked h a [] _ _ refl c.1.lawful c.1.stands
    (not_returned name refusal h is refl
    (ap (λ (g : Bool). entries_given_up g a.t (events.BackTo a.t name) refusal)
    (sym (ap (λ (g : Bool). g && is_active (state_of o h a.t.0)) c.0))) refl) (over true refl)
returning_so m new o looked h a name phases.RolledBack (Err (Engine refusal)) is c =
    not_back m new o looked h a name refusal is c.0 c.1 c.2
returning_so m new o looked h a name phase answer is c = absurd c

returning : {R P : Type 0} (m : Means R P) (new : R) (o : Opening) (looked h : Entries) (a : Asked)
    (name : List ℕ) (turn : Turn P) → a.statement ≡ RollbackTo name
    → Returns m new o h a.t name turn → Gives m new o looked h a [] turn
returning m new o looked h a name turn is c =
    returning_so m new o looked h a name turn.phase turn.answer is c

-- ---- writes

still_writing : {R P : Type 0} (m : Means R P) (new : R) (o : Opening) (looked h : Entries) (a : Asked)
    (table : Table) (bound : Bound) (given : Entries) (left : Writes) (ws : List Write) (count : ℕ)
    → left.table ≡ table → left.left.items ≡ ws → IsBoundTo o looked a table bound
    → IsWriting a table bound ws count given
    → IsAt {P = P} m new o looked h a given (phases.Changing (with_left left count))
still_writing m new o looked h a table bound given left ws count same items b w = (
  bound,
  subst (λ (table : Table). IsBoundTo o looked a table bound) (sym same) b,
  subst (λ (x : Table × List Write). IsWriting a x.0 bound x.1 count given)
      (sym (λ k. (same k, items k))) w,
)

writing_on : (a : Asked) (table : Table) (bound : Bound) (first : Write) (rest : List Write) (count : ℕ)
    (given : Entries) → IsWriting a table bound (first ∷ rest) count given
    → IsWriting a table bound rest count (entry (event_of a.t table.name first) Fine ∷ given)
writing_on a table bound first rest count given w = record {
  rows = w.rows;
  made = w.made;
  makes = w.makes;
  counts = w.counts;
  written = wrote first rest given w.written;
}

writing_waits : (a : Asked) (table : Table) (bound : Bound) (first : Write) (rest : List Write) (count : ℕ)
    (given : Entries) (on : TxNo) → IsWriting a table bound (first ∷ rest) count given
    → IsWriting a table bound (first ∷ rest) count
    (entry (event_of a.t table.name first) (No (Waits on)) ∷ given)
writing_waits a table bound first rest count given on w = record {
  rows = w.rows;
  made = w.made;
  makes = w.makes;
  counts = w.counts;
  written = waited first rest given on w.written;
}

writes_quietly : (t : TxNo) (name : List ℕ) (w : Write) → is_lasting (event_of t name w) ≡ false
writes_quietly t name (writes_.Insert row) = refl
writes_quietly t name (writes_.Change key row) = refl
writes_quietly t name (writes_.Erase key) = refl

-- the first of its writes left was refused, and the statement undone, or the transaction rolled back
is_undone : {R P : Type 0} (m : Means R P) (new : R) (o : Opening) (looked h : Entries) (a : Asked)
    (table : Table) (bound : Bound) (given : Entries) (first : Write) (rest : List Write) (count : ℕ)
    (answer : Refusal) → IsBoundTo o looked a table bound
    → IsWriting a table bound (first ∷ rest) count given
    → ComesToNothing m new o h a.t (event_of a.t table.name first) (written_.Refused answer)
    → Gives {P = P} m new o looked h a given (ended (Err (Engine answer)))
is_undone m new o looked h a table bound given first rest count answer b w c =
    let e = entry (event_of a.t table.name first) (No c.first) in
    let u = undone_by m new o (e ∷ h) a.t c.first answer c.undone in
    gives_behind m new o looked h a given e _ (writes_quietly a.t table.name first) c.lawful
    (refused_gives m new o looked (e ∷ h) a (e ∷ given) _ c.first answer u
    (undone table bound first rest count given u.undoing (e ∷ h) c.first answer b w c.final refl u.by refl
    refl) refl)

is_rolled_back : {R P : Type 0} (m : Means R P) (new : R) (o : Opening) (looked h : Entries) (a : Asked)
    (table : Table) (bound : Bound) (given : Entries) (first : Write) (rest : List Write) (count : ℕ)
    (answer : Refusal) → IsBoundTo o looked a table bound
    → IsWriting a table bound (first ∷ rest) count given
    → ComesToNothing m new o h a.t (event_of a.t table.name first) (written_.RolledBack answer)
    → Gives {P = P} m new o looked h a given (rolled_back answer)
is_rolled_back m new o looked h a table bound given first rest count answer b w c =
    let e = entry (event_of a.t table.name first) (No c.first) in
    let u = rolled_by m new o (e ∷ h) a.t c.first answer c.undone in
    gives_behind m new o looked h a given e _ (writes_quietly a.t table.name first) c.lawful
    (refused_gives m new o looked (e ∷ h) a (e ∷ given) _ c.first answer u.0 (
      undone table bound first rest count given u.0.undoing (e ∷ h) c.first answer b w c.final refl u.0.by
          refl refl,
      u.1,
    ) refl)

-- the next of its writes is made
writing : {R P : Type 0} (m : Means R P) (new : R) (o : Opening) (looked h : Entries) (a : Asked)
    (table : Table) (bound : Bound) (given : Entries) (ws : List Write) (left : Writes) (count : ℕ)
    (result : Wrote) → IsBoundTo o looked a table bound → IsWriting a table bound ws count given
    → left.table ≡ table → WritesNext m new o h a.t table.name ws left.left.items result
    → Gives {P = P} m new o looked h a given (turned (with_left left count) result)
writing {P = P} m new o looked h a table bound given [] left count result b w same next =
    subst (λ (result : Wrote). Gives {P = P} m new o looked h a given (turned (with_left left count) result))
    (sym next.0)
    (nothing_more m new o looked h a given _ next.1 (written table bound count b w refl) (over true refl))
writing m new o looked h a table bound given (first ∷ rest) left count wrote_.More b w same next =
    one_more m new o looked h a given _ _ (writes_quietly a.t table.name first) next.0.lawful next.0.stands
    (still_writing m new o looked (entry (event_of a.t table.name first) Fine ∷ h) a table bound
    (entry (event_of a.t table.name first) Fine ∷ given) left rest count same next.1 b
    (writing_on a table bound first rest count given w)) (λ on_. tt)
writing m new o looked h a table bound given (first ∷ rest) left count wrote_.Done b w same next =
    one_more m new o looked h a given _ _ (writes_quietly a.t table.name first) next.0.lawful next.0.stands
    (written table bound count b
    (subst (λ (ws : List Write). IsWriting a table bound ws count (entry (event_of a.t table.name first) Fine ∷ given))
    next.1 (writing_on a table bound first rest count given w)) refl) (over true refl)
writing m new o looked h a table bound given (first ∷ rest) left count (wrote_.Waits on) b w same next =
    one_more m new o looked h a given _ _ (writes_quietly a.t table.name first) next.0.lawful next.0.stands
    (still_writing m new o looked (entry (event_of a.t table.name first) (No (Waits on)) ∷ h) a table bound
    (entry (event_of a.t table.name first) (No (Waits on)) ∷ given) left (first ∷ rest) count same next.1 b
    (writing_waits a table bound first rest count given on w)) (λ on_. refl)
writing m new o looked h a table bound given (first ∷ rest) left count (wrote_.Refused answer) b w same next =
    is_undone m new o looked h a table bound given first rest count answer b w next
writing m new o looked h a table bound given (first ∷ rest) left count (wrote_.RolledBack answer) b w same next =
    is_rolled_back m new o looked h a table bound given first rest count answer b w next

marking : {R P : Type 0} (m : Means R P) (new : R) (o : Opening) (looked h : Entries) (a : Asked)
    (table : Table) (bound : Bound) (rows : List Cells) (made : List Write) (left : Writes)
    (result : Wrote) → IsBoundTo o looked a table bound → writes_made table bound rows ≡ Ok made
    → left.table ≡ table → MarksAndWrites m new o h a.t table.name made left.left.items result
    → Gives {P = P} m new o looked h a (before_mark a table bound rows)
    (turned (with_left left (length made)) result)
marking {P = P} m new o looked h a table bound rows made left result b is same (inl refused) =
    subst (λ (result : Wrote). Gives {P = P} m new o looked h a (before_mark a table bound rows)
    (turned (with_left left (length made)) result)) (sym refused.1)
    (one_more m new o looked h a _ _ _ refl refused.2.lawful refused.2.stands
    (not_marked table bound rows made refused.0 b is refl refl) (over true refl))
marking m new o looked h a table bound rows made left result b is same (inr goes) =
    gives_behind m new o looked h a (before_mark a table bound rows) (entry (events.Mark a.t) Fine) _ refl goes.0
    (writing m new o looked (entry (events.Mark a.t) Fine ∷ h) a table bound
    (entry (events.Mark a.t) Fine ∷ before_mark a table bound rows) made left (length made) result b
    (record { rows = rows; made = made; makes = is; counts = refl; written = marked }) same goes.1)

-- it makes its writes, and begins to write
starting : {R P : Type 0} (m : Means R P) (new : R) (o : Opening) (looked h : Entries) (a : Asked)
    (table : Table) (bound : Bound) (rows : List Cells) (turn : Turn P)
    → IsBoundTo o looked a table bound → StartsToWrite m new o h a.t table bound rows turn
    → Gives m new o looked h a (before_mark a table bound rows) turn
starting {P = P} m new o looked h a table bound rows turn b (begins made is begun) =
    subst (λ (turn : Turn P). Gives m new o looked h a (before_mark a table bound rows) turn)
    (sym begun.stands_so)
    (marking m new o looked h a table bound rows made begun.left begun.result b is begun.table_stays
    begun.writes)
starting {P = P} m new o looked h a table bound rows turn b (makes_none fault none is stands) =
    subst (λ (turn : Turn P). Gives m new o looked h a (before_mark a table bound rows) turn) (sym is)
    (nothing_more m new o looked h a _ _ stands (none_made table bound rows fault b refl none refl)
    (over true refl))

-- ---- a reading

going_on : {R P : Type 0} (m : Means R P) (new : R) (o : Opening) (looked h : Entries) (a : Asked)
    (table : Table) (bound : Bound) (rows : List Cells) (turn : Turn P) → is_insert a.statement ≡ false
    → IsBoundTo o looked a table bound → GoesOnWith m new o h a.t table bound rows turn
    → Gives m new o looked h a (its_find a table bound rows) turn
going_on {P = P} m new o looked h a table bound rows turn finds_ b (answers given is told stands) =
    subst (λ (turn : Turn P). Gives m new o looked h a (its_find a table bound rows) turn) (sym told)
    (nothing_more m new o looked h a _ _ stands (selected table bound rows given b refl is refl)
    (over true refl))
going_on m new o looked h a table bound rows turn finds_ b (writes other starts) =
    subst (λ (given : Entries). Gives m new o looked h a given turn)
    (ap (λ (inserts : Bool). cond inserts (its_look a) (its_find a table bound rows)) finds_)
    (starting m new o looked h a table bound rows turn b starts)

finding : {R P : Type 0} (m : Means R P) (new : R) (o : Opening) (looked h : Entries) (a : Asked)
    (table : Table) (bound : Bound) (rows : List Cells) (turn : Turn P) → is_insert a.statement ≡ false
    → IsBoundTo o looked a table bound → Finds m new o h a.t table bound rows turn
    → Gives m new o looked h a (its_look a) turn
finding {P = P} m new o looked h a table bound rows turn finds_ b (inl refused) =
    subst (λ (turn : Turn P). Gives m new o looked h a (its_look a) turn) (sym refused.1)
    (one_more m new o looked h a _ _ _ refl refused.2.lawful refused.2.stands
    (not_found table bound refused.0 b refl refl) (over true refl))
finding m new o looked h a table bound rows turn finds_ b (inr goes) =
    gives_behind m new o looked h a (its_look a) (entry (find_of a.t table bound) (Rows rows)) turn refl goes.0
    (going_on m new o looked _ a table bound rows turn finds_ b goes.1)

reading_gives : {R P : Type 0} (m : Means R P) (new : R) (o : Opening) (looked h : Entries) (a : Asked)
    (table : Table) (bound : Bound) (count : ℕ) (turn : Turn P) → is_insert a.statement ≡ false
    → IsBoundTo o looked a table bound → Reads m new o h a.t table bound count turn
    → Gives m new o looked h a (its_look a) turn
reading_gives {P = P} m new o looked h a table bound count turn finds_ b (comes_on after is bounds tables stands read fewer) =
    subst (λ (turn : Turn P). Gives m new o looked h a (its_look a) turn) (sym is)
    (nothing_more m new o looked h a _ _ stands (
      finds_,
      subst (λ (x : Table × Bound). IsBoundTo o looked a x.0 x.1) (sym (λ k. (tables k, bounds k))) b,
      refl,
      read,
    ) (λ on_. tt))
reading_gives m new o looked h a table bound count turn finds_ b (finds rows is counts goes) =
    finding m new o looked h a table bound rows turn finds_ b goes
reading_gives {P = P} m new o looked h a table bound count turn finds_ b (faults none is stands) =
    subst (λ (turn : Turn P). Gives m new o looked h a (its_look a) turn) (sym is)
    (nothing_more m new o looked h a _ _ stands (faulted table bound b none refl refl) (over true refl))
reading_gives {P = P} m new o looked h a table bound count turn finds_ b (stops refusal refused is stands) =
    subst (λ (turn : Turn P). Gives m new o looked h a (its_look a) turn) (sym is)
    (nothing_more m new o looked h a _ _ stands (stopped table bound refusal b refused refl refl)
    (over true refl))

-- ---- a step

pub step_gives : {R P : Type 0} (m : Means R P) (old new : R) (o : Opening) (looked h : Entries)
    (a : Asked) (given : Entries) (phase : Phase P) (turn : Turn P)
    → IsAt m old o looked h a given phase → Goes m old new o h a.t phase turn
    → Gives m new o looked h a given turn
step_gives m old new o looked h a given (phases.Saving name) turn at goes =
    subst (λ (given : Entries). Gives m new o looked h a given turn) (sym at.1)
    (saving m new o looked h a name turn at.0 goes)
step_gives m old new o looked h a given (phases.Returning name) turn at goes =
    subst (λ (given : Entries). Gives m new o looked h a given turn) (sym at.1)
    (returning m new o looked h a name turn at.0 goes)
step_gives m old new o looked h a given (phases.Inserting i) turn at goes =
    subst (λ (given : Entries). Gives m new o looked h a given turn)
    (ap (λ (inserts : Bool). cond inserts (its_look a) (its_find a i.table i.bound [])) at.0 ∙ sym at.2)
    (starting m new o looked h a i.table i.bound [] turn at.1 goes)
step_gives m old new o looked h a given (phases.Reading reading) turn at goes =
    subst (λ (given : Entries). Gives m new o looked h a given turn) (sym at.2)
    (reading_gives m new o looked h a reading.walk.table reading.bound (length reading.kept.items) turn at.0 at.1 (goes at.3))
step_gives {P = P} m old new o looked h a given (phases.Changing c) turn at goes =
    subst (λ (turn : Turn P). Gives m new o looked h a given turn) (sym goes.stands_so)
    (writing m new o looked h a c.writes.table at.0 given c.writes.left.items goes.left c.count
    goes.result at.1 at.2 goes.table goes.writes)
step_gives m old new o looked h a given (phases.Creating table) turn at goes =
    subst (λ (given : Entries). Gives m new o looked h a given turn) (sym at.1)
    (creating m new o looked h a table turn at.0 goes)
step_gives m old new o looked h a given (phases.Retrying table) turn at goes =
    retrying m new o looked h a table given turn at.0 at.1 goes
step_gives m old new o looked h a given phases.Ended turn at goes = absurd at
step_gives m old new o looked h a given phases.RolledBack turn at goes = absurd at

-- what is known of where it stands
pub stands_there : {R P : Type 0} (m : Means R P) (r : R) (o : Opening) (looked h : Entries) (a : Asked)
    (given : Entries) (phase : Phase P) → IsAt m r o looked h a given phase → StandsAt m r o h a.t.0 phase
stands_there m r o looked h a given (phases.Reading reading) at = at.3
stands_there m r o looked h a given (phases.Saving name) at = tt
stands_there m r o looked h a given (phases.Returning name) at = tt
stands_there m r o looked h a given (phases.Inserting i) at = tt
stands_there m r o looked h a given (phases.Changing c) at = tt
stands_there m r o looked h a given (phases.Creating table) at = tt
stands_there m r o looked h a given (phases.Retrying table) at = tt
stands_there m r o looked h a given phases.Ended at = absurd at
stands_there m r o looked h a given phases.RolledBack at = absurd at

-- ---- the beginning

insert_bound : (columns : List Column) (s : Plain) → is_insert (bound_plain columns s) ≡ is_insert s
insert_bound columns (Update table sets filter) = refl
insert_bound columns (Delete table filter) = refl
insert_bound columns (Totals table totals filter) = refl
insert_bound columns (Select table values filter sorted) = refl
insert_bound columns s = refl

bound_now : {R P : Type 0} (m : Means R P) (new : R) (o : Opening) (h : Entries) (t : TxNo)
    (read_only : Bool) (s : Plain) (size : ℕ) (phase : Phase P)
    → (i : IsStarted m new o h t.0 read_only s (table_named s) size phase)
    → IsBoundTo o h (record { t = t; read_only = read_only; statement = s; size = size }) i.table i.bound
bound_now m new o h t read_only s size phase i = record {
  may = i.may;
  named = i.named;
  seen = subst (λ (name : List ℕ). shape_seen o h t.0 name ≡ Some i.table.shape) (sym i.named) i.seen;
  passes = i.passes;
  binds = i.binds;
}

pub is_at : {R P : Type 0} (m : Means R P) (new : R) (o : Opening) (h : Entries) (t : TxNo)
    (read_only : Bool) (s : Plain) (size : ℕ) (phase : Phase P)
    → IsStarted m new o h t.0 read_only s (table_named s) size phase
    → IsAt m new o h h (record { t = t; read_only = read_only; statement = s; size = size })
    (entry (events.Look t) Fine ∷ []) phase
is_at m new o h t read_only s size (phases.Inserting x) i = (
  sym (ap is_insert i.binds.statement ∙ insert_bound i.table.shape.columns s) ∙ i.begins.0,
  subst (λ (y : Table × Bound). IsBoundTo o h (record { t = t; read_only = read_only; statement = s; size = size }) y.0 y.1)
      (sym (λ k. (i.begins.1 k, i.begins.2 k))) (bound_now m new o h t read_only s size _ i),
  refl,
)
is_at m new o h t read_only s size (phases.Reading reading) i = (
  sym (ap is_insert i.binds.statement ∙ insert_bound i.table.shape.columns s) ∙ i.begins.0,
  subst (λ (y : Table × Bound). IsBoundTo o h (record { t = t; read_only = read_only; statement = s; size = size }) y.0 y.1)
      (sym (λ k. (i.begins.1 k, i.begins.3 k))) (bound_now m new o h t read_only s size _ i),
  refl,
  i.reads,
)
is_at m new o h t read_only s size phase i = absurd i.begins

-- ---- calls for others between two steps

pub statements_go_on : {R P : Type 0} (m : Means R P) → StatementsGoOn m
statements_go_on m old new o looked h e u refusal a given (phases.Saving name) frames apart others at = at
statements_go_on m old new o looked h e u refusal a given (phases.Returning name) frames apart others at = at
statements_go_on m old new o looked h e u refusal a given (phases.Inserting i) frames apart others at = at
statements_go_on m old new o looked h e u refusal a given (phases.Reading reading) frames apart others at = (
  at.0,
  at.1,
  at.2,
  record {
    visited = at.3.visited;
    come = walks_go_on m old new o h e a.t.0 u refusal reading.walk at.3.visited frames apart others at.3.come;
    kept = at.3.kept;
  },
)
statements_go_on m old new o looked h e u refusal a given (phases.Changing c) frames apart others at = at
statements_go_on m old new o looked h e u refusal a given (phases.Creating table) frames apart others at = at
statements_go_on m old new o looked h e u refusal a given (phases.Retrying table) frames apart others at = at
statements_go_on m old new o looked h e u refusal a given phases.Ended frames apart others at = at
statements_go_on m old new o looked h e u refusal a given phases.RolledBack frames apart others at = at

seen_again : {R P : Type 0} (m : Means R P) (old new : R) (t u : ℕ) (refusal : Option Refusal)
    (table : Table) → Frames m old new u refusal → is_of t (Some u) ≡ false
    → m.table old t table.name ≡ Some table → m.table new t table.name ≡ Some table
seen_again m old new t u refusal table frames apart is =
    frames.tables t table.name table apart is

pub statements_stay_ready : {R P : Type 0} (m : Means R P) → StatementsStayReady m
statements_stay_ready m old new t u refusal (phases.Saving name) frames apart ready = tt
statements_stay_ready m old new t u refusal (phases.Returning name) frames apart ready = tt
statements_stay_ready m old new t u refusal (phases.Inserting i) frames apart ready = record {
  table = seen_again m old new t u refusal i.table frames apart ready.table;
  inserts = ready.inserts;
  binds = ready.binds;
}
statements_stay_ready m old new t u refusal (phases.Reading reading) frames apart ready = record {
  way = walks_stay_ready m old new t u refusal reading.walk frames apart ready.way;
  finds = ready.finds;
  binds = ready.binds;
  fit = ready.fit;
}
statements_stay_ready m old new t u refusal (phases.Changing c) frames apart ready = record {
  table = seen_again m old new t u refusal c.writes.table frames apart ready.table;
  fits = ready.fits;
}
statements_stay_ready m old new t u refusal (phases.Creating table) frames apart ready =
    ready_to_create m old new u refusal table frames ready
statements_stay_ready m old new t u refusal (phases.Retrying table) frames apart ready =
    ready_to_create m old new u refusal table frames ready
statements_stay_ready m old new t u refusal phases.Ended frames apart ready = tt
statements_stay_ready m old new t u refusal phases.RolledBack frames apart ready = tt

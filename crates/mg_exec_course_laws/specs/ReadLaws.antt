-- The steps of a statement that reads a table.
use Rattle.std.proofs.Common.{◌≡◌, ◌≤◌, ◌+◌, inl, inr, ℕ, false, true, List, [], ◌∷◌, Option, Some, Result, Ok, Err, refl, sym, ap, ◌∙◌, subst, arith}
use Rattle.std.specs.Prelude.{length, map}
use Rattle.std.proofs.lemmas.Bool.{false≢true}
use Rattle.std.proofs.lemmas.List.{length-map}
use Rattle.mg_base.specs.declared.numbers.TxNo.{TxNo}
use Rattle.mg_base.specs.declared.transaction.TxState.TheVariants.{Active}
use Rattle.mg_value.specs.declared.shape.Column.{Column}
use Rattle.mg_value.specs.declared.shape.Shape.{Shape}
use Rattle.mg_expr.specs.declared.fault.EvalFault.{EvalFault}
use Rattle.mg_expr.specs.Trees.{Tree, tree_of}
use Rattle.mg_statements.specs.declared.statement.Assign.{Assign}
use Rattle.mg_statements.specs.declared.statement.Statement.{Statement}
use Rattle.mg_statements.specs.declared.statement.Statement.TheVariants as statements
use Rattle.mg_statements.specs.Plain.{Plain, Delete, Select, Totals, Update, plain_of, tree_in}
use Rattle.mg_plan.specs.declared.bound.Bound.{Bound}
use Rattle.mg_plan.specs.Statements.{bound_plain}
use Rattle.mg_model.specs.declared.answer.Answer.TheVariants.{No, Rows}
use Rattle.mg_model.specs.declared.event.Event.TheVariants as events
use Rattle.mg_model.specs.declared.opening.Opening.{Opening}
use Rattle.mg_model.specs.declared.refusal.Refusal.TheVariants as refusals
use Rattle.mg_model.specs.declared.table.Table.{Table}
use Rattle.mg_model.specs.Answers.{is_active}
use Rattle.mg_model.specs.Catalog.{key_of}
use Rattle.mg_model.specs.Changes.{Cells, rows_of}
use Rattle.mg_model.specs.History.{Entries, entry}
use Rattle.mg_model.specs.Machine.{state_of, view}
use Rattle.mg_records.specs.declared.write.Write.{Write}
use Rattle.mg_records.specs.declared.write.Write.TheVariants as writes_
use Rattle.mg_records.specs.Meaning.{Means}
use Rattle.mg_records.specs.Reading.{shape_seen}
use Rattle.mg_records.specs.Writing.{event_of}
use Rattle.mg_rows.specs.declared.fault.NewRowFault.{NewRowFault}
use Rattle.mg_rows.specs.declared.fault.NewRowFault.TheVariants as row_faults
use Rattle.mg_rows.specs.declared.outcome.Outcome.TheVariants as outcomes
use Rattle.mg_rows.specs.declared.statement_fault.StatementFault.TheVariants.{Arithmetic}
use Rattle.mg_rows.specs.Answering.{Answers as BoundAnswers}
use Rattle.mg_rows.specs.Faults.{of_new_row}
use Rattle.mg_rows.specs.Found.{found}
use Rattle.mg_rows.specs.NewRows.{before, new_row, updated}
use Rattle.mg_exec.specs.declared.phase.Turn.{Turn}
use Rattle.mg_exec.specs.Changing.{StartsToWrite, begins, makes_none}
use Rattle.mg_exec.specs.Making.{MakesNone, changes_of, made_by, writes_made}
use Rattle.mg_plan.specs.Plans.{filter_in}
use Rattle.mg_exec.specs.Phases.{StandsAt, ended, is_select}
use Rattle.mg_exec.specs.Reading.{Finds, GoesOnWith, Reads, answers, comes_on, faults as faults_on, finds as finds_all, find_of, rows_found as found_there, stops as stops_so, writes}
use Rattle.mg_exec.specs.Running.{is_rolled_back_at}
use Rattle.mg_exec.specs.Selecting.{answer_told}
use Rattle.mg_script.specs.declared.reply.Reply.TheVariants as replies
use Rattle.mg_transcript.specs.Courses.{Begun, Comes, Ends, Later}
use Rattle.mg_transcript.specs.Selects.{Answers, reply_with}
use Rattle.mg_transcript.specs.Statements.{filter_of, made_of, reads, rows_found, selects, table_of}
use Rattle.mg_transcript.specs.Steps.{Follows, IsFind, IsRead, Marks, answers_so, falls_short, faults, finds, finds_not, has_fault, refused, stops, visits, writes_so}
use Rattle.mg_exec_course_laws.specs.Courses.{IsBoundHere, IsTurned, ReadsTell, StaysActive, Tells}
use Rattle.mg_exec_course_laws.specs.InsertLaws.{events_told}
use Rattle.mg_transcript.specs.OutsideLaws.{refused_outside}
use Rattle.mg_exec_course_laws.specs.WriteLaws.{marks_tell}

-- ---- a bound statement

filter_told : (st : Statement) → tree_in (filter_in st) ≡ filter_of (plain_of st)
filter_told (statements.Update table sets filter) = refl
filter_told (statements.Delete table filter) = refl
filter_told (statements.Totals table aggs filter) = refl
filter_told (statements.Select table values filter sorted) = refl
filter_told st = refl

bound_select : (columns : List Column) (s : Plain) → is_select (bound_plain columns s) ≡ selects s
bound_select columns (Update table sets filter) = refl
bound_select columns (Delete table filter) = refl
bound_select columns (Totals table totals filter) = refl
bound_select columns (Select table values filter sorted) = refl
bound_select columns s = refl

answers_selects : (columns : List Column) (s : Plain) (places : List ℕ) (key : ℕ) (rows : List Cells)
    (given : Result (List Cells) EvalFault) → BoundAnswers (bound_plain columns s) places key rows given
    → selects s ≡ true
answers_selects columns (Update table sets filter) places key rows given so = absurd so
answers_selects columns (Delete table filter) places key rows given so = absurd so
answers_selects columns (Totals table totals filter) places key rows given so = refl
answers_selects columns (Select table values filter sorted) places key rows given so = refl
answers_selects columns s places key rows given so = absurd so

-- ---- as many writes as rows

before_many : (one : Result Cells NewRowFault) (others : Result (List Cells) NewRowFault) (rows made : List Cells)
    → ((some : List Cells) → others ≡ Ok some → length some ≡ length rows)
    → before one others ≡ Ok made → length made ≡ length rows + 1
before_many (Err fault) others rows made many is = absurd cc
before_many (Ok one) (Err fault) rows made many is = absurd cc
before_many (Ok one) (Ok some) rows made many is =
    let same : (one ∷ some) ≡ made = cc in
    omega (arith, ap {B = ℕ} (length {A = Cells}) same, many some refl)

as_many_new : (columns : List Column) (places : List ℕ) (ts : List Tree) (rows made : List Cells)
    → updated columns places ts rows ≡ Ok made → length made ≡ length rows
as_many_new columns places ts [] [] is = refl
as_many_new columns places ts [] (row ∷ made) is = absurd cc
as_many_new columns places ts (row ∷ rows) made is =
    omega (
      arith,
      before_many (new_row columns places ts row) (updated columns places ts rows) rows made
          (as_many_new columns places ts rows) is,
    )

changes_many : (shape : Shape) (rows : List Cells) (given : Result (List Cells) NewRowFault) (made : List Write)
    → ((some : List Cells) → given ≡ Ok some → length some ≡ length rows)
    → changes_of shape given ≡ Ok made → length made ≡ length rows
changes_many shape rows (Err fault) made many is = absurd cc
changes_many shape rows (Ok some) made many is =
    let same : map (λ (row : Cells). writes_.Change (key_of shape row) row) some ≡ made = cc in
    sym (ap (length {A = Write}) same)
    ∙ (length-map {A = Cells} {B = Write} some (λ (row : Cells). writes_.Change (key_of shape row) row)
    ∙ many some refl)

-- an UPDATE or a DELETE writes each row that it found
abbrev WritesFound : Plain → Type 0
WritesFound (Update table sets filter) = Unit {0}
WritesFound (Delete table filter) = Unit {0}
WritesFound s = ⊥

writes_found : (columns : List Column) (s : Plain) → reads s ≡ true → selects s ≡ false
    → WritesFound (bound_plain columns s)
writes_found columns (Update table sets filter) reads_ selects_ = tt
writes_found columns (Delete table filter) reads_ selects_ = tt
writes_found columns (Totals table totals filter) reads_ selects_ = absurd (false≢true (sym selects_))
writes_found columns (Select table values filter sorted) reads_ selects_ = absurd (false≢true (sym selects_))
writes_found columns s reads_ selects_ = absurd (false≢true reads_)

as_many_made : (st : Statement) (places : List ℕ) (shape : Shape) (rows : List Cells) (made : List Write)
    → WritesFound (plain_of st) → made_by st places shape rows ≡ Ok made → length made ≡ length rows
as_many_made (statements.Update table sets filter) places shape rows made is makes =
    changes_many shape rows (updated shape.columns places (map (λ (set : Assign). tree_of set.value) sets.items) rows)
    made (as_many_new shape.columns places (map (λ (set : Assign). tree_of set.value) sets.items) rows) makes
as_many_made (statements.Delete table filter) places shape rows made is makes =
    let same : map (λ (row : Cells). writes_.Erase (key_of shape row)) rows ≡ made = cc in
    sym (ap (length {A = Write}) same)
    ∙ length-map {A = Cells} {B = Write} rows (λ (row : Cells). writes_.Erase (key_of shape row))
as_many_made st places shape rows made is makes = absurd is

-- ---- a step

-- What follows what was found came, and it is told what it came to.
record FollowTold {R P : Type 0} (m : Means R P) (new : R) (o : Opening) (h : Entries) (t : TxNo) (s : Plain)
    (shape : Shape) (rows : List Cells) (turn : Turn P) : Type 0 where
  after : Entries
  comes : Comes
  follows : Follows o h t s shape rows after comes
  stands : m.stands new o after
  stays : StandsAt m new o after t.0 turn.phase
  active : StaysActive o h t after (is_rolled_back_at turn.phase)
  told : IsTurned t s turn comes

module _ {R P : Type 0} (m : Means R P) (new : R) (o : Opening) (h : Entries) (t : TxNo) (s : Plain)
    (table : Table) (bound : Bound) (reads_ : reads s ≡ true) (is : IsBoundHere s table bound) where
  module _ (rows : List Cells) where
    selects_as : is_select (plain_of bound.statement) ≡ selects s
    selects_as = ap is_select is.binds.statement ∙ bound_select table.shape.columns s

    answers_here : (given : Result (List Cells) EvalFault)
        → BoundAnswers (plain_of bound.statement) bound.places.items table.shape.key rows given
        → Answers table.shape s rows given
    answers_here given so =
        subst (λ (places : List ℕ). BoundAnswers (bound_plain table.shape.columns s) places table.shape.key rows given)
        is.binds.places
        (subst (λ (p : Plain). BoundAnswers p bound.places.items table.shape.key rows given) is.binds.statement so)

    answer_turned : (given : Result (List Cells) EvalFault)
        → IsTurned {P = P} t s (ended (answer_told given)) (Ends (reply_with given))
    answer_turned (Ok found_) = refl
    answer_turned (Err fault) = refl

    no_writes : (fault : NewRowFault) → selects s ≡ false → MakesNone (writes_made table bound rows) fault
        → Follows o h t s table.shape rows h (Ends (replies.No (of_new_row fault)))
    no_writes row_faults.Memory not none = falls_short refusals.Memory refl
    no_writes fault not none = failed fault not none
      where
        failed : (fault : NewRowFault) → selects s ≡ false → writes_made table bound rows ≡ Err fault
            → Follows o h t s table.shape rows h (Ends (replies.No (of_new_row fault)))
        failed fault not none = has_fault fault not
            (events_told t s table bound rows is ∙ ap (made_of (map (event_of t table.name))) none)

    starts_follow : (turn : Turn P) → selects s ≡ false → StartsToWrite m new o h t table bound rows turn
        → FollowTold m new o h t s table.shape rows turn
    starts_follow turn not (begins made makes begun) =
        subst (FollowTold m new o h t s table.shape rows) (sym begun.stands_so)
        (let it = marks_tell {P = P} m new o h t s table begun.left begun.table_stays made begun.result begun.writes in
        record {
          after = it.after;
          comes = it.comes;
          follows = writes_so (map (event_of t table.name) made) it.after it.comes not
              (events_told t s table bound rows is ∙ ap (made_of (map (event_of t table.name))) makes)
              (subst (λ (n : ℕ). Marks o h t (outcomes.Count n) (map (event_of t table.name) made) it.after it.comes)
              (as_many_made bound.statement bound.places.items table.shape rows made
              (subst WritesFound (sym is.binds.statement) (writes_found table.shape.columns s reads_ not)) makes)
              it.marks);
          stands = it.stands;
          stays = it.stays;
          active = it.active;
          told = it.told;
        })
    starts_follow turn not (makes_none fault none so stands) =
        subst (FollowTold m new o h t s table.shape rows) (sym so) (record {
          after = h;
          comes = Ends (replies.No (of_new_row fault));
          follows = no_writes fault not none;
          stands = stands;
          stays = tt;
          active = λ was. ap is_active was;
          told = refl;
        })

    goes_follow : (turn : Turn P) → GoesOnWith m new o h t table bound rows turn
        → FollowTold m new o h t s table.shape rows turn
    goes_follow turn (answers given so told stands) =
        subst (FollowTold m new o h t s table.shape rows) (sym told) (record {
          after = h;
          comes = Ends (reply_with given);
          follows = answers_so given
              (answers_selects table.shape.columns s bound.places.items table.shape.key rows given
              (subst (λ (p : Plain). BoundAnswers p bound.places.items table.shape.key rows given)
              is.binds.statement so))
              (answers_here given so);
          stands = stands;
          stays = tt;
          active = λ was. ap is_active was;
          told = answer_turned given;
        })
    goes_follow turn (writes other starts) = starts_follow turn (sym selects_as ∙ other) starts

module _ {R P : Type 0} (m : Means R P) (new : R) (o : Opening) (h : Entries) (t : TxNo) (s : Plain) (taken : ℕ)
    (table : Table) (bound : Bound) (count : ℕ) (reads_ : reads s ≡ true) (is : IsBoundHere s table bound)
    (fewer : count ≤ taken) (active : state_of o h t.0 ≡ Active)
    (seen : shape_seen o h t.0 table.name ≡ Some table.shape) where
  shape_is : shape_seen o h t.0 (table_of s) ≡ Some table.shape
  shape_is = subst (λ (n : List ℕ). shape_seen o h t.0 n ≡ Some table.shape) is.named seen

  filter_is : tree_in (filter_in bound.statement) ≡ filter_of (bound_plain table.shape.columns s)
  filter_is = filter_told bound.statement ∙ ap filter_of is.binds.statement

  found_is : found_there o h t.0 table bound ≡ rows_found o h t table.shape s
  found_is = ap (λ (filter : Option Tree). found filter (map (λ r. r.1) (rows_of (view o h t.0) table.name))) filter_is
      ∙ ap (λ (n : List ℕ). found (filter_of (bound_plain table.shape.columns s))
      (map (λ r. r.1) (rows_of (view o h t.0) n))) is.named

  its_find : IsFind t s table.shape (find_of t table bound)
  its_find = record {
    filter = filter_in bound.statement;
    is = ap (λ (n : List ℕ). events.Find t n (filter_in bound.statement)) is.named;
    bound = filter_is;
  }

  its_read : (rows : List Cells) → found_there o h t.0 table bound ≡ Some rows → length rows ≡ count
      → IsRead o h t s taken table.shape rows
  its_read rows found_ counts = record {
    visits = reads_;
    seen = shape_is;
    found = sym found_is ∙ found_;
    enough = subst (λ (n : ℕ). n ≤ taken) (sym counts) fewer;
  }

  finds_tell : (rows : List Cells) (turn : Turn P) → IsRead o h t s taken table.shape rows
      → Finds m new o h t table bound rows turn → Tells m new o h t s (Begun s taken) turn
  finds_tell rows turn read (inl (refusal, so, came)) =
      subst (Tells m new o h t s (Begun s taken)) (sym so) (record {
        after = entry (find_of t table bound) (No refusal) ∷ h;
        comes = refused refusal;
        steps = finds_not s taken table.shape rows (find_of t table bound) refusal read its_find came.lawful;
        stands = came.stands;
        stays = tt;
        active = λ was. ap is_active was;
        told = refl;
      })
  finds_tell rows turn read (inr (lawful, goes)) =
      let it = goes_follow m new o (entry (find_of t table bound) (Rows rows) ∷ h) t s table bound reads_ is rows turn
      goes in record {
        after = it.after;
        comes = it.comes;
        steps = finds s taken table.shape rows (find_of t table bound) it.after it.comes read its_find lawful
            it.follows;
        stands = it.stands;
        stays = it.stays;
        active = it.active;
        told = it.told;
      }

  one_taken : {n : ℕ} → n ≤ taken + 1 → (y : ℕ) × (Begun s (taken + 1) ≡ Begun s y) × (n ≤ y)
  one_taken less = (taken + 1, refl, less)

  reading_tells : (turn : Turn P) → Reads m new o h t table bound count turn
      → Tells m new o h t s (Begun s taken) turn
  reading_tells turn (comes_on after so bounds tables stands read more) =
      let kept_ : length after.kept.items ≤ taken + 1 = omega (arith, more, fewer) in
      subst (Tells m new o h t s (Begun s taken)) (sym so) (record {
        after = h;
        comes = Later (Begun s (taken + 1));
        steps = visits s taken reads_;
        stands = stands;
        stays = read;
        active = λ was. ap is_active was;
        told = (
          reads_,
          subst (λ (y : Table × Bound). IsBoundHere s y.0 y.1) (sym (λ k. (tables k, bounds k))) is,
          one_taken kept_,
        );
      })
  reading_tells turn (finds_all rows found_ counts goes) = finds_tell rows turn (its_read rows found_ counts) goes
  reading_tells turn (faults_on none so stands) =
      subst (Tells m new o h t s (Begun s taken)) (sym so) (record {
        after = h;
        comes = Ends (replies.No Arithmetic);
        steps = faults s taken table.shape reads_ shape_is (sym found_is ∙ none);
        stands = stands;
        stays = tt;
        active = λ was. ap is_active was;
        told = refl;
      })
  reading_tells turn (stops_so refusal refused_ so stands) =
      subst (Tells m new o h t s (Begun s taken)) (sym so) (record {
        after = h;
        comes = refused refusal;
        steps = stops s taken refusal (refused_outside o h t.0 refusal active refused_);
        stands = stands;
        stays = tt;
        active = λ was. ap is_active was;
        told = refl;
      })

pub reads_tell : {R P : Type 0} (m : Means R P) → ReadsTell m
reads_tell m new o h t s taken table bound count turn reads_ is fewer active seen goes =
    reading_tells m new o h t s taken table bound count reads_ is fewer active seen turn goes

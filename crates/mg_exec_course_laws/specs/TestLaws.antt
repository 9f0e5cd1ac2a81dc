-- The tests of a statement that has looked.
use Rattle.std.proofs.Common.{◌≡◌, ◌⊎◌, inl, inr, ◌&&◌, ◌||◌, ◌≤◌, ℕ, Bool, false, true, List, [], Option, None, Some, Result, Ok, Err, refl, sym, ap, ◌∙◌, subst, arith}
use Rattle.std.specs.Prelude.{if◌then◌else◌, length}
use Rattle.std.proofs.lemmas.Bool.{false≢true}
use Rattle.mg_base.specs.declared.numbers.TxNo.{TxNo}
use Rattle.mg_base.specs.declared.transaction.TxState.TheVariants.{Active}
use Rattle.mg_value.specs.declared.shape.Shape.{Shape}
use Rattle.mg_value.specs.declared.value.Value.{Value}
use Rattle.mg_statements.specs.declared.statement.Def.{Def}
use Rattle.mg_statements.specs.Plain.{Plain, Delete, Insert, RollbackTo, Savepoint, Select, Table as Creation, Totals, Update}
use Rattle.mg_plan.specs.declared.bound.Bound.{Bound}
use Rattle.mg_plan.specs.declared.fault.PlanFault.{PlanFault}
use Rattle.mg_plan.specs.Refusing.{first_refusal}
use Rattle.mg_model.specs.declared.opening.Opening.{Opening}
use Rattle.mg_model.specs.declared.refusal.Refusal.{Refusal}
use Rattle.mg_model.specs.declared.refusal.Refusal.TheVariants as refusals
use Rattle.mg_model.specs.declared.table.Table.{Table}
use Rattle.mg_model.specs.Answers.{is_active}
use Rattle.mg_model.specs.Catalog.{catalog_name}
use Rattle.mg_model.specs.Changes.{Cells, KeyedRows, same_name}
use Rattle.mg_model.specs.History.{Entries}
use Rattle.mg_model.specs.Machine.{state_of}
use Rattle.mg_records.specs.Adding.{IsRefused}
use Rattle.mg_records.specs.Meaning.{Means}
use Rattle.mg_records.specs.Reading.{shape_seen}
use Rattle.mg_rows.specs.declared.statement_fault.StatementFault.{StatementFault}
use Rattle.mg_rows.specs.declared.statement_fault.StatementFault.TheVariants.{Engine}
use Rattle.mg_exec.specs.declared.phase.Phase.{Phase}
use Rattle.mg_exec.specs.declared.phase.Phase.TheVariants as phases
use Rattle.mg_exec.specs.NewTables.{IsWhyNoTable, TestsTable, is_taken, may_not, not_lawful, not_read, short_of_memory, taken, IsPlanned}
use Rattle.mg_exec.specs.Phases.{is_insert, is_writing, may_not_write}
use Rattle.mg_exec.specs.Starting.{IsStarted, IsWhyNot, Tests, it_writes, no_memory, no_table, not_bound, not_told}
use Rattle.mg_transcript.specs.Courses.{Begun}
use Rattle.mg_transcript.specs.Statements.{binding_fault, columns_in, fault_of, first_of, key_in, looks, mode_fault, reads, table_fault, table_of, writes}
use Rattle.mg_transcript.specs.OutsideLaws.{refused_outside}
use Rattle.mg_transcript.specs.Steps.{is_outside}
use Rattle.mg_exec_course_laws.specs.Courses.{IsBoundHere, IsCourse, IsOutsideFault, IsTestTold, TestsTell}
use Rattle.mg_exec.specs.declared.phase.NewTable.{NewTable}
use Rattle.mg_exec_course_laws.specs.InsertLaws.{bound_insert}

-- ---- refusals from outside

from_outside : (refusal : Refusal) → is_outside refusal ≡ true → IsOutsideFault (Engine refusal)
from_outside refusal outside = record { refusal = refusal; is = refl; outside = outside }

-- ---- the first fault

writes_is : (s : Plain) → writes s ≡ is_writing s
writes_is (Creation name columns) = refl
writes_is (Insert table columns values) = refl
writes_is (Update table sets filter) = refl
writes_is (Delete table filter) = refl
writes_is s = refl

mode_is : (read_only : Bool) (s : Plain) → (read_only && writes s) ≡ may_not_write read_only s
mode_is read_only s = ap (λ (b : Bool). read_only && b) (writes_is s)

mode_of_fault : (read_only : Bool) (s : Plain) (b : Bool) → may_not_write read_only s ≡ b
    → mode_fault read_only s ≡ (if b then Some (Engine refusals.ReadOnly) else None)
mode_of_fault read_only s b is = ap (λ (x : Bool). if x then Some (Engine refusals.ReadOnly) else None)
    (mode_is read_only s ∙ is)

module _ (read_only : Bool) (seen : Option Shape) (size : ℕ) (s : Plain) where
  abbrev bound_fault : Option StatementFault
  bound_fault = binding_fault (first_refusal (columns_in seen) (key_in seen) size s)

  by_mode : may_not_write read_only s ≡ true → fault_of read_only seen size s ≡ Some (Engine refusals.ReadOnly)
  by_mode is = ap (λ (x : Option StatementFault). first_of x (first_of (table_fault s seen) bound_fault))
      (mode_of_fault read_only s true is)

  past_mode : may_not_write read_only s ≡ false
      → fault_of read_only seen size s ≡ first_of (table_fault s seen) bound_fault
  past_mode is = ap (λ (x : Option StatementFault). first_of x (first_of (table_fault s seen) bound_fault))
      (mode_of_fault read_only s false is)

  by_table : (fault : StatementFault) → may_not_write read_only s ≡ false → table_fault s seen ≡ Some fault
      → fault_of read_only seen size s ≡ Some fault
  by_table fault may is = past_mode may ∙ ap (λ (x : Option StatementFault). first_of x bound_fault) is

  past_table : may_not_write read_only s ≡ false → table_fault s seen ≡ None
      → fault_of read_only seen size s ≡ bound_fault
  past_table may is = past_mode may ∙ ap (λ (x : Option StatementFault). first_of x bound_fault) is

  by_binding : (refusal : Option PlanFault) → may_not_write read_only s ≡ false → table_fault s seen ≡ None
      → first_refusal (columns_in seen) (key_in seen) size s ≡ refusal
      → fault_of read_only seen size s ≡ binding_fault refusal
  by_binding refusal may is refuses = past_table may is ∙ ap binding_fault refuses

-- ---- a statement of a table

-- a statement that names a table which it does not make
abbrev NamesTable : Plain → Type 0
NamesTable (Insert table columns values) = Unit {0}
NamesTable (Update table sets filter) = Unit {0}
NamesTable (Delete table filter) = Unit {0}
NamesTable (Totals table totals filter) = Unit {0}
NamesTable (Select table values filter sorted) = Unit {0}
NamesTable s = ⊥

no_fault : (s : Plain) → NamesTable s → (shape : Shape) → table_fault s (Some shape) ≡ None
no_fault (Insert table columns values) names shape = refl
no_fault (Update table sets filter) names shape = refl
no_fault (Delete table filter) names shape = refl
no_fault (Totals table totals filter) names shape = refl
no_fault (Select table values filter sorted) names shape = refl
no_fault s names shape = absurd names

its_fault : (s : Plain) → NamesTable s → table_fault s None ≡ Some (Engine refusals.NoTable)
its_fault (Insert table columns values) names = refl
its_fault (Update table sets filter) names = refl
its_fault (Delete table filter) names = refl
its_fault (Totals table totals filter) names = refl
its_fault (Select table values filter sorted) names = refl
its_fault s names = absurd names

names_looks : (s : Plain) → NamesTable s → looks s ≡ true
names_looks (Insert table columns values) names = refl
names_looks (Update table sets filter) names = refl
names_looks (Delete table filter) names = refl
names_looks (Totals table totals filter) names = refl
names_looks (Select table values filter sorted) names = refl
names_looks s names = absurd names

-- one that is no INSERT reads it
reads_named : (s : Plain) → NamesTable s → is_insert s ≡ false → reads s ≡ true
reads_named (Insert table columns values) names other = absurd (false≢true (sym other))
reads_named (Update table sets filter) names other = refl
reads_named (Delete table filter) names other = refl
reads_named (Totals table totals filter) names other = refl
reads_named (Select table values filter sorted) names other = refl
reads_named s names other = absurd names

-- no step was taken yet
abbrev NoneTaken : Plain → Type 0
NoneTaken s = (taken : ℕ) × (Begun s 0 ≡ Begun s taken)

none_taken : (s : Plain) → NoneTaken s
none_taken s = (0, refl)

none_kept : (s : Plain) (kept : KeyedRows) → kept ≡ []
    → (taken : ℕ) × (Begun s 0 ≡ Begun s taken) × (length kept ≤ taken)
none_kept s kept none = (0, refl, subst (λ (n : ℕ). n ≤ 0) (sym (ap (length {A = Value × Cells}) none)) (omega arith))

module _ {R P : Type 0} (m : Means R P) (new : R) (o : Opening) (h : Entries) (t : TxNo) (read_only : Bool) (size : ℕ)
    (active : state_of o h t.0 ≡ Active) where
  module _ (s : Plain) (names : NamesTable s) where
    abbrev told : Option StatementFault
    told = fault_of read_only (shape_seen o h t.0 (table_of s)) size s

    seen_as : (seen : Option Shape) → shape_seen o h t.0 (table_of s) ≡ seen → told ≡ fault_of read_only seen size s
    seen_as seen is = ap (λ (x : Option Shape). fault_of read_only x size s) is

    why_told : (fault : StatementFault) → IsWhyNot o h t.0 read_only s (table_of s) size fault
        → (told ≡ Some fault) ⊎ IsOutsideFault fault
    why_told fault (it_writes is) = inl (by_mode read_only (shape_seen o h t.0 (table_of s)) size s is)
    why_told fault (no_table may is) = inl (seen_as None is
        ∙ by_table read_only None size s (Engine refusals.NoTable) may (its_fault s names))
    why_told fault (not_told refusal may refused) = inr (from_outside refusal (refused_outside o h t.0 refusal active refused))
    why_told fault (not_bound shape refusal may is refuses) = inl (seen_as (Some shape) is
        ∙ by_binding read_only (Some shape) size s (Some refusal) may (no_fault s names shape) refuses)
    why_told fault no_memory = inr (from_outside refusals.Memory refl)

    bound_here : (phase : Phase P) → (st : IsStarted m new o h t.0 read_only s (table_of s) size phase)
        → IsBoundHere s st.table st.bound
    bound_here phase st = record { named = st.named; binds = st.binds }

    course_of : (phase : Phase P) → IsStarted m new o h t.0 read_only s (table_of s) size phase
        → IsCourse t s phase (Begun s 0)
    course_of (phases.Inserting i) st = (
      sym (ap is_insert st.binds.statement ∙ bound_insert st.table.shape.columns s) ∙ st.begins.0,
      subst (λ (y : Table × Bound). IsBoundHere s y.0 y.1) (sym (λ k. (st.begins.1 k, st.begins.2 k)))
          (bound_here (phases.Inserting i) st),
      none_taken s,
    )
    course_of (phases.Reading reading) st = (
      reads_named s names (sym (ap is_insert st.binds.statement ∙ bound_insert st.table.shape.columns s) ∙ st.begins.0),
      subst (λ (y : Table × Bound). IsBoundHere s y.0 y.1) (sym (λ k. (st.begins.1 k, st.begins.3 k)))
          (bound_here (phases.Reading reading) st),
      none_kept s reading.kept.items st.begins.4,
    )
    course_of phase st = absurd st.begins

    rows_told : (result : Result (Phase P) StatementFault)
        → Tests m new o h t read_only s (table_of s) size result → IsTestTold m new o h t read_only size s result
    rows_told (Ok phase) tests = (
      tests.0,
      inr (seen_as (Some tests.1.table.shape) tests.1.seen
          ∙ by_binding read_only (Some tests.1.table.shape) size s None tests.1.may
          (no_fault s names tests.1.table.shape) tests.1.passes),
      course_of phase tests.1,
    )
    rows_told (Err fault) tests = (tests.0, names_looks s names, why_told fault tests.1)

  -- ---- CREATE TABLE

  module _ (name : List ℕ) (columns : List Def) where
    abbrev new_told : Option StatementFault
    new_told = fault_of read_only (shape_seen o h t.0 name) size (Creation name columns)

    -- a table of the name is there, or it is the catalog's
    taken_fault : (seen : Option Shape) → is_taken name seen ≡ true
        → table_fault (Creation name columns) seen ≡ Some (Engine refusals.TableExists)
    taken_fault seen is = ap (λ (b : Bool). if b then Some (Engine refusals.TableExists) else None) is

    free_fault : (seen : Option Shape) → is_taken name seen ≡ false → (refusal : Option PlanFault)
        → may_not_write read_only (Creation name columns) ≡ false
        → first_refusal [] 0 size (Creation name columns) ≡ refusal
        → fault_of read_only seen size (Creation name columns) ≡ binding_fault refusal
    free_fault None is refusal may refuses = by_binding read_only None size (Creation name columns) refusal may
        (ap (λ (b : Bool). if b then Some (Engine refusals.TableExists) else None) is) refuses
    free_fault (Some shape) is refusal may refuses = absurd (never (same_name name catalog_name) is)
      where
        never : (b : Bool) → (b || true) ≡ false → ⊥
        never true wrong = false≢true (sym wrong)
        never false wrong = false≢true (sym wrong)

    why_no_table : (fault : StatementFault) → IsWhyNoTable o h t.0 read_only (Creation name columns) name size fault
        → (new_told ≡ Some fault) ⊎ IsOutsideFault fault
    why_no_table fault (may_not is) = inl (by_mode read_only (shape_seen o h t.0 name) size (Creation name columns) is)
    why_no_table fault (taken may is) = inl (by_table read_only (shape_seen o h t.0 name) size (Creation name columns)
        (Engine refusals.TableExists) may (taken_fault (shape_seen o h t.0 name) is))
    why_no_table fault (not_read refusal may other refused) =
        inr (from_outside refusal (refused_outside o h t.0 refusal active refused))
    why_no_table fault (not_lawful refusal may is refuses) =
        inl (free_fault (shape_seen o h t.0 name) is (Some refusal) may refuses)
    why_no_table fault short_of_memory = inr (from_outside refusals.Memory refl)

    new_course : (table : NewTable) → IsPlanned (Creation name columns) name size table
        → IsCourse {P = P} t (Creation name columns) (phases.Creating table) (Begun (Creation name columns) 0)
    new_course table planned = (
      record {
        columns = columns;
        statement = ap (λ (n : List ℕ). Creation n columns) (sym planned.named);
        shaped = planned.shaped;
      },
      none_taken (Creation name columns),
    )

    table_told : (result : Result (Phase P) StatementFault)
        → TestsTable m new o h t read_only (Creation name columns) name size result
        → IsTestTold m new o h t read_only size (Creation name columns) result
    table_told (Ok (phases.Creating table)) tests = (
      tests.0,
      inr (free_fault (shape_seen o h t.0 name) tests.1.free None tests.1.may tests.1.planned.passes),
      new_course table tests.1.planned,
    )
    table_told (Ok phase) tests = absurd tests
    table_told (Err fault) tests = (tests.0, refl, why_no_table fault tests.1)

  -- ---- a savepoint

  saving_course : (name : List ℕ)
      → IsCourse {P = P} t (Savepoint name) (phases.Saving name) (Begun (Savepoint name) 0)
  saving_course name = (refl, none_taken (Savepoint name))

  returning_course : (name : List ℕ)
      → IsCourse {P = P} t (RollbackTo name) (phases.Returning name) (Begun (RollbackTo name) 0)
  returning_course name = (refl, none_taken (RollbackTo name))

  saving_told : (name : List ℕ) (result : Result (Phase P) StatementFault) → result ≡ Ok (phases.Saving name)
      → m.stands new o h → IsTestTold m new o h t read_only size (Savepoint name) result
  saving_told name result is stands = subst (IsTestTold m new o h t read_only size (Savepoint name)) (sym is)
      (stands, inl refl, saving_course name)

  returning_told : (name : List ℕ) (result : Result (Phase P) StatementFault) → result ≡ Ok (phases.Returning name)
      → m.stands new o h → IsTestTold m new o h t read_only size (RollbackTo name) result
  returning_told name result is stands = subst (IsTestTold m new o h t read_only size (RollbackTo name)) (sym is)
      (stands, inl refl, returning_course name)

pub tests_tell : {R P : Type 0} (m : Means R P) → TestsTell m
tests_tell m new o h t read_only size (Savepoint name) result active tests =
    saving_told m new o h t read_only size active name result tests.0 tests.1
tests_tell m new o h t read_only size (RollbackTo name) result active tests =
    returning_told m new o h t read_only size active name result tests.0 tests.1
tests_tell m new o h t read_only size (Creation name columns) result active tests =
    table_told m new o h t read_only size active name columns result tests
tests_tell m new o h t read_only size (Insert table columns values) result active tests =
    rows_told m new o h t read_only size active (Insert table columns values) tt result tests
tests_tell m new o h t read_only size (Update table sets filter) result active tests =
    rows_told m new o h t read_only size active (Update table sets filter) tt result tests
tests_tell m new o h t read_only size (Delete table filter) result active tests =
    rows_told m new o h t read_only size active (Delete table filter) tt result tests
tests_tell m new o h t read_only size (Totals table totals filter) result active tests =
    rows_told m new o h t read_only size active (Totals table totals filter) tt result tests
tests_tell m new o h t read_only size (Select table values filter sorted) result active tests =
    rows_told m new o h t read_only size active (Select table values filter sorted) tt result tests
tests_tell m new o h t read_only size s result active tests = absurd tests

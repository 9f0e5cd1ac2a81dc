-- Where a statement begins that was tested.
use Rattle.std.proofs.Common.{◌≡◌, ℕ, Bool, false, List, [], ◌∷◌, Ok, refl, sym, ap, subst}
use Rattle.mg_base.specs.declared.numbers.TxNo.{TxNo}
use Rattle.mg_statements.specs.Plain.{Plain, RollbackTo, Savepoint, Table as Creation, Insert, Update, Delete, Totals, Select}
use Rattle.mg_model.specs.declared.opening.Opening.{Opening}
use Rattle.mg_model.specs.declared.answer.Answer.TheVariants.{Fine}
use Rattle.mg_model.specs.declared.event.Event.TheVariants as events
use Rattle.mg_model.specs.History.{Entries, entry}
use Rattle.mg_records.specs.Meaning.{Means}
use Rattle.mg_records.specs.Reading.{shape_seen}
use Rattle.mg_exec.specs.declared.phase.Phase.{Phase}
use Rattle.mg_exec.specs.declared.phase.Phase.TheVariants as phases
use Rattle.mg_exec.specs.NewTables.{is_taken}
use Rattle.mg_exec.specs.Starting.{Tests, TestsAny}
use Rattle.mg_exec.specs.Statements.{BeginsTested, IsAt, table_named}
use Rattle.mg_exec.proofs.GiveLemmas.{inside, is_at}

rows_tested : {R P : Type 0} (m : Means R P) (new : R) (o : Opening) (h : Entries) (t : TxNo) (read_only : Bool)
    (s : Plain) (size : ℕ) (phase : Phase P) → Tests m new o h t read_only s (table_named s) size (Ok phase)
    → m.stands new o h × IsAt m new o h h (record { t = t; read_only = read_only; statement = s; size = size })
    (entry (events.Look t) Fine ∷ []) phase
rows_tested m new o h t read_only s size phase tests =
    (tests.0, is_at m new o h t read_only s size phase tests.1)

pub test_begins : {R P : Type 0} (m : Means R P) (new : R) (o : Opening) (h : Entries) (t : TxNo) (read_only : Bool)
    (s : Plain) (size : ℕ) (phase : Phase P) → TestsAny m new o h t read_only s size (Ok phase)
    → BeginsTested m new o h (record { t = t; read_only = read_only; statement = s; size = size }) phase
test_begins {P = P} m new o h t read_only (Savepoint name) size phase tests = record {
  stands = tests.1;
  at = subst (λ (phase : Phase P). IsAt m new o h h
      (record { t = t; read_only = read_only; statement = Savepoint name; size = size }) [] phase)
      (sym (inside phase _ tests.0)) (refl, refl);
}
test_begins {P = P} m new o h t read_only (RollbackTo name) size phase tests = record {
  stands = tests.1;
  at = subst (λ (phase : Phase P). IsAt m new o h h
      (record { t = t; read_only = read_only; statement = RollbackTo name; size = size }) [] phase)
      (sym (inside phase _ tests.0)) (refl, refl);
}
test_begins m new o h t read_only (Creation name columns) size (phases.Creating table) tests = record {
  stands = tests.0;
  at = (
    record {
      columns = columns;
      statement = ap (λ (name : List ℕ). Creation name columns) (sym tests.1.planned.named);
      may = tests.1.may;
      free = subst (λ (name : List ℕ). is_taken name (shape_seen o h t.0 name) ≡ false)
          (sym tests.1.planned.named) tests.1.free;
      passes = tests.1.planned.passes;
      shaped = tests.1.planned.shaped;
    },
    refl,
  );
}
test_begins m new o h t read_only (Creation name columns) size phase tests = absurd tests
test_begins m new o h t read_only (Insert table columns values) size phase tests =
    let it = rows_tested m new o h t read_only (Insert table columns values) size phase tests in
    record { stands = it.0; at = it.1 }
test_begins m new o h t read_only (Update table sets filter) size phase tests =
    let it = rows_tested m new o h t read_only (Update table sets filter) size phase tests in
    record { stands = it.0; at = it.1 }
test_begins m new o h t read_only (Delete table filter) size phase tests =
    let it = rows_tested m new o h t read_only (Delete table filter) size phase tests in
    record { stands = it.0; at = it.1 }
test_begins m new o h t read_only (Totals table totals filter) size phase tests =
    let it = rows_tested m new o h t read_only (Totals table totals filter) size phase tests in
    record { stands = it.0; at = it.1 }
test_begins m new o h t read_only (Select table values filter sorted) size phase tests =
    let it = rows_tested m new o h t read_only (Select table values filter sorted) size phase tests in
    record { stands = it.0; at = it.1 }
test_begins m new o h t read_only s size phase tests = absurd tests

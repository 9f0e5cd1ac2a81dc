-- How a step comes nearer to the end of its statement.
use Rattle.std.proofs.Common.{◌≡◌, ℕ, ◌<◌, ◌≤◌, ◌+◌, ◌*◌, Bool, true, false, ◌∷◌, [], List, length, Option, Some, None, Result, Ok, Err, sym, ap, subst, ◌∙◌, arith}
use Rattle.std.proofs.lemmas.List.{length-append}
use Rattle.mg_value.specs.declared.value.Value.{Value}
use Rattle.mg_expr.specs.declared.fault.EvalFault.{EvalFault}
use Rattle.mg_model.specs.declared.refusal.Refusal.TheVariants as refusals
use Rattle.mg_model.specs.Changes.{Cells, KeyedRows}
use Rattle.mg_records.specs.Meaning.{Means}
use Rattle.mg_rows.specs.declared.outcome.Outcome.{Outcome}
use Rattle.mg_rows.specs.declared.statement_fault.StatementFault.{StatementFault}
use Rattle.mg_rows.specs.declared.statement_fault.StatementFault.TheVariants.{Engine, Arithmetic}
use Rattle.mg_rows.specs.Found.{Keeps}
use Rattle.mg_calls.specs.declared.walking.Walk.{Walk}
use Rattle.mg_calls.specs.declared.walking.Visit.TheVariants as visits
use Rattle.mg_calls.specs.declared.writing.Written.{Written}
use Rattle.mg_calls.specs.declared.writing.Written.TheVariants as written
use Rattle.mg_calls.specs.Walks.{Progresses}
use Rattle.mg_exec.specs.declared.phase.Changing.{Changing}
use Rattle.mg_exec.specs.declared.phase.Inserting.{Inserting}
use Rattle.mg_exec.specs.declared.phase.NewTable.{NewTable}
use Rattle.mg_exec.specs.declared.phase.Phase.{Phase}
use Rattle.mg_exec.specs.declared.phase.Phase.TheVariants as phases
use Rattle.mg_exec.specs.declared.phase.Reading.{Reading}
use Rattle.mg_exec.specs.declared.phase.Step.{Step}
use Rattle.mg_exec.specs.declared.phase.Step.TheVariants.{More, Done}
use Rattle.mg_exec.specs.declared.phase.Turn.{Turn}
use Rattle.mg_exec.specs.Creating.{turned_table}
use Rattle.mg_exec.specs.Selecting.{answer_told}
use Rattle.mg_exec.specs.Phases.{ended}
use Rattle.mg_exec.specs.Progress.{Advances, HasOneLess, IsAtEnd, IsBehind, IsOneOf, MakesOneWrite, Nears}
use Rattle.mg_exec.specs.Reading.{KeepsRow, passes_of}

-- ---- statements at their end

done_is : (P : Type 0) (outcome : Outcome) → IsAtEnd {P = P} (ended (Ok (Done outcome)))
done_is P outcome = λ more. absurd cc

refused_is : (P : Type 0) (fault : StatementFault) → IsAtEnd {P = P} (ended (Err fault))
refused_is P fault = λ more. absurd cc

pub done_at_end : {P : Type 0} (outcome : Outcome) (turn : Turn P) → turn ≡ ended (Ok (Done outcome))
    → IsAtEnd turn
done_at_end {P = P} outcome turn is = subst (λ (turn : Turn P). IsAtEnd turn) (sym is) (done_is P outcome)

pub refused_at_end : {P : Type 0} (fault : StatementFault) (turn : Turn P) → turn ≡ ended (Err fault)
    → IsAtEnd turn
refused_at_end {P = P} fault turn is = subst (λ (turn : Turn P). IsAtEnd turn) (sym is) (refused_is P fault)

told_is : (P : Type 0) (given : Result (List Cells) EvalFault) → IsAtEnd {P = P} (ended (answer_told given))
told_is P (Ok rows) = λ more. absurd cc
told_is P (Err fault) = λ more. absurd cc

pub told_at_end : {P : Type 0} (given : Result (List Cells) EvalFault) (told : Result Step StatementFault)
    (turn : Turn P) → told ≡ answer_told given → turn ≡ ended told → IsAtEnd turn
told_at_end {P = P} given told turn is same =
    subst (λ (turn : Turn P). IsAtEnd turn)
    (sym (same ∙ ap (λ (a : Result Step StatementFault). ended {P = P} a) is)) (told_is P given)

table_at_end : (P : Type 0) (table : NewTable) (result : Written)
    → IsAtEnd {P = P} (turned_table table result)
table_at_end P table written.Done = λ more. absurd cc
table_at_end P table (written.Waits on) = λ more. absurd cc
table_at_end P table (written.Refused refusal) = λ more. absurd cc
table_at_end P table (written.RolledBack refusal) = λ more. absurd cc

pub turned_at_end : {P : Type 0} (table : NewTable) (result : Written) (turn : Turn P)
    → turn ≡ turned_table table result → IsAtEnd turn
turned_at_end {P = P} table result turn is =
    subst (λ (turn : Turn P). IsAtEnd turn) (sym is) (table_at_end P table result)

pub end_nears : {R P : Type 0} (m : Means R P) (old new : R) (t : ℕ) (before : Phase P) (turn : Turn P)
    → IsAtEnd turn → Nears m old new t before turn
end_nears m old new t before turn end = λ more. absurd (end more)

-- ---- the first write

reading_on : {R P : Type 0} (m : Means R P) (old new : R) (t : ℕ) (before : Reading P) (phase : Phase P)
    → IsOneOf (length before.kept.items + 1) phase → Advances m old new t (phases.Reading before) phase
reading_on m old new t before (phases.Changing c) is =
    record { one = is.0; nearer = omega (arith, is.0, is.1) }
reading_on m old new t before phase is = absurd is

pub reading_behind : {R P : Type 0} (m : Means R P) (old new : R) (t : ℕ) (before : Reading P)
    (turn : Turn P) → IsBehind (length before.kept.items + 1) turn
    → Nears m old new t (phases.Reading before) turn
reading_behind m old new t before turn behind = λ more.
    reading_on m old new t before turn.phase (behind more)

inserting_on : {R P : Type 0} (m : Means R P) (old new : R) (t : ℕ) (before : Inserting) (phase : Phase P)
    → IsOneOf 1 phase → Advances m old new t (phases.Inserting before) phase
inserting_on m old new t before (phases.Changing c) is =
    record { one = is.0; nearer = omega (arith, is.0, is.1) }
inserting_on m old new t before phase is = absurd is

pub inserting_behind : {R P : Type 0} (m : Means R P) (old new : R) (t : ℕ) (before : Inserting)
    (turn : Turn P) → IsBehind 1 turn → Nears m old new t (phases.Inserting before) turn
inserting_behind m old new t before turn behind = λ more.
    inserting_on m old new t before turn.phase (behind more)

-- ---- a further write

changing_on : {R P : Type 0} (m : Means R P) (old new : R) (t : ℕ) (before : Changing) (phase : Phase P)
    → HasOneLess before phase → Advances m old new t (phases.Changing before) phase
changing_on m old new t before (phases.Changing c) is =
    record { one = is; nearer = omega (arith, is.1) }
changing_on m old new t before phase is = absurd is

pub changing_behind : {R P : Type 0} (m : Means R P) (old new : R) (t : ℕ) (before : Changing)
    (turn : Turn P) → MakesOneWrite before turn → Nears m old new t (phases.Changing before) turn
changing_behind m old new t before turn makes = λ more.
    changing_on m old new t before turn.phase (makes more)

-- ---- a visit

kept_more : (passed : Option Bool) (row : Value × Cells) (old new : KeyedRows) (done : Unit {0})
    → Keeps passed row old new (Ok done) → length new ≤ length old + 1
kept_more None row old new done keeps = absurd keeps
kept_more (Some false) row old new done keeps =
    omega (arith, ap (length {A = Value × Cells}) keeps)
kept_more (Some true) row old new done keeps =
    omega (arith, ap (length {A = Value × Cells}) keeps, length-append {A = Value × Cells} old (row ∷ []))

falls : (a b k n : ℕ) → a < b → k ≤ n + 1 → 2 * a + k + 2 < 2 * b + n + 2
falls a b k n less few = omega (arith, less, few)

visited : {R P : Type 0} (m : Means R P) (old new : R) (t : ℕ) (before after : Reading P)
    → after.walk.table ≡ before.walk.table
    → m.still new t after.walk.table after.walk.place < m.still old t before.walk.table before.walk.place
    → length after.kept.items ≤ length before.kept.items + 1
    → Advances m old new t (phases.Reading before) (phases.Reading after)
visited m old new t before after same less few = record {
  one = (same, less);
  nearer = falls (m.still new t after.walk.table after.walk.place)
      (m.still old t before.walk.table before.walk.place) (length after.kept.items)
      (length before.kept.items) less few;
}

-- a record in which the transaction sees no row
pub no_row_nears : {R P : Type 0} (m : Means R P) (old new : R) (t : ℕ) (before : Reading P)
    (walk : Walk P) → walk.table ≡ before.walk.table
    → Progresses m old new t before.walk walk (Ok (visits.Record None))
    → Advances m old new t (phases.Reading before)
    (phases.Reading (record { walk = walk; bound = before.bound; kept = before.kept }))
no_row_nears m old new t before walk same less =
    visited m old new t before (record { walk = walk; bound = before.bound; kept = before.kept }) same less
    (omega arith)

-- a record with a row
pub keeps_nears : {R P : Type 0} (m : Means R P) (old new : R) (t : ℕ) (before : Reading P)
    (walk : Walk P) (row : Value × Cells) (phase : Phase P) (answer : Result Step StatementFault)
    → walk.table ≡ before.walk.table
    → Progresses m old new t before.walk walk (Ok (visits.Record (Some row)))
    → KeepsRow (record { walk = walk; bound = before.bound; kept = before.kept }) row phase answer
    → answer ≡ Ok More → Advances m old new t (phases.Reading before) phase
keeps_nears {P = P} m old new t before walk row (phases.Reading after) (Ok More) same less keeps more =
    visited m old new t before after (ap (λ (w : Walk P). w.table) keeps.0 ∙ same)
    (subst (λ (w : Walk P). m.still new t w.table w.place < m.still old t before.walk.table before.walk.place)
    (sym keeps.0) less)
    (kept_more (passes_of before row.1) row before.kept.items after.kept.items tt keeps.2)
keeps_nears m old new t before walk row phases.Ended (Err Arithmetic) same less keeps more = absurd cc
keeps_nears m old new t before walk row phases.Ended (Err (Engine refusals.Memory)) same less keeps more = absurd cc
keeps_nears m old new t before walk row phase answer same less keeps more = absurd keeps

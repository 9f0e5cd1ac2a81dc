-- What a step that writes leaves.
use Rattle.std.proofs.Common.{◌≡◌, ℕ, ◌+◌, ◌≤◌, List, [], ◌∷◌, length, map, Option, Result, Some, None, Ok, Err, refl, sym, ap, subst, ◌∙◌, arith}
use Rattle.std.proofs.lemmas.List.{length-map}
use Rattle.mg_value.specs.declared.shape.Column.{Column}
use Rattle.mg_value.specs.declared.shape.Shape.{Shape}
use Rattle.mg_expr.specs.Trees.{Tree, tree_of}
use Rattle.mg_statements.specs.declared.statement.Statement.{Statement}
use Rattle.mg_statements.specs.declared.statement.Statement.TheVariants as statements
use Rattle.mg_plan.specs.declared.bound.Bound.{Bound}
use Rattle.mg_model.specs.declared.refusal.Refusal.TheVariants as refusals
use Rattle.mg_model.specs.declared.table.Table.{Table}
use Rattle.mg_model.specs.Catalog.{key_of}
use Rattle.mg_model.specs.Changes.{Cells}
use Rattle.mg_records.specs.declared.write.Write.{Write}
use Rattle.mg_records.specs.declared.write.Write.TheVariants as writes
use Rattle.mg_records.specs.Meaning.{Means}
use Rattle.mg_rows.specs.declared.fault.NewRowFault.{NewRowFault}
use Rattle.mg_rows.specs.declared.fault.NewRowFault.TheVariants as faults
use Rattle.mg_rows.specs.declared.statement_fault.StatementFault.{StatementFault}
use Rattle.mg_rows.specs.Faults.{of_new_row}
use Rattle.mg_rows.specs.NewRows.{before as joined, inserted, new_row, updated}
use Rattle.mg_calls.specs.declared.steps.Writes.{Writes}
use Rattle.mg_calls.specs.declared.steps.Wrote.{Wrote}
use Rattle.mg_calls.specs.declared.steps.Wrote.TheVariants as wrote
use Rattle.mg_calls.specs.Quiet.{AreQuiet}
use Rattle.mg_calls.specs.QuietLaws.{calm_by, calm_nothing}
use Rattle.mg_calls.specs.Steps.{AreFewer, StepsOn, ended_at}
use Rattle.mg_exec.specs.declared.phase.Changing.{Changing}
use Rattle.mg_exec.specs.declared.phase.Phase.{Phase}
use Rattle.mg_exec.specs.declared.phase.Phase.TheVariants as phases
use Rattle.mg_exec.specs.declared.phase.Turn.{Turn}
use Rattle.mg_exec.specs.Changing.{turned, with_left}
use Rattle.mg_exec.specs.Making.{changes_of, insertion_of, made_by, writes_made}
use Rattle.mg_exec.specs.Phases.{Leaves, ended, rolled_back_at}
use Rattle.mg_exec.specs.Progress.{IsBehind, IsOneOf, MakesOneWrite}
use Rattle.mg_exec.proofs.FrameLemmas.{frames_none}

-- the transaction that is rolled back at the turn of a write is the one that has ended with it
ends_so : (P : Type 0) (t : ℕ) (after : Writes) (count : ℕ) (result : Wrote)
    → ended_at t result ≡ rolled_back_at {P = P} t (turned (with_left after count) result).phase
ends_so P t after count wrote.More = refl
ends_so P t after count wrote.Done = refl
ends_so P t after count (wrote.Waits on) = refl
ends_so P t after count (wrote.Refused refusal) = refl
ends_so P t after count (wrote.RolledBack refusal) = refl

pub turned_quiet : {R P : Type 0} (m : Means R P) (old new : R) (t : ℕ) (after : Writes) (count : ℕ)
    (result : Wrote) (turn : Turn P) → turn ≡ turned (with_left after count) result
    → AreQuiet m old new (ended_at t result) → AreQuiet m old new (rolled_back_at t turn.phase)
turned_quiet {P = P} m old new t after count result turn is quiet =
    subst (λ (turn : Turn P). AreQuiet m old new (rolled_back_at t turn.phase)) (sym is)
    (subst (λ (ends : Option ℕ). AreQuiet m old new ends) (ends_so P t after count result) quiet)

step_leaves : {R P : Type 0} (m : Means R P) (old new : R) (t : ℕ) (before after : Writes) (count : ℕ)
    (result : Wrote) → StepsOn m old new t before after result → AreQuiet m old new (ended_at t result)
    → Leaves m old new t (turned {P = P} (with_left after count) result)
step_leaves m old new t before after count wrote.More s quiet =
    record { frames = s.frames; ready = s.ready; calm = calm_by m old new None quiet }
step_leaves m old new t before after count wrote.Done s quiet =
    record { frames = s.frames; ready = tt; calm = calm_by m old new None quiet }
step_leaves m old new t before after count (wrote.Waits on) s quiet =
    record { frames = s.frames; ready = s.ready; calm = calm_by m old new None quiet }
step_leaves m old new t before after count (wrote.Refused refusal) s quiet =
    record { frames = s.frames; ready = tt; calm = calm_by m old new None quiet }
step_leaves m old new t before after count (wrote.RolledBack refusal) s quiet =
    record { frames = s.frames; ready = tt; calm = calm_by m old new (Some t) quiet }

pub turned_leaves : {R P : Type 0} (m : Means R P) (old new : R) (t : ℕ) (before after : Writes)
    (count : ℕ) (result : Wrote) (turn : Turn P) → turn ≡ turned (with_left after count) result
    → StepsOn m old new t before after result → AreQuiet m old new (ended_at t result)
    → Leaves m old new t turn
turned_leaves {P = P} m old new t before after count result turn is steps quiet =
    subst (λ (turn : Turn P). Leaves m old new t turn) (sym is)
    (step_leaves m old new t before after count result steps quiet)

-- no write is made, and no call
pub none_made : {R P : Type 0} (m : Means R P) (r : R) (t : ℕ) (fault : NewRowFault)
    (given : StatementFault) (turn : Turn P) → given ≡ of_new_row fault → turn ≡ ended (Err given)
    → Leaves m r r t turn
none_made {P = P} m r t fault given turn is same =
    subst (λ (turn : Turn P). Leaves m r r t turn) (sym same)
    (subst (λ (f : StatementFault). Leaves {P = P} m r r t (ended (Err f))) (sym is) (at fault))
  where
    at : (fault : NewRowFault) → Leaves {P = P} m r r t (ended (Err (of_new_row fault)))
    at faults.Memory =
        record { frames = frames_none m r t (Some refusals.Memory) tt; ready = tt; calm = calm_nothing m r }
    at faults.Arithmetic = record { frames = frames_none m r t None tt; ready = tt; calm = calm_nothing m r }
    at faults.NullNotAllowed =
        record { frames = frames_none m r t None tt; ready = tt; calm = calm_nothing m r }
    at (faults.TextTooLong len most) =
        record { frames = frames_none m r t None tt; ready = tt; calm = calm_nothing m r }

-- ---- how many writes are left

begins_at : (P : Type 0) (made : List Write) (after : Writes) (result : Wrote)
    → AreFewer made after.left.items result → IsBehind {P = P} (length made) (turned (with_left after (length made)) result)
begins_at P made after wrote.More fewer = λ more. (fewer, omega arith)
begins_at P made after wrote.Done fewer = λ more. absurd cc
begins_at P made after (wrote.Waits on) fewer = λ more. absurd cc
begins_at P made after (wrote.Refused refusal) fewer = λ more. absurd cc
begins_at P made after (wrote.RolledBack refusal) fewer = λ more. absurd cc

-- the first of the writes that are made
pub begins_behind : (P : Type 0) (made : List Write) (after : Writes) (count : ℕ) (result : Wrote)
    (turn : Turn P) → turn ≡ turned (with_left after count) result → count ≡ length made
    → AreFewer made after.left.items result → IsBehind (length made) turn
begins_behind P made after count result turn is counts fewer =
    subst (λ (turn : Turn P). IsBehind (length made) turn)
    (sym (is ∙ ap (λ (n : ℕ). turned (with_left after n) result) counts)) (begins_at P made after result fewer)

goes_at : (P : Type 0) (before : Changing) (after : Writes) (result : Wrote)
    → AreFewer before.writes.left.items after.left.items result
    → MakesOneWrite {P = P} before (turned (with_left after before.count) result)
goes_at P before after wrote.More fewer = λ more. (refl, fewer)
goes_at P before after wrote.Done fewer = λ more. absurd cc
goes_at P before after (wrote.Waits on) fewer = λ more. absurd cc
goes_at P before after (wrote.Refused refusal) fewer = λ more. absurd cc
goes_at P before after (wrote.RolledBack refusal) fewer = λ more. absurd cc

-- the next of those that are left
pub goes_behind : (P : Type 0) (before : Changing) (after : Writes) (result : Wrote) (turn : Turn P)
    → turn ≡ turned (with_left after before.count) result
    → AreFewer before.writes.left.items after.left.items result → MakesOneWrite before turn
goes_behind P before after result turn is fewer =
    subst (λ (turn : Turn P). MakesOneWrite before turn) (sym is) (goes_at P before after result fewer)

-- ---- how many writes are made

inside : {A : Type 0} (a b : A) → ◌≡◌ {A = Result A NewRowFault} (Ok a) (Ok b) → a ≡ b
inside a b is = cc

insertion_few : (r : Result Cells NewRowFault) (made : List Write) → insertion_of r ≡ Ok made
    → length made ≤ 1
insertion_few (Ok row) made is = omega (arith, ap (length {A = Write}) (inside _ made is))
insertion_few (Err fault) made is = absurd cc

updated_len : (columns : List Column) (places : List ℕ) (ts : List Tree) (rows news : List Cells)
    → updated columns places ts rows ≡ Ok news → length news ≡ length rows
updated_len columns places ts [] news is = sym (ap (length {A = Cells}) (inside [] news is))
updated_len columns places ts (row ∷ rows) news is =
    by (new_row columns places ts row) (updated columns places ts rows) refl is
    (λ others same. updated_len columns places ts rows others same)
  where
    by : (one : Result Cells NewRowFault) (others : Result (List Cells) NewRowFault)
        → updated columns places ts rows ≡ others → joined one others ≡ Ok news
        → ((others : List Cells) → updated columns places ts rows ≡ Ok others → length others ≡ length rows)
        → length news ≡ length (row ∷ rows)
    by (Err fault) others same is len = absurd cc
    by (Ok one) (Err fault) same is len = absurd cc
    by (Ok one) (Ok others) same is len =
        omega (
          arith,
          ap (length {A = Cells}) (inside (one ∷ others) news is),
          len others same,
        )

changes_few : (shape : Shape) (r : Result (List Cells) NewRowFault) (made : List Write)
    (rows : List Cells) → ((news : List Cells) → r ≡ Ok news → length news ≡ length rows)
    → changes_of shape r ≡ Ok made → length made ≤ length rows
changes_few shape (Ok news) made rows len is =
    omega (arith, ap (length {A = Write}) (inside _ made is), length-map {A = Cells} {B = Write} news (λ row. writes.Change (key_of shape row) row), len news refl)
changes_few shape (Err fault) made rows len is = absurd cc

made_few : (s : Statement) (places : List ℕ) (shape : Shape) (rows : List Cells) (made : List Write)
    → made_by s places shape rows ≡ Ok made → length made ≤ length rows + 1
made_few (statements.Insert table columns values) places shape rows made is =
    omega (arith, insertion_few (inserted shape.columns places (map tree_of values.items)) made is)
made_few (statements.Update table sets filter) places shape rows made is =
    omega (
      arith,
      changes_few shape
          (updated shape.columns places (map (λ set. tree_of set.value) sets.items) rows) made rows
          (updated_len shape.columns places (map (λ set. tree_of set.value) sets.items) rows) is,
    )
made_few (statements.Delete table filter) places shape rows made is =
    omega (arith, ap (length {A = Write}) (inside _ made is), length-map {A = Cells} {B = Write} rows (λ row. writes.Erase (key_of shape row)))
made_few s places shape rows made is = omega (arith, ap (length {A = Write}) (inside [] made is))

one_of_more : {P : Type 0} (few many : ℕ) (phase : Phase P) → few ≤ many → IsOneOf few phase
    → IsOneOf many phase
one_of_more few many (phases.Changing c) less is = (is.0, omega (arith, less, is.1))
one_of_more few many phase less is = absurd is

pub writes_behind : {P : Type 0} (table : Table) (bound : Bound) (rows : List Cells) (made : List Write)
    (turn : Turn P) → writes_made table bound rows ≡ Ok made → IsBehind (length made) turn
    → IsBehind (length rows + 1) turn
writes_behind table bound rows made turn is behind = λ more.
    one_of_more (length made) (length rows + 1) turn.phase
    (made_few bound.statement bound.places.items table.shape rows made is) (behind more)

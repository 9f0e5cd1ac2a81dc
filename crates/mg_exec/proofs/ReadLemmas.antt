-- The steps of a reading.
use Rattle.std.proofs.Common.{◌≡◌, ◌≤◌, ℕ, zero, suc, Bool, true, false, List, [], ◌∷◌, ◌++◌, ◌+◌, length, map, Option, Some, None, Result, Ok, Err, inl, inr, refl, sym, ap, subst, ◌∙◌, arith}
use Rattle.std.specs.Prelude.{All, IsPermutation}
use Rattle.std.proofs.lemmas.List.Elements.{All-append, All-map}
use Rattle.std.proofs.lemmas.List.{append-nil, append_assoc, length-append, length-map}
use Rattle.std.proofs.lemmas.List.Sorted.{All-permutation, length_permutation}
use Rattle.mg_base.specs.declared.numbers.TxNo.{TxNo}
use Rattle.mg_base.specs.declared.transaction.TxState.TheVariants.{Active}
use Rattle.mg_value.specs.declared.shape.Shape.{Shape}
use Rattle.mg_value.specs.declared.value.Value.{Value}
use Rattle.mg_expr.specs.declared.expr.Expr.{Expr}
use Rattle.mg_expr.specs.declared.fault.EvalFault.{EvalFault}
use Rattle.mg_expr.specs.declared.fault.EvalFault.TheVariants as evals
use Rattle.mg_expr.specs.Trees.{Tree}
use Rattle.mg_statements.specs.Plain.{tree_in}
use Rattle.mg_plan.specs.declared.bound.Bound.{Bound}
use Rattle.mg_model.specs.declared.answer.Answer.TheVariants.{No, Rows}
use Rattle.mg_model.specs.declared.event.Event.TheVariants.{Find}
use Rattle.mg_model.specs.declared.opening.Opening.{Opening}
use Rattle.mg_model.specs.declared.refusal.Refusal.{Refusal}
use Rattle.mg_model.specs.declared.refusal.Refusal.TheVariants as refusals
use Rattle.mg_model.specs.declared.table.Table.{Table}
use Rattle.mg_model.specs.Answers.{answer}
use Rattle.mg_model.specs.Changes.{Cells, KeyedRows, rows_of}
use Rattle.mg_model.specs.History.{Entries, entry}
use Rattle.mg_model.specs.Machine.{state_of, view}
use Rattle.mg_model.specs.RowLaws.{rows_of_ascend}
use Rattle.mg_records.specs.Adding.{IsRefused}
use Rattle.mg_records.specs.Crashing.{LeavesQuietly}
use Rattle.mg_records.specs.Keeping.{MeetsNoDamage}
use Rattle.mg_records.specs.Meaning.{Means}
use Rattle.mg_records.specs.Reading.{FindAdds, MayStand, shape_seen}
use Rattle.mg_rows.specs.declared.statement_fault.StatementFault.{StatementFault}
use Rattle.mg_rows.specs.declared.statement_fault.StatementFault.TheVariants.{Engine, Arithmetic}
use Rattle.mg_rows.specs.Faults.{of_eval}
use Rattle.mg_rows.specs.Found.{found_keyed, passes_filter, without_keys, Keeps}
use Rattle.mg_rows.specs.FoundLaws.{found_more, found_fault, found_none, found_sorted, found_bare, found_answered}
use Rattle.mg_calls.specs.declared.walking.Walk.{Walk}
use Rattle.mg_calls.specs.declared.walking.Visit.TheVariants as visits
use Rattle.mg_calls.specs.FindLaws.{machine_finds}
use Rattle.mg_calls.specs.Frames.{Frames}
use Rattle.mg_calls.specs.FrameLaws.{frames_after}
use Rattle.mg_calls.specs.Quiet.{AreCalm, AreQuiet, IsQuietAt, as_it_was, with_entry}
use Rattle.mg_calls.specs.QuietLaws.{calm_nothing, calm_then}
use Rattle.mg_calls.specs.Walks.{GoesOn, HasCome, IsOnItsWay, rows_seen}
use Rattle.mg_exec.specs.declared.phase.Reading.{Reading}
use Rattle.mg_exec.specs.declared.phase.Phase.{Phase}
use Rattle.mg_exec.specs.declared.phase.Phase.TheVariants as phases
use Rattle.mg_exec.specs.declared.phase.Step.{Step}
use Rattle.mg_exec.specs.declared.phase.Step.TheVariants.{More}
use Rattle.mg_exec.specs.declared.phase.Turn.{Turn}
use Rattle.mg_plan.specs.Plans.{filter_in}
use Rattle.mg_exec.specs.Phases.{AllKeptMayStand, AllMayStand, HasRead, IsBoundTo, IsReadyToRead, Leaves, ended, refusal_of, rolled_back_at}
use Rattle.mg_exec.specs.Progress.{IsBehind}
use Rattle.mg_exec.specs.Reading.{AreInOrder, Ends, IsWhatIsFound, in_order, no_memory, Finds, GoesOnWith, KeepsRow, Reads, comes_on, finds, faults, stops, find_of, rows_found, passes_of}
use Rattle.mg_exec.specs.Selecting.{answer_told}
use Rattle.mg_exec.proofs.FrameLemmas.{frames_none, frames_quiet}

-- ---- the filter over all rows

-- the filter of a bound statement
abbrev tree_of_filter : Bound → Option Tree
tree_of_filter bound = tree_in (filter_in bound.statement)

bare_none : (o : Opening) (h : Entries) (t : ℕ) (table : Table) (bound : Bound)
    → found_keyed (tree_of_filter bound) (rows_of (view o h t) table.name) ≡ None
    → rows_found o h t table bound ≡ None
bare_none o h t table bound is =
    found_bare (tree_of_filter bound) (rows_of (view o h t) table.name) ∙ ap without_keys is

bare_some : (o : Opening) (h : Entries) (t : ℕ) (table : Table) (bound : Bound) (sorted : KeyedRows)
    → found_keyed (tree_of_filter bound) (rows_of (view o h t) table.name) ≡ Some sorted
    → rows_found o h t table bound ≡ Some (map (λ r. r.1) sorted)
bare_some o h t table bound sorted is =
    found_bare (tree_of_filter bound) (rows_of (view o h t) table.name) ∙ ap without_keys is

-- ---- one record

-- a record in which the transaction sees no row
pub no_row : {R P : Type 0} (m : Means R P) (old new : R) (o : Opening) (h : Entries) (t : ℕ)
    (before : Reading P) (walk : Walk P) (read : HasRead m old o h t before)
    → GoesOn m new o h t walk read.visited (Ok (visits.Record None))
    → HasRead m new o h t (record { walk = walk; bound = before.bound; kept = before.kept })
no_row m old new o h t before walk read goes = record {
  visited = read.visited ++ [];
  come = goes;
  kept = ap (λ (rows : KeyedRows). found_keyed (tree_of_filter before.bound) rows) (append-nil read.visited)
      ∙ read.kept;
}

-- a reading goes on with a row more
kept_row : {R P : Type 0} (m : Means R P) (new : R) (o : Opening) (h : Entries) (t : ℕ)
    (before after : Reading P) (visited : KeyedRows) (row : Value × Cells)
    → found_keyed (tree_of_filter before.bound) visited ≡ Some before.kept.items
    → HasCome m new o h t before.walk (visited ++ row ∷ [])
    → after.walk ≡ before.walk → after.bound ≡ before.bound
    → Keeps (passes_of before row.1) row before.kept.items after.kept.items (Ok tt)
    → HasRead m new o h t after
kept_row {P = P} m new o h t before after visited row so_far come walk bound keeps = record {
  visited = visited ++ row ∷ [];
  come = subst (λ (walk : Walk P). HasCome m new o h t walk (visited ++ row ∷ [])) (sym walk) come;
  kept = subst (λ (b : Bound). found_keyed (tree_of_filter b) (visited ++ row ∷ []) ≡ Some after.kept.items)
      (sym bound)
      (found_more (λ r. passes_filter (tree_of_filter before.bound) r.1) visited before.kept.items
      after.kept.items row tt so_far keeps);
}

-- the filter faults on a row that was visited
faulted : {R P : Type 0} (m : Means R P) (new : R) (o : Opening) (h : Entries) (t : ℕ)
    (before : Reading P) (visited : KeyedRows) (row : Value × Cells)
    → HasCome m new o h t before.walk (visited ++ row ∷ [])
    → passes_of before row.1 ≡ None → rows_found o h t before.walk.table before.bound ≡ None
faulted m new o h t before visited row come is =
    bare_none o h t before.walk.table before.bound
    (found_none (tree_of_filter before.bound) ((visited ++ row ∷ []) ++ come.rest)
    (rows_of (view o h t) before.walk.table.name) come.whole
    (ap (λ (rows : KeyedRows). found_keyed (tree_of_filter before.bound) rows)
    (append_assoc visited (row ∷ []) come.rest)
    ∙ found_fault (λ r. passes_filter (tree_of_filter before.bound) r.1) visited [] [] come.rest row
    (subst (λ (passed : Option Bool). Keeps passed row [] [] (Err evals.Arithmetic)) (sym is) (refl, refl))))

-- a row at most is kept of a record
kept_count : (passed : Option Bool) (row : Value × Cells) (kept new : KeyedRows)
    → Keeps passed row kept new (Ok tt) → length new ≤ length kept + 1
kept_count None row kept new keeps = absurd keeps
kept_count (Some false) row kept new keeps =
    omega (arith, ap {B = ℕ} (length {A = Value × Cells}) keeps)
kept_count (Some true) row kept new keeps =
    omega (arith, ap {B = ℕ} (length {A = Value × Cells}) keeps, length-append kept (row ∷ []))

visited_row : {R P : Type 0} (m : Means R P) (new : R) (o : Opening) (h : Entries) (t : TxNo)
    (before : Reading P) (visited : KeyedRows) (row : Value × Cells) (phase : Phase P)
    (answer : Result Step StatementFault)
    → found_keyed (tree_of_filter before.bound) visited ≡ Some before.kept.items
    → HasCome m new o h t.0 before.walk (visited ++ row ∷ []) → m.stands new o h
    → KeepsRow before row phase answer
    → Reads m new o h t before.walk.table before.bound (length before.kept.items) (record { phase = phase; answer = answer })
visited_row m new o h t before visited row (phases.Reading after) (Ok More) so_far come stands keeps =
    comes_on after refl keeps.1 (ap (λ (w : Walk _). w.table) keeps.0) stands
    (kept_row m new o h t.0 before after visited row so_far come keeps.0 keeps.1 keeps.2)
    (kept_count (passes_of before row.1) row before.kept.items after.kept.items keeps.2)
visited_row m new o h t before visited row phases.Ended (Err Arithmetic) so_far come stands keeps =
    faults (faulted m new o h t.0 before visited row come keeps) refl stands
visited_row m new o h t before visited row phases.Ended (Err (Engine refusals.Memory)) so_far come stands keeps =
    stops refusals.Memory refl refl stands
visited_row m new o h t before visited row phase answer so_far come stands keeps = absurd keeps

-- a record whose row was visited, by a walk that has come to another place of the same table
pub a_row : {R P : Type 0} (m : Means R P) (old new : R) (o : Opening) (h : Entries) (t : TxNo)
    (before : Reading P) (walk : Walk P) (row : Value × Cells) (turn : Turn P)
    → walk.table ≡ before.walk.table → m.stands new o h → (read : HasRead m old o h t.0 before)
    → GoesOn m new o h t.0 walk read.visited (Ok (visits.Record (Some row)))
    → KeepsRow (record { walk = walk; bound = before.bound; kept = before.kept }) row turn.phase turn.answer
    → Reads m new o h t before.walk.table before.bound (length before.kept.items) turn
a_row m old new o h t before walk row turn same stands read goes keeps =
    subst (λ (table : Table). Reads m new o h t table before.bound (length before.kept.items) turn) same
    (visited_row m new o h t (record { walk = walk; bound = before.bound; kept = before.kept })
    read.visited row turn.phase turn.answer read.kept goes stands keeps)

-- ---- the end

as_many : (kept : KeyedRows) (rows : List Cells) → AreInOrder kept rows → length rows ≡ length kept
as_many kept rows order =
    ap (length {A = Cells}) order.bare
    ∙ length-map {A = Value × Cells} {B = Cells} order.sorted (λ r. r.1)
    ∙ length_permutation kept order.sorted order.order.same

-- all records were visited: what was kept is what the machine finds
module _ (o : Opening) (h : Entries) (t : TxNo) (table : Table) (bound : Bound) (visited kept : KeyedRows)
    (so_far : found_keyed (tree_of_filter bound) visited ≡ Some kept) (active : state_of o h t.0 ≡ Active)
    (whole : IsPermutation visited (rows_of (view o h t.0) table.name))
    (seen : shape_seen o h t.0 table.name ≡ Some table.shape) where
  rows_are : (rows : List Cells) → AreInOrder kept rows → rows_found o h t.0 table bound ≡ Some rows
  rows_are rows order =
      let ordered = rows_of (view o h t.0) table.name in
      bare_some o h t.0 table bound order.sorted
      (found_sorted (tree_of_filter bound) visited ordered kept order.sorted whole
      (rows_of_ascend (view o h t.0) table.name) so_far order.order)
      ∙ ap Some (sym order.bare)

  pub found_all : IsWhatIsFound o h t table bound kept
  found_all rows order =
      machine_finds o h t table.name (filter_in bound.statement) table.shape rows active seen
      (found_answered (filter_in bound.statement) (rows_seen o h t.0 table.name) rows (rows_are rows order))

  all_read : {R P : Type 0} (m : Means R P) (new : R) (turn : Turn P)
      → Ends m new o h t table bound kept turn → Reads m new o h t table bound (length kept) turn
  all_read m new turn (in_order rows order goes) =
      finds rows (rows_are rows order) (as_many kept rows order) (goes (found_all rows order))
  all_read m new turn (no_memory is stands) = stops refusals.Memory refl is stands

pub at_end : {R P : Type 0} (m : Means R P) (old mid new : R) (o : Opening) (h : Entries) (t : TxNo)
    (before : Reading P) (walk : Walk P) (turn : Turn P) → walk.table ≡ before.walk.table
    → (read : HasRead m old o h t.0 before)
    → GoesOn m mid o h t.0 walk read.visited (Ok visits.End)
    → shape_seen o h t.0 before.walk.table.name ≡ Some before.walk.table.shape
    → Ends m new o h t walk.table before.bound before.kept.items turn
    → Reads m new o h t before.walk.table before.bound (length before.kept.items) turn
at_end {P = P} m old mid new o h t before walk turn same read goes seen ends =
    all_read o h t before.walk.table before.bound read.visited before.kept.items read.kept goes.0
    (subst (λ (table : Table). IsPermutation read.visited (rows_of (view o h t.0) table.name)) same goes.1)
    seen m new turn
    (subst (λ (table : Table). Ends m new o h t table before.bound before.kept.items turn) same ends)

-- a reading that is at its end has kept what the machine finds
pub read_all : {R P : Type 0} (m : Means R P) (old mid : R) (o : Opening) (h : Entries) (t : TxNo)
    (before : Reading P) (walk : Walk P) → walk.table ≡ before.walk.table
    → (read : HasRead m old o h t.0 before)
    → GoesOn m mid o h t.0 walk read.visited (Ok visits.End)
    → shape_seen o h t.0 before.walk.table.name ≡ Some before.walk.table.shape
    → IsWhatIsFound o h t walk.table before.bound before.kept.items
read_all m old mid o h t before walk same read goes seen =
    subst (λ (table : Table). IsWhatIsFound o h t table before.bound before.kept.items) (sym same)
    (found_all o h t before.walk.table before.bound read.visited before.kept.items read.kept goes.0
    (subst (λ (table : Table). IsPermutation read.visited (rows_of (view o h t.0) table.name)) same goes.1)
    seen)

pub is_refused : {R P : Type 0} (m : Means R P) (new : R) (o : Opening) (h : Entries) (t : TxNo)
    (table : Table) (bound : Bound) (count : ℕ) (refusal : Refusal) (turn : Turn P)
    → IsRefused o h t.0 refusal → m.stands new o h → turn ≡ ended (Err (Engine refusal))
    → Reads m new o h t table bound count turn
is_refused m new o h t table bound count refusal turn refused stands is = stops refusal refused is stands

-- the telling is refused
pub not_told : {R P : Type 0} (m : Means R P) (old new : R) (o : Opening) (h : Entries) (t : TxNo)
    (table : Table) (bound : Bound) (rows : List Cells) (refusal : Refusal) (turn : Turn P)
    → FindAdds m old new t table.name (filter_in bound.statement) rows (Err refusal)
    → m.stands old o h → turn ≡ ended (Err (Engine refusal)) → Finds m new o h t table bound rows turn
not_told m old new o h t table bound rows refusal turn adds stands is =
    let came = adds o h stands in
    inl (refusal, is, record { lawful = came.0; stands = came.1 })

-- what was found is told, and the statement goes on
pub told_on : {R P : Type 0} (m : Means R P) (old mid new : R) (o : Opening) (h : Entries) (t : TxNo)
    (table : Table) (bound : Bound) (rows : List Cells) (turn : Turn P)
    → FindAdds m old mid t table.name (filter_in bound.statement) rows (Ok tt)
    → ((o : Opening) (h : Entries) → m.stands mid o h → GoesOnWith m new o h t table bound rows turn)
    → m.stands old o h → answer o h (find_of t table bound) ≡ Rows rows
    → Finds m new o h t table bound rows turn
told_on m old mid new o h t table bound rows turn adds goes stands is =
    inr (inl (sym is), goes o (entry (find_of t table bound) (Rows rows) ∷ h) (adds o h stands is))

-- ---- what is left

-- what was found is told
pub find_quiet : {R P : Type 0} (m : Means R P) (old new : R) (t : TxNo) (name : List ℕ)
    (filter : Option Expr) (rows : List Cells) (result : Result (Unit {0}) Refusal)
    → FindAdds m old new t name filter rows result → MeetsNoDamage m old new → LeavesQuietly m old new
    → (o : Opening) (h : Entries) → m.stands old o h → answer o h (Find t name filter) ≡ Rows rows
    → IsQuietAt m old new o h
find_quiet m old new t name filter rows (Ok x) adds undamaged crash o h stands is = record {
  longer = entry (Find t name filter) (Rows rows) ∷ h;
  stands = adds o h stands is;
  quietly = with_entry (entry (Find t name filter) (Rows rows)) refl as_it_was;
  undamaged = undamaged o h stands;
  crash = crash o h stands;
}
find_quiet m old new t name filter rows (Err refusal) adds undamaged crash o h stands is = record {
  longer = entry (Find t name filter) (No refusal) ∷ h;
  stands = (adds o h stands).1;
  quietly = with_entry (entry (Find t name filter) (No refusal)) refl as_it_was;
  undamaged = undamaged o h stands;
  crash = crash o h stands;
}

told_leaves : {R P : Type 0} (m : Means R P) (r : R) (t : ℕ) (given : Result (List Cells) EvalFault)
    → Leaves {P = P} m r r t (ended (answer_told given))
told_leaves m r t (Ok rows) =
    record { frames = frames_none m r t None tt; ready = tt; calm = calm_nothing m r }
told_leaves m r t (Err evals.Arithmetic) =
    record { frames = frames_none m r t None tt; ready = tt; calm = calm_nothing m r }
told_leaves m r t (Err evals.Memory) =
    record { frames = frames_none m r t (Some refusals.Memory) tt; ready = tt; calm = calm_nothing m r }

pub answer_leaves : {R P : Type 0} (m : Means R P) (r : R) (t : ℕ) (given : Result (List Cells) EvalFault)
    (told : Result Step StatementFault) (turn : Turn P) → told ≡ answer_told given → turn ≡ ended told
    → Leaves m r r t turn
answer_leaves {P = P} m r t given told turn is same =
    subst (λ (turn : Turn P). Leaves m r r t turn)
    (sym (same ∙ ap (λ (a : Result Step StatementFault). ended {P = P} a) is)) (told_leaves m r t given)

pub refused_leaves : {R P : Type 0} (m : Means R P) (old new : R) (t : ℕ) (refusal : Refusal)
    (turn : Turn P) → Frames m old new t (Some refusal) → AreCalm m old new None
    → turn ≡ ended (Err (Engine refusal)) → Leaves m old new t turn
refused_leaves {P = P} m old new t refusal turn frames calm is =
    subst (λ (turn : Turn P). Leaves m old new t turn) (sym is)
    (record { frames = frames; ready = tt; calm = calm })

-- a statement that is at its end rolls back no transaction
pub ended_quiet : {R P : Type 0} (m : Means R P) (old new : R) (t : ℕ) (answer : Result Step StatementFault)
    (turn : Turn P) → turn ≡ ended answer → AreQuiet m old new None
    → AreQuiet m old new (rolled_back_at t turn.phase)
ended_quiet {P = P} m old new t answer turn is quiet =
    subst (λ (turn : Turn P). AreQuiet m old new (rolled_back_at t turn.phase)) (sym is) quiet

-- a call that was not refused before others that say what is left
pub then_leaves : {R P : Type 0} (m : Means R P) (old mid new : R) (t : ℕ) (turn : Turn P)
    → Frames m old mid t None → AreCalm m old mid None → Leaves m mid new t turn → Leaves m old new t turn
then_leaves m old mid new t turn frames calm leaves = record {
  frames = frames_after m old mid new t (refusal_of turn.answer) frames leaves.frames;
  ready = leaves.ready;
  calm = calm_then m old mid new (rolled_back_at t turn.phase) calm leaves.calm;
}

-- a reading that goes on behind another place of its table
pub reads_on : {R P : Type 0} (m : Means R P) (old new : R) (t : ℕ) (before : Reading P) (walk : Walk P)
    → IsReadyToRead m old t before → walk.table ≡ before.walk.table → IsOnItsWay m new t walk
    → IsReadyToRead m new t (record { walk = walk; bound = before.bound; kept = before.kept })
reads_on m old new t before walk ready same way = record {
  way = way;
  finds = ready.finds;
  binds = subst (λ (table : Table). IsBoundTo table before.bound) (sym same) ready.binds;
  fit = subst (λ (table : Table). AllKeptMayStand table.shape before.kept.items) (sym same) ready.fit;
}

-- a row more that may stand in the table is kept, or none is
kept_fit : (shape : Shape) (passed : Option Bool) (row : Value × Cells) (old new : KeyedRows)
    → MayStand shape row.1 → AllKeptMayStand shape old → Keeps passed row old new (Ok tt)
    → AllKeptMayStand shape new
kept_fit shape None row old new may fit keeps = absurd keeps
kept_fit shape (Some false) row old new may fit keeps = subst (AllKeptMayStand shape) (sym keeps) fit
kept_fit shape (Some true) row old new may fit keeps = subst (AllKeptMayStand shape) (sym keeps)
    (All-append (λ (keyed : Value × Cells). MayStand shape keyed.1) old (row ∷ []) fit one)
  where
    one : All (λ (keyed : Value × Cells). MayStand shape keyed.1) (row ∷ [])
    one zero d below = may
    one (suc k) d below = absurd (omega (arith, below))

-- rows in the order of their keys are those that were kept
pub told_fit : (shape : Shape) (kept : KeyedRows) (rows : List Cells) → AreInOrder kept rows
    → AllKeptMayStand shape kept → AllMayStand shape rows
told_fit shape kept rows order fit = subst (AllMayStand shape) (sym order.bare)
    (All-map (MayStand shape) (λ (r : Value × Cells). r.1) order.sorted
    (All-permutation (λ (keyed : Value × Cells). MayStand shape keyed.1) kept order.sorted order.order.same fit))

pub keeps_leaves : {R P : Type 0} (m : Means R P) (old new : R) (t : ℕ) (before : Reading P)
    (row : Value × Cells) (phase : Phase P) (answer : Result Step StatementFault)
    → Frames m old new t None → AreCalm m old new None → IsReadyToRead m new t before
    → MayStand before.walk.table.shape row.1
    → KeepsRow before row phase answer → Leaves m old new t (record { phase = phase; answer = answer })
keeps_leaves {P = P} m old new t before row (phases.Reading after) (Ok More) frames calm ready may keeps = record {
  frames = frames;
  ready = subst (λ (x : Walk P × Bound). IsReadyToRead m new t
      (record { walk = x.0; bound = x.1; kept = after.kept }))
      (sym (λ k. (keeps.0 k, keeps.1 k)))
      (record {
        way = ready.way;
        finds = ready.finds;
        binds = ready.binds;
        fit = kept_fit before.walk.table.shape (passes_of before row.1) row before.kept.items after.kept.items
            may ready.fit keeps.2;
      });
  calm = calm;
}
keeps_leaves m old new t before row phases.Ended (Err Arithmetic) frames calm ready may keeps =
    record { frames = frames; ready = tt; calm = calm }
keeps_leaves m old new t before row phases.Ended (Err (Engine refusals.Memory)) frames calm ready may keeps =
    record {
      frames = frames_quiet m old new t (Some refusals.Memory) tt frames (λ k quiet. refl);
      ready = tt;
      calm = calm;
    }
keeps_leaves m old new t before row phase answer frames calm ready may keeps = absurd keeps

-- ---- the rows that are told

pub behind_rows : {P : Type 0} (kept : KeyedRows) (rows : List Cells) (turn : Turn P)
    → AreInOrder kept rows → IsBehind (length rows + 1) turn → IsBehind (length kept + 1) turn
behind_rows kept rows turn order behind =
    subst (λ (n : ℕ). IsBehind (n + 1) turn) (as_many kept rows order) behind

-- ---- the filter faults, or memory is short

row_fault_at : {P : Type 0} (before : Reading P) (row : Value × Cells) (kept new : KeyedRows)
    (fault : EvalFault) → Keeps (passes_of before row.1) row kept new (Err fault)
    → KeepsRow before row phases.Ended (Err (of_eval fault))
row_fault_at before row kept new evals.Arithmetic keeps = at (passes_of before row.1) keeps
  where
    at : (passed : Option Bool) → Keeps passed row kept new (Err evals.Arithmetic) → passed ≡ None
    at None keeps_ = refl
    at (Some false) keeps_ = keeps_.0
    at (Some true) keeps_ = keeps_.0
row_fault_at before row kept new evals.Memory keeps = tt

pub row_fault : {P : Type 0} (before : Reading P) (row : Value × Cells) (kept new : KeyedRows)
    (fault : EvalFault) (given : StatementFault) (turn : Turn P) → given ≡ of_eval fault
    → turn ≡ ended (Err given) → Keeps (passes_of before row.1) row kept new (Err fault)
    → KeepsRow before row turn.phase turn.answer
row_fault {P = P} before row kept new fault given turn is same keeps =
    subst (λ (turn : Turn P). KeepsRow before row turn.phase turn.answer) (sym same)
    (subst (λ (f : StatementFault). KeepsRow before row phases.Ended (Err f)) (sym is)
    (row_fault_at before row kept new fault keeps))

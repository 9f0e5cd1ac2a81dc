-- What the tests of a statement find.
use Rattle.std.proofs.Common.{◌≡◌, ℕ, not, Bool, true, false, List, Option, Some, None, Ok, Err, refl, sym, ap, subst, ◌∙◌}
use Rattle.std.specs.Prelude.{nat_lt}
use Rattle.mg_value.specs.declared.shape.Column.{Column}
use Rattle.mg_value.specs.declared.shape.Shape.{Shape}
use Rattle.mg_value.specs.declared.shape.TheConstants.{MOST_COLUMNS}
use Rattle.mg_statements.specs.Plain.{Plain, plain_of, Insert, Update, Delete, Totals, Select}
use Rattle.mg_plan.specs.declared.bound.Bound.{Bound}
use Rattle.mg_plan.specs.declared.fault.PlanFault.{PlanFault}
use Rattle.mg_plan.specs.declared.fault.PlanFault.TheVariants as plans
use Rattle.mg_plan.specs.Names.{has_twice}
use Rattle.mg_plan.specs.Refusing.{refused, first_refusal, IsBoundAs, Binds}
use Rattle.mg_plan.specs.Statements.{columns_listed, count_defined, is_all_known, has_one_key, do_counts_match, sets_key, bound_plain, places_in, is_typed}
use Rattle.mg_model.specs.declared.opening.Opening.{Opening}
use Rattle.mg_model.specs.declared.refusal.Refusal.{Refusal}
use Rattle.mg_model.specs.declared.refusal.Refusal.TheVariants.{NoTable, ReadOnly}
use Rattle.mg_model.specs.declared.refusal.Refusal.TheVariants as refusals
use Rattle.mg_model.specs.declared.table.Table.{Table as AnyTable}
use Rattle.mg_base.specs.declared.transaction.TxState.TheVariants.{Active}
use Rattle.mg_model.specs.History.{Entries}
use Rattle.mg_model.specs.Machine.{state_of}
use Rattle.mg_records.specs.Keeping.{FaultsAreTold, Reads}
use Rattle.mg_records.specs.Meaning.{Means}
use Rattle.mg_records.specs.Reading.{IsPlace, IsTableGiven, TellsTable, shape_seen}
use Rattle.mg_rows.specs.declared.statement_fault.StatementFault.{StatementFault}
use Rattle.mg_rows.specs.declared.statement_fault.StatementFault.TheVariants.{Engine}
use Rattle.mg_rows.specs.Faults.{of_plan}
use Rattle.mg_calls.specs.Frames.{Frames}
use Rattle.mg_calls.specs.FrameLaws.{frames_reads_nothing}
use Rattle.mg_exec.proofs.FrameLemmas.{frames_quiet}
use Rattle.mg_rows.specs.BoundLaws.{bound_update}
use Rattle.std.proofs.lemmas.List.Elements.{All-nil}
use Rattle.mg_exec.specs.declared.phase.Phase.{Phase}
use Rattle.mg_exec.specs.declared.phase.Phase.TheVariants as phases
use Rattle.mg_exec.specs.Phases.{AllKeptMayStand, IsBoundTo, IsReady, LeavesKeys, StandsAt, is_finding, is_insert, may_not_write}
use Rattle.mg_exec.specs.Starting.{refusal_at, HasRows, IsBegun, IsStarted, IsWhyNot, it_writes, no_table, not_told, not_bound, no_memory}

-- the keeper tells no table
pub why_no_table : {R P : Type 0} (m : Means R P) (old : R) (o : Opening) (h : Entries) (t : ℕ)
    (read_only : Bool) (s : Plain) (name : List ℕ) (size : ℕ) (refusal : Refusal)
    → may_not_write read_only s ≡ false → TellsTable m old t name (Err refusal) → m.stands old o h
    → IsWhyNot o h t read_only s name size (Engine refusal)
why_no_table m old o h t read_only s name size NoTable may tells stands =
    no_table may (tells o h stands).1
why_no_table m old o h t read_only s name size refusal may tells stands =
    not_told refusal may (tells o h stands)

-- the statement can't be bound
pub why_not_bound : (o : Opening) (h : Entries) (t : ℕ) (read_only : Bool) (s : Plain)
    (name : List ℕ) (size : ℕ) (shape : Shape) (fault : PlanFault)
    → may_not_write read_only s ≡ false → shape_seen o h t name ≡ Some shape
    → Binds shape.columns shape.key size s (Err fault)
    → IsWhyNot o h t read_only s name size (of_plan fault)
why_not_bound o h t read_only s name size shape plans.Memory may seen binds = no_memory
why_not_bound o h t read_only s name size shape fault may seen binds =
    not_bound shape fault may seen binds

-- ---- where nothing refuses it, it is typed

pub passed : (test : Bool) (fault : PlanFault) (next : Option PlanFault) → refused test fault next ≡ None
    → (test ≡ false) × (next ≡ None)
passed true fault next is = absurd cc
passed false fault next is = (refl, is)

not_not : (b : Bool) → not b ≡ false → b ≡ true
not_not true is = refl
not_not false is = absurd cc

pub typed_where_none : (columns : List Column) (key size : ℕ) (s : Plain)
    → first_refusal columns key size s ≡ None
    → is_typed columns (places_in columns s) (bound_plain columns s) ≡ true
typed_where_none columns key size s none =
    let a = passed (has_twice (columns_listed s)) plans.ColumnExists _ none in
    let b = passed (nat_lt MOST_COLUMNS (count_defined s)) (plans.TooMany MOST_COLUMNS) _ a.1 in
    let c = passed (not (is_all_known columns s)) plans.NoColumn _ b.1 in
    let d = passed (not (has_one_key s)) plans.OneKey _ c.1 in
    let e = passed (not (do_counts_match columns s)) plans.CountMismatch _ d.1 in
    let f = passed (sets_key columns key s) plans.KeyChange _ e.1 in
    let g = passed (not (is_typed columns (places_in columns s) (bound_plain columns s))) plans.TypeMismatch _ f.1 in
    not_not (is_typed columns (places_in columns s) (bound_plain columns s)) g.0

pub bound_typed : (columns : List Column) (key size : ℕ) (s : Plain) (b : Bound)
    → first_refusal columns key size s ≡ None → IsBoundAs columns s b
    → is_typed columns b.places.items (plain_of b.statement) ≡ true
bound_typed columns key size s b none binds =
    ap (λ (places : List ℕ). is_typed columns places (plain_of b.statement)) binds.places
    ∙ ap (λ (p : Plain). is_typed columns (places_in columns s) p) binds.statement
    ∙ typed_where_none columns key size s none

-- a statement that has rows, and is no INSERT, finds rows; also once it is bound
finds : (columns : List Column) (s : Plain) → HasRows s → is_insert (bound_plain columns s) ≡ false
    → is_finding (bound_plain columns s) ≡ true
finds columns (Insert table names values) rows no_insert = absurd cc no_insert
finds columns (Update table sets filter) rows no_insert = refl
finds columns (Delete table filter) rows no_insert = refl
finds columns (Totals table totals filter) rows no_insert = refl
finds columns (Select table values filter sorted) rows no_insert = refl
finds columns s rows no_insert = absurd rows

pub bound_finds : (columns : List Column) (s : Plain) (b : Bound) → HasRows s
    → IsBoundAs columns s b → is_insert (plain_of b.statement) ≡ false
    → is_finding (plain_of b.statement) ≡ true
bound_finds columns s b rows binds no_insert =
    ap is_finding binds.statement
    ∙ finds columns s rows (ap is_insert (sym binds.statement) ∙ no_insert)

-- ---- the answers of the tests

pub barred : {R P : Type 0} (m : Means R P) (r : R) (o : Opening) (h : Entries) (t : ℕ)
    (read_only : Bool) (s : Plain) (name : List ℕ) (size : ℕ) (test : Bool)
    → test ≡ may_not_write read_only s → test ≡ true → m.stands r o h
    → m.stands r o h × IsWhyNot o h t read_only s name size (Engine ReadOnly)
barred m r o h t read_only s name size test is yes_ stands = (stands, it_writes (sym is ∙ yes_))

pub untold : {R P : Type 0} (m : Means R P) (old new : R) (o : Opening) (h : Entries) (t : ℕ)
    (read_only : Bool) (s : Plain) (name : List ℕ) (size : ℕ) (test : Bool) (refusal : Refusal)
    → test ≡ may_not_write read_only s → test ≡ false
    → TellsTable m old t name (Err refusal) → Reads m old new (Some refusal) None → m.stands old o h
    → m.stands new o h × IsWhyNot o h t read_only s name size (Engine refusal)
untold m old new o h t read_only s name size test refusal is not_ tells reads stands = (
  reads.stays o h stands,
  why_no_table m old o h t read_only s name size refusal (sym is ∙ not_) tells stands,
)

pub unbound : {R P : Type 0} (m : Means R P) (old new : R) (o : Opening) (h : Entries) (t : ℕ)
    (read_only : Bool) (s : Plain) (name : List ℕ) (size : ℕ) (test : Bool) (table : AnyTable)
    (fault : PlanFault) (given : StatementFault)
    → test ≡ may_not_write read_only s → test ≡ false
    → TellsTable m old t name (Ok table) → Reads m old new None None
    → Binds table.shape.columns table.shape.key size s (Err fault) → given ≡ of_plan fault
    → m.stands old o h → m.stands new o h × IsWhyNot o h t read_only s name size given
unbound m old new o h t read_only s name size test table fault given is not_ tells reads binds told stands = (
  reads.stays o h stands,
  subst (λ (f : StatementFault). IsWhyNot o h t read_only s name size f) (sym told)
      (why_not_bound o h t read_only s name size table.shape fault (sym is ∙ not_) (tells o h stands).1 binds),
)

pub started : {R P : Type 0} (m : Means R P) (old new : R) (o : Opening) (h : Entries) (t : ℕ)
    (read_only : Bool) (s : Plain) (name : List ℕ) (size : ℕ) (test : Bool) (table : AnyTable)
    (bound : Bound) (phase : Phase P)
    → test ≡ may_not_write read_only s → test ≡ false
    → TellsTable m old t name (Ok table) → IsTableGiven m new t name table → Reads m old new None None
    → Binds table.shape.columns table.shape.key size s (Ok bound) → IsBegun table bound phase
    → ((o : Opening) (h : Entries) (t : ℕ) → m.stands new o h → state_of o h t ≡ Active
    → m.table new t table.name ≡ Some table → StandsAt m new o h t phase)
    → m.stands old o h → m.stands new o h × IsStarted m new o h t read_only s name size phase
started m old new o h t read_only s name size test table bound phase is not_ tells given reads binds begun
    at stands = (
      reads.stays o h stands,
      record {
        may = sym is ∙ not_;
        table = table;
        named = given.named;
        seen = (tells o h stands).1;
        passes = binds.0;
        bound = bound;
        binds = binds.1;
        begins = begun;
        reads = at o h t (reads.stays o h stands) (tells o h stands).0
            (subst (λ (n : List ℕ). m.table new t n ≡ Some table) (sym given.named) given.again);
      },
    )

-- what the binding gives is bound to the table
pub bound_to : (table : AnyTable) (size : ℕ) (s : Plain) (b : Bound)
    → Binds table.shape.columns table.shape.key size s (Ok b) → IsBoundTo table b
bound_to table size s b binds = record {
  typed = bound_typed table.shape.columns table.shape.key size s b binds.0 binds.1;
  keys = at (plain_of b.statement) refl;
}
  where
    at : (p : Plain) → plain_of b.statement ≡ p → LeavesKeys table.shape b.places.items p
    at (Update name sets filter) is =
        (bound_update table.shape.columns table.shape.key size s b name sets filter binds is).2
    at p is = tt

-- a statement that begins is ready for its first step
pub ready_at_start : {R P : Type 0} (m : Means R P) (new : R) (t : ℕ) (s : Plain) (name : List ℕ)
    (size : ℕ) (table : AnyTable) (bound : Bound) (phase : Phase P) → HasRows s
    → IsTableGiven m new t name table → Binds table.shape.columns table.shape.key size s (Ok bound)
    → IsBegun table bound phase → IsReady m new t phase
ready_at_start m new t s name size table bound (phases.Inserting i) rows given binds begun =
    let again = subst (λ (n : List ℕ). m.table new t n ≡ Some table) (sym given.named) given.again in
    record {
      table = subst (λ (table : AnyTable). m.table new t table.name ≡ Some table) (sym begun.1) again;
      inserts = subst (λ (b : Bound). is_insert (plain_of b.statement) ≡ true) (sym begun.2) begun.0;
      binds = subst (λ (x : AnyTable × Bound). IsBoundTo x.0 x.1)
          (sym (λ k. (begun.1 k, begun.2 k))) (bound_to table size s bound binds);
    }
ready_at_start {P = P} m new t s name size table bound (phases.Reading reading) rows given binds begun =
    let again = subst (λ (n : List ℕ). m.table new t n ≡ Some table) (sym given.named) given.again in
    record {
      way = record {
        table = subst (λ (table : AnyTable). m.table new t table.name ≡ Some table) (sym begun.1) again;
        place = subst (λ (place : Option P). IsPlace m new reading.walk.table place) (sym begun.2) tt;
      };
      finds = subst (λ (b : Bound). is_finding (plain_of b.statement) ≡ true) (sym begun.3)
          (bound_finds table.shape.columns s bound rows binds.1 begun.0);
      binds = subst (λ (x : AnyTable × Bound). IsBoundTo x.0 x.1)
          (sym (λ k. (begun.1 k, begun.3 k))) (bound_to table size s bound binds);
      fit = subst (AllKeptMayStand reading.walk.table.shape) (sym begun.4) (All-nil _);
    }
ready_at_start m new t s name size table bound phase rows given binds begun = absurd begun

-- a fault of the binding has no cause outside
pub plan_frames : {R P : Type 0} (m : Means R P) (old new : R) (t : ℕ) (fault : PlanFault)
    → Frames m old new t None → Frames m old new t (refusal_at {T = Phase P} (Err (of_plan fault)))
plan_frames m old new t plans.ColumnExists frames = frames
plan_frames m old new t (plans.TooMany limit) frames = frames
plan_frames m old new t plans.NoColumn frames = frames
plan_frames m old new t plans.OneKey frames = frames
plan_frames m old new t plans.CountMismatch frames = frames
plan_frames m old new t plans.KeyChange frames = frames
plan_frames m old new t plans.TypeMismatch frames = frames
plan_frames m old new t (plans.RowTooLong len limit) frames =
    frames_quiet m old new t (Some (refusals.RowTooLong len limit)) tt frames (λ k quiet. refl)
plan_frames m old new t (plans.KeyTooLong len limit) frames = frames
plan_frames m old new t plans.Memory frames =
    frames_quiet m old new t (Some refusals.Memory) tt frames (λ k quiet. refl)

pub unbound_frames : {R P : Type 0} (m : Means R P) (old new : R) (t : ℕ) (fault : PlanFault)
    (given : StatementFault) → given ≡ of_plan fault → Reads m old new None None → FaultsAreTold m old new None
    → Frames m old new t (refusal_at {T = Phase P} (Err given))
unbound_frames {P = P} m old new t fault given is reads told =
    subst (λ (f : StatementFault). Frames m old new t (refusal_at {T = Phase P} (Err f))) (sym is)
    (plan_frames {P = P} m old new t fault (frames_reads_nothing m old new t None reads told))

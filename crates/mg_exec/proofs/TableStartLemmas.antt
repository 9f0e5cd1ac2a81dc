-- What the tests of CREATE TABLE find.
use Rattle.std.proofs.Common.{◌≡◌, ℕ, ◌||◌, Bool, true, false, List, Option, Some, None, Result, Ok, Err, inl, inr, refl, sym, ap, subst, ◌∙◌}
use Rattle.std.specs.Prelude.{IfOk, is_some}
use Rattle.std.proofs.lemmas.Bool.{false≢true}
use Rattle.mg_base.specs.declared.numbers.TxNo.{TxNo}
use Rattle.mg_value.specs.Names.{IsName}
use Rattle.mg_value.specs.declared.shape.Shape.{Shape}
use Rattle.mg_statements.specs.Plain.{Plain}
use Rattle.mg_plan.specs.declared.fault.PlanFault.{PlanFault}
use Rattle.mg_plan.specs.declared.fault.PlanFault.TheVariants as plans
use Rattle.mg_model.specs.declared.opening.Opening.{Opening}
use Rattle.mg_model.specs.declared.refusal.Refusal.{Refusal}
use Rattle.mg_model.specs.declared.refusal.Refusal.TheVariants as refusals
use Rattle.mg_model.specs.declared.table.Table.{Table}
use Rattle.mg_model.specs.Catalog.{catalog_name}
use Rattle.mg_model.specs.Changes.{same_name}
use Rattle.mg_model.specs.History.{Entries}
use Rattle.mg_records.specs.Adding.{IsRefused}
use Rattle.mg_records.specs.Keeping.{FaultsAreTold, Reads}
use Rattle.mg_records.specs.Meaning.{Means}
use Rattle.mg_records.specs.Reading.{TellsTable, shape_seen}
use Rattle.mg_rows.specs.declared.statement_fault.StatementFault.{StatementFault}
use Rattle.mg_rows.specs.Faults.{of_plan}
use Rattle.mg_calls.specs.Frames.{Frames}
use Rattle.mg_calls.specs.FrameLaws.{frames_reads_nothing}
use Rattle.mg_exec.specs.declared.phase.Phase.{Phase}
use Rattle.mg_exec.specs.declared.phase.Phase.TheVariants as phases
use Rattle.mg_exec.specs.NewTables.{CreatesTable, IsWhyNoTable, Plans, PlansPhase, TestsTable, is_missing, is_taken, not_lawful, short_of_memory}
use Rattle.mg_exec.specs.Phases.{IsReady, may_not_write}
use Rattle.mg_exec.specs.Starting.{refusal_at}
use Rattle.mg_exec.proofs.FrameLemmas.{frames_quiet}
use Rattle.mg_exec.proofs.ShapeLemmas.{planned_ready}
use Rattle.mg_exec.proofs.StartLemmas.{plan_frames}

-- ---- the binding

pub phase_refused : (P : Type 0) (s : Plain) (name : List ℕ) (size : ℕ) (fault : PlanFault)
    (given : StatementFault) → given ≡ of_plan fault → Plans s name size (Err fault)
    → PlansPhase {P = P} s name size (Err given)
phase_refused P s name size plans.Memory given is none = inl is
phase_refused P s name size fault given is none = inr (fault, none, is)

-- ---- the answers of the tests

second_true : (a b : Bool) → b ≡ true → (a || b) ≡ true
second_true true b is = refl
second_true false b is = is

first_true : (a b : Bool) → a ≡ true → (a || b) ≡ true
first_true true b is = refl
first_true false b is = absurd cc

both_false : (a b : Bool) → a ≡ false → b ≡ false → (a || b) ≡ false
both_false true b first second = absurd cc
both_false false b first second = second

pub named_catalog : (name : List ℕ) (seen : Option Shape) (test : Bool)
    → test ≡ same_name name catalog_name → test ≡ true → is_taken name seen ≡ true
named_catalog name seen test is yes_ =
    first_true (same_name name catalog_name) (is_some seen) (sym is ∙ yes_)

pub seen_already : {R P : Type 0} (m : Means R P) (old : R) (o : Opening) (h : Entries) (t : ℕ)
    (name : List ℕ) (table : Table) → TellsTable m old t name (Ok table) → m.stands old o h
    → is_taken name (shape_seen o h t name) ≡ true
seen_already m old o h t name table tells stands =
    second_true (same_name name catalog_name) (is_some (shape_seen o h t name))
    (ap is_some (tells o h stands).1)

not_seen : {R P : Type 0} (m : Means R P) (old : R) (o : Opening) (h : Entries) (t : ℕ)
    (name : List ℕ) → same_name name catalog_name ≡ false
    → TellsTable m old t name (Err refusals.NoTable) → m.stands old o h
    → is_taken name (shape_seen o h t name) ≡ false
not_seen m old o h t name other tells stands =
    both_false (same_name name catalog_name) (is_some (shape_seen o h t name)) other
    (ap is_some (tells o h stands).1)

missing : (refusal : Refusal) → is_missing refusal ≡ true → refusal ≡ refusals.NoTable
missing refusals.NoTable is = refl
missing refusal is = absurd (false≢true is)

-- a table is not told for another cause than that there is none
pub refused_otherwise : {R P : Type 0} (m : Means R P) (old : R) (o : Opening) (h : Entries) (t : ℕ)
    (name : List ℕ) (refusal : Refusal) → is_missing refusal ≡ false
    → TellsTable m old t name (Err refusal) → m.stands old o h → IsRefused o h t refusal
refused_otherwise m old o h t name refusals.NoTable other tells stands = absurd cc
refused_otherwise m old o h t name refusal other tells stands = tells o h stands

-- the transaction sees no table of the name: the binding decides
pub tested : {R P : Type 0} (m : Means R P) (old new : R) (o : Opening) (h : Entries) (t : TxNo)
    (read_only : Bool) (s : Plain) (name : List ℕ) (size : ℕ) (refusal : Refusal)
    (result : Result (Phase P) StatementFault) → may_not_write read_only s ≡ false
    → same_name name catalog_name ≡ false → is_missing refusal ≡ true
    → TellsTable m old t.0 name (Err refusal) → Reads m old new (Some refusal) None
    → PlansPhase s name size result → m.stands old o h
    → TestsTable m new o h t read_only s name size result
tested {P = P} m old new o h t read_only s name size refusal result may other is tells reads plans_ stands =
    by result plans_
  where
    free : is_taken name (shape_seen o h t.0 name) ≡ false
    free = not_seen m old o h t.0 name other
        (subst (λ (refusal : Refusal). TellsTable m old t.0 name (Err refusal)) (missing refusal is) tells)
        stands

    by : (result : Result (Phase P) StatementFault) → PlansPhase s name size result
        → TestsTable m new o h t read_only s name size result
    by (Ok (phases.Creating table)) planned =
        (reads.stays o h stands, record { may = may; free = free; planned = planned })
    by (Ok phase) planned = absurd planned
    by (Err fault) (inl none) = (
      reads.stays o h stands,
      subst (λ (f : StatementFault). IsWhyNoTable o h t.0 read_only s name size f) (sym none) short_of_memory,
    )
    by (Err fault) (inr refused) = (
      reads.stays o h stands,
      subst (λ (f : StatementFault). IsWhyNoTable o h t.0 read_only s name size f) (sym refused.2)
          (not_lawful refused.0 may free refused.1),
    )

pub phase_ready : {R P : Type 0} (m : Means R P) (old new : R) (t : ℕ) (s : Plain) (name : List ℕ)
    (size : ℕ) (result : Result (Phase P) StatementFault) (refusal : Option Refusal) → CreatesTable s
    → IsName name → same_name name catalog_name ≡ false → m.is_size old size ≡ true
    → Reads m old new refusal None → PlansPhase s name size result → IfOk result (λ phase. IsReady m new t phase)
phase_ready m old new t s name size (Ok (phases.Creating table)) refusal creates named other pages reads planned =
    planned_ready m new s name size table creates named other (reads.keeps.sizes size ∙ pages) planned
phase_ready m old new t s name size (Ok phase) refusal creates named other pages reads planned = absurd planned
phase_ready m old new t s name size (Err fault) refusal creates named other pages reads planned = tt

pub phase_frames : {R P : Type 0} (m : Means R P) (old new : R) (t : ℕ) (s : Plain) (name : List ℕ)
    (size : ℕ) (refusal : Refusal) (result : Result (Phase P) StatementFault)
    → is_missing refusal ≡ true → Reads m old new (Some refusal) None → FaultsAreTold m old new (Some refusal)
    → PlansPhase s name size result
    → Frames m old new t (refusal_at result)
phase_frames {P = P} m old new t s name size refusal result is reads told plans_ = by result plans_
  where
    frames : Frames m old new t None
    frames = frames_quiet m old new t None tt
        (subst (λ (refusal : Refusal). Frames m old new t (Some refusal)) (missing refusal is)
        (frames_reads_nothing m old new t (Some refusal) reads told)) (λ k quiet. refl)

    by : (result : Result (Phase P) StatementFault) → PlansPhase s name size result
        → Frames m old new t (refusal_at result)
    by (Ok phase) planned = frames
    by (Err fault) (inl none) =
        subst (λ (f : StatementFault). Frames m old new t (refusal_at {T = Phase P} (Err f))) (sym none)
        (frames_quiet m old new t (Some refusals.Memory) tt frames (λ k quiet. refl))
    by (Err fault) (inr refused) =
        subst (λ (f : StatementFault). Frames m old new t (refusal_at {T = Phase P} (Err f))) (sym refused.2)
        (plan_frames {P = P} m old new t refused.0 frames)

-- The arms of a match on where a statement stands, or on what it is.
use Rattle.std.proofs.Common.{◌≡◌, ℕ, Bool, List, None, Result, Err, sym, ap, subst}
use Rattle.mg_base.specs.declared.numbers.TxNo.{TxNo}
use Rattle.mg_statements.specs.Plain.{Plain}
use Rattle.mg_model.specs.declared.opening.Opening.{Opening}
use Rattle.mg_model.specs.History.{Entries}
use Rattle.mg_records.specs.Meaning.{Means}
use Rattle.mg_rows.specs.declared.statement_fault.StatementFault.{StatementFault}
use Rattle.mg_rows.specs.declared.statement_fault.StatementFault.TheVariants.{NothingHeld}
use Rattle.mg_calls.specs.QuietLaws.{calm_nothing}
use Rattle.mg_exec.specs.declared.phase.Phase.{Phase}
use Rattle.mg_exec.specs.declared.phase.Step.{Step}
use Rattle.mg_exec.specs.declared.phase.Turn.{Turn}
use Rattle.mg_exec.specs.Phases.{Leaves, ended}
use Rattle.mg_exec.specs.Running.{Goes, IsPastEnd}
use Rattle.mg_exec.specs.Starting.{Tests, TestsAny}
use Rattle.mg_exec.proofs.FrameLemmas.{frames_none}

-- ---- a step

pub goes_at : {R P : Type 0} (m : Means R P) (old new : R) (o : Opening) (h : Entries) (t : TxNo)
    (phase other : Phase P) (turn : Turn P) → phase ≡ other → Goes m old new o h t other turn
    → Goes m old new o h t phase turn
goes_at {P = P} m old new o h t phase other turn is goes =
    subst (λ (x : Phase P). Goes m old new o h t x turn) (sym is) goes

pub past_end : {R P : Type 0} (m : Means R P) (old new : R) (phase other : Phase P)
    (answer : Result Step StatementFault) → phase ≡ other → IsPastEnd m old new other answer
    → IsPastEnd m old new phase answer
past_end {P = P} m old new phase other answer is past =
    subst (λ (x : Phase P). IsPastEnd m old new x answer) (sym is) past

-- a statement that was at its end already is there still, and nothing is done
pub end_told : {P : Type 0} (turn : Turn P) → turn ≡ ended (Err NothingHeld) → turn.answer ≡ Err NothingHeld
end_told {P = P} turn is = ap (λ (x : Turn P). x.answer) is

pub end_leaves : {R P : Type 0} (m : Means R P) (r : R) (t : ℕ) (turn : Turn P)
    → turn ≡ ended (Err NothingHeld) → Leaves m r r t turn
end_leaves {P = P} m r t turn is = subst (λ (x : Turn P). Leaves m r r t x) (sym is)
    (record { frames = frames_none m r t None tt; ready = tt; calm = calm_nothing m r })

-- ---- how it is tested

pub tests_at : {R P : Type 0} (m : Means R P) (new : R) (o : Opening) (h : Entries) (t : TxNo)
    (read_only : Bool) (s other : Plain) (size : ℕ) (result : Result (Phase P) StatementFault) → s ≡ other
    → TestsAny m new o h t read_only other size result → TestsAny m new o h t read_only s size result
tests_at m new o h t read_only s other size result is tests =
    subst (λ (p : Plain). TestsAny m new o h t read_only p size result) (sym is) tests

pub tests_by : {R P : Type 0} (m : Means R P) (new : R) (o : Opening) (h : Entries) (t : TxNo)
    (read_only : Bool) (s other : Plain) (name : List ℕ) (size : ℕ) (result : Result (Phase P) StatementFault)
    → s ≡ other
    → (Tests m new o h t read_only other name size result → TestsAny m new o h t read_only other size result)
    → Tests m new o h t read_only s name size result → TestsAny m new o h t read_only s size result
tests_by m new o h t read_only s other name size result is by tests =
    subst (λ (p : Plain). TestsAny m new o h t read_only p size result) (sym is)
    (by (subst (λ (p : Plain). Tests m new o h t read_only p name size result) is tests))

-- What the making of a table leaves.
use Rattle.std.proofs.Common.{◌≡◌, ℕ, Option, Some, None, refl, sym, subst, ◌∙◌}
use Rattle.mg_model.specs.declared.refusal.Refusal.{Refusal}
use Rattle.mg_model.specs.declared.refusal.Refusal.TheVariants.{Waits}
use Rattle.mg_records.specs.Meaning.{Means}
use Rattle.mg_calls.specs.declared.writing.Written.{Written}
use Rattle.mg_calls.specs.declared.writing.Written.TheVariants as written
use Rattle.mg_calls.specs.Frames.{Frames}
use Rattle.mg_calls.specs.Quiet.{AreQuiet}
use Rattle.mg_calls.specs.QuietLaws.{calm_by}
use Rattle.mg_calls.specs.Writes.{ended_by, refusal_written}
use Rattle.mg_exec.specs.declared.phase.NewTable.{NewTable}
use Rattle.mg_exec.specs.declared.phase.Turn.{Turn}
use Rattle.mg_exec.specs.Creating.{turned_table}
use Rattle.mg_exec.specs.Phases.{IsReadyToCreate, Leaves, rolled_back_at}

-- calls keep the sizes of pages
pub ready_to_create : {R P : Type 0} (m : Means R P) (old new : R) (u : ℕ) (refusal : Option Refusal)
    (table : NewTable) → Frames m old new u refusal → IsReadyToCreate m old table
    → IsReadyToCreate m new table
ready_to_create m old new u refusal table frames ready = record {
  named = ready.named;
  other = ready.other;
  lawful = ready.lawful;
  pages = (ready.pages.0, frames.sizes ready.pages.0 ∙ ready.pages.1, ready.pages.2);
}

leaves_at : {R P : Type 0} (m : Means R P) (old new : R) (t : ℕ) (table : NewTable) (result : Written)
    → IsReadyToCreate m old table → Frames m old new t (refusal_written result)
    → AreQuiet m old new (ended_by t result) → Leaves {P = P} m old new t (turned_table table result)
leaves_at m old new t table written.Done ready frames quiet =
    record { frames = frames; ready = tt; calm = calm_by m old new None quiet }
leaves_at m old new t table (written.Waits on) ready frames quiet = record {
  frames = frames;
  ready = ready_to_create m old new t (Some (Waits on)) table frames ready;
  calm = calm_by m old new None quiet;
}
leaves_at m old new t table (written.Refused refusal) ready frames quiet =
    record { frames = frames; ready = tt; calm = calm_by m old new None quiet }
leaves_at m old new t table (written.RolledBack refusal) ready frames quiet =
    record { frames = frames; ready = tt; calm = calm_by m old new (Some t) quiet }

pub table_leaves : {R P : Type 0} (m : Means R P) (old new : R) (t : ℕ) (table : NewTable)
    (result : Written) (turn : Turn P) → turn ≡ turned_table table result → IsReadyToCreate m old table
    → Frames m old new t (refusal_written result) → AreQuiet m old new (ended_by t result)
    → Leaves m old new t turn
table_leaves {P = P} m old new t table result turn is ready frames quiet =
    subst (λ (turn : Turn P). Leaves m old new t turn) (sym is)
    (leaves_at m old new t table result ready frames quiet)

ends_so : (P : Type 0) (t : ℕ) (table : NewTable) (result : Written)
    → ended_by t result ≡ rolled_back_at {P = P} t (turned_table table result).phase
ends_so P t table written.Done = refl
ends_so P t table (written.Waits on) = refl
ends_so P t table (written.Refused refusal) = refl
ends_so P t table (written.RolledBack refusal) = refl

pub table_quiet : {R P : Type 0} (m : Means R P) (old new : R) (t : ℕ) (table : NewTable)
    (result : Written) (turn : Turn P) → turn ≡ turned_table table result
    → AreQuiet m old new (ended_by t result) → AreQuiet m old new (rolled_back_at t turn.phase)
table_quiet {P = P} m old new t table result turn is quiet =
    subst (λ (turn : Turn P). AreQuiet m old new (rolled_back_at t turn.phase)) (sym is)
    (subst (λ (ends : Option ℕ). AreQuiet m old new ends) (ends_so P t table result) quiet)

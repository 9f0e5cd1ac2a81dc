-- What a call leaves of an engine, whatever history that stands for.
use Rattle.std.specs.Prelude.{◌≡◌, ◌≢◌, ℕ, List, Option, is_some}
use Rattle.mg_base.specs.Disk.{Meaning}
use Rattle.mg_model.specs.declared.answer.Answer.{Answer}
use Rattle.mg_model.specs.declared.event.Event.{Event}
use Rattle.mg_model.specs.declared.refusal.Refusal.{Refusal}
use Rattle.mg_pool.specs.Run.{TimeGoesOn}
use Rattle.mg_pool.specs.declared.pool.Pool.{Pool}
use Rattle.mg_records.specs.Adding.{Adds}
use Rattle.mg_records.specs.Crashing.{LeavesQuietly}
use Rattle.mg_records.specs.Keeping.{Causes, IsOffline, Leaves, down_after}
use Rattle.mg_records.specs.Sessions.{SessionsStay}
use Rattle.mg_works.specs.Works.{Working, has_session, work_of}
use Rattle.mg_core.specs.declared.parts.Core.{Core}
use Rattle.mg_engine_meaning_laws.specs.Meaning.{Places, means}
use Rattle.mg_engine_meaning_laws.specs.Standings.{mode_kept, session_kept}

-- Time went on at the store's disk, and its pages have the size that they had.
pub record StoreGoesOn {D L : Type 0} (m : Meaning D) (old new : Pool D L) : Type 0 where
  pub time : TimeGoesOn m old.disk new.disk
  pub geometry : new.geometry ≡ old.geometry
  pub size : new.dirty.size ≡ old.dirty.size

-- The works are as they were, but for that of one transaction, which keeps its session and its mode.
pub record WorksStay (old new : List Working) (t : ℕ) : Type 0 where
  pub others : (u : ℕ) → u ≢ t → work_of new u ≡ work_of old u
  pub sessions : (session : ℕ) → has_session new session ≡ has_session old session
  pub active : is_some (work_of new t) ≡ is_some (work_of old t)
  pub session : session_kept (work_of new t) ≡ session_kept (work_of old t)
  pub mode : mode_kept (work_of new t) ≡ mode_kept (work_of old t)

-- A call may answer so: a refusal has its cause, once a page write has failed each call is refused, and a page
-- write that fails is told.
pub record MayAnswer {D P : Type 0} (m : Meaning D) (places : Places P) (old new : Core D)
    (refusal : Option Refusal) : Type 0 where
  pub cause : Causes (means m places) old new refusal
  pub offline : IsOffline old.store.offline refusal
  pub down : new.store.offline ≡ down_after old.store.offline refusal

-- A call gives an event: its entry comes to the history, and what is not its own goes on as it was.
pub record GivesEvent {D P : Type 0} (m : Meaning D) (places : Places P) (old new : Core D)
    (event : Event) (answer : Answer) (refusal : Option Refusal) (tables walks begins ends : Option ℕ)
    : Type 0 where
  pub adds : Adds (means m places) old new event answer
  pub leaves : Leaves (means m places) old new refusal tables walks
  pub crash : LeavesQuietly (means m places) old new
  pub sessions : SessionsStay (means m places) old new begins ends

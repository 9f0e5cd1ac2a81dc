-- What an engine leaves that is closed.
use Rattle.std.specs.Prelude.{◌≡◌, ℕ, true, List, [], None, Some, Result, Ok, Err}
use Rattle.mg_base.specs.Disk.{FailsNoWrite, Meaning, Rose}
use Rattle.mg_base.specs.Image.{Image, page_at}
use Rattle.mg_core.specs.declared.parts.Core.{Core}
use Rattle.mg_engine_meaning_laws.specs.PlainTables.{EachIsPlain}
use Rattle.mg_engine_meaning_laws.specs.Standings.{StandsFor}
use Rattle.mg_image.specs.Form.{packed_form}
use Rattle.mg_image.specs.Histories.{HoldsDurable, durable_committed, newest_at}
use Rattle.mg_image.specs.Inventory.{next_of, state_at}
use Rattle.mg_image.specs.Opening.{IsOpened}
use Rattle.mg_lasting_laws.specs.Crashes.{HoldsAcknowledged, LeavesSince}
use Rattle.mg_model.specs.Answers.{is_committed}
use Rattle.mg_model.specs.Changes.{row_at}
use Rattle.mg_model.specs.History.{Entries}
use Rattle.mg_model.specs.Legal.{durable_changes, durable_count, durable_database, durable_limbo, is_limbo}
use Rattle.mg_model.specs.Machine.{next_number, opening_rows, opening_state, own}
use Rattle.mg_model.specs.declared.opening.Opening.{Opening}
use Rattle.mg_model.specs.declared.refusal.Refusal.{Refusal}
use Rattle.mg_model.specs.declared.refusal.Refusal.TheVariants.{DiskWrite, Offline}
use Rattle.mg_pool.specs.Pool.{HasAtMost}
use Rattle.mg_survey.specs.Survey.{IsSameDisk}
use Rattle.mg_value.specs.declared.value.Value.{Value}
use Rattle.mg_space.specs.FreePages.{HasFree}
use Rattle.mg_engine_meaning_laws.specs.FreePages.{CoreHasFree}
use Rattle.mg_engine_meaning_laws.specs.Openings.{IsSettledOn}

-- ---- what is left

-- A disk has what an engine left that stood for a history: it tells its images, and nothing is pending; its image is
-- sound, its tables are plain, it holds what the history has after its k-th durable event, and the number that it
-- draws next is the history's.
pub record HasLeft {D : Type 0} (m : Meaning D) (disk : D) (size : ℕ) (o : Opening) (h : Entries) (k : ℕ)
    : Type 0 where
  pub image : Image
  pub settled : IsSettledOn m disk image
  pub holds : HoldsDurable packed_form size (page_at size image) o h k
  pub sound : IsOpened packed_form size (page_at size image) holds.opened
  pub plain : EachIsPlain size (state_at size (page_at size image)) (page_at size image)
  pub next : next_of (page_at size image) ≡ next_number o h

-- An engine has left what its history has after its last durable event, and as many pages are free as its cache tells.
pub record LeavesAll {D : Type 0} (m : Meaning D) (old : Core D) (new : D) (o : Opening) (h : Entries) : Type 0 where
  pub left : HasLeft m new old.store.geometry.size o h (durable_count h)
  pub free : (count : ℕ) → CoreHasFree m old count
      → HasFree old.store.geometry (page_at old.store.geometry.size left.image) count

-- why a database is not closed: an earlier page write had failed, and nothing was written; or one failed now, or the
-- settling
abbrev pub RefusesClose : {D : Type 0} → Meaning D → Core D → D → Refusal → Type 0
RefusesClose m old new (Offline count) = (old.store.offline ≡ Some count) × (new ≡ old.store.disk)
RefusesClose m old new (DiskWrite count) =
    (old.store.offline ≡ None) × Rose (m.faults old.store.disk) (m.faults new)
    × Rose (m.failed_writes old.store.disk) (m.failed_writes new)
RefusesClose m old new refusal = ⊥

-- an engine has left its disk, and no call of that has failed; or the closing is refused
abbrev pub Ends : {D : Type 0} → Meaning D → Core D → D → Result (Unit {0}) Refusal → Type 0
Ends m old new (Ok x) = (old.store.offline ≡ None) × (m.faults new ≡ m.faults old.store.disk)
    × ((o : Opening) (h : Entries) → StandsFor m old o h → LeavesAll m old new o h)
    × FailsNoWrite m old.store.disk new
Ends m old new (Err refusal) = RefusesClose m old new refusal

-- An engine was closed, or not: the disk comes back, and each image that a crash since the start might have left holds
-- the history, with all its durable events.
pub record ClosesEngine {D : Type 0} (m : Meaning D) (old : Core D) (new : D) (result : Result (Unit {0}) Refusal)
    : Type 0 where
  pub ended : Ends m old new result
  pub same : IsSameDisk m old.store.disk new
  -- the disk has no more pages than the page limit
  pub within : HasAtMost m new old.store.geometry.limit
  pub crash : (o : Opening) (h : Entries) → StandsFor m old o h
      → LeavesSince m old.store.disk new (HoldsAcknowledged packed_form old.store.geometry.size o h)

-- ---- two runs

-- A history begins with what another one has after its k-th durable event: with its database, with the same
-- transactions committed and in limbo, and with the changes of the latter.
pub record GoesOnFrom (o : Opening) (h : Entries) (k : ℕ) (later : Opening) : Type 0 where
  pub rows : (name : List ℕ) (key : Value)
      → row_at (opening_rows later) name key ≡ row_at (durable_database o h k) name key
  pub committed : (t : ℕ) → is_committed (opening_state later t) ≡ durable_committed o h k t
  pub limbo : (t : ℕ) → is_limbo (opening_state later t) ≡ durable_limbo o h k t
  pub changes : (t : ℕ) (name : List ℕ) (key : Value) → durable_limbo o h k t ≡ true
      → newest_at (own later [] t) name key ≡ newest_at (durable_changes o h k t) name key

-- An engine stands for a history that has no entry, and begins with what another one has after its k-th durable event;
-- it draws the number next that the other one would have drawn.
pub record TakesUp {D : Type 0} (m : Meaning D) (core : Core D) (o : Opening) (h : Entries) (k : ℕ) : Type 0 where
  pub later : Opening
  pub goes_on : GoesOnFrom o h k later
  pub next : later.next.0 ≡ next_number o h
  pub stands : StandsFor m core later []

-- Who is in the way of a write, and what is told of it.
use Rattle.std.specs.Prelude.{◌≡◌, ◌⊎◌, ℕ, Bool, List, Option, None, Some}
use Rattle.mg_base.specs.Disk.{Meaning}
use Rattle.mg_base.specs.Image.{Image}
use Rattle.mg_base.specs.declared.numbers.RecId.{RecId}
use Rattle.mg_base.specs.declared.numbers.TxNo.{TxNo}
use Rattle.mg_image.specs.Form.{Pages}
use Rattle.mg_model.specs.Catalog.{table_key}
use Rattle.mg_model.specs.declared.refusal.Refusal.{Refusal}
use Rattle.mg_model.specs.declared.refusal.Refusal.TheVariants.{Deadlock, InLimbo, LockConflict, Memory, UpdateConflict, Waits}
use Rattle.mg_pool.specs.Pool.{shown}
use Rattle.mg_pool.specs.declared.pool.Pool.{Pool}
use Rattle.mg_row_writes.specs.Finding.{IsInWay, IsObstacleAt, RefusesObstacleAt, RefusesWay}
use Rattle.mg_seek.specs.declared.views.Obstacle.{Obstacle}
use Rattle.mg_space.specs.View.{Tells}
use Rattle.mg_space.specs.declared.fault.SpaceFault.{SpaceFault}
use Rattle.mg_space.specs.declared.links.FireLinks.{FireLinks}
use Rattle.mg_txlist.specs.TxList.{said}
use Rattle.mg_waits.specs.Waits.{Edges, IsVerdict, NowWaits, edges_in}
use Rattle.mg_waits.specs.declared.verdict.Verdict.{Verdict}
use Rattle.mg_waits.specs.declared.verdict.Verdict.TheVariants as verdicts
use Rattle.mg_core.specs.declared.parts.Core.{Core}
use Rattle.mg_core.specs.Reading.{FailsReading, OnlyReads}

-- ---- what is told of one

-- t waits for this one from now on
pub record NotesWait {D : Type 0} (old new : Core D) (t : ℕ) (by : TxNo) (refusal : Refusal) : Type 0 where
  pub is : refusal ≡ Waits by
  pub waits : NowWaits (edges_in old.waits) (edges_in new.waits) t (Some by.0)
  pub same : new ≡ record old { waits = new.waits }

-- a refusal is this one, and nothing has changed
abbrev pub IsTold : {D : Type 0} → Core D → Core D → Refusal → Refusal → Type 0
IsTold old new told refusal = (refusal ≡ told) × (new ≡ old)

-- A verdict is told. Where t is to wait this is noted, and for want of memory it is not.
abbrev pub TellsVerdict : {D : Type 0} → Core D → Core D → ℕ → TxNo → Verdict → Refusal → Type 0
TellsVerdict old new t by verdicts.Update refusal = IsTold old new (UpdateConflict by) refusal
TellsVerdict old new t by verdicts.Lock refusal = IsTold old new (LockConflict by) refusal
TellsVerdict old new t by verdicts.Wait refusal =
    NotesWait old new t by refusal ⊎ IsTold old new Memory refusal
TellsVerdict old new t by verdicts.Deadlock refusal = IsTold old new (Deadlock by) refusal
TellsVerdict old new t by verdicts.Limbo refusal = IsTold old new (InLimbo by) refusal

-- One is in the way of t, and what it is told of it is the verdict.
pub record Hinders {D : Type 0} (old new : Core D) (t : ℕ) (wait : Bool) (obstacle : Obstacle)
    (refusal : Refusal) : Type 0 where
  pub verdict : Verdict
  pub is : IsVerdict (edges_in old.waits) t obstacle.by.0 obstacle.state wait (Some verdict)
  pub told : TellsVerdict old new t obstacle.by verdict refusal

abbrev pub HindersBy : {D : Type 0} → Core D → Core D → ℕ → Bool → Option Obstacle → Refusal → Type 0
HindersBy old new t wait None refusal = ⊥
HindersBy old new t wait (Some obstacle) refusal = Hinders old new t wait obstacle refusal

-- nobody is in the way, or one that is dead
abbrev pub IsPassed : Edges → ℕ → Bool → Option Obstacle → Type 0
IsPassed waits t wait None = Unit {0}
IsPassed waits t wait (Some obstacle) = IsVerdict waits t obstacle.by.0 obstacle.state wait None

-- ---- an obstacle that is read

-- Who may be in the way was read, and is not. `is` says who it is, by the pages.
pub record Passes {D : Type 0} (m : Meaning D) (old new : Core D) (t : ℕ) (wait : Bool)
    (is : Pages → Option Obstacle → Type 0) : Type 0 where
  pub found : Option Obstacle
  pub reads : OnlyReads m old new
  pub told : (image : Image) → Tells m old.store.disk image → is (shown old.store.dirty image) found
  pub passed : IsPassed (edges_in old.waits) t wait found

-- It was not read, for the cause `why`; or it was, and is in the way.
pub data Stops {D : Type 0} (m : Meaning D) (old new : Core D) (t : ℕ) (wait : Bool)
    (is : Pages → Option Obstacle → Type 0) (why : Pool D FireLinks → Pages → SpaceFault → Type 0)
    (refusal : Refusal) : Type 0 where
  unread : FailsReading m old new why refusal → Stops m old new t wait is why refusal
  hindered : (read : Core D) (found : Option Obstacle) → OnlyReads m old read
      → ((image : Image) → Tells m old.store.disk image → is (shown old.store.dirty image) found)
      → HindersBy read new t wait found refusal → Stops m old new t wait is why refusal

-- ---- of a table, and of a record

-- who is in the way by the table's row of the catalog
abbrev pub IsOfTable : {D : Type 0} → Core D → TxNo → List ℕ → Pages → Option Obstacle → Type 0
IsOfTable core t name view found =
    IsObstacleAt (said core.list) core.live t.0 view core.catalog (table_key name) found

abbrev pub WhyOfTable : {D : Type 0} → Meaning D → Core D → List ℕ → Pool D FireLinks → Pages → SpaceFault
    → Type 0
WhyOfTable m core name store view fault = RefusesObstacleAt m store view
    (said core.list) core.live core.catalog (table_key name) fault

abbrev pub PassesTable : {D : Type 0} → Meaning D → Core D → Core D → TxNo → Bool → List ℕ → Type 0
PassesTable m old new t wait name = Passes m old new t.0 wait (IsOfTable old t name)

abbrev pub StopsAtTable : {D : Type 0} → Meaning D → Core D → Core D → TxNo → Bool → List ℕ → Refusal → Type 0
StopsAtTable m old new t wait name refusal = IsTold old new Memory refusal
    ⊎ Stops m old new t.0 wait (IsOfTable old t name) (WhyOfTable m old name) refusal

-- who is in the way by the record that speaks for the key
abbrev pub IsOfRecord : {D : Type 0} → Core D → TxNo → Option RecId → Pages → Option Obstacle → Type 0
IsOfRecord core t rec view found = IsInWay (said core.list) core.live t.0 view rec found

abbrev pub WhyOfRecord : {D : Type 0} → Meaning D → Core D → Option RecId → Pool D FireLinks → Pages → SpaceFault
    → Type 0
WhyOfRecord m core rec store view fault = RefusesWay m store view rec fault

abbrev pub PassesRecord : {D : Type 0} → Meaning D → Core D → Core D → TxNo → Bool → Option RecId → Type 0
PassesRecord m old new t wait rec = Passes m old new t.0 wait (IsOfRecord old t rec)

abbrev pub StopsAtRecord : {D : Type 0} → Meaning D → Core D → Core D → TxNo → Bool → Option RecId → Refusal
    → Type 0
StopsAtRecord m old new t wait rec refusal =
    Stops m old new t.0 wait (IsOfRecord old t rec) (WhyOfRecord m old rec) refusal

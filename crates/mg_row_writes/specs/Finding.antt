-- What a write finds at its key.
use Rattle.std.specs.Prelude.{◌≡◌, ℕ, Bool, List, [], Option, None, Some}
use Rattle.mg_base.specs.Disk.{Meaning}
use Rattle.mg_base.specs.declared.numbers.RecId.{RecId}
use Rattle.mg_base.specs.declared.numbers.TxNo.{TxNo}
use Rattle.mg_base.specs.declared.transaction.TxState.{TxState}
use Rattle.mg_chain.specs.Refusals.{RefusesChain}
use Rattle.mg_image.specs.Form.{Pages, Row}
use Rattle.mg_model.specs.declared.table.Table.{Table}
use Rattle.mg_pool.specs.declared.pool.Pool.{Pool}
use Rattle.mg_snap.specs.Live.{State}
use Rattle.mg_space.specs.declared.fault.SpaceFault.{SpaceFault}
use Rattle.mg_value.specs.declared.value.Value.{Value}
use Rattle.mg_seek.specs.Candidates.{AreEnough}
use Rattle.mg_seek.specs.Refusals.{RefusesRecord}
use Rattle.mg_seek.specs.Speaking.{IsSpeaker, RefusesTableRows}
use Rattle.mg_seek.specs.Versions.{wants}
use Rattle.mg_seek.specs.Views.{IsObstacle, IsRowSeen}
use Rattle.mg_seek.specs.declared.views.Obstacle.{Obstacle}
use Rattle.mg_seek.specs.declared.whose.Wanted.TheVariants.{Living, SeenBy}
use Rattle.mg_row_writes.specs.declared.finding.ObstacleAt.{ObstacleAt}
use Rattle.mg_row_writes.specs.declared.finding.RowAt.{RowAt}

-- ---- candidates

-- candidates are enough, if there are any; without them each record of the table is looked at
abbrev pub MayTell : (ℕ → TxState) → State → Pages → Table → Value → Option (List RecId) → Type 0
MayTell state live view table key None = Unit {0}
MayTell state live view table key (Some candidates) = AreEnough state live view table key candidates

-- ---- obstacles

-- the obstacle of a record, none where there is no record
abbrev pub IsInWay : (ℕ → TxState) → State → ℕ → Pages → Option RecId → Option Obstacle → Type 0
IsInWay state live t view None found = found ≡ None
IsInWay state live t view (Some rec) found = IsObstacle state live t view rec found

-- why the obstacle of a record is not found, but for faults of the cache
abbrev pub RefusesWay : {D L : Type 0} → Meaning D → Pool D L → Pages → Option RecId → SpaceFault → Type 0
RefusesWay m store view None fault = ⊥
RefusesWay m store view (Some rec) fault = RefusesChain m store [] view rec fault

-- The obstacle of a key: that of the record that speaks for it.
pub record IsObstacleAt (state : ℕ → TxState) (live : State) (t : ℕ) (view : Pages) (table : Table)
    (key : Value) (found : Option Obstacle) : Type 0 where
  pub speaks : Option RecId
  pub spoken : IsSpeaker state live view table key speaks
  pub in_way : IsInWay state live t view speaks found

-- So it is found, with that record.
pub record IsFoundAt (state : ℕ → TxState) (live : State) (t : ℕ) (view : Pages) (table : Table) (key : Value)
    (found : ObstacleAt) : Type 0 where
  pub spoken : IsSpeaker state live view table key found.rec
  pub in_way : IsInWay state live t view found.rec found.obstacle

-- a record that was found speaks for the key
abbrev pub SpeaksThere : (ℕ → TxState) → State → Pages → Table → Value → Option RecId → Type 0
SpeaksThere state live view table key None = Unit {0}
SpeaksThere state live view table key (Some rec) = IsSpeaker state live view table key (Some rec)

-- Why the obstacle of a key is not found, but for faults of the cache.
pub data RefusesObstacleAt {D L : Type 0} (m : Meaning D) (store : Pool D L) (view : Pages)
    (state : ℕ → TxState) (live : State) (table : Table) (key : Value) (fault : SpaceFault) : Type 0 where
  way_unspoken : RefusesTableRows m store [] view (wants state live Living) table fault
      → RefusesObstacleAt m store view state live table key fault
  way_unread : (rec : Option RecId) → IsSpeaker state live view table key rec
      → RefusesWay m store view rec fault
      → RefusesObstacleAt m store view state live table key fault

-- ---- rows

-- the row that a transaction sees of a record, none where there is no record
abbrev pub IsSeenIn : (ℕ → TxState) → State → TxNo → Pages → Table → Option RecId → Option Row → Type 0
IsSeenIn state live t view table None row = row ≡ None
IsSeenIn state live t view table (Some rec) row = IsRowSeen state live t view table rec row

-- why the row of a record is not read, but for faults of the cache
abbrev pub RefusesSeen : {D L : Type 0} → Meaning D → Pool D L → Pages → (ℕ → Bool) → Table → Option RecId
    → SpaceFault → Type 0
RefusesSeen m store view takes table None fault = ⊥
RefusesSeen m store view takes table (Some rec) fault =
    RefusesRecord m store [] view takes table rec fault

-- The record that speaks for a key, with the row that a transaction sees there.
pub record IsRowAt (state : ℕ → TxState) (live : State) (t : TxNo) (view : Pages) (table : Table)
    (key : Value) (found : RowAt) : Type 0 where
  pub spoken : IsSpeaker state live view table key found.rec
  pub seen : IsSeenIn state live t view table found.rec found.row

-- Why that row is not read, but for faults of the cache.
pub data RefusesRowAt {D L : Type 0} (m : Meaning D) (store : Pool D L) (view : Pages)
    (state : ℕ → TxState) (live : State) (t : TxNo) (table : Table) (key : Value) (fault : SpaceFault)
    : Type 0 where
  row_unspoken : RefusesTableRows m store [] view (wants state live Living) table fault
      → RefusesRowAt m store view state live t table key fault
  row_unread : (rec : Option RecId) → IsSpeaker state live view table key rec
      → RefusesSeen m store view (wants state live (SeenBy t)) table rec fault
      → RefusesRowAt m store view state live t table key fault

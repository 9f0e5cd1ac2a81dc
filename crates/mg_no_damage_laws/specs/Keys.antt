-- What a write finds at its key, and what a transaction finds under a name, is read in lawful tables.
use Rattle.std.specs.Prelude.{ℕ, Bool, Option}
use Rattle.mg_base.specs.Disk.{Meaning}
use Rattle.mg_base.specs.Image.{Image}
use Rattle.mg_base.specs.declared.damage.Damaged.{Damaged}
use Rattle.mg_base.specs.declared.numbers.RecId.{RecId}
use Rattle.mg_base.specs.declared.numbers.TxNo.{TxNo}
use Rattle.mg_base.specs.declared.transaction.TxState.{TxState}
use Rattle.mg_image.specs.RecordRules.{Facts}
use Rattle.mg_image.specs.Records.{Reading}
use Rattle.mg_image.specs.Tables.{Stand}
use Rattle.mg_model.specs.declared.table.Table.{Table}
use Rattle.mg_pool.specs.Pool.{shown}
use Rattle.mg_pool.specs.declared.pool.Pool.{Pool}
use Rattle.mg_row_writes.specs.Finding.{RefusesObstacleAt, RefusesRowAt, RefusesSeen, RefusesWay}
use Rattle.mg_seek.specs.Speaking.{IsSpeaker}
use Rattle.mg_snap.specs.Live.{State}
use Rattle.mg_space.specs.declared.fault.SpaceFault.TheVariants as faults
use Rattle.mg_space.specs.declared.links.FireLinks.{FireLinks}
use Rattle.mg_value.specs.declared.value.Value.{Value}
use Rattle.mg_no_damage_laws.specs.Sees.{no_batch}
use Rattle.mg_no_damage_laws.specs.Tables.{SeesTable}

-- whoever is in the way by the record that speaks for a key is found
abbrev pub WaysAreRead : {D : Type 0} → Meaning D → Type 0
WaysAreRead {D} m = (store : Pool D FireLinks) (image : Image) (f : Facts) (r : Reading) (stand : Stand)
    (table : Table) → SeesTable m store image no_batch f r stand table → (state : ℕ → TxState)
    (live : State) (key : Value)
    (rec : Option RecId) → IsSpeaker state live (shown store.dirty image) table key rec → (it : Damaged)
    → RefusesWay m store (shown store.dirty image) rec (faults.Damaged it) → ⊥

-- and so is the row of that record, whosever version it is
abbrev pub SpeakersAreRead : {D : Type 0} → Meaning D → Type 0
SpeakersAreRead {D} m = (store : Pool D FireLinks) (image : Image) (f : Facts) (r : Reading) (stand : Stand)
    (table : Table) → SeesTable m store image no_batch f r stand table → (state : ℕ → TxState)
    (live : State) (key : Value)
    (rec : Option RecId) → IsSpeaker state live (shown store.dirty image) table key rec
    → (takes : ℕ → Bool) (it : Damaged)
    → RefusesSeen m store (shown store.dirty image) takes table rec (faults.Damaged it)
    → ⊥

-- who is in the way of a write at a key is found
abbrev pub ObstaclesAreRead : {D : Type 0} → Meaning D → Type 0
ObstaclesAreRead {D} m = (store : Pool D FireLinks) (image : Image) (f : Facts) (r : Reading) (stand : Stand)
    (table : Table) → SeesTable m store image no_batch f r stand table → (state : ℕ → TxState)
    (live : State) (key : Value)
    (it : Damaged)
    → RefusesObstacleAt m store (shown store.dirty image) state live table key
    (faults.Damaged it) → ⊥

-- the row that a transaction sees at a key is read, with the record that speaks for it
abbrev pub KeysAreRead : {D : Type 0} → Meaning D → Type 0
KeysAreRead {D} m = (store : Pool D FireLinks) (image : Image) (f : Facts) (r : Reading) (stand : Stand)
    (table : Table) → SeesTable m store image no_batch f r stand table → (state : ℕ → TxState)
    (live : State) (t : TxNo)
    (key : Value) (it : Damaged)
    → RefusesRowAt m store (shown store.dirty image) state live t table key
    (faults.Damaged it) → ⊥

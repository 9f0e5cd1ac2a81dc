-- The walks of others where a record is written.
use Rattle.std.specs.Prelude.{◌≡◌, ◌≢◌, ℕ, Option, Some}
use Rattle.mg_base.specs.Disk.{Meaning}
use Rattle.mg_base.specs.Image.{Image}
use Rattle.mg_base.specs.declared.transaction.TxState.TheVariants.{Active}
use Rattle.mg_engine_step_laws.specs.reads.Walking.{AreToCome, WalkPlace}
use Rattle.mg_image.specs.Form.{Pages}
use Rattle.mg_model.specs.declared.table.Table.{Table}
use Rattle.mg_model.specs.Changes.{KeyedRows}
use Rattle.mg_pool.specs.Pool.{shown}
use Rattle.mg_pool.specs.declared.pool.Pool.{Pool}
use Rattle.mg_engine_step_laws.specs.standing.Standing.{Standing}

-- whoever is active and not t comes to the same rows over later pages
abbrev pub OthersWalkOn : ℕ → Standing → Pages → Pages → ℕ → Type 0
OthersWalkOn size s pages later t = (u : ℕ) → u ≢ t → s.state u ≡ Active → (table : Table) (after : Option WalkPlace)
    (rows : KeyedRows) → AreToCome size s pages u table after rows → AreToCome size s later u table after rows

-- and over those of a cache afterwards, whatever its disk holds
abbrev pub WalkInto : {D L : Type 0} → Meaning D → ℕ → Standing → Pages → Pool D L → Standing → ℕ → Type 0
WalkInto m size s pages store now t = (u : ℕ) → u ≢ t → s.state u ≡ Active → (table : Table) (after : Option WalkPlace)
    (rows : KeyedRows) → AreToCome size s pages u table after rows
    → (k : Image) × (m.held store.disk ≡ Some k)
    × AreToCome store.geometry.size now (shown store.dirty k) u table after rows

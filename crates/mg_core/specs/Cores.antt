-- What an engine always has, and how each call of a transaction begins.
use Rattle.std.specs.Prelude.{◌≡◌, ◌≢◌, ◌<◌, ℕ, true, List, [], Option, None, Some, is_some}
use Rattle.mg_base.specs.Disk.{Meaning}
use Rattle.mg_base.specs.declared.geometry.TheConstants.{GREATEST_LIMIT}
use Rattle.mg_base.specs.declared.transaction.TxState.{TxState}
use Rattle.mg_base.specs.declared.transaction.TxState.TheVariants.{Active}
use Rattle.mg_model.specs.Catalog.{catalog_name, catalog_shape}
use Rattle.mg_model.specs.declared.refusal.Refusal.{Refusal}
use Rattle.mg_model.specs.declared.refusal.Refusal.TheVariants.{NotActive, Offline}
use Rattle.mg_model.specs.declared.table.Table.{Table}
use Rattle.mg_pool.specs.Pool.{IsPool}
use Rattle.mg_snap.specs.Live.{AreDrawn}
use Rattle.mg_space.specs.Taking.{IsGeometry}
use Rattle.mg_txlist.specs.TxList.{IsTxList, TipsAreBelow, next_said, said}
use Rattle.mg_works.specs.Works.{Working, work_of}
use Rattle.mg_core.specs.declared.parts.Core.{Core}

-- The active transactions in memory are those that are active by their states.
pub record AreActive (state : ℕ → TxState) (works : List Working) : Type 0 where
  pub has_work : (t : ℕ) → state t ≡ Active → is_some (work_of works t) ≡ true
  pub is_active : (t : ℕ) → is_some (work_of works t) ≡ true → state t ≡ Active

-- The table of the catalog: its name and its shape are stated, and it has no index.
pub record IsCatalog (table : Table) : Type 0 where
  pub named : table.name ≡ catalog_name
  pub shape : table.shape ≡ catalog_shape
  pub none : table.indexes ≡ []
  pub below : table.pointer.0 < GREATEST_LIMIT

-- What does not depend on a history.
pub record IsCore {D : Type 0} (m : Meaning D) (core : Core D) : Type 0 where
  pub pool : IsPool m core.store
  pub geometry : IsGeometry core.store.geometry
  pub list : IsTxList core.list
  pub size : core.list.size ≡ core.store.geometry.size
  pub tips : TipsAreBelow core.store.geometry.limit core.list
  pub next : core.live.next ≡ next_said core.list
  pub drawn : AreDrawn core.live
  pub active : AreActive (said core.list) core.works
  pub catalog : IsCatalog core.catalog

-- a call of a transaction goes on: no page write has failed, and the transaction is active
abbrev pub Continues : {D : Type 0} → Core D → ℕ → Type 0
Continues core t = (core.store.offline ≡ None) × (said core.list t ≡ Active)

-- a call is refused by whether a page write has failed, or else by the state of its transaction
abbrev pub IsRefusedBy : Option ℕ → TxState → Refusal → Type 0
IsRefusedBy offline state (Offline faults) = offline ≡ Some faults
IsRefusedBy offline state (NotActive told) = (offline ≡ None) × (state ≡ told) × (state ≢ Active)
IsRefusedBy offline state refusal = ⊥

-- it is refused: a page write has failed, or the transaction is not active
abbrev pub RefusesCall : {D : Type 0} → Core D → ℕ → Refusal → Type 0
RefusesCall core t refusal = IsRefusedBy core.store.offline (said core.list t) refusal

-- Some rows of the catalog were taken out after the keys: what is known of the cache then, whatever comes of the next row.
-- Of a table a part may be left then, of a transaction that is given up.
use Rattle.std.specs.Prelude.{◌≡◌, ℕ}
use Rattle.mg_base.specs.Disk.{Meaning}
use Rattle.mg_base.specs.Image.{Image}
use Rattle.mg_base.specs.declared.transaction.TxState.{TxState}
use Rattle.mg_core.specs.declared.parts.Core.{Core}
use Rattle.mg_engine_meaning_laws.specs.Falling.{all_but}
use Rattle.mg_engine_change_laws.specs.tables_back.CoreRows.{KnowsStore}
use Rattle.mg_engine_step_laws.specs.backs.Midway.{LastsDead}
use Rattle.mg_engine_step_laws.specs.tables_back.TablesBack.{StoodBeside}
use Rattle.mg_engine_change_laws.specs.rows.Tips.{KeepsTips}
use Rattle.mg_engine_step_laws.specs.tables_back.Outs.{GoOrStay}
use Rattle.mg_engine_step_laws.specs.standing.Standing.{Standing}
use Rattle.mg_image.specs.Form.{Pages, packed_form}
use Rattle.mg_image.specs.Records.{Reading}
use Rattle.mg_image.specs.Sound.{IsSoundBy}
use Rattle.mg_image.specs.Tables.{Layout}
use Rattle.mg_model.specs.History.{Entries}
use Rattle.mg_model.specs.declared.opening.Opening.{Opening}
use Rattle.mg_overlay_laws.specs.Overlays.{left_state}
use Rattle.mg_pool.specs.Pool.{shown}
use Rattle.mg_pool.specs.declared.pool.Pool.{Pool}
use Rattle.mg_pool_overlay_laws.specs.Needs.{Asked, Sessions}
use Rattle.mg_space.specs.declared.links.FireLinks.{FireLinks}

-- where a transaction counts as dead, later pages have the layout of the ones before, and each record reads as it did, or had
-- one version, the transaction's own, and has none
abbrev pub LoseRows : ℕ → (ℕ → TxState) → ℕ → Pages → Pages → Type 0
LoseRows size state t pages later = (a b : Layout) (r q : Reading)
    → IsSoundBy packed_form size (left_state (all_but t) state) pages a r
    → IsSoundBy packed_form size (left_state (all_but t) state) later b q → (a ≡ b) × GoOrStay t r q

-- From one engine in the middle of the way back to a later one, between which only rows of the catalog may have gone.
pub record HasLost {D : Type 0} (m : Meaning D) (size : ℕ) (o : Opening) (h : Entries) (t : ℕ) (s : Standing)
    (start : Pool D FireLinks) (mid at : Core D) (i j : Image) (asked : Asked) (session : Sessions) : Type 0 where
  pub cache : LastsDead m packed_form size o h t start at.store asked session
  pub loses : LoseRows size s.state t (shown mid.store.dirty i) (shown at.store.dirty j)
  pub tips : KeepsTips size (shown mid.store.dirty i) (shown at.store.dirty j)
  pub stood : StoodBeside size s.state t (shown mid.store.dirty i) (shown at.store.dirty j)
  pub knows : KnowsStore m at.store j
  pub size_is : at.store.geometry.size ≡ size
  pub same : at ≡ record mid { store = at.store }

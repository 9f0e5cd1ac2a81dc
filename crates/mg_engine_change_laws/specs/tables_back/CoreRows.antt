-- What the core takes out of the catalog, row by row, is what the laws take.
use Rattle.std.specs.Prelude.{◌≡◌, ℕ, List, None}
use Rattle.mg_base.specs.Disk.{Meaning}
use Rattle.mg_base.specs.Image.{Image}
use Rattle.mg_value.specs.declared.value.Value.{Value}
use Rattle.mg_pool.specs.Pool.{IsPool}
use Rattle.mg_pool.specs.declared.pool.Pool.{Pool}
use Rattle.mg_pool_overlay_laws.specs.Needs.{Asked, Sessions}
use Rattle.mg_space.specs.Taking.{IsGeometry}
use Rattle.mg_space.specs.View.{Tells}
use Rattle.mg_space.specs.declared.links.FireLinks.{FireLinks}
use Rattle.mg_txlist.specs.TxList.{said}
use Rattle.mg_core.specs.Cores.{IsCatalog}
use Rattle.mg_core.specs.declared.parts.Core.{Core}
use Rattle.mg_engine_step_laws.specs.backs.Midway.{GoesBack, LastsDead}
use Rattle.mg_engine_step_laws.specs.standing.Standing.{Remembers, Standing}
use Rattle.mg_engine_step_laws.specs.tables_back.TablesBack.{TakesEachRow, TakesTheRow as TakesOut}
use Rattle.mg_image.specs.Form.{packed_form}
use Rattle.mg_model.specs.History.{Entries, Entry}
use Rattle.mg_model.specs.Legal.{IsLegal, MayBegin}
use Rattle.mg_model.specs.declared.change.Point.{Point}
use Rattle.mg_model.specs.declared.opening.Opening.{Opening}
use Rattle.mg_engine_change_laws.specs.keys.Keys.{HasCatalog}
use Rattle.mg_table_takings.specs.Takings.{TakesRows}

-- What is known of a store before rows are taken out of it.
pub record KnowsStore {D : Type 0} (m : Meaning D) (pool : Pool D FireLinks) (i : Image) : Type 0 where
  pub pool_is : IsPool m pool
  pub geometry : IsGeometry pool.geometry
  pub online : pool.offline ≡ None
  pub tells : Tells m pool.disk i

-- The row of a key was taken out: the step is one of the laws, over an image that the disk tells then.
pub record HasTakenRow {D : Type 0} (m : Meaning D) (s : Standing) (t : ℕ) (key : Value) (old new : Core D)
    (i : Image) : Type 0 where
  pub image : Image
  pub step : TakesOut m s t key old.store new.store i image
  pub knows : KnowsStore m new.store image

-- those of several, one after another
pub record HasTakenRows {D : Type 0} (m : Meaning D) (s : Standing) (t : ℕ) (keys : List Value) (old new : Core D)
    (i : Image) : Type 0 where
  pub image : Image
  pub steps : TakesEachRow m s t keys old.store new.store i image
  pub knows : KnowsStore m new.store image
  pub size_is : new.store.geometry.size ≡ old.store.geometry.size
  pub same : new ≡ record old { store = new.store }

-- So the core takes out what the laws take, of a transaction that goes back.
abbrev pub CoresTakeRows : (D : Type 0) → Meaning D → Type 0
CoresTakeRows D m = (o : Opening) (h : Entries) (e : Entry) (point : Point) (s : Standing) (start : Pool D FireLinks)
    (asked : Asked) (session : Sessions) (t : ℕ) (keys : List Value) (old new : Core D) (i : Image)
    → MayBegin o → IsLegal o h → Remembers o h s → GoesBack o h e point s asked t
    → LastsDead m packed_form old.store.geometry.size o h t start old.store asked session
    → IsCatalog old.catalog → s.state ≡ said old.list → s.live ≡ old.live → KnowsStore m old.store i
    → HasCatalog old old.store i → TakesRows m t keys old new → HasTakenRows m s t keys old new i

-- A key is taken back by the core, in a table that its transaction keeps.
use Rattle.std.specs.Prelude.{◌≡◌, ◌≢◌, ◌∷◌, ℕ, true, List, [], Option, None, Some}
use Rattle.mg_base.specs.Disk.{Meaning}
use Rattle.mg_base.specs.Image.{Image}
use Rattle.mg_base.specs.declared.numbers.RecId.{RecId}
use Rattle.mg_engine_meaning_laws.specs.PlainTables.{HasPlainTables}
use Rattle.mg_engine_meaning_laws.specs.Standings.{KeepsWritten}
use Rattle.mg_engine_step_laws.specs.standing.Standing.{Remembers, ShowsHistory, Standing}
use Rattle.mg_engine_change_laws.specs.keys.TakingSteps.{StandsMidway, TakesKeysOf}
use Rattle.mg_engine_step_laws.specs.backs.Again.{without_key}
use Rattle.mg_engine_step_laws.specs.backs.Midway.{GoesBack}
use Rattle.mg_image.specs.Form.{Pages, packed_form}
use Rattle.mg_model.specs.Catalog.{catalog_name}
use Rattle.mg_model.specs.Changes.{has_change}
use Rattle.mg_model.specs.History.{Entries, Entry}
use Rattle.mg_model.specs.Legal.{IsLegal, MayBegin}
use Rattle.mg_model.specs.Machine.{own}
use Rattle.mg_model.specs.declared.change.Change.{Change}
use Rattle.mg_model.specs.declared.change.Point.{Point}
use Rattle.mg_model.specs.declared.opening.Opening.{Opening}
use Rattle.mg_model.specs.declared.table.Table.{Table}
use Rattle.mg_pool.specs.Pool.{IsPool, shown}
use Rattle.mg_pool.specs.declared.pool.Pool.{Pool}
use Rattle.mg_pool_overlay_laws.specs.Needs.{Asked, Sessions}
use Rattle.mg_space.specs.Taking.{IsGeometry}
use Rattle.mg_space.specs.View.{Tells}
use Rattle.mg_space.specs.declared.links.FireLinks.{FireLinks}
use Rattle.mg_taking_back.specs.Keys.{TakesKey}
use Rattle.mg_undo.specs.Machine.{was_in}
use Rattle.mg_value.specs.declared.value.Value.{Value}
use Rattle.mg_works.specs.Works.{Working, written_to}

-- What is known of the cache before a key is taken back: it tells an image, and the tables on it are plain.
pub record KnowsCache {D : Type 0} (m : Meaning D) (size : ℕ) (s : Standing) (pool : Pool D FireLinks) (i : Image)
    : Type 0 where
  pub pool_is : IsPool m pool
  pub size_is : pool.geometry.size ≡ size
  pub geometry : IsGeometry pool.geometry
  pub online : pool.offline ≡ None
  pub tells : Tells m pool.disk i
  pub plain : HasPlainTables size s.state (shown pool.dirty i)

-- A key of a table was taken back: the steps are those of the laws, readings and entries first, over an image that the
-- disk tells then.
pub record HasTakenKey {D : Type 0} (m : Meaning D) (size : ℕ) (o : Opening) (h : Entries) (e : Entry) (t : ℕ)
    (whole left : List Change) (s : Standing) (start before after : Pool D FireLinks) (i : Image) (asked : Asked)
    (session : Sessions) (speaker : List ℕ → Value → Option RecId) (c : Change) : Type 0 where
  pub image : Image
  pub steps : TakesKeysOf m size o h e t s speaker (c ∷ []) left (without_key c.table c.key left) before after i image
  pub pool_is : IsPool m after
  pub geometry : after.geometry ≡ before.geometry
  pub online : after.offline ≡ None
  pub tells : Tells m after.disk image

-- what the core takes back for a key of a table that the transaction keeps under the number of its name
abbrev pub CoresTakeKeys : (D : Type 0) → Meaning D → Type 0
CoresTakeKeys D m = (size : ℕ) (o : Opening) (h : Entries) (e : Entry) (point : Point) (t : ℕ) (whole left : List Change)
    (s : Standing) (start before after : Pool D FireLinks) (begun : Pages)
    (first : ShowsHistory packed_form size o h s begun) (i : Image) (asked : Asked) (session : Sessions)
    → StandsMidway m size o h e t whole left s start before begun first i asked session → MayBegin o
    → IsLegal o h → Remembers o h s → GoesBack o h e point s asked t → (catalog : ℕ) (works : List Working)
    → KeepsWritten catalog works s.table → KnowsCache m size s before i → (c : Change) → c.table ≢ catalog_name
    → has_change left c.table c.key ≡ true → has_change (own o h t) c.table c.key ≡ true → (table : Table)
    → written_to works t (s.number t c.table) ≡ Some table
    → TakesKey m before after s.state s.live t table c.key (was_in (own o (e ∷ h) t) c.table c.key)
    → HasTakenKey m size o h e t whole left s start before after i asked session first.versions.speaker c

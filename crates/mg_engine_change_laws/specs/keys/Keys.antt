-- Keys are taken back by the core, one after another.
use Rattle.std.specs.Prelude.{◌≡◌, ◌≢◌, ◌∷◌, ◌++◌, ℕ, true, List, [], map}
use Rattle.mg_base.specs.Disk.{Meaning}
use Rattle.mg_base.specs.Image.{Image}
use Rattle.mg_core.specs.declared.parts.Core.{Core}
use Rattle.mg_engine_meaning_laws.specs.Standings.{KeepsWritten}
use Rattle.mg_engine_step_laws.specs.standing.Standing.{Remembers, ShowsHistory, Standing}
use Rattle.mg_engine_change_laws.specs.given_up.Stopping.{EntersBack}
use Rattle.mg_engine_change_laws.specs.keys.Takings.{KnowsCache}
use Rattle.mg_engine_change_laws.specs.keys.TakingSteps.{StandsMidway, TakesKeysOf}
use Rattle.mg_engine_change_laws.specs.backs.ToTake.{AreKeysOf, EachChange}
use Rattle.mg_engine_step_laws.specs.backs.Midway.{GoesBack}
use Rattle.mg_image.specs.Form.{Pages, packed_form}
use Rattle.mg_image.specs.Inventory.{header_of}
use Rattle.mg_model.specs.Catalog.{catalog_name}
use Rattle.mg_model.specs.Changes.{has_change}
use Rattle.mg_model.specs.History.{Entries, Entry}
use Rattle.mg_model.specs.Legal.{IsLegal, MayBegin}
use Rattle.mg_model.specs.Machine.{own}
use Rattle.mg_model.specs.declared.change.Change.{Change}
use Rattle.mg_model.specs.declared.change.Point.{Point}
use Rattle.mg_model.specs.declared.opening.Opening.{Opening}
use Rattle.mg_pool.specs.Pool.{shown}
use Rattle.mg_pool.specs.declared.pool.Pool.{Pool}
use Rattle.mg_pool_overlay_laws.specs.Needs.{Asked, Sessions}
use Rattle.mg_space.specs.declared.links.FireLinks.{FireLinks}
use Rattle.mg_taking_back.specs.Taking.{TakesChanges}
use Rattle.mg_txlist.specs.TxList.{said}
use Rattle.mg_undo.specs.Machine.{given_from}

-- A transaction has made a change, and not in the catalog.
pub record IsOfTable (o : Opening) (h : Entries) (t : ℕ) (c : Change) : Type 0 where
  pub other : c.table ≢ catalog_name
  pub made : has_change (own o h t) c.table c.key ≡ true

-- the catalog begins where the header says
abbrev pub HasCatalog : {D : Type 0} → Core D → Pool D FireLinks → Image → Type 0
HasCatalog core pool i = core.catalog.pointer.0 ≡ (header_of (shown pool.dirty i)).catalog.0

-- Keys were taken back, and more are to be: the steps are those of the laws, only the pages have changed, and the cache is
-- known as before.
pub record HasTakenKeys {D : Type 0} (m : Meaning D) (size : ℕ) (o : Opening) (h : Entries) (e : Entry) (t : ℕ)
    (whole left keys more : List Change) (s : Standing) (start before : Pool D FireLinks) (begun : Pages)
    (first : ShowsHistory packed_form size o h s begun) (i : Image) (asked : Asked) (session : Sessions)
    (core new : Core D) : Type 0 where
  pub rest : List Change
  pub image : Image
  pub steps : TakesKeysOf m size o h e t s first.versions.speaker keys left rest before new.store i image
  pub midway : StandsMidway m size o h e t whole rest s start new.store begun first image asked session
  pub knows : KnowsCache m size s new.store image
  pub catalog : HasCatalog core new.store image
  pub to_come : AreKeysOf more rest
  pub same : new ≡ record core { store = new.store }

-- the core's steps for some of the keys that are to be taken back, where states and bases are those of the core
abbrev pub CoresTakeAll : (D : Type 0) → Meaning D → Type 0
CoresTakeAll D m = (core old new : Core D) (s : Standing) (size : ℕ) (o : Opening)
    (h : Entries) (e : Entry) (point : Point) (t : ℕ) (whole left keys more : List Change)
    (start before : Pool D FireLinks) (begun : Pages)
    (first : ShowsHistory packed_form size o h s begun) (i : Image) (asked : Asked)
    (session : Sessions) → s.state ≡ said core.list → s.live ≡ core.live → MayBegin o → IsLegal o h → Remembers o h s
    → GoesBack o h e point s asked t
    → KeepsWritten core.catalog.pointer.0 core.works s.table → EachChange (IsOfTable o h t) keys
    → AreKeysOf (keys ++ more) left → old ≡ record core { store = before }
    → TakesChanges m t old (map (given_from (s.number t) (own o (e ∷ h) t)) keys) new
    → StandsMidway m size o h e t whole left s start before begun first i asked
    session
    → KnowsCache m size s before i → HasCatalog core before i
    → HasTakenKeys m size o h e t whole left keys more s start before begun first i
    asked session core new

-- and the same keys are taken back once entries of a row were laid, of the table of a further change
abbrev pub CoresEnterSome : (D : Type 0) → Meaning D → Type 0
CoresEnterSome D m = (core at : Core D) (entered : Pool D FireLinks) (s : Standing) (size : ℕ) (o : Opening) (h : Entries)
    (e : Entry) (point : Point) (t : ℕ) (whole left keys more : List Change) (start before : Pool D FireLinks)
    (begun : Pages) (first : ShowsHistory packed_form size o h s begun) (i : Image) (asked : Asked) (session : Sessions)
    → s.state ≡ said core.list → s.live ≡ core.live → MayBegin o → IsLegal o h → Remembers o h s
    → GoesBack o h e point s asked t → KeepsWritten core.catalog.pointer.0 core.works s.table
    → core.catalog.indexes ≡ []
    → HasTakenKeys m size o h e t whole left keys more s start before begun first i asked session core at
    → EntersBack m at entered t
    → HasTakenKeys m size o h e t whole left keys more s start before begun first i asked session core
    (record at { store = entered })

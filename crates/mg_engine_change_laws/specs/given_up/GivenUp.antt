-- An event was to take a transaction back, was refused in the middle, and the transaction is rolled back: what the
-- pages show then, and the engine.
use Rattle.std.specs.Prelude.{◌≡◌, ℕ, false, List, ◌∷◌, Some}
use Rattle.mg_base.specs.Disk.{Meaning}
use Rattle.mg_base.specs.Image.{Image}
use Rattle.mg_base.specs.declared.transaction.TxState.TheVariants.{Active, Dead}
use Rattle.mg_engine_meaning_laws.specs.PlainTables.{HasPlainTables}
use Rattle.mg_engine_step_laws.specs.backs.Again.{AreTaken, rolling}
use Rattle.mg_engine_step_laws.specs.backs.Midway.{IsMidway}
use Rattle.mg_engine_step_laws.specs.backs.Shown.{ShowsMidway}
use Rattle.mg_grown_catalog_laws.specs.Grown.{CatalogGrows}
use Rattle.mg_image.specs.Form.{Pages, packed_form}
use Rattle.mg_image.specs.Records.{Reading}
use Rattle.mg_image.specs.Sound.{IsSoundBy}
use Rattle.mg_image.specs.Tables.{Layout}
use Rattle.mg_lasting_laws.specs.Crashes.{HoldsAcknowledged, LeavesSince, may_last}
use Rattle.mg_lasting_laws.specs.Lasting.{LastsOn}
use Rattle.mg_model.specs.History.{Ends, Entries, Entry, Nothing, effect_of}
use Rattle.mg_model.specs.Legal.{IsLawful, IsLegal, MayBegin, is_durable}
use Rattle.mg_model.specs.Openings.{everyone}
use Rattle.mg_model.specs.declared.change.Change.{Change}
use Rattle.mg_model.specs.declared.opening.Opening.{Opening}
use Rattle.mg_overlay_laws.specs.Overlays.{left_state}
use Rattle.mg_pool.specs.Pool.{IsPool, shown}
use Rattle.mg_pool.specs.declared.pool.Pool.{Pool}
use Rattle.mg_pool_overlay_laws.specs.Needs.{Asked, Sessions}
use Rattle.mg_engine_step_laws.specs.commits.PageWrites.{KeepAsking}
use Rattle.mg_engine_step_laws.specs.standing.Following.{FollowsEntry}
use Rattle.mg_engine_step_laws.specs.standing.Standing.{Remembers, ShowsHistory, Standing, Stands}

-- Of an event that was to take a transaction's changes back nothing came, and then the transaction was rolled
-- back. `mid` is what is in memory in between.
pub record GivesUp (o : Opening) (h : Entries) (refused rolled : Entry) (t : ℕ) (s mid new : Standing) : Type 0
  where
    pub nothing : effect_of refused ≡ Nothing
    pub dies : effect_of rolled ≡ Ends t Dead
    pub active : s.state t ≡ Active
    pub first : FollowsEntry o h refused s mid
    pub then_ : FollowsEntry o (refused ∷ h) rolled mid new

-- Pages on which some changes are taken back, and others not yet, show the history with the rollback: whatever
-- they had of the transaction no longer counts. They are sound where it counts as dead.
abbrev pub GivenUpIsShown : Type 0
GivenUpIsShown = (size : ℕ) (o : Opening) (h : Entries) (e refused rolled : Entry) (t : ℕ)
    (whole left : List Change) (s mid new : Standing) (begun pages : Pages)
    (first : ShowsHistory packed_form size o h s begun) → MayBegin o → IsLegal o (rolled ∷ refused ∷ h)
    → Remembers o h s → CatalogGrows o h → HasPlainTables size s.state pages → AreTaken o h e t whole
    → GivesUp o h refused rolled t s mid new
    → ShowsMidway packed_form size o h e t whole left s begun first pages
    → (layout : Layout) (reading : Reading)
    → IsSoundBy packed_form size (left_state everyone new.state) pages layout reading
    → ShowsHistory packed_form size o (rolled ∷ refused ∷ h) new pages

-- so the engine stands for that history, its cache lasts with it, and what a crash since the start might have left
-- holds the history from before
abbrev pub EnginesGiveUp : (D L : Type 0) → Meaning D → Type 0
EnginesGiveUp D L m = (o : Opening) (h : Entries) (e refused : Entry) (t : ℕ) (whole left : List Change)
    (s mid new : Standing) (start pool : Pool D L) (k i : Image) (asked now_asked : Asked)
    (session now_session : Sessions)
    (stands : Stands packed_form pool.geometry.size o h s (Some (shown start.dirty k)))
    → IsPool m pool → m.held pool.disk ≡ Some i → CatalogGrows o h
    → HasPlainTables pool.geometry.size s.state (shown pool.dirty i) → AreTaken o h e t whole
    → IsLawful o h refused → IsLawful o (refused ∷ h) (rolling t)
    → is_durable refused ≡ false → may_last refused ≡ false
    → GivesUp o h refused (rolling t) t s mid new
    → KeepAsking o (rolling t ∷ refused ∷ h) asked now_asked session now_session
    → IsMidway m packed_form pool.geometry.size o h e t left s start pool i asked session
    → ShowsMidway packed_form pool.geometry.size o h e t whole left s (shown start.dirty k) stands.shows
    (shown pool.dirty i)
    → Stands packed_form pool.geometry.size o (rolling t ∷ refused ∷ h) new (Some (shown pool.dirty i))
    × LastsOn m packed_form o (rolling t ∷ refused ∷ h) pool now_asked now_session
    × LeavesSince m start.disk pool.disk (HoldsAcknowledged packed_form pool.geometry.size o h)

-- Taking back stops after some keys, and after some rows of the catalog: pages were read and then the step was refused, or a
-- page write failed.
use Rattle.std.specs.Prelude.{◌≡◌, ℕ, true, false, List, ◌∷◌, None, Some}
use Rattle.mg_base.specs.Disk.{Meaning}
use Rattle.mg_base.specs.Image.{Image}
use Rattle.mg_engine_meaning_laws.specs.PlainTables.{HasPlainTables}
use Rattle.mg_engine_step_laws.specs.backs.Again.{rolling}
use Rattle.mg_engine_step_laws.specs.backs.Midway.{LastsDead}
use Rattle.mg_engine_change_laws.specs.tables_back.RowsLost.{LoseRows}
use Rattle.mg_image.specs.Inventory.{next_of}
use Rattle.mg_engine_step_laws.specs.commits.PageWrites.{KeepAsking}
use Rattle.mg_engine_change_laws.specs.given_up.GivenUp.{GivesUp}
use Rattle.mg_engine_change_laws.specs.backs.Backs.{BeginsBack, EndsOver}
use Rattle.mg_engine_change_laws.specs.keys.TakingSteps.{TakesKeysOf}
use Rattle.mg_engine_change_laws.specs.backs.ToTake.{since_point}
use Rattle.mg_grown_catalog_laws.specs.Grown.{CatalogGrows}
use Rattle.mg_image.specs.Form.{packed_form}
use Rattle.mg_lasting_laws.specs.Crashes.{HoldsAcknowledged, LeavesSince, may_last}
use Rattle.mg_lasting_laws.specs.Lasting.{LastsOn, LeftOn}
use Rattle.mg_model.specs.History.{Entries, Entry}
use Rattle.mg_model.specs.Legal.{IsLawful, is_durable}
use Rattle.mg_model.specs.Machine.{deeds_by, steps}
use Rattle.mg_model.specs.declared.change.Change.{Change}
use Rattle.mg_model.specs.declared.change.Point.{Point}
use Rattle.mg_model.specs.declared.opening.Opening.{Opening}
use Rattle.mg_pool.specs.Pool.{LeavesOverlays, shown}
use Rattle.mg_pool.specs.declared.pool.Pool.{Pool}
use Rattle.mg_pool_overlay_laws.specs.Needs.{Asked, Sessions}
use Rattle.mg_space.specs.View.{KeepsStore}
use Rattle.mg_engine_step_laws.specs.standing.Following.{FollowsEntry}
use Rattle.mg_engine_step_laws.specs.standing.Standing.{Standing, Stands}

-- Some keys are taken back, then some rows of the catalog, and then pages were only read.
pub record StopsReading {D L : Type 0} (m : Meaning D) (o : Opening) (h : Entries) (e : Entry) (point : Point) (t : ℕ)
    (s : Standing) (start stopped : Pool D L) (k j : Image) (asked : Asked) (session : Sessions)
    (begins : BeginsBack m o h e point t s start k asked session) : Type 0 where
  pub keys : List Change
  pub rest : List Change
  pub mid : Pool D L
  pub between : Image
  pub takes : TakesKeysOf m start.geometry.size o h e t s begins.stands.shows.versions.speaker keys
      (since_point point (deeds_by t (steps o h))) rest start mid k between
  pub mid_ends : EndsOver m start mid between
  pub at : Pool D L
  pub cache : LastsDead m packed_form start.geometry.size o h t start at asked session
  pub loses : LoseRows start.geometry.size s.state t (shown mid.dirty between) (shown at.dirty j)
  pub next : next_of (shown at.dirty j) ≡ next_of (shown mid.dirty between)
  pub ends : EndsOver m start at j
  pub tells : m.tells at.disk ≡ true
  pub keeps : KeepsStore m at stopped

-- the transaction is rolled back: the engine stands for the history with the refused event and the rollback
abbrev pub StopsAreGivenUp : (D L : Type 0) → Meaning D → Type 0
StopsAreGivenUp D L m = (o : Opening) (h : Entries) (e refused : Entry) (point : Point) (t : ℕ)
    (s mid new : Standing) (start stopped : Pool D L) (k j : Image) (asked now_asked : Asked)
    (session now_session : Sessions) (begins : BeginsBack m o h e point t s start k asked session)
    → CatalogGrows o h → IsLawful o h refused → IsLawful o (refused ∷ h) (rolling t) → is_durable refused ≡ false
    → may_last refused ≡ false → GivesUp o h refused (rolling t) t s mid new
    → KeepAsking o (rolling t ∷ refused ∷ h) asked now_asked session now_session
    → (stops : StopsReading m o h e point t s start stopped k j asked session begins) → EndsOver m start stopped j
    → HasPlainTables start.geometry.size s.state (shown stops.mid.dirty stops.between)
    → Stands packed_form start.geometry.size o (rolling t ∷ refused ∷ h) new (Some (shown stopped.dirty j))
    × LastsOn m packed_form o (rolling t ∷ refused ∷ h) stopped now_asked now_session
    × LeavesSince m start.disk stopped.disk (HoldsAcknowledged packed_form start.geometry.size o h)

-- a page write failed: memory stands for the history with the refused event, and every crash leaves what it has to
abbrev pub WritesFailMidway : (D L : Type 0) → Meaning D → Type 0
WritesFailMidway D L m = (o : Opening) (h : Entries) (e refused : Entry) (point : Point) (t : ℕ) (s new : Standing)
    (start stopped after : Pool D L) (k j : Image) (asked : Asked) (session : Sessions)
    (begins : BeginsBack m o h e point t s start k asked session) → IsLawful o h refused
    → is_durable refused ≡ false → may_last refused ≡ false → FollowsEntry o h refused s new
    → StopsReading m o h e point t s start stopped k j asked session begins → EndsOver m start stopped j
    → m.tells stopped.disk ≡ true → LeavesOverlays m stopped after → m.tells after.disk ≡ true
    → after.dirty.size ≡ stopped.dirty.size
    → Stands packed_form start.geometry.size o (refused ∷ h) new None
    × LeftOn m packed_form o (refused ∷ h) after
    × LeavesSince m start.disk after.disk (HoldsAcknowledged packed_form start.geometry.size o h)

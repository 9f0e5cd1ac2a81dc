-- An engine whose transaction is taken back to a point, key by key, stands for the history with the entry; and where it
-- is given up in the middle, for the history with the refused event and the rollback.
use Rattle.std.specs.Prelude.{◌≡◌, ℕ, true, false, List, ◌∷◌, None, Some}
use Rattle.mg_base.specs.Disk.{Meaning}
use Rattle.mg_base.specs.Image.{Image}
use Rattle.mg_engine_meaning_laws.specs.PlainTables.{HasPlainTables}
use Rattle.mg_engine_step_laws.specs.backs.Again.{rolling}
use Rattle.mg_engine_step_laws.specs.backs.Midway.{GoesBack}
use Rattle.mg_engine_step_laws.specs.commits.PageWrites.{KeepAsking}
use Rattle.mg_engine_change_laws.specs.given_up.GivenUp.{GivesUp}
use Rattle.mg_engine_step_laws.specs.writes.GoesOn.{HasGoneOn}
use Rattle.mg_engine_change_laws.specs.backs.Memory.{IsBackInMemory, LeavesCatalog, MayGoTo}
use Rattle.mg_engine_change_laws.specs.keys.TakingSteps.{TakesKeysOf}
use Rattle.mg_engine_change_laws.specs.backs.ToTake.{since_point}
use Rattle.mg_grown_catalog_laws.specs.Grown.{CatalogGrows}
use Rattle.mg_image.specs.Form.{packed_form}
use Rattle.mg_lasting_laws.specs.Crashes.{HoldsAcknowledged, LeavesSince, may_last}
use Rattle.mg_lasting_laws.specs.Lasting.{LastsOn}
use Rattle.mg_model.specs.History.{Entries, Entry, transaction_of}
use Rattle.mg_model.specs.Legal.{IsLawful, is_durable}
use Rattle.mg_model.specs.Machine.{deeds_by, steps, waited_on}
use Rattle.mg_model.specs.declared.change.Change.{Change}
use Rattle.mg_model.specs.declared.change.Point.{Point}
use Rattle.mg_model.specs.declared.opening.Opening.{Opening}
use Rattle.mg_pool.specs.Pool.{IsPool, shown}
use Rattle.mg_pool.specs.declared.pool.Pool.{Pool}
use Rattle.mg_pool_overlay_laws.specs.Needs.{Asked, Sessions}
use Rattle.mg_engine_step_laws.specs.standing.Standing.{Standing, Stands}
use Rattle.mg_undo.specs.Machine.{first_of}
use Rattle.mg_undo.specs.declared.changes.Change.{Change as Kept}

-- An engine stands for a history, its cache lasts with it, and a transaction of it is to be taken back.
pub record BeginsBack {D L : Type 0} (m : Meaning D) (o : Opening) (h : Entries) (e : Entry) (point : Point) (t : ℕ)
    (s : Standing) (start : Pool D L) (k : Image) (asked : Asked) (session : Sessions) : Type 0 where
  pub stands : Stands packed_form start.geometry.size o h s (Some (shown start.dirty k))
  pub lasts : LastsOn m packed_form o h start asked session
  pub pool : IsPool m start
  pub held : m.held start.disk ≡ Some k
  pub tells : m.tells start.disk ≡ true
  pub goes : GoesBack o h e point s asked t

-- The cache in the end, over a disk that tells its images; its pages have the size that they had.
pub record EndsOver {D L : Type 0} (m : Meaning D) (start after : Pool D L) (j : Image) : Type 0 where
  pub pool : IsPool m after
  pub held : m.held after.disk ≡ Some j
  pub size : after.geometry.size ≡ start.geometry.size

-- all that was changed since the point is taken back, none of it in the catalog: the engine stands for the history with
-- the entry
abbrev pub BacksGoOn : (D L : Type 0) → Meaning D → Type 0
BacksGoOn D L m = (o : Opening) (h : Entries) (e : Entry) (point : Point) (t : ℕ) (given : List Kept)
    (s new : Standing) (start after : Pool D L) (k j : Image) (asked : Asked) (session : Sessions)
    (rest : List Change) (begins : BeginsBack m o h e point t s start k asked session) → IsLawful o h e
    → transaction_of e.event ≡ Some t → waited_on e.answer ≡ None → MayGoTo point (deeds_by t (steps o h))
    → LeavesCatalog point (deeds_by t (steps o h)) → IsBackInMemory t point given s new
    → TakesKeysOf m start.geometry.size o h e t s begins.stands.shows.versions.speaker
    (first_of (since_point point (deeds_by t (steps o h)))) (since_point point (deeds_by t (steps o h))) rest start
    after k j
    → EndsOver m start after j
    → HasGoneOn m packed_form start.geometry.size o h e new start after j asked session

-- after some keys the event was refused, and the transaction is rolled back: the engine stands for the history with
-- both, whatever is taken back and whatever is not
abbrev pub BacksAreGivenUp : (D L : Type 0) → Meaning D → Type 0
BacksAreGivenUp D L m = (o : Opening) (h : Entries) (e refused : Entry) (point : Point) (t : ℕ)
    (s mid new : Standing) (start after : Pool D L) (k j : Image) (asked now_asked : Asked)
    (session now_session : Sessions) (keys rest : List Change)
    (begins : BeginsBack m o h e point t s start k asked session) → CatalogGrows o h → IsLawful o h refused
    → IsLawful o (refused ∷ h) (rolling t) → is_durable refused ≡ false → may_last refused ≡ false
    → GivesUp o h refused (rolling t) t s mid new
    → KeepAsking o (rolling t ∷ refused ∷ h) asked now_asked session now_session
    → TakesKeysOf m start.geometry.size o h e t s begins.stands.shows.versions.speaker keys
    (since_point point (deeds_by t (steps o h))) rest start after k j
    → EndsOver m start after j → HasPlainTables start.geometry.size s.state (shown after.dirty j)
    → Stands packed_form start.geometry.size o (rolling t ∷ refused ∷ h) new (Some (shown after.dirty j))
    × LastsOn m packed_form o (rolling t ∷ refused ∷ h) after now_asked now_session
    × LeavesSince m start.disk after.disk (HoldsAcknowledged packed_form start.geometry.size o h)

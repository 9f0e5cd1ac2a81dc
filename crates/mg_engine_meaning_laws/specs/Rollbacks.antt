-- A transaction is rolled back: the engine stands for the history with the rollback.
use Rattle.std.specs.Prelude.{◌≡◌, ℕ, false, ◌∷◌, Some}
use Rattle.mg_base.specs.Disk.{Meaning}
use Rattle.mg_base.specs.Image.{Image}
use Rattle.mg_base.specs.declared.transaction.TxState.TheVariants.{Active, Dead}
use Rattle.mg_grown_catalog_laws.specs.Grown.{CatalogGrows}
use Rattle.mg_model.specs.declared.opening.Opening.{Opening}
use Rattle.mg_model.specs.History.{Ends, Entries, Entry, effect_of}
use Rattle.mg_model.specs.Legal.{IsLawful, is_durable}
use Rattle.mg_image.specs.Form.{packed_form}
use Rattle.mg_pool.specs.Pool.{IsPool, shown}
use Rattle.mg_pool.specs.declared.pool.Pool.{Pool}
use Rattle.mg_pool_overlay_laws.specs.Needs.{Asked, Sessions}
use Rattle.mg_lasting_laws.specs.Crashes.{may_last}
use Rattle.mg_lasting_laws.specs.Lasting.{LastsOn}
use Rattle.mg_engine_step_laws.specs.standing.Following.{FollowsEntry}
use Rattle.mg_engine_step_laws.specs.standing.Standing.{Standing, Stands}
use Rattle.mg_engine_step_laws.specs.commits.PageWrites.{KeepAsking}
use Rattle.mg_engine_meaning_laws.specs.PlainTables.{HasPlainTables}

-- a transaction is rolled back: no page has changed, its versions no longer count, and the tables that it has made
-- stand there no more
abbrev pub RollbacksGoOn : (D L : Type 0) → Meaning D → Type 0
RollbacksGoOn D L m = (o : Opening) (h : Entries) (e : Entry) (t : ℕ) (s new : Standing)
    (pool : Pool D L) (i : Image) (asked now_asked : Asked) (session now_session : Sessions)
    → Stands packed_form pool.geometry.size o h s (Some (shown pool.dirty i))
    → LastsOn m packed_form o h pool asked session → IsPool m pool → m.held pool.disk ≡ Some i
    → CatalogGrows o h → HasPlainTables pool.geometry.size s.state (shown pool.dirty i) → IsLawful o h e
    → is_durable e ≡ false → may_last e ≡ false
    → effect_of e ≡ Ends t Dead → s.state t ≡ Active
    → KeepAsking o (e ∷ h) asked now_asked session now_session → FollowsEntry o h e s new
    → Stands packed_form pool.geometry.size o (e ∷ h) new (Some (shown pool.dirty i))
    × LastsOn m packed_form o (e ∷ h) pool now_asked now_session

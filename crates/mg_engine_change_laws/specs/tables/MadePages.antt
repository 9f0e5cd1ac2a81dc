-- What a batch with a new table makes of the pages of an engine that stands for a history.
use Rattle.std.specs.Prelude.{◌≡◌, ℕ, List, map, Some}
use Rattle.mg_base.specs.Disk.{Meaning}
use Rattle.mg_base.specs.Image.{Image}
use Rattle.mg_base.specs.declared.numbers.TxNo.{TxNo}
use Rattle.mg_value.specs.declared.shape.Shape.{Shape}
use Rattle.mg_model.specs.declared.opening.Opening.{Opening}
use Rattle.mg_model.specs.History.{Entries}
use Rattle.mg_model.specs.Openings.{everyone}
use Rattle.mg_records.specs.Writing.{rows_made}
use Rattle.mg_image.specs.Form.{packed_form}
use Rattle.mg_image.specs.Inventory.{next_of}
use Rattle.mg_image.specs.Sound.{IsSoundBy, facts_by}
use Rattle.mg_lasting_laws.specs.Crashes.{HoldsAcknowledged, LeavesSince}
use Rattle.mg_lasting_laws.specs.Lasting.{LastsOn}
use Rattle.mg_overlay_laws.specs.Overlays.{left_state, without}
use Rattle.mg_pool.specs.Pool.{shown}
use Rattle.mg_pool.specs.declared.pool.Pool.{Pool}
use Rattle.mg_pool_overlay_laws.specs.Needs.{Asked, Sessions}
use Rattle.mg_space.specs.declared.links.FireLinks.{FireLinks}
use Rattle.mg_table_batch.specs.Filling.{rows_at}
use Rattle.mg_engine_change_laws.specs.tables.Joined.{layout_with}
use Rattle.mg_engine_change_laws.specs.tables.JoinedBatch.{HasJoined}
use Rattle.mg_engine_change_laws.specs.tables.Rows.{AreLawful, AreUnwritten, reading_with, row_told, with_rows}
use Rattle.mg_engine_step_laws.specs.commits.ListShows.{TipsStay}
use Rattle.mg_engine_step_laws.specs.standing.Standing.{Standing, Stands}
use Rattle.mg_engine_step_laws.specs.standing.Versions.{HaveVersions}
use Rattle.mg_engine_meaning_laws.specs.PlainTables.{HasPlainTables}
use Rattle.mg_engine_change_laws.specs.rows.Walks.{OthersWalkOn}
use Rattle.mg_engine_change_laws.specs.tables.StandMade.{stand_at}

-- A table was made in one batch, with its first page: the pages join it to those before, they have the versions that
-- the history with its rows says, the cache lasts with that, each of its entries is lawful as it comes, tables stay
-- plain, and all others walk on.
pub record MadePages {D : Type 0} (m : Meaning D) (o : Opening) (h : Entries) (s : Standing)
    (before after : Pool D FireLinks) (i j : Image) (asked : Asked) (session : Sessions)
    (stands : Stands packed_form before.geometry.size o h s (Some (shown before.dirty i))) (t : TxNo) (name : List ℕ)
    (shape : Shape) (page : ℕ) : Type 0 where
  pub joined : HasJoined packed_form before.geometry.size (left_state (without t.0 everyone) s.state)
      (left_state everyone s.state) t.0 (shown before.dirty i) (shown after.dirty j) (rows_at name shape page)
      (stand_at name shape page) stands.shows.layout stands.shows.reading
  pub sound : IsSoundBy packed_form before.geometry.size (left_state everyone s.state) (shown after.dirty j)
      (layout_with stands.shows.layout joined.batch.layout (stand_at name shape page))
      (reading_with joined.made stands.shows.reading)
  pub next : next_of (shown after.dirty j) ≡ next_of (shown before.dirty i)
  pub tips : TipsStay before.geometry.size (shown before.dirty i) (shown after.dirty j)
  pub lasts : LastsOn m packed_form o (with_rows t (rows_made name shape) h) after asked session
  pub leaves : LeavesSince m before.disk after.disk (HoldsAcknowledged packed_form before.dirty.size o h)
  pub told : map row_told joined.made ≡ rows_made name shape
  pub unwritten : AreUnwritten o t joined.made h
  pub lawful : AreLawful o t (rows_made name shape) h
  pub versions : HaveVersions o (with_rows t (rows_made name shape) h)
      (facts_by (left_state everyone s.state) (shown after.dirty j)
      (layout_with stands.shows.layout joined.batch.layout (stand_at name shape page)))
      (reading_with joined.made stands.shows.reading)
  pub plain : HasPlainTables before.geometry.size s.state (shown after.dirty j)
  pub walks : OthersWalkOn before.geometry.size s (shown before.dirty i) (shown after.dirty j) t.0

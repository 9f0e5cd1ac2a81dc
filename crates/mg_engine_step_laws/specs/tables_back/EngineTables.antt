-- An engine whose transaction is taken back to a point, with tables that it had made, stands for the history with the entry.
use Rattle.std.specs.Prelude.{◌≡◌, ℕ, List, Some}
use Rattle.mg_base.specs.Disk.{Meaning}
use Rattle.mg_base.specs.Image.{Image}
use Rattle.mg_value.specs.declared.value.Value.{Value}
use Rattle.mg_engine_step_laws.specs.standing.Following.{FollowsEntry}
use Rattle.mg_engine_step_laws.specs.writes.GoesOn.{HasGoneOn}
use Rattle.mg_engine_step_laws.specs.standing.Standing.{Standing, Stands}
use Rattle.mg_engine_step_laws.specs.backs.Again.{AreTaken}
use Rattle.mg_engine_step_laws.specs.backs.Midway.{GoesBack, IsMidway}
use Rattle.mg_engine_step_laws.specs.backs.Shown.{ShowsMidway}
use Rattle.mg_grown_catalog_laws.specs.Grown.{CatalogGrows}
use Rattle.mg_image.specs.Form.{packed_form}
use Rattle.mg_model.specs.History.{Entries, Entry}
use Rattle.mg_model.specs.Legal.{IsLawful}
use Rattle.mg_model.specs.declared.change.Change.{Change}
use Rattle.mg_model.specs.declared.change.Point.{Point}
use Rattle.mg_model.specs.declared.opening.Opening.{Opening}
use Rattle.mg_model.specs.declared.table.Table.{Table}
use Rattle.mg_pool.specs.Pool.{IsPool, shown}
use Rattle.mg_pool.specs.declared.pool.Pool.{Pool}
use Rattle.mg_pool_overlay_laws.specs.Needs.{Asked, Sessions}
use Rattle.mg_engine_step_laws.specs.tables_back.TablesBack.{AreRowsLeft, TakesEachRow}

-- Once the rows of all its tables are taken out, each in a batch of its own, the engine stands for the history with the
-- entry.
abbrev pub EnginesTakeTables : (D L : Type 0) → Meaning D → Type 0
EnginesTakeTables D L m = (o : Opening) (h : Entries) (e : Entry) (point : Point) (s new : Standing)
    (start before after : Pool D L) (k i j : Image) (asked : Asked) (session : Sessions) (t : ℕ)
    (whole left : List Change) (keys : List Value)
    (stands : Stands packed_form before.geometry.size o h s (Some (shown start.dirty k)))
    → start.dirty.size ≡ before.geometry.size → CatalogGrows o h → IsLawful o h e → GoesBack o h e point s asked t
    → AreTaken o h e t whole → AreRowsLeft o h e t left keys → FollowsEntry o h e s new → new.number t ≡ s.number t
    → ((name : List ℕ) (table : Table) → new.table t name ≡ Some table → s.table t name ≡ Some table)
    → IsMidway m packed_form before.geometry.size o h e t left s start before i asked session
    → ShowsMidway packed_form before.geometry.size o h e t whole left s (shown start.dirty k) stands.shows
    (shown before.dirty i)
    → TakesEachRow m s t keys before after i j → IsPool m after → m.held after.disk ≡ Some j
    → after.geometry.size ≡ before.geometry.size
    → HasGoneOn m packed_form before.geometry.size o h e new start after j asked session

-- When the walks of a transaction go on although records of the table are written, made or taken out by others.
use Rattle.std.specs.Prelude.{◌≡◌, ℕ, Bool, List, [], ◌++◌, Option}
use Rattle.mg_base.specs.declared.numbers.RecId.{RecId}
use Rattle.mg_chain.specs.Chains.{takes_version}
use Rattle.mg_engine_step_laws.specs.standing.Known.{IsShown}
use Rattle.mg_engine_step_laws.specs.reads.Walking.{AreToCome, WalkPlace}
use Rattle.mg_image.specs.Form.{Pages, packed_form}
use Rattle.mg_image.specs.Records.{Reading, shown}
use Rattle.mg_image.specs.Sound.{IsSoundBy}
use Rattle.mg_image.specs.Tables.{Has, Layout}
use Rattle.mg_model.specs.declared.table.Table.{Table}
use Rattle.mg_model.specs.Changes.{KeyedRows}
use Rattle.mg_model.specs.Openings.{everyone}
use Rattle.mg_overlay_laws.specs.Overlays.{left_state}
use Rattle.mg_seek.specs.Walks.{keyed}
use Rattle.mg_engine_step_laws.specs.standing.Standing.{Standing}

-- the row of a record that counts, with its key, if there is one
abbrev pub row_at_record : (ℕ → Bool) → Table → Reading → RecId → KeyedRows
row_at_record counts table r p = keyed table (shown counts (r p)) []

-- A table that was shown by one layout and is by another has the data pages that it had, in their order, and more: of
-- each record of the first ones the row counts that counted, with its key, and of each record of the others none.
pub record ShowsTheSame (counted counts : ℕ → Bool) (a b : Layout) (r q : Reading) (table : Table)
    (was : IsShown a table) (is_ : IsShown b table) : Type 0 where
  pub more : List ℕ
  pub data_pages : is_.stands.stand.data_pages ≡ was.stands.stand.data_pages ++ more
  pub rows : (p : RecId) → Has was.stands.stand.data_pages p.page.0
      → row_at_record counts table q p ≡ row_at_record counted table r p
  pub none : (p : RecId) → Has more p.page.0 → row_at_record counts table q p ≡ []

-- Pages that are sound under another layout and reading, where a table shows a transaction the same.
pub record ShowsOn (size : ℕ) (s new : Standing) (later : Pages) (u : ℕ) (table : Table) (a : Layout) (r : Reading)
    (was : IsShown a table) : Type 0 where
  pub layout : Layout
  pub reading : Reading
  pub sound : IsSoundBy packed_form size (left_state everyone new.state) later layout reading
  pub is_ : IsShown layout table
  pub same : ShowsTheSame (takes_version s.state s.live u) (takes_version new.state new.live u) a layout r reading
      table was is_

-- its walk over the table goes on
abbrev pub RowWalksGoOn : Type 0
RowWalksGoOn = (size : ℕ) (s new : Standing) (pages later : Pages) (u : ℕ) (table : Table)
    (after : Option WalkPlace) (rows : KeyedRows)
    → ((layout : Layout) (r : Reading) → IsSoundBy packed_form size (left_state everyone s.state) pages layout r
    → (was : IsShown layout table) → ShowsOn size s new later u table layout r was)
    → AreToCome size s pages u table after rows → AreToCome size new later u table after rows

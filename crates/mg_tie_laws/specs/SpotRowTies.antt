-- A place for a record that version chains give keeps every overlay, and is what a first version asks for.
use Rattle.mg_base.specs.Disk.{Meaning}
use Rattle.mg_base.specs.Image.{Image}
use Rattle.mg_base.specs.declared.numbers.RecId.{RecId}
use Rattle.mg_base.specs.declared.transaction.TxState.{TxState}
use Rattle.mg_base.specs.declared.transaction.TxState.TheVariants.{Active}
use Rattle.mg_chain.specs.Writing.{GivesSpot}
use Rattle.mg_tie_laws.specs.Rows.{ForEach}
use Rattle.mg_image_overlay_laws.specs.tables.Growing.{IsTableOf}
use Rattle.mg_tie_laws.specs.GivenForTies.{given_pages_are_for}
use Rattle.mg_tie_laws.specs.GivenTies.{given_pages_are}
use Rattle.mg_tie_laws.specs.SpotTies.{spot_row_keeps, spot_row_keeps_for}
use Rattle.mg_image.specs.Form.{Form, Pages}
use Rattle.mg_image.specs.ReadingLaws.{RowsAreOne}
use Rattle.mg_image.specs.Records.{cells_of, slot_cell}
use Rattle.mg_image.specs.Tables.{stands_of, table_at}
use Rattle.mg_image_overlay_laws.specs.pages.Kinds.{HasNoSequences}
use Rattle.mg_model.specs.History.{Entries}
use Rattle.mg_model.specs.declared.opening.Opening.{Opening}
use Rattle.mg_model.specs.declared.table.Table.{Table}
use Rattle.mg_image_overlay_laws.specs.names.Whose.{IsTableFor}
use Rattle.mg_pool.specs.Batch.{Changed}
use Rattle.mg_pool.specs.Pool.{shown}
use Rattle.mg_pool.specs.declared.pool.Pool.{Pool}
use Rattle.mg_pool_overlay_laws.specs.Needs.{Asked, Sessions}
use Rattle.mg_slots.specs.DataPage.{cell_of}
use Rattle.mg_slots.specs.RoomLaws.{least_free_is_free}
use Rattle.mg_space.specs.View.{viewed}
use Rattle.mg_tie_laws.specs.Changed.{BatchIsChanged, ChangesFresh, KeptIn, changed_fresh, fresh}
use Rattle.mg_version.specs.declared.cell.TheConstants.{ANCHOR_LEN}
use Rattle.std.proofs.Common.{None, Some, ap, ℕ, ◌∙◌, ◌≡◌}

-- Every overlay is kept, and the place is free, on a page of the table in each layout.
pub record HasSpot (form : Form) {D L : Type 0} (size : ℕ) (after : Pool D L) (j : Image)
    (asked : Asked) (session : Sessions) (o : Opening) (h : Entries) (state : ℕ → TxState)
    (table : Table) (at : RecId) : Type 0 where
  pub kept : KeptIn form size o h state asked session after j
  pub placed : ForEach form size state (shown after.dirty j)
      (λ s layout r. table_at (stands_of layout) at.page.0 ≡ Some table)
  pub blank : cells_of (shown after.dirty j) at ≡ None

-- a place was given in a batch of its own that the cache has changed
abbrev pub SpotRowGives : Form → (D L : Type 0) → Meaning D → Type 0
SpotRowGives form D L m = (before after : Pool D L) (i j : Image) (batch : Changed) (asked : Asked)
    (session : Sessions) (o : Opening) (h : Entries) (state : ℕ → TxState) (table : Table)
    (at : RecId) → ChangesFresh m before after i j batch
    → GivesSpot before i fresh batch table.pointer.0 at
    → ForEach form before.geometry.size state (shown before.dirty i)
    (λ s layout r. IsTableOf layout table)
    → KeptIn form before.geometry.size o h state asked session before i
    → HasSpot form before.geometry.size after j asked session o h state table at

pub spot_row_gives : (form : Form) → RowsAreOne form.coding → HasNoSequences form → (D L : Type 0)
    (m : Meaning D) → SpotRowGives form D L m
spot_row_gives form one none D L m before after i j batch asked session o h state table at changes gives its
    every = record {
      kept = spot_row_keeps form one none D L m before after i j batch asked session o h state table
          ANCHOR_LEN at.page changes gives.gives its every;
      placed = given_pages_are form one none D L m before after i j batch asked session o h state table
          ANCHOR_LEN at.page changes gives.gives its every;
      blank = ap (λ (pages : Pages). cells_of pages at) it.pool
          ∙ ap slot_cell (ap (cell_of (viewed before i batch at.page.0)) gives.least.is_least
          ∙ least_free_is_free (viewed before i batch at.page.0));
    }
  where
    it : BatchIsChanged before after i j batch asked session
    it = changed_fresh m before after i j batch asked session changes

-- Every overlay is kept, and the place is free, on a page of the table in each layout that has the table.
pub record HasSpotFor (form : Form) {D L : Type 0} (size : ℕ) (after : Pool D L) (j : Image)
    (asked : Asked) (session : Sessions) (o : Opening) (h : Entries) (state : ℕ → TxState)
    (table : Table) (at : RecId) : Type 0 where
  pub kept : KeptIn form size o h state asked session after j
  pub placed : ForEach form size state (shown after.dirty j)
      (λ s layout r. IsTableOf layout table → table_at (stands_of layout) at.page.0 ≡ Some table)
  pub blank : cells_of (shown after.dirty j) at ≡ None

-- a place was given in a table that is there or an active transaction's own, in a batch of its own that the
-- cache has changed
abbrev pub SpotRowGivesFor : Form → (D L : Type 0) → Meaning D → Type 0
SpotRowGivesFor form D L m = (before after : Pool D L) (i j : Image) (batch : Changed) (asked : Asked)
    (session : Sessions) (o : Opening) (h : Entries) (by : ℕ) (state : ℕ → TxState) (table : Table)
    (at : RecId) → ChangesFresh m before after i j batch
    → GivesSpot before i fresh batch table.pointer.0 at → state by ≡ Active
    → IsTableFor form before.geometry.size by state (shown before.dirty i) table
    → KeptIn form before.geometry.size o h state asked session before i
    → HasSpotFor form before.geometry.size after j asked session o h state table at

pub spot_row_gives_for : (form : Form) → RowsAreOne form.coding → HasNoSequences form → (D L : Type 0)
    (m : Meaning D) → SpotRowGivesFor form D L m
spot_row_gives_for form one none D L m before after i j batch asked session o h by state table at changes
    gives active whose every = record {
      kept = spot_row_keeps_for form one none D L m before after i j batch asked session o h by state table
          ANCHOR_LEN at.page changes gives.gives active whose every;
      placed = given_pages_are_for form one none D L m before after i j batch asked session o h by state
          table ANCHOR_LEN at.page changes gives.gives active whose every;
      blank = ap (λ (pages : Pages). cells_of pages at) it.pool
          ∙ ap slot_cell (ap (cell_of (viewed before i batch at.page.0)) gives.least.is_least
          ∙ least_free_is_free (viewed before i batch at.page.0));
    }
  where
    it : BatchIsChanged before after i j batch asked session
    it = changed_fresh m before after i j batch asked session changes

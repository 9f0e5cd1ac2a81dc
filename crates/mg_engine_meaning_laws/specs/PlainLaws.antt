-- Tables are plain still.
use Rattle.std.specs.Prelude.{◌≡◌, ℕ, Bool}
use Rattle.mg_base.specs.declared.transaction.TxState.{TxState}
use Rattle.mg_image.specs.Form.{Pages, packed_form}
use Rattle.mg_image.specs.Records.{Reading}
use Rattle.mg_image.specs.Sound.{IsSoundBy}
use Rattle.mg_image_overlay_laws.specs.tables.Growing.{IsTableOf}
use Rattle.mg_model.specs.declared.table.Table.{Table}
use Rattle.mg_image.specs.Tables.{Layout}
use Rattle.mg_overlay_laws.specs.Overlays.{left_state}
use Rattle.mg_engine_meaning_laws.specs.PlainTables.{HasPlainTables, HasTablesOf}

-- A layout whose tables are those of one under which pages were sound before, for some choice.
pub record HasTablesFrom (size : ℕ) (state : ℕ → TxState) (pages : Pages) (layout : Layout) : Type 0 where
  pub chosen : ℕ → Bool
  pub before : Layout
  pub reading : Reading
  pub sound : IsSoundBy packed_form size (left_state chosen state) pages before reading
  pub tables : HasTablesOf layout before

-- A table stands in a layout under which pages were sound before, for some choice.
pub record HasStood (size : ℕ) (state : ℕ → TxState) (pages : Pages) (its : Table) : Type 0 where
  pub chosen : ℕ → Bool
  pub before : Layout
  pub reading : Reading
  pub sound : IsSoundBy packed_form size (left_state chosen state) pages before reading
  pub there : IsTableOf before its

-- where each table of a layout after has stood before, they are plain, and have the same indexes
pub plain_tables_from : (size : ℕ) (state now : ℕ → TxState) (pages later : Pages) → HasPlainTables size state pages
    → ((chosen : ℕ → Bool) (layout : Layout) (r : Reading)
    → IsSoundBy packed_form size (left_state chosen now) later layout r
    → (its : Table) → IsTableOf layout its → HasStood size state pages its)
    → HasPlainTables size now later
plain_tables_from size state now pages later plain from = record {
  each = λ chosen layout r sound its there.
      let at : HasStood size state pages its = from chosen layout r sound its there in
      plain.each at.chosen at.before at.reading at.sound its at.there;
  agree = λ chosen other a b r s first second x y there also same.
      let at : HasStood size state pages x = from chosen a r first x there in
      let it : HasStood size state pages y = from other b s second y also in
      plain.agree at.chosen it.chosen at.before it.before at.reading it.reading at.sound it.sound x y at.there it.there
      same;
}

-- and so where each layout after has the tables of one before
pub plain_tables_by : (size : ℕ) (state now : ℕ → TxState) (pages later : Pages) → HasPlainTables size state pages
    → ((chosen : ℕ → Bool) (layout : Layout) (r : Reading)
    → IsSoundBy packed_form size (left_state chosen now) later layout r
    → HasTablesFrom size state pages layout)
    → HasPlainTables size now later
plain_tables_by size state now pages later plain from = plain_tables_from size state now pages later plain
    (λ chosen layout r sound its there.
    let at : HasTablesFrom size state pages layout = from chosen layout r sound in record {
      chosen = at.chosen;
      before = at.before;
      reading = at.reading;
      sound = at.sound;
      there = at.tables its there;
    })

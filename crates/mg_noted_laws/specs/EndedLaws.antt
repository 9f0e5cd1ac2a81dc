-- Fewer transactions count, as after a rollback: the records of the tables that still stand were there.
use Rattle.std.proofs.Common.{◌≡◌, ◌≢◌, sym, ℕ, Bool, [], Some}
use Rattle.mg_base.specs.declared.numbers.RecId.{RecId}
use Rattle.mg_base.specs.declared.transaction.TxState.{TxState}
use Rattle.mg_directory.specs.Candidates.{ByTable}
use Rattle.mg_image.specs.Form.{Form, Pages}
use Rattle.mg_image.specs.ReadingLaws.{RowsAreOne}
use Rattle.mg_image.specs.RecordRules.{table_in}
use Rattle.mg_image.specs.Records.{Reading}
use Rattle.mg_image.specs.Sound.{IsSoundBy, facts_by}
use Rattle.mg_image.specs.Tables.{Layout}
use Rattle.mg_image_overlay_laws.specs.tables.Growing.{IsTableOf}
use Rattle.mg_image_overlay_laws.specs.tables.OneLayout.{StandsOneWay}
use Rattle.mg_image_overlay_laws.specs.tables.OneTable.{table_at_stands}
use Rattle.mg_model.specs.Openings.{everyone}
use Rattle.mg_model.specs.declared.table.Table.{Table}
use Rattle.mg_overlay_laws.specs.Overlays.{left_state}
use Rattle.mg_engine_step_laws.specs.standing.Choices.{placed_back, read}
use Rattle.mg_noted_laws.specs.Coming.{AreFewer, ComeFrom, NoNew}
use Rattle.mg_noted_laws.specs.ComingLaws.{left_come, noted_by, noted_stay}
use Rattle.mg_noted_laws.specs.Noted.{HasNoted}

module _ (form : Form) (one : RowsAreOne form.coding) (ways : StandsOneWay form) (size : ℕ) (state : ℕ → TxState)
    (pages : Pages) (a : Layout) (r : Reading) (first : IsSoundBy form size (left_state everyone state) pages a r)
    (chosen : ℕ → Bool) (b : Layout) (s : Reading) (second : IsSoundBy form size (left_state chosen state) pages b s)
    (still : (x : Table) → IsTableOf b x → IsTableOf a x) where
  pub chosen_come : ComeFrom NoNew (facts_by (left_state everyone state) pages a) r
      (facts_by (left_state chosen state) pages b) s
  chosen_come = left_come (facts_by (left_state everyone state) pages a) (facts_by (left_state chosen state) pages b)
      r s same
    where
      same : (p : RecId) (table : Table) → table_in (facts_by (left_state chosen state) pages b) p ≡ Some table
          → s p ≢ [] → (table_in (facts_by (left_state everyone state) pages a) p ≡ Some table) × (s p ≡ r p)
      same p table of some =
          let in_b : IsTableOf b table = table_at_stands b p.page.0 table of in
          let in_a : IsTableOf a table = still table in_b in
          let was = placed_back form one size state pages a r first chosen b s second table in_a in_b p.page.0 of in
          (was, sym (read form one size state pages a r first chosen b s second table in_a in_b p was))

  -- so the directories are complete still, also where some are dropped
  pub chosen_has : (old new : ByTable) → HasNoted form size (left_state everyone state) pages old → AreFewer old new
      → HasNoted form size (left_state chosen state) pages new
  chosen_has old new noted fewer = noted_by form ways size (left_state chosen state) pages new b s second
      (noted_stay (facts_by (left_state everyone state) pages a) (facts_by (left_state chosen state) pages b) r s old new
      (noted a r first) chosen_come fewer)

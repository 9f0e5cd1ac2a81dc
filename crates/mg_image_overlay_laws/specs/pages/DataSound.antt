-- A data page is changed in a sound image: where its records are lawful, the image is sound.
use Rattle.mg_base.specs.declared.numbers.RecId.{RecId}
use Rattle.mg_base.specs.declared.transaction.TxState.{TxState}
use Rattle.mg_header.specs.declared.header.Header.{Header}
use Rattle.mg_image.specs.Catalog.{HasNames, HasOwnTables, catalog_table, committed_with}
use Rattle.mg_image.specs.FactLaws.{same_names}
use Rattle.mg_image.specs.Form.{Form, Pages, Row}
use Rattle.mg_image.specs.Indexes.{AreTrees, EachPage, IsFoundIn}
use Rattle.mg_image.specs.RecordRules.{AreRecords, Facts}
use Rattle.mg_image.specs.Records.{Reading, cells_of, shown}
use Rattle.mg_image.specs.Sound.{IsIndexed, IsSoundBy, facts_by}
use Rattle.mg_image.specs.Tables.{EachStand, IsOnce, Layout, pages_of, stands_of, table_at}
use Rattle.mg_image_overlay_laws.specs.pages.DataPages.{ChangesData, header_kept, header_same, inventory_kept, stands_kept, tips_same, transactions_kept}
use Rattle.mg_model.specs.declared.table.Table.{Table}
use Rattle.std.proofs.Common.{Bool, List, Some, ap, refl, subst, sym, ℕ, ◌++◌, ◌<◌, ◌∙◌, ◌≡◌}
use Rattle.std.specs.List.{flat_map}
use Rattle.std.specs.Prelude.{map}

-- trees and entries are on other pages: what was found of a record is found still
pub record KeepsTrees (old new : Pages) (size : ℕ) (layout : Layout) : Type 0 where
  pub trees : EachStand (λ stand. AreTrees size new stand.table.pointer.0 stand.table.indexes stand.trees)
      (stands_of layout)
  pub found : (table : Table) (p : RecId) (row : Row) → table_at (stands_of layout) p.page.0 ≡ Some table
      → IsFoundIn old table.indexes p row → IsFoundIn new table.indexes p row

-- ---- a changed data page in a sound image

module _ (form : Form) (size : ℕ) (state : ℕ → TxState) (old new : Pages) (b : ℕ) (layout : Layout)
    (r s : Reading) (sound : IsSoundBy form size state old layout r)
    (change : ChangesData form.in_primary old new b) (keeps : KeepsTrees old new size layout) where
  pub facts_same : facts_by state new layout ≡ facts_by state old layout
  facts_same =
      let F : Header → Facts = λ h. record {
        state = state;
        next = h.next.0;
        oldest = h.oit.0;
        table_of = table_at (stands_of layout);
      } in
      ap F (header_same form.in_primary size old new b change sound.header sound.inventory
      sound.transactions)

  -- where the catalog names the same tables
  pub data_sound_with : AreRecords form.coding (facts_by state old layout) (cells_of new) s
      → HasNames size (facts_by state old layout) s layout.catalog.table
      (map (λ stand. stand.table) layout.tables)
      → HasOwnTables (facts_by state old layout) s layout.catalog.table
      → IsIndexed (facts_by state old layout) new s
      → EachPage (λ n. form.sequence_page (new n) n) layout.sequences
      → IsSoundBy form size state new layout s
  data_sound_with records names owns indexed sequences = record {
    header = header_kept form.in_primary size old new b change sound.header sound.inventory
        sound.transactions;
    transactions = transactions_kept form.in_primary size old new b change sound.header
        sound.inventory sound.transactions;
    inventory = inventory_kept form.in_primary size old new b change sound.header sound.inventory
        sound.transactions;
    catalog = sound.catalog ∙ ap (λ (h : Header). catalog_table h.catalog.0) (sym (header_same
        form.in_primary size old new b change sound.header sound.inventory sound.transactions));
    tables = stands_kept form.in_primary size old new b change sound.header sound.inventory
        sound.transactions (stands_of layout) keeps.trees sound.tables;
    sequences = sequences;
    names = subst (λ (f : Facts). HasNames size f s layout.catalog.table
        (map (λ stand. stand.table) layout.tables)) (sym facts_same) names;
    once = subst (λ (tips : List ℕ). IsOnce (tips ++ flat_map pages_of (stands_of layout)
        ++ layout.sequences)) (sym (tips_same form.in_primary size old new b change sound.header
        sound.inventory sound.transactions)) sound.once;
    records = subst (λ (f : Facts). AreRecords form.coding f (cells_of new) s) (sym facts_same) records;
    limbo = λ t below. sound.limbo t (subst (λ (h : Header). t < h.oat.0)
        (header_same form.in_primary size old new b change sound.header sound.inventory
        sound.transactions) below);
    own_tables = subst (λ (f : Facts). HasOwnTables f s layout.catalog.table) (sym facts_same) owns;
    indexed = subst (λ (f : Facts). IsIndexed f new s) (sym facts_same) indexed;
  }

  -- where of each slot of the catalog the same is shown
  pub data_sound : AreRecords form.coding (facts_by state old layout) (cells_of new) s
      → ((chosen : ℕ → Bool) (p : RecId)
      → shown (committed_with (facts_by state old layout) chosen) (s p)
      ≡ shown (committed_with (facts_by state old layout) chosen) (r p))
      → HasOwnTables (facts_by state old layout) s layout.catalog.table
      → IsIndexed (facts_by state old layout) new s
      → EachPage (λ n. form.sequence_page (new n) n) layout.sequences
      → IsSoundBy form size state new layout s
  data_sound records shows = data_sound_with records
      (same_names size (facts_by state old layout) (facts_by state old layout) r s layout.catalog.table
      (map (λ stand. stand.table) layout.tables) (λ chosen. record {
        tables = λ p. refl;
        rows = λ p of. shows chosen p;
      }) sound.names)

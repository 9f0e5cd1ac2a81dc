-- One image under two choices of who counts: a table that stands in both layouts has the same pages there, and
-- the same versions are read of its records.
use Rattle.mg_base.specs.declared.numbers.RecId.{RecId}
use Rattle.mg_base.specs.declared.transaction.TxState.{TxState}
use Rattle.mg_image_overlay_laws.specs.tables.Growing.{IsTableOf}
use Rattle.mg_image_overlay_laws.specs.kept.Knowing.{its_pages}
use Rattle.mg_image.specs.FactLaws.{each_has}
use Rattle.mg_image.specs.Form.{Coding, Form, Pages}
use Rattle.mg_image.specs.ReadingLaws.{RowsAreOne}
use Rattle.mg_image.specs.RecordRules.{Each, Facts, IsVersion}
use Rattle.mg_image.specs.Records.{Reading, cells_of, newest_of, record_key}
use Rattle.mg_image.specs.Sound.{IsSoundBy, facts_by}
use Rattle.mg_image.specs.Tables.{Has, Layout, Stand, stands_of, table_at}
use Rattle.mg_image.specs.declared.entry.Entry.{Entry}
use Rattle.mg_model.specs.declared.table.Table.{Table}
use Rattle.mg_image_overlay_laws.specs.tables.OneChain.{same_stand}
use Rattle.mg_image_overlay_laws.specs.records.Chains.{HasItsRow, one_chain}
use Rattle.mg_image_overlay_laws.specs.tables.OneTable.{its_data}
use Rattle.mg_value.specs.declared.value.Value.{Value}
use Rattle.std.proofs.Common.{List, Some, [], refl, subst, sym, ℕ, ◌∙◌, ◌≡◌}

-- a version of a table has its row
each_row : (coding : Coding) (f : Facts) (table : Table) (key : Value) (es : List Entry)
    → Each (IsVersion coding f table key) es → Each (HasItsRow coding table) es
each_row coding f table key es each = each_has (IsVersion coding f table key) (HasItsRow coding table)
    (λ e is. record { spelled = is.spelled; storable = is.storable }) es each

module _ (form : Form) (one : RowsAreOne form.coding) (size : ℕ) (now then_ : ℕ → TxState) (pages : Pages)
    (a b : Layout) (r s : Reading) (first : IsSoundBy form size now pages a r)
    (second : IsSoundBy form size then_ pages b s) (table : Table) (in_a : IsTableOf a table)
    (in_b : IsTableOf b table) where
  -- it has one stand
  one_stand : in_a.stand ≡ in_b.stand
  one_stand = same_stand form.in_primary size pages in_a.stand in_b.stand
      (its_pages form size now pages a r first table in_a) (its_pages form size then_ pages b s second table in_b)
      (in_a.table_is ∙ sym in_b.table_is)

  -- so its data pages are the same
  pub same_page : (n : ℕ) → table_at (stands_of a) n ≡ Some table → table_at (stands_of b) n ≡ Some table
  same_page n is = (its_data form size then_ pages b s second table in_b n).1
      (subst (λ (x : Stand). Has x.data_pages n) one_stand
      ((its_data form size now pages a r first table in_a n).0 is))

  pub same_record : (p : RecId) → table_at (stands_of a) p.page.0 ≡ Some table → r p ≡ s p
  same_record p is = one_chain form.coding one table (cells_of pages) (newest_of p (cells_of pages p)) (r p)
      (s p) (first.records.reads p table is) (second.records.reads p table (same_page p.page.0 is))
      (each_row form.coding (facts_by now pages a) table (record_key table (r p)) (r p)
      (first.records.each p table is).each)
      (each_row form.coding (facts_by then_ pages b) table (record_key table (s p)) (s p)
      (second.records.each p table (same_page p.page.0 is)).each)

-- the catalog is one table in both
pub same_catalog : (form : Form) (size : ℕ) (now then_ : ℕ → TxState) (pages : Pages) (a b : Layout)
    (r s : Reading) → IsSoundBy form size now pages a r → IsSoundBy form size then_ pages b s
    → a.catalog.table ≡ b.catalog.table
same_catalog form size now then_ pages a b r s first second = first.catalog ∙ sym second.catalog

-- it stands in each
pub catalog_stands : (layout : Layout) → IsTableOf layout layout.catalog.table
catalog_stands layout = record {
  before = [];
  stand = layout.catalog;
  after = layout.tables;
  is_ = refl;
  table_is = refl;
}

-- Pages that change on data pages of the catalog alone.
use Rattle.std.proofs.Common.{◌≡◌, ◌≢◌, ◌⊎◌, inl, inr, refl, sym, ap, ◌∙◌, subst, ℕ, ◌≤◌, Bool, true, false, Some}
use Rattle.std.specs.Prelude.{if◌then◌else◌}
use Rattle.std.proofs.lemmas.Bool.{cases_eq}
use Rattle.mg_base.specs.Fields.{byte}
use Rattle.mg_base.specs.declared.transaction.TxState.{TxState}
use Rattle.mg_model.specs.Catalog.{catalog_name}
use Rattle.mg_model.specs.declared.table.Table.{Table}
use Rattle.mg_image.specs.Form.{Form, Pages}
use Rattle.mg_engine_step_laws.specs.commits.ListShows.{TipsStay, tips_stay_on}
use Rattle.mg_image.specs.Inventory.{is_used, last_sequence}
use Rattle.mg_image.specs.Reached.{tips_of}
use Rattle.mg_image.specs.Records.{Reading}
use Rattle.mg_image.specs.Sound.{HasHeader, HasInventory, HasTransactions, IsSoundBy}
use Rattle.mg_image.specs.Tables.{Layout, has, stands_of, table_at}
use Rattle.mg_image_overlay_laws.specs.pages.DataPages.{ChangesData, last_same, tip_content, tip_same, tips_same, used_kept}
use Rattle.mg_image_overlay_laws.specs.pages.DataKept.{KeepsBits, bits_more, bits_self}
use Rattle.mg_engine_step_laws.specs.tables_back.TakenNames.{other_name}

-- Each page is as it was, or is a data page of the catalog.
pub record ChangesCatalogPages (size : ℕ) (old new : Pages) (layout : Layout) : Type 0 where
  pub each : (m : ℕ) → (new m ≡ old m) ⊎ ((has layout.catalog.data_pages m ≡ true) × (byte (old m) 0 ≡ 5))
  pub used : (m : ℕ) → is_used size new m ≡ is_used size old m
  pub tips : tips_of size new ≡ tips_of size old
  pub bits : KeepsBits size old new
  -- the pages of transactions are where and as they were
  pub stay : TipsStay size old new

pub changes_none : (size : ℕ) (pages : Pages) (layout : Layout) → ChangesCatalogPages size pages pages layout
changes_none size pages layout = record {
  each = λ m. inl refl;
  used = λ m. refl;
  tips = refl;
  bits = bits_self size pages;
  stay = λ sequence below. (refl, refl);
}

pub changes_join : (size : ℕ) (old mid new : Pages) (layout : Layout) → ChangesCatalogPages size old mid layout
    → ChangesCatalogPages size mid new layout → ChangesCatalogPages size old new layout
changes_join size old mid new layout first then_ = record {
  each = λ m. at m (first.each m) (then_.each m);
  used = λ m. then_.used m ∙ first.used m;
  tips = then_.tips ∙ first.tips;
  bits = bits_more size old mid new first.bits then_.bits;
  stay = tips_stay_on size old mid new then_.bits.next first.stay then_.stay;
}
  where
    at : (m : ℕ) → (mid m ≡ old m) ⊎ ((has layout.catalog.data_pages m ≡ true) × (byte (old m) 0 ≡ 5))
        → (new m ≡ mid m) ⊎ ((has layout.catalog.data_pages m ≡ true) × (byte (mid m) 0 ≡ 5))
        → (new m ≡ old m) ⊎ ((has layout.catalog.data_pages m ≡ true) × (byte (old m) 0 ≡ 5))
    at m (inr changed) also = inr changed
    at m (inl same) (inl still) = inl (still ∙ same)
    at m (inl same) (inr (on, five)) = inr (on, sym (ap (λ page. byte page 0) same) ∙ five)

pub data_changes : (in_primary : Bool) (size : ℕ) (old new : Pages) (b : ℕ) (change : ChangesData in_primary old new b)
    → HasHeader size old → HasInventory size old → HasTransactions size old → (layout : Layout)
    → has layout.catalog.data_pages b ≡ true → KeepsBits size old new → ChangesCatalogPages size old new layout
data_changes in_primary size old new b change header inventory transactions layout on bits = record {
  each = λ m. at m (cases_eq m b);
  used = used_kept in_primary size old new b change header inventory transactions;
  tips = tips_same in_primary size old new b change header inventory transactions;
  bits = bits;
  stay = λ sequence below. let within : sequence ≤ last_sequence size old = subst (λ (n : ℕ). sequence ≤ n)
      (last_same in_primary size old new b change header inventory transactions) below in (
        tip_same in_primary size old new b change header inventory transactions sequence within,
        tip_content in_primary size old new b change header inventory transactions sequence within,
      );
}
  where
    at : (m : ℕ) → (m ≡ b) ⊎ (m ≢ b)
        → (new m ≡ old m) ⊎ ((has layout.catalog.data_pages m ≡ true) × (byte (old m) 0 ≡ 5))
    at m (inl e) = inr (ap (has layout.catalog.data_pages) e ∙ on, ap (λ (k : ℕ). byte (old k) 0) e ∙ change.kind)
    at m (inr ne) = inl (change.others m ne)

-- the page of a table that has the catalog's name is the catalog's
pub catalog_page_named : (form : Form) (size : ℕ) (state : ℕ → TxState) (pages : Pages) (layout : Layout) (r : Reading)
    → IsSoundBy form size state pages layout r → (n : ℕ) (table : Table) → table_at (stands_of layout) n ≡ Some table
    → table.name ≡ catalog_name → (has layout.catalog.data_pages n ≡ true) × (layout.catalog.table ≡ table)
catalog_page_named form size state pages layout r sound n table is named = at (has layout.catalog.data_pages n) refl is
  where
    at : (b : Bool) → has layout.catalog.data_pages n ≡ b
        → (if b then Some layout.catalog.table else table_at layout.tables n) ≡ Some table
        → (has layout.catalog.data_pages n ≡ true) × (layout.catalog.table ≡ table)
    at true here is_ = (here, cc)
    at false off is_ = absurd (other_name form size state pages layout r sound n table is_ named)

-- What a sound image has of lawful records and of tables that stand.
use Rattle.std.proofs.Common.{◌≡◌, ◌∙◌, ℕ, Bool, true, false, List, [], ◌∷◌, Some, refl, sym, ap, subst, cond}
use Rattle.mg_image.specs.Catalog.{IsSameTable}
use Rattle.mg_image.specs.Form.{Pages, packed_form}
use Rattle.mg_image.specs.Sound.{HasTablePages}
use Rattle.mg_image.specs.Tables.{EachStand, Stand, has, stands_of, table_at}
use Rattle.mg_image_overlay_laws.specs.pages.Reach.{has_it}
use Rattle.mg_model.specs.declared.table.Table.{Table}
use Rattle.mg_image_overlay_laws.specs.kept.Knowing.{its_pages, of_table}
use Rattle.mg_no_damage_laws.specs.Sees.{IsPageOf}
use Rattle.mg_no_damage_laws.specs.Sound.{SoundRecordsAreLawful, SoundTablesStand}

data_of : (size : ℕ) (pages : Pages) (stands : List Stand) → EachStand (HasTablePages false size pages) stands
    → (n : ℕ) (table : Table) → table_at stands n ≡ Some table → IsPageOf size pages n table
data_of size pages [] each n table is = absurd cc
data_of size pages (s ∷ stands) each n table is =
    at (has s.data_pages n) refl is (data_of size pages stands each.1 n table)
  where
    at : (b : Bool) → has s.data_pages n ≡ b → cond b (Some s.table) (table_at stands n) ≡ Some table
        → (table_at stands n ≡ Some table → IsPageOf size pages n table) → IsPageOf size pages n table
    at true listed is more =
        let same : s.table ≡ table = cc in
        record { stand = s; has = each.0; table_is = same; listed = has_it s.data_pages n listed }
    at false other is more = more is

pub lawful_of : SoundRecordsAreLawful
lawful_of size state pages layout r sound = record {
  records = sound.records;
  data_pages = data_of size pages (stands_of layout) sound.tables;
}

pub stands_so : SoundTablesStand
stands_so size state pages layout r sound its table of same = record {
  has = its_pages packed_form size state pages layout r sound its of;
  same = subst (λ (t : Table). IsSameTable t table) (sym of.table_is) same;
  its = λ n listed. of_table packed_form size state pages layout r sound its of n listed
      ∙ ap (λ (t : Table). Some t) (sym of.table_is);
}

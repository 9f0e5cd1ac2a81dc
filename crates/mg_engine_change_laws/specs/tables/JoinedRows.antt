-- What is read where rows of a new table have come, and which table a page is of.
use Rattle.std.proofs.Common.{◌≡◌, ◌≢◌, ◌⊎◌, inl, inr, refl, sym, ap, ◌∙◌, subst, ℕ, Bool, true, false, List, [], ◌∷◌, Option, Some}
use Rattle.std.specs.Prelude.{if◌then◌else◌, map}
use Rattle.std.specs.Cmp.Lexicographic.{slice_cmp}
use Rattle.std.specs.Ordering.{nat_cmp}
use Rattle.std.specs.declared.cmp.Ordering.{Ordering}
use Rattle.std.specs.declared.cmp.Ordering.TheVariants.{Less, Equal, Greater}
use Rattle.mg_base.specs.declared.numbers.RecId.{RecId}
use Rattle.mg_base.specs.declared.transaction.TxState.{TxState}
use Rattle.mg_catalog.specs.ByKey.{HasKey, HasRow, HaveOwnKeys, by_key, row_key}
use Rattle.mg_catalog.specs.KeyLaws.{same_key_other, same_key_self}
use Rattle.mg_catalog.specs.LawfulLaws.{table_lawful}
use Rattle.mg_model.specs.declared.table.Table.{Table}
use Rattle.mg_model.specs.Catalog.{CatalogRows, catalog_name}
use Rattle.mg_model.specs.CatalogRules.{EachTable, IsCatalog, IsTable}
use Rattle.mg_model.specs.Changes.{Cells, by_order}
use Rattle.mg_image.specs.declared.entry.Entry.{Entry}
use Rattle.mg_image.specs.Form.{Form, Pages}
use Rattle.mg_image.specs.Records.{Reading}
use Rattle.mg_image.specs.Sound.{IsSoundBy}
use Rattle.mg_image.specs.StepLaws.{cases_place, put_reading, same_place}
use Rattle.mg_image.specs.Tables.{Layout, Stand, has, stands_of, table_at}
use Rattle.mg_engine_change_laws.specs.tables.Joined.{HasOwnPlace, HaveOwnPlaces, IsMade, rows_by, rows_stored, stands_with}
use Rattle.mg_engine_change_laws.specs.tables.Rows.{MadeRow, reading_with}
use Rattle.mg_image_overlay_laws.specs.names.JoinedRows.{with_table}

-- ---- what is read

put_here : (r : Reading) (p : RecId) (es : List Entry) → put_reading r p es p ≡ es
put_here r p es = at (cases_place p p)
  where
    at : ((p ≡ p) × (same_place p p ≡ true)) ⊎ ((p ≢ p) × (same_place p p ≡ false)) → put_reading r p es p ≡ es
    at (inl is) = rw is.1 refl
    at (inr not_) = absurd (not_.0 refl)

put_there : (r : Reading) (p : RecId) (es : List Entry) (q : RecId) → q ≢ p → put_reading r p es q ≡ r q
put_there r p es q ne = at (cases_place q p)
  where
    at : ((q ≡ p) × (same_place q p ≡ true)) ⊎ ((q ≢ p) × (same_place q p ≡ false)) → put_reading r p es q ≡ r q
    at (inl is) = absurd (ne is.0)
    at (inr not_) = rw not_.1 refl

-- a record is that of a row, or as it was
pub cases_made : (rows : List MadeRow) (r : Reading) (p : RecId)
    → ((row : MadeRow) × IsMade rows row × (row.at ≡ p) × (reading_with rows r p ≡ row.first ∷ []))
    ⊎ (reading_with rows r p ≡ r p)
cases_made [] r p = inr refl
cases_made (row ∷ rows) r p = at (cases_made rows (put_reading r row.at (row.first ∷ [])) p) (cases_place p row.at)
  where
    at : ((x : MadeRow) × IsMade rows x × (x.at ≡ p)
        × (reading_with rows (put_reading r row.at (row.first ∷ [])) p ≡ x.first ∷ []))
        ⊎ (reading_with rows (put_reading r row.at (row.first ∷ [])) p ≡ put_reading r row.at (row.first ∷ []) p)
        → ((p ≡ row.at) × (same_place p row.at ≡ true)) ⊎ ((p ≢ row.at) × (same_place p row.at ≡ false))
        → ((x : MadeRow) × IsMade (row ∷ rows) x × (x.at ≡ p) × (reading_with (row ∷ rows) r p ≡ x.first ∷ []))
        ⊎ (reading_with (row ∷ rows) r p ≡ r p)
    at (inl (x, is, here, reads)) place = inl (x, inr is, here, reads)
    at (inr same) (inl (is, yes_)) = inl (row, inl refl, sym is, same ∙ rw yes_ refl)
    at (inr same) (inr (ne, no_)) = inr (same ∙ rw no_ refl)

reading_else : (rows : List MadeRow) (r : Reading) (row : MadeRow) → HasOwnPlace row rows
    → reading_with rows r row.at ≡ r row.at
reading_else [] r row own = refl
reading_else (other ∷ rows) r row own = reading_else rows (put_reading r other.at (other.first ∷ [])) row own.1
    ∙ put_there r other.at (other.first ∷ []) row.at (λ same. own.0 (sym same))

-- each row is read
pub reading_at : (rows : List MadeRow) → HaveOwnPlaces rows → (r : Reading) (row : MadeRow) → IsMade rows row
    → reading_with rows r row.at ≡ row.first ∷ []
reading_at [] own r row is = absurd is
reading_at (first ∷ rows) own r row (inl same) =
    subst (λ (x : MadeRow). reading_with rows (put_reading r first.at (first.first ∷ [])) x.at ≡ x.first ∷ []) same
    (reading_else rows (put_reading r first.at (first.first ∷ [])) first own.0
    ∙ put_here r first.at (first.first ∷ []))
reading_at (first ∷ rows) own r row (inr more) =
    reading_at rows own.1 (put_reading r first.at (first.first ∷ [])) row more

-- ---- rows by their keys

has_row_of : (rows : List MadeRow) (row : MadeRow) → IsMade rows row → HasRow (rows_stored rows) row.first.row
has_row_of [] row is = is
has_row_of (first ∷ rows) row (inl same) = inl (ap (λ (x : MadeRow). x.first.row) same)
has_row_of (first ∷ rows) row (inr more) = inr (has_row_of rows row more)

-- a stored row is of one
pub row_of : (rows : List MadeRow) (cells : Cells) → HasRow (rows_stored rows) cells
    → (row : MadeRow) × IsMade rows row × (row.first.row ≡ cells)
row_of [] cells has_ = absurd has_
row_of (first ∷ rows) cells (inl same) = (first, inl refl, same)
row_of (first ∷ rows) cells (inr more) = let (row, is, same) = row_of rows cells more in (row, inr is, same)

has_key_of : (rows : List Cells) (row : Cells) → HasRow rows row → HasKey rows (row_key row)
has_key_of [] row has_ = absurd has_
has_key_of (first ∷ rows) row (inl same) = inl (ap row_key same)
has_key_of (first ∷ rows) row (inr more) = inr (has_key_of rows row more)

pub by_key_at : (rows : List Cells) → HaveOwnKeys rows → (row : Cells) → HasRow rows row
    → by_key rows (row_key row) ≡ Some row
by_key_at [] own row has_ = absurd has_
by_key_at (first ∷ rows) own row (inl same) = subst (λ (x : Cells). by_key (first ∷ rows) (row_key x) ≡ Some x) same
    (rw (same_key_self (row_key first)) refl)
by_key_at (first ∷ rows) own row (inr more) =
    rw (same_key_other (row_key first) (row_key row)
    (λ same. own.0 (subst (HasKey rows) (sym same) (has_key_of rows row more)))) (by_key_at rows own.1 row more)

pub made_by_key : (rows : List MadeRow) → HaveOwnKeys (rows_stored rows) → (row : MadeRow) → IsMade rows row
    → rows_by rows (row_key row.first.row) ≡ Some row.first.row
made_by_key rows own row is = by_key_at (rows_stored rows) own row.first.row (has_row_of rows row is)

-- two of one key are one
pub made_once : (rows : List MadeRow) → HaveOwnKeys (rows_stored rows) → (x y : MadeRow) → IsMade rows x
    → IsMade rows y → row_key x.first.row ≡ row_key y.first.row → x ≡ y
made_once [] own x y is also same = absurd is
made_once (first ∷ rows) own x y (inl a) (inl b) same = sym a ∙ b
made_once (first ∷ rows) own x y (inl a) (inr more) same = absurd (own.0 (subst (HasKey (rows_stored rows))
    (sym same ∙ sym (ap (λ (z : MadeRow). row_key z.first.row) a))
    (has_key_of (rows_stored rows) y.first.row (has_row_of rows y more))))
made_once (first ∷ rows) own x y (inr more) (inl b) same = absurd (own.0 (subst (HasKey (rows_stored rows))
    (same ∙ sym (ap (λ (z : MadeRow). row_key z.first.row) b))
    (has_key_of (rows_stored rows) x.first.row (has_row_of rows x more))))
made_once (first ∷ rows) own x y (inr more) (inr also) same = made_once rows own.1 x y more also same

-- ---- stands

pub tables_with : (s : Stand) (ss : List Stand)
    → map (λ x. x.table) (stands_with s ss) ≡ with_table s.table (map (λ x. x.table) ss)
tables_with s [] = refl
tables_with s (u ∷ us) = at (slice_cmp nat_cmp s.table.name u.table.name) (tables_with s us)
  where
    at : (o : Ordering) → map (λ x. x.table) (stands_with s us) ≡ with_table s.table (map (λ x. x.table) us)
        → map (λ x. x.table) (by_order o (s ∷ u ∷ us) (s ∷ u ∷ us) (u ∷ stands_with s us))
        ≡ by_order o (s.table ∷ u.table ∷ map (λ x. x.table) us) (s.table ∷ u.table ∷ map (λ x. x.table) us)
        (u.table ∷ with_table s.table (map (λ x. x.table) us))
    at Less more = refl
    at Equal more = refl
    at Greater more = ap (λ (ts : List Table). u.table ∷ ts) more

pub at_with : (s : Stand) (ss : List Stand) → s.data_pages ≡ [] → (n : ℕ)
    → table_at (stands_with s ss) n ≡ table_at ss n
at_with s [] none n = rw none refl
at_with s (u ∷ us) none n = at (slice_cmp nat_cmp s.table.name u.table.name) (at_with s us none n)
  where
    first : table_at (s ∷ u ∷ us) n ≡ table_at (u ∷ us) n
    first = rw none refl

    at : (o : Ordering) → table_at (stands_with s us) n ≡ table_at us n
        → table_at (by_order o (s ∷ u ∷ us) (s ∷ u ∷ us) (u ∷ stands_with s us)) n ≡ table_at (u ∷ us) n
    at Less more = first
    at Equal more = first
    at Greater more = ap (λ (x : Option Table). if has u.data_pages n then Some u.table else x) more

-- ---- a table of a layout is not the catalog

each_at : (P : Table → Type 0) (ss : List Stand) → EachTable P (map (λ x. x.table) ss) → (n : ℕ) (table : Table)
    → table_at ss n ≡ Some table → P table
each_at P [] each n table is = absurd cc
each_at P (s ∷ ss) each n table is = at (has s.data_pages n) is (each_at P ss each.1 n table)
  where
    at : (b : Bool) → (if b then Some s.table else table_at ss n) ≡ Some table → (table_at ss n ≡ Some table → P table)
        → P table
    at true same more = let one : s.table ≡ table = cc in subst P one each.0
    at false same more = more same

others_named : (rows : CatalogRows) → IsCatalog rows → (ts : List Table) → EachTable (IsTable rows) ts
    → EachTable (λ x. x.name ≢ catalog_name) ts
others_named rows lawful [] each = tt
others_named rows lawful (t ∷ ts) each =
    ((table_lawful rows lawful t.name each.0.row each.0.there).other, others_named rows lawful ts each.1)

module _ (form : Form) (size : ℕ) (state : ℕ → TxState) (pages : Pages) (layout : Layout) (r : Reading)
    (sound : IsSoundBy form size state pages layout r) where
  pub other_name : (n : ℕ) (table : Table) → table_at layout.tables n ≡ Some table → table.name ≢ catalog_name
  other_name n table is = each_at (λ x. x.name ≢ catalog_name) layout.tables
      (others_named sound.names.all.rows sound.names.all.are_tables.lawful (map (λ x. x.table) layout.tables)
      sound.names.all.are_tables.each) n table is

  pub catalog_named : layout.catalog.table.name ≡ catalog_name
  catalog_named = ap (λ (x : Table). x.name) sound.catalog

  -- so the catalog's pages are its own
  pub catalog_page : (n : ℕ) → table_at (stands_of layout) n ≡ Some layout.catalog.table
      → has layout.catalog.data_pages n ≡ true
  catalog_page n is = at (has layout.catalog.data_pages n) refl is
    where
      at : (b : Bool) → has layout.catalog.data_pages n ≡ b
          → (if b then Some layout.catalog.table else table_at layout.tables n) ≡ Some layout.catalog.table
          → has layout.catalog.data_pages n ≡ true
      at true here is_ = here
      at false off is_ = absurd (other_name n layout.catalog.table is_ catalog_named)

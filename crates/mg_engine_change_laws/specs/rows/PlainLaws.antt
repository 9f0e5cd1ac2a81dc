-- Tables stay plain where a record is written: the catalog's rows name the same tables, under each choice.
use Rattle.std.proofs.Common.{◌≡◌, ◌⊎◌, inl, inr, ◌||◌, ℕ, Bool, List, [], Option, None, Some, refl, sym, ap, ◌∙◌, subst}
use Rattle.std.specs.Prelude.{map}
use Rattle.std.proofs.Math.Path.{fun_ext}
use Rattle.mg_base.specs.declared.numbers.RecId.{RecId}
use Rattle.mg_base.specs.declared.transaction.TxState.{TxState}
use Rattle.mg_value.specs.declared.value.Value.{Value}
use Rattle.mg_catalog.specs.TableLaws.{tables_once}
use Rattle.mg_engine_step_laws.specs.writes.Writes.{ReadsAfter}
use Rattle.mg_engine_step_laws.specs.tables.SameRecords.{catalog_stands}
use Rattle.mg_image_overlay_laws.specs.tables.Growing.{HasGrown, IsTableOf}
use Rattle.mg_image.specs.Catalog.{CatalogNames, committed_with}
use Rattle.mg_image.specs.Form.{Pages, Row, Rows, packed_coding, packed_form}
use Rattle.mg_image.specs.Held.{AreRows}
use Rattle.mg_image.specs.ReadingLaws.{RowsAreOne}
use Rattle.mg_image.specs.RecordRules.{Facts, table_in}
use Rattle.mg_image.specs.Records.{Reading, key_of, shown}
use Rattle.mg_image.specs.Sound.{IsSoundBy, facts_by}
use Rattle.mg_image.specs.Tables.{Layout, stands_of, table_at}
use Rattle.mg_image.specs.declared.entry.Entry.{Entry}
use Rattle.mg_image_overlay_laws.specs.tables.TableOwners.{IsOneOf}
use Rattle.mg_image_overlay_laws.specs.kept.KeptImages.{IsKept}
use Rattle.mg_model.specs.CatalogRules.{AreTables}
use Rattle.mg_model.specs.declared.opening.Opening.{Opening}
use Rattle.mg_model.specs.declared.table.Table.{Table}
use Rattle.mg_model.specs.History.{Entries}
use Rattle.mg_model.specs.Legal.{is_limbo}
use Rattle.mg_model.specs.Openings.{everyone}
use Rattle.mg_overlay_laws.specs.Overlays.{left_state}
use Rattle.mg_image_overlay_laws.specs.tables.OneTable.{one_standing, stands_in}
use Rattle.mg_engine_meaning_laws.specs.PlainLaws.{plain_tables_from}
use Rattle.mg_engine_meaning_laws.specs.PlainTables.{HasPlainTables}
use Rattle.mg_noted_laws.specs.ChoiceTables.{tables_are}
use Rattle.mg_engine_change_laws.specs.rows.Plain.{WritesKeepPlain}

-- the rows of a table are the same where its records are; on pages that it has got no record is read
rows_stay : (f g : Facts) (c d : ℕ → Bool) (r s : Reading) (table : Table) (rows more : Rows) → c ≡ d
    → ((p : RecId) → table_in f p ≡ Some table → (table_in g p ≡ Some table) × (s p ≡ r p))
    → ((p : RecId) → table_in g p ≡ Some table → ((table_in f p ≡ Some table) × (s p ≡ r p)) ⊎ (s p ≡ []))
    → AreRows f c r table rows → AreRows g d s table more → rows ≡ more
rows_stay f g c d r s table rows more counts to back first second =
    fun_ext (λ key. at key (rows key) (more key) refl refl)
  where
    there : (key : Value) (row : Row) → rows key ≡ Some row → more key ≡ Some row
    there key row is = let (p, shows, keyed) = first.whole key row is in
        ap more (sym keyed) ∙ second.there p row (record {
          of_table = (to p shows.of_table).0;
          row_shown = ap (shown d) (to p shows.of_table).1 ∙ (ap (λ (w : ℕ → Bool). shown w (r p)) (sym counts)
              ∙ shows.row_shown);
        })

    here_ : (key : Value) (row : Row) → more key ≡ Some row → rows key ≡ Some row
    here_ key row is = let (p, shows, keyed) = second.whole key row is in
        ap rows (sym keyed) ∙ by p row shows.row_shown (back p shows.of_table)
      where
        by : (p : RecId) (row : Row) → shown d (s p) ≡ Some row
            → ((table_in f p ≡ Some table) × (s p ≡ r p)) ⊎ (s p ≡ []) → rows (key_of table row) ≡ Some row
        by p row_ some (inl (of, same)) = first.there p row_ (record {
          of_table = of;
          row_shown = ap (λ (w : ℕ → Bool). shown w (r p)) counts ∙ (ap (shown d) (sym same) ∙ some);
        })
        by p row_ some (inr none) = let both : None ≡ Some row_ = sym (ap (shown d) none) ∙ some in absurd cc

    at : (key : Value) (a b : Option Row) → rows key ≡ a → more key ≡ b → rows key ≡ more key
    at key None None is also = is ∙ sym also
    at key (Some row) b is also = is ∙ sym (there key row is)
    at key None (Some row) is also = here_ key row also ∙ sym also

module _ (one : RowsAreOne packed_coding) (size : ℕ) (o : Opening) (h : Entries) (state : ℕ → TxState)
    (pages later : Pages) (a : Layout) (r : Reading) (rec : RecId) (es : List Entry)
    (first : IsSoundBy packed_form size (left_state everyone state) pages a r)
    (reads : ReadsAfter packed_form size (left_state everyone state) pages later a r rec es)
    (alike : (p : RecId) → table_at (stands_of a) p.page.0 ≡ Some a.catalog.table → reads.reading p ≡ r p)
    (alike_later : (p : RecId) → table_at (stands_of reads.layout) p.page.0 ≡ Some a.catalog.table
    → reads.reading p ≡ r p)
    (kept : (chosen : ℕ → Bool) → IsKept packed_form size o h (left_state chosen state) pages pages)
    (plain : HasPlainTables size state pages) where
  abbrev f : Facts
  f = facts_by (left_state everyone state) pages a

  abbrev g : Facts
  g = facts_by (left_state everyone state) later reads.layout

  abbrev cat : Table
  cat = a.catalog.table

  to : (p : RecId) → table_in f p ≡ Some cat → (table_in g p ≡ Some cat) × (reads.reading p ≡ r p)
  to p is = (reads.grown.stays p.page.0 cat is, alike p is)

  back : (p : RecId) → table_in g p ≡ Some cat
      → ((table_in f p ≡ Some cat) × (reads.reading p ≡ r p)) ⊎ (reads.reading p ≡ [])
  back p is = at (reads.grown.new p.page.0 cat is)
    where
      at : (table_at (stands_of a) p.page.0 ≡ Some cat) ⊎ ((q : RecId) → q.page.0 ≡ p.page.0 → r q ≡ [])
          → ((table_in f p ≡ Some cat) × (reads.reading p ≡ r p)) ⊎ (reads.reading p ≡ [])
      at (inl was) = inl (was, alike p was)
      at (inr none) = inr (alike_later p is ∙ none p refl)

  -- whichever count, the catalog's rows name the tables that they named
  named_same : (who : ℕ → Bool) → first.names.named who ≡ reads.sound.names.named who
  named_same who = tables_once (first.names.lawful who).rows (first.names.named who) (reads.sound.names.named who)
      (first.names.lawful who).are_tables (subst (λ (rows : Rows). AreTables rows (reads.sound.names.named who))
      (sym same) now_.are_tables)
    where
      now_ : CatalogNames size g (committed_with g who) reads.reading a.catalog.table (reads.sound.names.named who)
      now_ = subst (λ (t : Table). CatalogNames size g (committed_with g who) reads.reading t
          (reads.sound.names.named who)) reads.grown.catalog (reads.sound.names.lawful who)

      same : (first.names.lawful who).rows ≡ now_.rows
      same = rows_stay f g (committed_with f who) (committed_with g who) r reads.reading cat
          (first.names.lawful who).rows now_.rows refl to back (first.names.lawful who).are_rows now_.are_rows

  -- a table that stands then stood before
  module _ (chosen : ℕ → Bool) (c : Layout) (s : Reading)
      (second : IsSoundBy packed_form size (left_state chosen state) later c s) where
    tables : map (λ x. x.table) c.tables ≡ map (λ x. x.table) (kept chosen).layout.tables
    tables = tables_are one size state later reads.layout reads.reading reads.sound chosen c s second
        ∙ (sym (named_same (λ u. chosen u || is_limbo (state u)))
        ∙ sym (tables_are one size state pages a r first chosen (kept chosen).layout (kept chosen).reading
        (kept chosen).sound))

    catalogs : c.catalog.table ≡ (kept chosen).layout.catalog.table
    catalogs = second.catalog ∙ (sym reads.sound.catalog ∙ (reads.grown.catalog
        ∙ (first.catalog ∙ sym (kept chosen).sound.catalog)))

    stood : (its : Table) → (c.catalog.table ≡ its) ⊎ IsOneOf (map (λ stand. stand.table) c.tables) its
        → IsTableOf (kept chosen).layout its
    stood its (inl same) = subst (IsTableOf (kept chosen).layout) (sym catalogs ∙ same)
        (catalog_stands (kept chosen).layout)
    stood its (inr is) =
        stands_in (kept chosen).layout its (inr (subst (λ (ts : List Table). IsOneOf ts its) tables is))

  pub plain_after : HasPlainTables size state later
  plain_after = plain_tables_from size state state pages later plain (λ chosen c s second its there. record {
    chosen = chosen;
    before = (kept chosen).layout;
    reading = (kept chosen).reading;
    sound = (kept chosen).sound;
    there = stood chosen c s second its (one_standing c its there);
  })

pub writes_keep_plain : RowsAreOne packed_coding → WritesKeepPlain
writes_keep_plain one size o h state pages later layout r rec es table first reads of other kept plain =
    plain_after one size o h state pages later layout r rec es first reads
    (λ p is. reads.others p (λ same.
    let both : Some table ≡ Some layout.catalog.table = sym of ∙ (ap (λ (q : RecId).
    table_at (stands_of layout) q.page.0) (sym same) ∙ is) in
    let one_table : table ≡ layout.catalog.table = cc in other one_table))
    (λ p is. reads.others p (λ same.
    let both : Some table ≡ Some layout.catalog.table = sym (reads.grown.stays rec.page.0 table of)
    ∙ (ap (λ (q : RecId). table_at (stands_of reads.layout) q.page.0) (sym same) ∙ is) in
    let one_table : table ≡ layout.catalog.table = cc in other one_table))
    kept plain

-- so they do where a table has got pages, and no record was written
pub grown_keeps_plain : RowsAreOne packed_coding → (size : ℕ) (o : Opening) (h : Entries) (state : ℕ → TxState)
    (pages later : Pages) (layout after : Layout) (r : Reading) (rec : RecId)
    → IsSoundBy packed_form size (left_state everyone state) pages layout r
    → IsSoundBy packed_form size (left_state everyone state) later after r → HasGrown layout after r
    → ((chosen : ℕ → Bool) → IsKept packed_form size o h (left_state chosen state) pages pages)
    → HasPlainTables size state pages → HasPlainTables size state later
grown_keeps_plain one size o h state pages later layout after r rec first second grown kept plain =
    plain_after one size o h state pages later layout r rec (r rec) first (record {
      layout = after;
      reading = r;
      sound = second;
      grown = grown;
      here = refl;
      others = λ q ne. refl;
    }) (λ p is. refl) (λ p is. refl) kept plain

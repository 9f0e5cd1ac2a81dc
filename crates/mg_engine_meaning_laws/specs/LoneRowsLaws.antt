-- What keeps the rows of the catalog alone in their records.
use Rattle.std.proofs.Common.{◌≡◌, ◌≢◌, ◌∙◌, ◌<◌, ◌≤◌, ap, arith, refl, subst, sym, true, ℕ, List, [], ◌∷◌, Some}
use Rattle.mg_base.specs.declared.numbers.RecId.{RecId}
use Rattle.mg_base.specs.declared.transaction.TxState.{TxState}
use Rattle.mg_image.specs.Form.{Pages, packed_coding, packed_form}
use Rattle.mg_image.specs.Inventory.{next_of}
use Rattle.mg_image.specs.ReadingLaws.{RowsAreOne}
use Rattle.mg_image.specs.RecordRules.{Each, Facts, IsVersion}
use Rattle.mg_image.specs.Records.{Reading, record_key, writer}
use Rattle.mg_image.specs.Sound.{IsSoundBy, facts_by}
use Rattle.mg_image.specs.Tables.{Layout, Stand, has, stands_of, table_at}
use Rattle.mg_image.specs.declared.entry.Entry.{Entry}
use Rattle.mg_image_overlay_laws.specs.tables.Growing.{IsTableOf}
use Rattle.mg_image_overlay_laws.specs.tables.OneChain.{same_stand}
use Rattle.mg_image_overlay_laws.specs.tables.OneLayout.{StandsOneWay}
use Rattle.mg_engine_step_laws.specs.tables_back.CatalogPages.{catalog_page_named}
use Rattle.mg_engine_step_laws.specs.tables.SameRecords.{catalog_stands, same_catalog, same_record}
use Rattle.mg_model.specs.Catalog.{catalog_name}
use Rattle.mg_model.specs.Openings.{everyone}
use Rattle.mg_model.specs.declared.table.Table.{Table}
use Rattle.mg_overlay_laws.specs.Overlays.{left_state}
use Rattle.mg_value.specs.declared.value.Value.{Value}
use Rattle.mg_engine_meaning_laws.specs.LoneRows.{AreLone, HasLoneRows, IsLone}

-- ---- the versions of a record

below_lone : (from : ℕ) (es : List Entry) → Each (λ x. writer x < from) es → IsLone from es
below_lone from [] each = tt
below_lone from (e ∷ []) each = tt
below_lone from (e ∷ d ∷ es) each = each

drawn_below : (f : Facts) (table : Table) (key : Value) (es : List Entry) → Each (IsVersion packed_coding f table key) es
    → Each (λ x. writer x < f.next) es
drawn_below f table key [] each = tt
drawn_below f table key (e ∷ es) each = (each.0.drawn, drawn_below f table key es each.1)

-- it stands alone without its newest one
pub lone_behind : (from : ℕ) (e : Entry) (es : List Entry) → IsLone from (e ∷ es) → IsLone from es
lone_behind from e [] lone = tt
lone_behind from e (d ∷ []) lone = tt
lone_behind from e (d ∷ c ∷ es) lone = lone.1

-- and a newest one of a transaction that is not below the number has none behind it
pub lone_newest : (from : ℕ) (e : Entry) (es : List Entry) → IsLone from (e ∷ es) → from ≤ writer e → es ≡ []
lone_newest from e [] lone above = refl
lone_newest from e (d ∷ es) lone above =
    let below : writer e < from = lone.0 in absurd (omega (arith, below, above))

-- ---- of pages

-- all versions are below the number that is drawn next: so it is of every image when a history begins with it
pub lone_first : (size : ℕ) (state : ℕ → TxState) (pages : Pages) → HasLoneRows (next_of pages) size state pages
lone_first size state pages layout r sound p of =
    below_lone (next_of pages) (r p) (drawn_below (facts_by (left_state everyone state) pages layout)
    layout.catalog.table (record_key layout.catalog.table (r p)) (r p)
    (sound.records.each p layout.catalog.table of).each)

-- since pages have one layout and one reading at most, it is enough that they are so by one
pub lone_by : StandsOneWay packed_form → (from size : ℕ) (state : ℕ → TxState) (pages : Pages) (layout : Layout)
    (r : Reading) → IsSoundBy packed_form size (left_state everyone state) pages layout r → AreLone from layout r
    → HasLoneRows from size state pages
lone_by one from size state pages layout r sound lone a s other =
    let (layouts, readings) = one size (left_state everyone state) pages layout a r s sound other in
    subst (λ (b : Layout). AreLone from b s) layouts
    (subst (λ (q : Reading). AreLone from layout q) readings lone)

-- layout and reading stay, under other states and on other pages
pub lone_stay : StandsOneWay packed_form → (from size : ℕ) (state now : ℕ → TxState) (pages later : Pages)
    (layout : Layout) (r : Reading) → IsSoundBy packed_form size (left_state everyone state) pages layout r
    → IsSoundBy packed_form size (left_state everyone now) later layout r → HasLoneRows from size state pages
    → HasLoneRows from size now later
lone_stay one from size state now pages later layout r sound then_ lone =
    lone_by one from size now later layout r then_ (lone layout r sound)

-- each record of the catalog that has versions was one of it, and stands alone where it did
pub lone_on : (from size : ℕ) (state now : ℕ → TxState) (pages later : Pages) (a b : Layout) (r s : Reading)
    → IsSoundBy packed_form size state pages a r → IsSoundBy packed_form size now later b s
    → ((p : RecId) → table_at (stands_of b) p.page.0 ≡ Some b.catalog.table → s p ≢ []
    → (table_at (stands_of a) p.page.0 ≡ Some b.catalog.table) × (IsLone from (r p) → IsLone from (s p)))
    → AreLone from a r → AreLone from b s
lone_on from size state now pages later a b r s sound then_ stays lone p of = at (s p) refl
  where
    named : b.catalog.table.name ≡ catalog_name
    named = ap (λ (x : Table). x.name) then_.catalog

    at : (es : List Entry) → s p ≡ es → IsLone from (s p)
    at [] is = subst (IsLone from) (sym is) tt
    at (e ∷ es) is =
        let (was, part) = stays p of (λ none. let both : e ∷ es ≡ [] = sym is ∙ none in absurd cc) in
        let same : a.catalog.table ≡ b.catalog.table =
        (catalog_page_named packed_form size state pages a r sound p.page.0 b.catalog.table was named).1 in
        part (lone p (was ∙ ap Some (sym same)))

-- on the same pages by other states: the catalog and its records are the same
pub lone_beside : RowsAreOne packed_coding → (from size : ℕ) (state now : ℕ → TxState) (pages : Pages) (a b : Layout)
    (r s : Reading) → IsSoundBy packed_form size state pages a r → IsSoundBy packed_form size now pages b s
    → AreLone from a r → AreLone from b s
lone_beside one from size state now pages a b r s first second lone p of =
    subst (IsLone from) (same_record packed_form one size state now pages a b r s first second a.catalog.table
    (catalog_stands a) in_b p in_a) (lone p in_a)
  where
    one_table : a.catalog.table ≡ b.catalog.table
    one_table = same_catalog packed_form size state now pages a b r s first second

    one_stand : a.catalog ≡ b.catalog
    one_stand = same_stand packed_form.in_primary size pages a.catalog b.catalog first.tables.0 second.tables.0 one_table

    in_b : IsTableOf b a.catalog.table
    in_b = subst (IsTableOf b) (sym one_table) (catalog_stands b)

    here : has a.catalog.data_pages p.page.0 ≡ true
    here = ap (λ (x : Stand). has x.data_pages p.page.0) one_stand
        ∙ (catalog_page_named packed_form size now pages b s second p.page.0 b.catalog.table of
        (ap (λ (x : Table). x.name) second.catalog)).0

    in_a : table_at (stands_of a) p.page.0 ≡ Some a.catalog.table
    in_a = rw here refl

-- What is known of the rows of a new table where nobody speaks for their keys: each may be written into the catalog, and
-- no record of a sound image takes one of the keys, whoever counts as in limbo.
use Rattle.std.proofs.Common.{◌≡◌, ◌≢◌, ◌⊎◌, inl, inr, refl, sym, ap, ◌∙◌, subst, arith, ◌+◌, ◌-◌, ◌<◌, ◌≤◌, ◌^◌, ◌==◌, ℕ, suc, Bool, true, List, [], ◌∷◌, ◌++◌, length, Some}
use Rattle.std.specs.Prelude.{nat_le, replicate, take}
use Rattle.std.specs.List.{prefix_len}
use Rattle.std.proofs.lemmas.Bool.{cases_lt, false≢true}
use Rattle.mg_base.specs.Checks.{Check, PassesAll, common_checks}
use Rattle.mg_base.specs.declared.numbers.RecId.{RecId}
use Rattle.mg_base.specs.declared.numbers.TxNo.{TxNo}
use Rattle.mg_base.specs.declared.transaction.TxState.TheVariants.{Active, Limbo}
use Rattle.mg_header.specs.HeaderPage.{AreMarkers, marker_checks}
use Rattle.mg_header.specs.HeaderPageLaws.{markers_from_passes}
use Rattle.mg_header.specs.declared.header.TheConstants.{HEADER_KIND}
use Rattle.mg_rle.specs.Runs.{StandsFor}
use Rattle.mg_rowcode.specs.Faults.{DecodesTo}
use Rattle.mg_value.specs.Rows.{RowFits, columns_of, row_bytes}
use Rattle.mg_value.specs.declared.shape.Column.{Column}
use Rattle.mg_value.specs.declared.shape.Kind.TheVariants as kinds
use Rattle.mg_value.specs.declared.shape.Shape.{Shape}
use Rattle.mg_value.specs.declared.value.Value.{Value}
use Rattle.mg_value.specs.declared.value.Value.TheVariants.{Null}
use Rattle.mg_model.specs.Catalog.{catalog_shape}
use Rattle.mg_model.specs.declared.opening.Opening.{Opening}
use Rattle.mg_model.specs.declared.table.Table.{Table}
use Rattle.mg_model.specs.History.{Entries}
use Rattle.mg_model.specs.Laws.{OpeningsBegin}
use Rattle.mg_model.specs.Openings.{everyone}
use Rattle.mg_records.specs.Writing.{IsNewShape}
use Rattle.mg_image.specs.Form.{Pages, Row, packed_coding, packed_form}
use Rattle.mg_image.specs.Inventory.{header_of, next_of, oldest_active_of, oldest_of}
use Rattle.mg_image.specs.ReadingLaws.{RowsAreOne}
use Rattle.mg_image.specs.RecordRules.{TakesKey, columns_for, table_in}
use Rattle.mg_image.specs.Records.{Reading, record_key}
use Rattle.mg_image.specs.Sound.{IsSoundBy, facts_by}
use Rattle.mg_image.specs.Tables.{Layout, stands_of, table_at as page_table}
use Rattle.mg_overlay_laws.specs.Overlays.{left_state}
use Rattle.mg_tie_laws.specs.CatalogRows.{IsRowOf}
use Rattle.mg_tie_laws.specs.Filled.{catalog_of}
use Rattle.mg_table_batch.specs.Filling.{rows_at}
use Rattle.mg_image_overlay_laws.specs.tables.Growing.{IsTableOf}
use Rattle.mg_tie_laws.specs.Ties.{HoldsOfRows}
use Rattle.mg_engine_step_laws.specs.standing.Standing.{ShowsHistory, Standing, Stands}
use Rattle.mg_engine_step_laws.specs.writes.Writes.{IsSilentAt}
use Rattle.mg_engine_step_laws.specs.standing.Choices.{placed_back, read, takes_too}
use Rattle.mg_engine_step_laws.specs.tables.SameRecords.{catalog_stands, same_catalog}
use Rattle.mg_engine_step_laws.specs.writes.Spoken.{was_drawn}
use Rattle.mg_engine_step_laws.specs.reads.TakenKeys.{none_takes}
use Rattle.mg_engine_meaning_laws.specs.PlainTables.{AreFirst}

-- ---- the catalog's columns are of the first format

one_more : (c : Column) (cs : List Column) (n : ℕ) → take n cs ≡ cs → take (1 + n) (c ∷ cs) ≡ c ∷ cs
one_more c cs n is = let counted : suc n ≡ 1 + n = omega arith in
    subst (λ (k : ℕ). take k (c ∷ cs) ≡ c ∷ cs) counted (ap (λ (xs : List Column). c ∷ xs) is)

all_columns : (columns : List Column) → AreFirst columns → columns_of columns 1 ≡ columns
all_columns [] first = refl
all_columns (c ∷ cs) first =
    let on : nat_le c.since 1 ≡ true = ap (λ (n : ℕ). nat_le n 1) first.0 in
    let more : columns_of cs 1 ≡ cs = all_columns cs first.1 in
    rw on (one_more c cs (prefix_len (λ (column : Column). nat_le column.since 1) cs) more)

same_length : (columns : List Column) (row : List Value) → RowFits columns row → length row ≡ length columns
same_length [] [] fits = refl
same_length [] (v ∷ vs) fits = absurd fits
same_length (c ∷ cs) [] fits = absurd fits
same_length (c ∷ cs) (v ∷ vs) fits = ap suc (same_length cs vs fits.1)

none_left : (n m : ℕ) → n ≡ m → replicate (m - n) Null ≡ []
none_left n m same = ap (λ (k : ℕ). replicate k Null) (let is : m - n ≡ 0 = omega (arith, same) in is)

append_none : (xs : List Value) → xs ++ [] ≡ xs
append_none [] = refl
append_none (x ∷ xs) = ap (λ (ys : List Value). x ∷ ys) (append_none xs)

decodes : (columns : List Column) (body : List ℕ) (row : Row) → AreFirst columns → RowFits columns row
    → StandsFor body (row_bytes columns row) → DecodesTo columns 1 body row
decodes columns body row first fits stands = record {
  values = row;
  fits = subst (λ (cs : List Column). RowFits cs row) (sym (all_columns columns first)) fits;
  stands = subst (λ (cs : List Column). StandsFor body (row_bytes cs row)) (sym (all_columns columns first)) stands;
  whole = sym (ap (λ (xs : List Value). row ++ xs) (none_left (length row) (length columns)
      (same_length columns row fits)) ∙ append_none row);
}

catalog_first : AreFirst catalog_shape.columns
catalog_first = (refl, (refl, (refl, (refl, (refl, (refl, tt))))))

-- ---- the values of its rows

-- ---- on the pages of an engine

passes_back : (first rest : List Check) → PassesAll (first ++ rest) → PassesAll rest
passes_back [] rest passes = passes
passes_back (check ∷ checks) rest passes = passes_back checks rest passes.1

module _ (one : RowsAreOne packed_coding) (begins : OpeningsBegin) (size : ℕ) (o : Opening) (h : Entries) (s : Standing)
    (pages : Pages) (stands : Stands packed_form size o h s (Some pages)) (t : TxNo) (active : s.state t.0 ≡ Active)
  where
    abbrev shows : ShowsHistory packed_form size o h s pages
    shows = stands.shows

    number : t.0 < next_of pages
    number = was_drawn packed_form size o h s pages (begins o stands.opening) stands.legal stands.memory stands.shows t.0
        active

    interesting : oldest_of pages ≤ t.0
    interesting = at (cases_lt t.0 (oldest_active_of pages))
      where
        are : AreMarkers (oldest_of pages) (header_of pages).ost.0 (oldest_active_of pages) (next_of pages)
        are = markers_from_passes (pages 0) (passes_back (common_checks (pages 0) 0 HEADER_KIND 0 0)
            (marker_checks (pages 0)) stands.shows.sound.header.fields)

        limbo : left_state everyone s.state t.0 ≡ Limbo
        limbo = rw active refl

        at : (t.0 < oldest_active_of pages) ⊎ (oldest_active_of pages ≤ t.0) → oldest_of pages ≤ t.0
        at (inl below) = absurd (stands.shows.sound.limbo t.0 below limbo)
        at (inr above) = let a = are.oit_ost in let b = are.ost_oat in omega (arith, a, b, above)

    -- each row may be written into the catalog
    pub rows_may : (name : List ℕ) (shape : Shape) (page : ℕ) → IsNewShape shape → page < 2 ^ 32
        → HoldsOfRows size (catalog_of pages) t.0 (rows_at name shape page) (IsRowOf packed_form size t.0 s.state pages)
    rows_may name shape page new below row is at v stores = (
      stores.stored.its,
      λ chosen layout r sound. record {
        drawn = subst (λ (n : ℕ). n < next_of pages) (sym stores.stored.its) number;
        dead = λ dead. subst (λ (n : ℕ). oldest_of pages ≤ n) (sym stores.stored.its) interesting;
        format = stores.stored.format;
        spelled = subst (λ (f : ℕ). DecodesTo (columns_for (catalog_of pages) v.deleted) f v.body row)
            (sym stores.stored.format) (subst (λ (d : Bool). DecodesTo (columns_for (catalog_of pages) d) 1 v.body row)
            (sym stores.stored.deleted) (decodes catalog_shape.columns v.body row catalog_first stores.stored.row.fits
            stores.stored.row.packed));
        storable = stores.stored.row.storable;
        erased = λ gone. absurd (false≢true (sym stores.stored.deleted ∙ gone));
        keyed = refl;
      },
    )

    -- no record takes a key for which nobody speaks
    pub none_free : (key : Value)
        → IsSilentAt packed_form size o h s pages stands.shows stands.shows.layout.catalog.table.name key
        → (chosen : ℕ → Bool) (layout : Layout) (r : Reading)
        → IsSoundBy packed_form size (left_state chosen s.state) pages layout r → (p : RecId)
        → table_in (facts_by (left_state chosen s.state) pages layout) p ≡ Some layout.catalog.table
        → record_key layout.catalog.table (r p) ≡ key
        → TakesKey (facts_by (left_state chosen s.state) pages layout) (r p) → ⊥
    none_free key silent chosen layout r sound p of keyed takes =
        none_takes packed_form size o h s pages stands.memory stands.shows cat.name key other cat refl (inr silent) p
        apart of_all (ap (record_key cat) reads ∙ (subst (λ (x : Table). record_key x (r p) ≡ key) same keyed))
        (takes_too packed_form one size s.state pages shows.layout shows.reading shows.sound chosen layout r sound cat
        (catalog_stands shows.layout) its p of_cat takes)
      where
        cat : Table
        cat = stands.shows.layout.catalog.table

        same : layout.catalog.table ≡ stands.shows.layout.catalog.table
        same = same_catalog packed_form size (left_state chosen s.state) (left_state everyone s.state) pages layout
            stands.shows.layout r stands.shows.reading sound stands.shows.sound

        its : IsTableOf layout stands.shows.layout.catalog.table
        its = subst (IsTableOf layout) same (catalog_stands layout)

        of_cat : page_table (stands_of layout) p.page.0 ≡ Some stands.shows.layout.catalog.table
        of_cat = of ∙ ap (λ (x : Table). Some x) same

        of_all : page_table (stands_of stands.shows.layout) p.page.0 ≡ Some stands.shows.layout.catalog.table
        of_all = placed_back packed_form one size s.state pages stands.shows.layout stands.shows.reading
            stands.shows.sound chosen layout r sound stands.shows.layout.catalog.table
            (catalog_stands stands.shows.layout) its p.page.0 of_cat

        reads : stands.shows.reading p ≡ r p
        reads = read packed_form one size s.state pages stands.shows.layout stands.shows.reading stands.shows.sound chosen
            layout r sound stands.shows.layout.catalog.table (catalog_stands stands.shows.layout) its p of_all

        other : RecId
        other = record { page = p.page; slot = suc p.slot }

        apart : p ≢ record { page = p.page; slot = suc p.slot }
        apart is = let slots : p.slot ≡ suc p.slot = ap (λ (x : RecId). x.slot) is in omega (arith, slots)

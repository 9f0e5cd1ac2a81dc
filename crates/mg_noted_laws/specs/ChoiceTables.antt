-- One image under two choices of transactions, of which the first has all: the tables of the second's layout are those
-- that the catalog's rows name which count there, and each of them is one of the first's.
use Rattle.std.proofs.Common.{◌≡◌, ◌≢◌, ◌⊎◌, inl, inr, ◌&&◌, ◌||◌, ℕ, Bool, true, false, List, [], ◌∷◌, Option, None, Some, refl, sym, ap, ◌∙◌, subst}
use Rattle.std.specs.Prelude.{map}
use Rattle.std.proofs.Math.Path.{fun_ext}
use Rattle.std.proofs.lemmas.Bool.{false≢true}
use Rattle.mg_base.specs.declared.numbers.RecId.{RecId}
use Rattle.mg_base.specs.declared.transaction.TxState.{TxState}
use Rattle.mg_base.specs.declared.transaction.TxState.TheVariants.{Active, Committed, Dead, Limbo}
use Rattle.mg_value.specs.declared.value.Value.{Value}
use Rattle.mg_catalog.specs.TableLaws.{tables_once}
use Rattle.mg_engine_step_laws.specs.standing.Choices.{placed, placed_back, read}
use Rattle.mg_engine_step_laws.specs.tables.SameRecords.{catalog_stands}
use Rattle.mg_image_overlay_laws.specs.tables.Growing.{IsTableOf}
use Rattle.mg_image.specs.Catalog.{CatalogNames, IsSameTable, StaysAmong, committed_with}
use Rattle.mg_image.specs.Form.{Pages, Row, Rows, packed_coding, packed_form}
use Rattle.mg_image.specs.Held.{AreRows, Shows}
use Rattle.mg_image.specs.ReadingLaws.{RowsAreOne}
use Rattle.mg_image.specs.RecordRules.{Facts, table_in}
use Rattle.mg_image.specs.Records.{Reading, key_of, shown}
use Rattle.mg_image.specs.Sound.{IsSoundBy, facts_by}
use Rattle.mg_image.specs.Tables.{EachStand, Layout, Stand, stands_of}
use Rattle.mg_image.specs.declared.entry.Entry.{Entry}
use Rattle.mg_image_overlay_laws.specs.tables.TableOwners.{IsOneOf, one_each}
use Rattle.mg_model.specs.Answers.{is_committed}
use Rattle.mg_model.specs.Catalog.{catalog_name, table_key}
use Rattle.mg_model.specs.CatalogRules.{AreTables, EachTable, HasTableOf, IsTable}
use Rattle.mg_model.specs.Legal.{is_limbo}
use Rattle.mg_model.specs.Openings.{everyone}
use Rattle.mg_model.specs.declared.table.Table.{Table}
use Rattle.mg_overlay_laws.specs.Overlays.{left_by, left_state}
use Rattle.mg_image_overlay_laws.specs.tables.OneTable.{one_standing, one_table, stands_in}

-- in two readings that show the same of the catalog's records, rows are the same
rows_alike : (f g : Facts) (c d : ℕ → Bool) (r s : Reading) (table : Table) (rows more : Rows)
    → ((p : RecId) → table_in f p ≡ Some table → table_in g p ≡ Some table)
    → ((p : RecId) → table_in g p ≡ Some table → table_in f p ≡ Some table)
    → ((p : RecId) → table_in f p ≡ Some table → shown d (s p) ≡ shown c (r p))
    → AreRows f c r table rows → AreRows g d s table more → rows ≡ more
rows_alike f g c d r s table rows more to back same first second =
    fun_ext (λ key. at key (rows key) (more key) refl refl)
  where
    there : (key : Value) (row : Row) → rows key ≡ Some row → more key ≡ Some row
    there key row is = let (p, shows, keyed) = first.whole key row is in
        ap more (sym keyed) ∙ second.there p row (record {
          of_table = to p shows.of_table;
          row_shown = same p shows.of_table ∙ shows.row_shown;
        })

    here_ : (key : Value) (row : Row) → more key ≡ Some row → rows key ≡ Some row
    here_ key row is = let (p, shows, keyed) = second.whole key row is in
        ap rows (sym keyed) ∙ first.there p row (record {
          of_table = back p shows.of_table;
          row_shown = sym (same p (back p shows.of_table)) ∙ shows.row_shown;
        })

    at : (key : Value) (a b : Option Row) → rows key ≡ a → more key ≡ b → rows key ≡ more key
    at key None None is also = is ∙ sym also
    at key (Some row) b is also = is ∙ sym (there key row is)
    at key None (Some row) is also = here_ key row also ∙ sym also

-- one that stays among tables is one of them, but for its indexes
one_among : (tables : List Table) (x : Table) → StaysAmong tables x
    → (y : Table) × IsOneOf tables y × IsSameTable y x
one_among [] x is = absurd is
one_among (t ∷ ts) x (inl same) = (t, inl refl, same)
one_among (t ∷ ts) x (inr more) = let (y, one, same) = one_among ts x more in (y, inr one, same)

-- a table of a name among some
named_among : (tables : List Table) (name : List ℕ) → HasTableOf tables name
    → (x : Table) × IsOneOf tables x × (x.name ≡ name)
named_among [] name has = absurd has
named_among (t ∷ ts) name (inl is) = (t, inl refl, is)
named_among (t ∷ ts) name (inr more) = let (x, one, named) = named_among ts name more in (x, inr one, named)

none_named : (stands : List Stand) (name : List ℕ)
    → ((x : Table) → IsOneOf (map (λ stand. stand.table) stands) x → x.name ≢ name)
    → EachStand (λ stand. stand.table.name ≢ name) stands
none_named [] name none = tt
none_named (s ∷ ss) name none = (none s.table (inl refl), none_named ss name (λ x one. none x (inr one)))

counts_by : (c : Bool) (x : TxState) → (is_committed (left_by c x) || (is_limbo (left_by c x) && true))
    ≡ (is_committed (left_by true x) || (is_limbo (left_by true x) && (c || is_limbo x)))
counts_by true Active = refl
counts_by false Active = refl
counts_by true Limbo = refl
counts_by false Limbo = refl
counts_by true Dead = refl
counts_by false Dead = refl
counts_by true Committed = refl
counts_by false Committed = refl

module _ (one : RowsAreOne packed_coding) (size : ℕ) (state : ℕ → TxState) (pages : Pages) (a : Layout) (r : Reading)
    (first : IsSoundBy packed_form size (left_state everyone state) pages a r) (chosen : ℕ → Bool) (b : Layout)
    (s : Reading) (second : IsSoundBy packed_form size (left_state chosen state) pages b s) where
  abbrev f : Facts
  f = facts_by (left_state everyone state) pages a

  abbrev g : Facts
  g = facts_by (left_state chosen state) pages b

  abbrev cat : Table
  cat = a.catalog.table

  -- who counts there
  abbrev pub who : ℕ → Bool
  who u = chosen u || is_limbo (state u)

  counts : committed_with g (λ t. true) ≡ committed_with f (λ u. chosen u || is_limbo (state u))
  counts = fun_ext (λ u. counts_by (chosen u) (state u))

  cat_is : b.catalog.table ≡ a.catalog.table
  cat_is = second.catalog ∙ sym first.catalog

  cat_there : IsTableOf b a.catalog.table
  cat_there = subst (IsTableOf b) cat_is (catalog_stands b)

  to : (p : RecId) → table_in f p ≡ Some cat → table_in g p ≡ Some cat
  to p of = placed packed_form one size state pages a r first chosen b s second cat (catalog_stands a) cat_there
      p.page.0 of

  back : (p : RecId) → table_in g p ≡ Some cat → table_in f p ≡ Some cat
  back p of = placed_back packed_form one size state pages a r first chosen b s second cat (catalog_stands a)
      cat_there p.page.0 of

  same_read : (p : RecId) → table_in f p ≡ Some cat → r p ≡ s p
  same_read p of = read packed_form one size state pages a r first chosen b s second cat (catalog_stands a)
      cat_there p of

  -- ---- the tables

  abbrev named : List Table
  named = first.names.named (λ u. chosen u || is_limbo (state u))

  lawful : CatalogNames size f (committed_with f (λ u. chosen u || is_limbo (state u))) r a.catalog.table
      (first.names.named (λ u. chosen u || is_limbo (state u)))
  lawful = first.names.lawful (λ u. chosen u || is_limbo (state u))

  all_there : CatalogNames size g (committed_with g (λ t. true)) s a.catalog.table (map (λ x. x.table) b.tables)
  all_there = subst (λ (t : Table). CatalogNames size g (committed_with g (λ t. true)) s t
      (map (λ x. x.table) b.tables)) cat_is second.names.all

  -- those of the second
  pub tables_are : map (λ x. x.table) b.tables ≡ first.names.named (λ u. chosen u || is_limbo (state u))
  tables_are = tables_once lawful.rows (map (λ x. x.table) b.tables) named
      (subst (λ (rows : Rows). AreTables rows (map (λ x. x.table) b.tables)) (sym same) all_there.are_tables)
      lawful.are_tables
    where
      same : lawful.rows ≡ all_there.rows
      same = rows_alike f g (committed_with f (λ u. chosen u || is_limbo (state u))) (committed_with g (λ t. true))
          r s cat lawful.rows all_there.rows to back
          (λ p of. ap (λ (es : List Entry). shown (committed_with g (λ t. true)) es) (sym (same_read p of))
          ∙ ap (λ (c : ℕ → Bool). shown c (r p)) counts) lawful.are_rows all_there.are_rows

  all_are : first.names.named (λ t. true) ≡ map (λ x. x.table) a.tables
  all_are = tables_once (first.names.lawful (λ t. true)).rows (first.names.named (λ t. true))
      (map (λ x. x.table) a.tables) (first.names.lawful (λ t. true)).are_tables
      (subst (λ (rows : Rows). AreTables rows (map (λ x. x.table) a.tables)) (sym same)
      first.names.all.are_tables)
    where
      same : (first.names.lawful (λ t. true)).rows ≡ first.names.all.rows
      same = rows_alike f f (committed_with f (λ t. true)) (committed_with f (λ t. true)) r r cat
          (first.names.lawful (λ t. true)).rows first.names.all.rows (λ p is. is) (λ p is. is) (λ p of. refl)
          (first.names.lawful (λ t. true)).are_rows first.names.all.are_rows

  stay : EachTable (StaysAmong (map (λ x. x.table) a.tables)) (map (λ x. x.table) b.tables)
  stay = subst (λ (ts : List Table). EachTable (StaysAmong (map (λ x. x.table) a.tables)) ts) (sym tables_are)
      (subst (λ (ts : List Table). EachTable (StaysAmong ts) named) all_are
      (first.names.stay (λ u. chosen u || is_limbo (state u)) (λ t. true) (λ t is. refl)))

  -- ---- where a table has the same indexes in both

  module _ (agree : (x y : Table) → IsTableOf a x → IsTableOf b y → IsSameTable x y → x.indexes ≡ y.indexes) where
    -- each table of the second stands in the first
    pub table_in_first : (x : Table) → IsTableOf b x → IsTableOf a x
    table_in_first x there = at (one_standing b x there)
      where
        at : (b.catalog.table ≡ x) ⊎ IsOneOf (map (λ stand. stand.table) b.tables) x → IsTableOf a x
        at (inl same) = subst (IsTableOf a) (sym cat_is ∙ same) (catalog_stands a)
        at (inr is) =
            let (y, is_one, same) = one_among (map (λ stand. stand.table) a.tables) x
            (one_each (StaysAmong (map (λ stand. stand.table) a.tables)) (map (λ stand. stand.table) b.tables) x stay is)
            in
            let y_there : IsTableOf a y = stands_in a y (inr is_one) in
            let indexes : y.indexes ≡ x.indexes = agree y x y_there there same in
            subst (IsTableOf a) (λ i. record {
              name = same.name i;
              shape = same.shape i;
              pointer = same.pointer i;
              indexes = indexes i;
            }) y_there

    -- one of the first's, whose name one of the second's has, is that
    by_name : (its x : Table) → IsTableOf a its → IsTableOf b x → x.name ≡ its.name → IsTableOf b its
    by_name its x there other name = subst (IsTableOf b) (one_table packed_form size (left_state everyone state) pages a r
        first x its (table_in_first x other) there name) other

    has_named : (its : Table) → IsTableOf a its → HasTableOf named its.name → IsTableOf b its
    has_named its there has =
        let (x, is_one, name) = named_among named its.name has in
        by_name its x there (stands_in b x (inr (subst (λ (ts : List Table). IsOneOf ts x) (sym tables_are) is_one)))
        name

    -- where a row of its name counts, a table of the first stands in the second
    pub stands_by_row : (its : Table) → IsTableOf a its → (p : RecId) (row : Row)
        → Shows f (committed_with f (λ u. chosen u || is_limbo (state u))) r p cat row
        → key_of cat row ≡ table_key its.name → IsTableOf b its
    stands_by_row its there p row shows keyed = has_named its there (lawful.are_tables.whole its.name row
        (ap lawful.rows (sym keyed) ∙ lawful.are_rows.there p row shows))

    -- and where a committed one does: nobody in limbo takes its table away
    pub stands_by_committed : (its : Table) → IsTableOf a its → (p : RecId) (row : Row)
        → Shows f (committed_with f (λ u. false)) r p cat row → key_of cat row ≡ table_key its.name
        → IsTableOf b its
    stands_by_committed its there p row shows keyed =
        let few : CatalogNames size f (committed_with f (λ u. false)) r a.catalog.table
        (first.names.named (λ u. false)) = first.names.lawful (λ u. false) in
        let (x, is_one, name) = named_among (first.names.named (λ u. false)) its.name (few.are_tables.whole its.name row
        (ap few.rows (sym keyed) ∙ few.are_rows.there p row shows)) in
        let (y, also, same) = one_among named x (one_each (StaysAmong named) (first.names.named (λ u. false)) x
        (first.names.stay (λ u. false) (λ u. chosen u || is_limbo (state u)) (λ u is. absurd (false≢true is))) is_one) in
        by_name its y there (stands_in b y (inr (subst (λ (ts : List Table). IsOneOf ts y) (sym tables_are) also)))
        (same.name ∙ name)

    -- where none does, the second has no table of the name
    pub none_by_rows : (name : List ℕ) → name ≢ catalog_name
        → ((p : RecId) (row : Row) → Shows f (committed_with f (λ u. chosen u || is_limbo (state u))) r p cat row
        → key_of cat row ≡ table_key name → ⊥)
        → EachStand (λ stand. stand.table.name ≢ name) (stands_of b)
    none_by_rows name other none = none_named (stands_of b) name at
      where
        in_rows : (x : Table) → IsOneOf (map (λ stand. stand.table) b.tables) x → x.name ≡ name → ⊥
        in_rows x is_one same =
            let its : IsTable lawful.rows x = one_each (IsTable lawful.rows) named x lawful.are_tables.each
            (subst (λ (ts : List Table). IsOneOf ts x) tables_are is_one) in
            let (p, shows, keyed) = lawful.are_rows.whole (table_key x.name) its.row its.there in
            none p its.row shows (keyed ∙ ap table_key same)

        at : (x : Table) → (b.catalog.table ≡ x) ⊎ IsOneOf (map (λ stand. stand.table) b.tables) x → x.name ≢ name
        at x (inl same) is = other (sym is ∙ (ap (λ (y : Table). y.name) (sym same)
            ∙ ap (λ (y : Table). y.name) second.catalog))
        at x (inr is_one) is = in_rows x is_one is

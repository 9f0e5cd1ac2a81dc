-- One image under two choices of transactions, of which the second has one more: each table of the layout under
-- the first is one under the second, with the same pages of pointers and of data.
use Rattle.mg_base.specs.declared.numbers.RecId.{RecId}
use Rattle.mg_base.specs.declared.transaction.TxState.{TxState}
use Rattle.mg_base.specs.declared.transaction.TxState.TheVariants.{Active, Committed, Dead, Limbo}
use Rattle.mg_catalog.specs.TableLaws.{tables_once}
use Rattle.mg_image.specs.Catalog.{CatalogNames, IsSameTable, StaysAmong, committed_with}
use Rattle.mg_image.specs.FactLaws.{each_has}
use Rattle.mg_image.specs.Form.{Form, Pages, Row, Rows}
use Rattle.mg_image.specs.Held.{AreRows}
use Rattle.mg_image.specs.ReadingLaws.{RowsAreOne, chain_once}
use Rattle.mg_image.specs.RecordRules.{Facts, IsVersion, table_in}
use Rattle.mg_image.specs.Records.{Reading, cells_of, newest_of, record_key, shown}
use Rattle.mg_image.specs.Sound.{HasTablePages, IsSoundBy, facts_by}
use Rattle.mg_image.specs.Tables.{Has, HasStand, Layout, Stand, has, stands_of}
use Rattle.mg_image.specs.declared.entry.Entry.{Entry}
use Rattle.mg_image_overlay_laws.specs.pages.Reach.{has_so}
use Rattle.mg_model.specs.Answers.{is_committed}
use Rattle.mg_model.specs.CatalogRules.{AreTables, EachTable}
use Rattle.mg_model.specs.Legal.{is_limbo}
use Rattle.mg_model.specs.declared.table.Table.{Table}
use Rattle.mg_image_overlay_laws.specs.tables.Stands.{IsTwin, stand_has, twin_of}
use Rattle.mg_image_overlay_laws.specs.tables.OneChain.{same_stand}
use Rattle.mg_overlay_laws.specs.Overlays.{left_by, left_state}
use Rattle.mg_image_overlay_laws.specs.names.Whose.{data_its}
use Rattle.mg_value.specs.declared.value.Value.{Value}
use Rattle.std.proofs.Common.{Bool, List, None, Option, Some, [], ap, false, inl, inr, not, refl, subst, sym, true, ℕ, ◌&&◌, ◌==◌, ◌||◌, ◌∙◌, ◌∷◌, ◌≡◌, ◌≢◌, ◌⊎◌}
use Rattle.std.proofs.Math.Path.{fun_ext}
use Rattle.std.proofs.lemmas.Bool.{cases_eq, eq-eqb, ne_eqb}
use Rattle.std.specs.Prelude.{map}

-- the choice with one more
abbrev pub with_it : ℕ → (ℕ → Bool) → ℕ → Bool
with_it by chosen u = u == by || chosen u

-- all but one
abbrev pub all_but : ℕ → ℕ → Bool
all_but by u = not (u == by)

-- in two readings that show the same of the catalog's records, rows are the same
rows_alike : (f g : Facts) (c d : ℕ → Bool) (r s : Reading) (table : Table) (rows more : Rows)
    → ((p : RecId) → table_in f p ≡ Some table → table_in g p ≡ Some table)
    → ((p : RecId) → table_in g p ≡ Some table → table_in f p ≡ Some table)
    → ((p : RecId) → table_in f p ≡ Some table → shown d (s p) ≡ shown c (r p))
    → AreRows f c r table rows → AreRows g d s table more → rows ≡ more
rows_alike f g c d r s table rows more to back same first second =
    fun_ext (λ key. at key (rows key) (more key) refl refl)
  where
    there : (key : Value) (row : Row) → rows key ≡ Some row → more key ≡ Some row
    there key row is = let (p, shows, keyed) = first.whole key row is in
        ap more (sym keyed) ∙ second.there p row (record {
          of_table = to p shows.of_table;
          row_shown = same p shows.of_table ∙ shows.row_shown;
        })

    here_ : (key : Value) (row : Row) → more key ≡ Some row → rows key ≡ Some row
    here_ key row is = let (p, shows, keyed) = second.whole key row is in
        ap rows (sym keyed) ∙ first.there p row (record {
          of_table = back p shows.of_table;
          row_shown = sym (same p (back p shows.of_table)) ∙ shows.row_shown;
        })

    at : (key : Value) (a b : Option Row) → rows key ≡ a → more key ≡ b → rows key ≡ more key
    at key None None is also = is ∙ sym also
    at key (Some row) b is also = is ∙ sym (there key row is)
    at key None (Some row) is also = here_ key row also ∙ sym also

-- a table that stays among others has a stand there
stand_among : (stands : List Stand) (table : Table) → StaysAmong (map (λ s. s.table) stands) table
    → (s : Stand) × HasStand stands s × IsSameTable s.table table
stand_among [] table is = absurd is
stand_among (x ∷ stands) table (inl same) = (x, inl refl, same)
stand_among (x ∷ stands) table (inr more) =
    let (s, there, same) = stand_among stands table more in (s, inr there, same)

table_has : (P : Table → Type 0) (stands : List Stand) (s : Stand)
    → EachTable P (map (λ x. x.table) stands) → HasStand stands s → P s.table
table_has P [] s each is = absurd is
table_has P (x ∷ stands) s each (inl e) = subst (λ (y : Stand). P y.table) (sym e) each.0
table_has P (x ∷ stands) s each (inr more) = table_has P stands s each.1 more

module _ (form : Form) (one : RowsAreOne form.coding) (size by : ℕ) (state : ℕ → TxState) (pages : Pages)
    (chosen : ℕ → Bool) (active : state by ≡ Active) (dead : left_state chosen state by ≡ Dead)
    (a b : Layout) (r s : Reading)
    (first : IsSoundBy form size (left_state chosen state) pages a r)
    (second : IsSoundBy form size (left_state (with_it by chosen) state) pages b s) where
  abbrev f : Facts
  f = facts_by (left_state chosen state) pages a

  abbrev g : Facts
  g = facts_by (left_state (with_it by chosen) state) pages b

  -- the facts in which nobody is dead
  abbrev plain : Facts
  plain = record { state = λ t. Committed; next = f.next; oldest = f.oldest; table_of = f.table_of }

  catalog_table_is : a.catalog.table ≡ b.catalog.table
  catalog_table_is = first.catalog ∙ sym second.catalog

  catalog_is : a.catalog ≡ b.catalog
  catalog_is = same_stand form.in_primary size pages a.catalog b.catalog first.tables.0 second.tables.0
      catalog_table_is

  abbrev cat : Table
  cat = a.catalog.table

  in_second : (p : RecId) → table_in f p ≡ Some cat → table_in g p ≡ Some cat
  in_second p is =
      let here_ : Has b.catalog.data_pages p.page.0 = subst (λ (x : Stand). Has x.data_pages p.page.0)
      catalog_is (data_its form.in_primary size pages a.catalog (stands_of a) first.tables.0 first.tables
      p.page.0 is) in
      let also : has b.catalog.data_pages p.page.0 ≡ true = has_so b.catalog.data_pages p.page.0 here_ in
      rw also (ap Some (sym catalog_table_is))

  in_first : (p : RecId) → table_in g p ≡ Some cat → table_in f p ≡ Some cat
  in_first p is =
      let there : Has a.catalog.data_pages p.page.0 = subst (λ (x : Stand). Has x.data_pages p.page.0)
      (sym catalog_is) (data_its form.in_primary size pages b.catalog (stands_of b) second.tables.0
      second.tables p.page.0 (is ∙ ap Some catalog_table_is)) in
      let also : has a.catalog.data_pages p.page.0 ≡ true = has_so a.catalog.data_pages p.page.0 there in
      rw also refl

  plain_first : (key : Value) (e : Entry) → IsVersion form.coding f cat key e
      → IsVersion form.coding plain cat key e
  plain_first key e is = record {
    placed = is.placed;
    drawn = is.drawn;
    dead = λ gone. absurd cc;
    format = is.format;
    spelled = is.spelled;
    storable = is.storable;
    erased = is.erased;
    keyed = is.keyed;
  }

  plain_second : (key : Value) (e : Entry) → IsVersion form.coding g cat key e
      → IsVersion form.coding plain cat key e
  plain_second key e is = record {
    placed = in_first e.at is.placed;
    drawn = is.drawn;
    dead = λ gone. absurd cc;
    format = is.format;
    spelled = is.spelled;
    storable = is.storable;
    erased = is.erased;
    keyed = is.keyed;
  }

  read_once : (p : RecId) → table_in f p ≡ Some cat → r p ≡ s p
  read_once p of = chain_once form.coding one plain cat (cells_of pages) (record_key cat (r p))
      (record_key cat (s p)) (newest_of p (cells_of pages p)) (r p) (s p) (first.records.reads p cat of)
      (second.records.reads p cat (in_second p of))
      (each_has (IsVersion form.coding f cat (record_key cat (r p)))
      (IsVersion form.coding plain cat (record_key cat (r p))) (plain_first (record_key cat (r p))) (r p)
      (first.records.each p cat of).each)
      (each_has (IsVersion form.coding g cat (record_key cat (s p)))
      (IsVersion form.coding plain cat (record_key cat (s p))) (plain_second (record_key cat (s p))) (s p)
      (second.records.each p cat (in_second p of)).each)

  -- ---- who counts

  other : (u : ℕ) → u ≢ by
      → left_state (with_it by chosen) state u ≡ left_state chosen state u
  other u ne = ap (λ (c : Bool). left_by c (state u)) (rw (ne_eqb u by ne) refl)

  limbo : left_state (with_it by chosen) state by ≡ Limbo
  limbo = rw (eq-eqb by by refl, active) refl

  counts : committed_with g (all_but by) ≡ committed_with f (λ t. true)
  counts = fun_ext (λ u. at u (cases_eq u by))
    where
      at : (u : ℕ) → (u ≡ by) ⊎ (u ≢ by)
          → committed_with g (all_but by) u ≡ committed_with f (λ t. true) u
      at u (inl e) =
          let now_ : left_state (with_it by chosen) state u ≡ Limbo =
          ap (left_state (with_it by chosen) state) e ∙ limbo in
          let was : left_state chosen state u ≡ Dead = ap (left_state chosen state) e ∙ dead in
          let off : all_but by u ≡ false = ap (all_but by) e ∙ rw (eq-eqb by by refl) refl in
          ap (λ (x : TxState). is_committed x || (is_limbo x && all_but by u)) now_
          ∙ (off ∙ sym (ap (λ (x : TxState). is_committed x || (is_limbo x && true)) was))
      at u (inr ne) =
          let on : all_but by u ≡ true = rw (ne_eqb u by ne) refl in
          ap (λ (x : TxState). is_committed x || (is_limbo x && all_but by u)) (other u ne)
          ∙ ap (λ (c : Bool). is_committed (left_state chosen state u)
          || (is_limbo (left_state chosen state u) && c)) on

  -- ---- the tables

  abbrev tables_of : Layout → List Table
  tables_of layout = map (λ stand. stand.table) layout.tables

  names_second : (who : ℕ → Bool)
      → CatalogNames size g (committed_with g who) s cat (second.names.named who)
  names_second who = subst (λ (t : Table). CatalogNames size g (committed_with g who) s t
      (second.names.named who)) (sym catalog_table_is) (second.names.lawful who)

  fewer_are : tables_of a ≡ second.names.named (all_but by)
  fewer_are = tables_once first.names.all.rows (tables_of a) (second.names.named (all_but by))
      first.names.all.are_tables (subst (λ (rows : Rows). AreTables rows (second.names.named (all_but by)))
      (sym same) (names_second (all_but by)).are_tables)
    where
      same : first.names.all.rows ≡ (names_second (all_but by)).rows
      same = rows_alike f g (committed_with f (λ t. true)) (committed_with g (all_but by)) r s cat
          first.names.all.rows (names_second (all_but by)).rows in_second in_first
          (λ p of. ap (λ (es : List Entry). shown (committed_with g (all_but by)) es) (sym (read_once p of))
          ∙ ap (λ (c : ℕ → Bool). shown c (r p)) counts) first.names.all.are_rows
          (names_second (all_but by)).are_rows

  all_are : second.names.named (λ t. true) ≡ tables_of b
  all_are = tables_once (second.names.lawful (λ t. true)).rows (second.names.named (λ t. true)) (tables_of b)
      (second.names.lawful (λ t. true)).are_tables (subst (λ (rows : Rows). AreTables rows (tables_of b))
      (sym same) second.names.all.are_tables)
    where
      same : (second.names.lawful (λ t. true)).rows ≡ second.names.all.rows
      same = rows_alike g g (committed_with g (λ t. true)) (committed_with g (λ t. true)) s s b.catalog.table
          (second.names.lawful (λ t. true)).rows second.names.all.rows (λ p is. is) (λ p is. is)
          (λ p of. refl) (second.names.lawful (λ t. true)).are_rows second.names.all.are_rows

  stay : EachTable (StaysAmong (tables_of b)) (tables_of a)
  stay = subst (λ (ts : List Table). EachTable (StaysAmong (tables_of b)) ts) (sym fewer_are)
      (subst (λ (ts : List Table). EachTable (StaysAmong ts) (second.names.named (all_but by))) all_are
      (second.names.stay (all_but by) (λ t. true) (λ t is. refl)))

  pub twin : (x : Stand) → HasStand (stands_of a) x → (y : Stand) × HasStand (stands_of b) y × IsTwin x y
  twin x (inl e) = (
    b.catalog,
    inl refl,
    twin_of form.in_primary size pages x b.catalog
        (subst (HasTablePages form.in_primary size pages) (sym e) first.tables.0) second.tables.0
        (ap (λ (t : Table). t.name) (sym catalog_table_is) ∙ ap (λ (y : Stand). y.table.name) (sym e))
        (ap (λ (t : Table). t.pointer) (sym catalog_table_is)
        ∙ ap (λ (y : Stand). y.table.pointer) (sym e)),
  )
  twin x (inr more) =
      let (y, there, same) = stand_among b.tables x.table
      (table_has (StaysAmong (tables_of b)) a.tables x stay more) in (
        y,
        inr there,
        twin_of form.in_primary size pages x y
            (stand_has (HasTablePages form.in_primary size pages) a.tables x first.tables.1 more)
            (stand_has (HasTablePages form.in_primary size pages) b.tables y second.tables.1 there) same.name
            same.pointer,
      )

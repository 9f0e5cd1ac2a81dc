-- A transaction comes to count as dead that counted as in limbo: what becomes of the tables of a sound image. Those
-- stay that it has not made, and of one that goes no other transaction's version counted.
use Rattle.std.proofs.Common.{◌≡◌, ◌≢◌, ◌⊎◌, inl, inr, ◌&&◌, ◌||◌, ◌==◌, ap, refl, sym, subst, ◌∙◌, ℕ, Bool, true, false, not, List, [], ◌∷◌, Option, None, Some}
use Rattle.std.specs.Prelude.{if◌then◌else◌, map}
use Rattle.std.proofs.Math.Path.{fun_ext}
use Rattle.std.proofs.lemmas.Bool.{cases_eq, eq-eqb, eqb-true, false≢true, ne_eqb}
use Rattle.mg_base.specs.declared.numbers.RecId.{RecId}
use Rattle.mg_base.specs.declared.transaction.TxState.{TxState}
use Rattle.mg_base.specs.declared.transaction.TxState.TheVariants.{Committed, Dead, Limbo}
use Rattle.mg_value.specs.declared.shape.Shape.{Shape}
use Rattle.mg_value.specs.declared.value.Value.{Value}
use Rattle.mg_pointer.specs.PointerPage.{next_in}
use Rattle.mg_model.specs.declared.table.Table.{Table}
use Rattle.mg_model.specs.Answers.{is_committed}
use Rattle.mg_model.specs.Catalog.{catalog_name, table_key}
use Rattle.mg_model.specs.CatalogRules.{AreTables, EachTable, HasTableOf, IsTable}
use Rattle.mg_model.specs.Legal.{is_limbo}
use Rattle.mg_catalog.specs.TableLaws.{tables_once}
use Rattle.mg_generation_laws.specs.Generations.{generation, without_newest_by}
use Rattle.mg_image.specs.declared.entry.Entry.{Entry}
use Rattle.mg_image.specs.Catalog.{CatalogNames, HasMade, IsNamed, IsSameTable, MayStandIn, StaysAmong, committed_with}
use Rattle.mg_image.specs.FactLaws.{each_has}
use Rattle.mg_image.specs.Form.{Form, Pages, Row, Rows}
use Rattle.mg_image.specs.Held.{Shows}
use Rattle.mg_image.specs.ReadingLaws.{RowsAreOne, chain_once}
use Rattle.mg_image.specs.RecordRules.{Each, EachBack, Facts, IsKeyAlone, IsVersion, columns_for, committed_in, table_in}
use Rattle.mg_image.specs.Records.{Reading, cells_of, key_of, newest_of, record_key, shown, writer}
use Rattle.mg_image.specs.Sound.{HasTablePages, IsSoundBy, facts_by}
use Rattle.mg_image.specs.Tables.{Has, Layout, PointerChain, Stand, entries_in, has, stands_of}
use Rattle.mg_image_overlay_laws.specs.records.Fronts.{is_dead}
use Rattle.mg_image_overlay_laws.specs.tables.TableOwners.{IsOneOf, among_named, has_stand, named_other, one_each}
use Rattle.mg_image_opening_laws.specs.Catalogs.{rows_once}
use Rattle.mg_image_overlay_laws.specs.tables.OneChain.{link_once, same_stand}
use Rattle.mg_image_overlay_laws.specs.tables.Growing.{IsTableOf}
use Rattle.mg_image_overlay_laws.specs.kept.Knowing.{its_pages}
use Rattle.mg_seek.specs.Histories.{told_given, told_versions}
use Rattle.mg_image_overlay_laws.specs.tables.OneTable.{data_of, its_data, one_table, stands_in, table_at_stands}

-- ---- definitions

-- A transaction counts as dead that counted as in limbo, and all others as they did.
pub record Falls (state now : ℕ → TxState) (t : ℕ) : Type 0 where
  pub limbo : state t ≡ Limbo
  pub dead : now t ≡ Dead
  pub others : (u : ℕ) → u ≢ t → now u ≡ state u

-- all but one
abbrev pub all_but : ℕ → ℕ → Bool
all_but t u = not (u == t)

-- A table of these facts is one of those, but for its indexes.
pub record HasAlike (f : Facts) (n : ℕ) (table : Table) : Type 0 where
  pub its : Table
  pub there : f.table_of n ≡ Some its
  pub same : IsSameTable its table

-- ---- lists of tables

-- A table is one of these, but for its indexes.
record Among (tables : List Table) (table : Table) : Type 0 where
  its : Table
  one : IsOneOf tables its
  same : IsSameTable its table

one_among : (tables : List Table) (table : Table) → StaysAmong tables table → Among tables table
one_among [] table stays = absurd stays
one_among (t ∷ ts) table (inl same) = record { its = t; one = inl refl; same = same }
one_among (t ∷ ts) table (inr more) =
    let it = one_among ts table more in record { its = it.its; one = inr it.one; same = it.same }

-- A table of a name is one of these.
record OneNamed (tables : List Table) (name : List ℕ) : Type 0 where
  its : Table
  one : IsOneOf tables its
  named : its.name ≡ name

one_named : (tables : List Table) (name : List ℕ) → HasTableOf tables name → OneNamed tables name
one_named [] name is = absurd is
one_named (t ∷ ts) name (inl same) = record { its = t; one = inl refl; named = same }
one_named (t ∷ ts) name (inr more) =
    let it = one_named ts name more in record { its = it.its; one = inr it.one; named = it.named }

pub same_through : (a b c : Table) → IsSameTable a b → IsSameTable b c → IsSameTable a c
same_through a b c first second = record {
  name = first.name ∙ second.name;
  shape = first.shape ∙ second.shape;
  pointer = first.pointer ∙ second.pointer;
}

-- two that have the same indexes, too, are one
pub same_whole : (a b : Table) → IsSameTable a b → a.indexes ≡ b.indexes → a ≡ b
same_whole a b same indexes k = record {
  name = same.name k;
  shape = same.shape k;
  pointer = same.pointer k;
  indexes = indexes k;
}

pub same_back : (a b : Table) → IsSameTable a b → IsSameTable b a
same_back a b same = record { name = sym same.name; shape = sym same.shape; pointer = sym same.pointer }

same_if : (a b : Table) → a ≡ b → IsSameTable a b
same_if a b is = record {
  name = ap (λ (x : Table). x.name) is;
  shape = ap (λ (x : Table). x.shape) is;
  pointer = ap (λ (x : Table). x.pointer) is;
}

-- ---- versions

columns_same : (a b : Table) (deleted : Bool) → a.shape ≡ b.shape → columns_for a deleted ≡ columns_for b deleted
columns_same a b false same = ap (λ (x : Shape). x.columns) same
columns_same a b true same = ap (λ (x : Shape). columns_for (record a { shape = x }) true) same

-- a version is not the transaction's
abbrev NotIts : ℕ → Entry → Type 0
NotIts t e = writer e ≢ t

-- ---- one image

module _ (form : Form) (one : RowsAreOne form.coding) (size : ℕ) (state now : ℕ → TxState) (t : ℕ)
    (falls : Falls state now t) (pages : Pages) (a b : Layout) (r s : Reading)
    (first : IsSoundBy form size state pages a r) (second : IsSoundBy form size now pages b s) where
  abbrev f : Facts
  f = facts_by state pages a

  abbrev g : Facts
  g = facts_by now pages b

  abbrev cat : Table
  cat = a.catalog.table

  abbrev tables_of : Layout → List Table
  tables_of layout = map (λ stand. stand.table) layout.tables

  -- ---- the catalog's records

  catalog_table_is : a.catalog.table ≡ b.catalog.table
  catalog_table_is = first.catalog ∙ sym second.catalog

  catalog_is : a.catalog ≡ b.catalog
  catalog_is = same_stand form.in_primary size pages a.catalog b.catalog first.tables.0 second.tables.0
      catalog_table_is

  in_second : (n : ℕ) → f.table_of n ≡ Some cat → g.table_of n ≡ Some cat
  in_second n is =
      let here : has a.catalog.data_pages n ≡ true = data_of form.in_primary size pages a.catalog
      (stands_of a) first.tables.0 first.tables n is in
      let also : has b.catalog.data_pages n ≡ true =
      subst (λ (x : Stand). has x.data_pages n ≡ true) catalog_is here in
      rw also (ap Some (sym catalog_table_is))

  in_first : (n : ℕ) → g.table_of n ≡ Some cat → f.table_of n ≡ Some cat
  in_first n is =
      let there : has b.catalog.data_pages n ≡ true = data_of form.in_primary size pages b.catalog
      (stands_of b) second.tables.0 second.tables n (is ∙ ap Some catalog_table_is) in
      let here : has a.catalog.data_pages n ≡ true =
      subst (λ (x : Stand). has x.data_pages n ≡ true) (sym catalog_is) there in rw here refl

  -- who is dead by the first states is by the second
  dead_too : (u : ℕ) → state u ≡ Dead → now u ≡ Dead
  dead_too u is = at (cases_eq u t)
    where
      at : (u ≡ t) ⊎ (u ≢ t) → now u ≡ Dead
      at (inl same) = ap now same ∙ falls.dead
      at (inr ne) = falls.others u ne ∙ is

  -- a version of a table is one of a table that is alike
  version_too : (x y : Table) (key : Value) (e : Entry) → IsSameTable x y → table_in f e.at ≡ Some x
      → IsVersion form.coding g y key e → IsVersion form.coding f x key e
  version_too x y key e same placed is = record {
    placed = placed;
    drawn = is.drawn;
    dead = λ dead. is.dead (dead_too (writer e) dead);
    format = subst (λ (z : Shape). form.coding.format z.columns e.version.format) (sym same.shape) is.format;
    spelled = subst (λ (columns : _). form.coding.row_spelled columns e.version.format e.version.body e.row)
        (sym (columns_same x y e.version.deleted same.shape)) is.spelled;
    storable = is.storable;
    erased = λ deleted. subst (λ (z : Shape). IsKeyAlone (record x { shape = z }) e.row) (sym same.shape)
        (is.erased deleted);
    keyed = ap (λ (z : Shape). key_of (record x { shape = z }) e.row) same.shape ∙ is.keyed;
  }

  same_cat : IsSameTable cat cat
  same_cat = same_if cat cat refl

  read_catalog : (p : RecId) → table_in f p ≡ Some cat → r p ≡ s p
  read_catalog p of = chain_once form.coding one f cat (cells_of pages) (record_key cat (r p))
      (record_key cat (s p)) (newest_of p (cells_of pages p)) (r p) (s p) (first.records.reads p cat of)
      (second.records.reads p cat of_second) ((first.records.each p cat of).each)
      (each_has (IsVersion form.coding g cat (record_key cat (s p)))
      (IsVersion form.coding f cat (record_key cat (s p)))
      (λ e is. version_too cat cat (record_key cat (s p)) e same_cat (in_first e.at.page.0 is.placed) is) (s p)
      (second.records.each p cat of_second).each)
    where
      of_second : table_in g p ≡ Some cat
      of_second = in_second p.page.0 of

  -- ---- the rows, and the tables that they name

  abbrev all : ℕ → Bool
  all u = true

  abbrev counts : ℕ → Bool
  counts = committed_with f (all_but t)

  counts_same : (u : ℕ) → committed_with g all u ≡ counts u
  counts_same u = at (cases_eq u t)
    where
      at : (u ≡ t) ⊎ (u ≢ t) → committed_with g all u ≡ counts u
      at (inl same) =
          let here : now u ≡ Dead = ap now same ∙ falls.dead in
          let there : state u ≡ Limbo = ap state same ∙ falls.limbo in
          let its : (u == t) ≡ true = eq-eqb u t same in
          rw (here, there, its) refl
      at (inr ne) =
          let here : now u ≡ state u = falls.others u ne in
          let other : (u == t) ≡ false = ne_eqb u t ne in
          rw (here, other) refl

  shown_same : (es : List Entry) → shown (committed_with g all) es ≡ shown counts es
  shown_same es = ap (λ (c : ℕ → Bool). shown c es) (fun_ext counts_same)

  names_first : CatalogNames size f counts r cat (first.names.named (all_but t))
  names_first = first.names.lawful (all_but t)

  names_second : CatalogNames size g (committed_with g all) s cat (tables_of b)
  names_second = subst (λ (table : Table). CatalogNames size g (committed_with g all) s table (tables_of b))
      (sym catalog_table_is) second.names.all

  row_there : (key : Value) (row : Row) → names_first.rows key ≡ Some row
      → names_second.rows key ≡ Some row
  row_there key row is =
      let (p, shows, keyed) = names_first.are_rows.whole key row is in
      ap names_second.rows (sym keyed) ∙ names_second.are_rows.there p row (record {
        of_table = in_second p.page.0 shows.of_table;
        row_shown = shown_same (s p) ∙ (ap (shown counts) (sym (read_catalog p shows.of_table))
            ∙ shows.row_shown);
      })

  row_here : (key : Value) (row : Row) → names_second.rows key ≡ Some row
      → names_first.rows key ≡ Some row
  row_here key row is =
      let (p, shows, keyed) = names_second.are_rows.whole key row is in
      let of : table_in f p ≡ Some cat = in_first p.page.0 shows.of_table in
      ap names_first.rows (sym keyed) ∙ names_first.are_rows.there p row (record {
        of_table = of;
        row_shown = ap (shown counts) (read_catalog p of) ∙ (sym (shown_same (s p)) ∙ shows.row_shown);
      })

  rows_same : (key : Value) → names_second.rows key ≡ names_first.rows key
  rows_same key = at (names_first.rows key) refl (names_second.rows key) refl
    where
      at : (x : Option Row) → names_first.rows key ≡ x → (y : Option Row) → names_second.rows key ≡ y
          → names_second.rows key ≡ names_first.rows key
      at (Some row) is y also = row_there key row is ∙ sym is
      at None is None also = also ∙ sym is
      at None is (Some row) also = also ∙ sym (row_here key row also)

  -- without the transaction the rows name the second layout's tables
  named_is : first.names.named (all_but t) ≡ tables_of b
  named_is = tables_once names_first.rows (first.names.named (all_but t)) (tables_of b)
      names_first.are_tables (subst (λ (rows : Rows). AreTables rows (tables_of b)) (fun_ext rows_same)
      names_second.are_tables)

  all_is : first.names.named all ≡ tables_of a
  all_is = tables_once (first.names.lawful all).rows (first.names.named all) (tables_of a)
      (first.names.lawful all).are_tables (subst (λ (rows : Rows). AreTables rows (tables_of a))
      (fun_ext (λ key. rows_once f (committed_with f all) r cat first.names.all.rows
      (first.names.lawful all).rows first.names.all.are_rows (first.names.lawful all).are_rows key))
      first.names.all.are_tables)

  -- and each of these stays among the first one's
  pub each_stays : EachTable (StaysAmong (tables_of a)) (tables_of b)
  each_stays = subst (λ (ts : List Table). EachTable (StaysAmong ts) (tables_of b)) all_is
      (subst (EachTable (StaysAmong (first.names.named all))) named_is
      (first.names.stay (all_but t) all (λ u is. refl)))

  -- ---- pages

  same_data : (p q : Stand) → HasTablePages form.in_primary size pages p
      → HasTablePages form.in_primary size pages q → p.table.pointer ≡ q.table.pointer
      → p.data_pages ≡ q.data_pages
  same_data p q has_p has_q same = has_p.entries ∙ (ap (entries_in pages) chains ∙ sym has_q.entries)
    where
      chains : p.pointers ≡ q.pointers
      chains = link_once (λ n. next_in (pages n)) p.table.pointer.0 p.pointers q.pointers has_p.chain
          (subst (λ (x : _). PointerChain pages x.0 q.pointers) (sym same) has_q.chain)

  -- two tables that are alike have the same pages
  alike_data : (x y : Table) (its : IsTableOf a x) (also : IsTableOf b y) → IsSameTable x y
      → its.stand.data_pages ≡ also.stand.data_pages
  alike_data x y its also same = same_data its.stand also.stand
      (its_pages form size state pages a r first x its) (its_pages form size now pages b s second y also)
      (ap (λ (z : Table). z.pointer) its.table_is ∙ (same.pointer
      ∙ sym (ap (λ (z : Table). z.pointer) also.table_is)))

  to_first : (n : ℕ) (x y : Table) → IsTableOf a x → IsTableOf b y → IsSameTable x y
      → g.table_of n ≡ Some y → f.table_of n ≡ Some x
  to_first n x y its also same of = (its_data form size state pages a r first x its n).1
      (subst (λ (ns : List ℕ). Has ns n) (sym (alike_data x y its also same))
      ((its_data form size now pages b s second y also n).0 of))

  to_second : (n : ℕ) (x y : Table) → IsTableOf a x → IsTableOf b y → IsSameTable x y
      → f.table_of n ≡ Some x → g.table_of n ≡ Some y
  to_second n x y its also same of = (its_data form size now pages b s second y also n).1
      (subst (λ (ns : List ℕ). Has ns n) (alike_data x y its also same)
      ((its_data form size state pages a r first x its n).0 of))

  -- a page's table in the second layout is its table in the first one, but for indexes
  pub alike : (n : ℕ) (y : Table) → g.table_of n ≡ Some y → HasAlike f n y
  alike n y of = at (has_stand (stands_of b) n y of)
    where
      at : (b.catalog.table ≡ y) ⊎ IsOneOf (tables_of b) y → HasAlike f n y
      at (inl is) = record {
        its = cat;
        there = in_first n (of ∙ ap Some (sym (catalog_table_is ∙ is)));
        same = same_if cat y (catalog_table_is ∙ is);
      }
      at (inr is) =
          let it = one_among (tables_of a) y
          (one_each (StaysAmong (tables_of a)) (tables_of b) y each_stays is) in
          record {
            its = it.its;
            there = to_first n it.its y (stands_in a it.its (inr it.one)) (table_at_stands b n y of) it.same of;
            same = it.same;
          }

  -- a table of a name that the second layout has is its table
  pub alike_named : (n : ℕ) (x : Table) → f.table_of n ≡ Some x → HasTableOf (tables_of b) x.name
      → HasAlike g n x
  alike_named n x of named =
      let it = one_named (tables_of b) x.name named in
      let from = one_among (tables_of a) it.its
      (one_each (StaysAmong (tables_of a)) (tables_of b) it.its each_stays it.one) in
      let its : IsTableOf a x = table_at_stands a n x of in
      let is : from.its ≡ x = one_table form size state pages a r first from.its x
      (stands_in a from.its (inr from.one)) its (from.same.name ∙ it.named) in
      let same : IsSameTable x it.its = subst (λ (z : Table). IsSameTable z it.its) is from.same in
      record {
        its = it.its;
        there = to_second n x it.its its (stands_in b it.its (inr it.one)) same of;
        same = same_back x it.its same;
      }

  -- a table of the first layout is one of the second one's, where that has its name, and tables have the same indexes in
  -- both
  pub one_still : ((x y : Table) → IsTableOf a x → IsTableOf b y → IsSameTable x y → x.indexes ≡ y.indexes) → (x : Table)
      → IsOneOf (tables_of a) x → HasTableOf (tables_of b) x.name → IsOneOf (tables_of b) x
  one_still agree x is named =
      let it = one_named (tables_of b) x.name named in
      let from = one_among (tables_of a) it.its
      (one_each (StaysAmong (tables_of a)) (tables_of b) it.its each_stays it.one) in
      let x_is : from.its ≡ x = one_table form size state pages a r first from.its x
      (stands_in a from.its (inr from.one)) (stands_in a x (inr is)) (from.same.name ∙ it.named) in
      let alike_x : IsSameTable x it.its = subst (λ (z : Table). IsSameTable z it.its) x_is from.same in
      subst (IsOneOf (tables_of b)) (sym (same_whole x it.its alike_x
      (agree x it.its (stands_in a x (inr is)) (stands_in b it.its (inr it.one)) alike_x))) it.one

  -- ---- records

  -- a record whose table stays has its versions
  pub read_alike : (p : RecId) (y : Table) → table_in g p ≡ Some y → s p ≡ r p
  read_alike p y of = sym (chain_once form.coding one f x (cells_of pages) (record_key x (r p))
      (record_key y (s p)) (newest_of p (cells_of pages p)) (r p) (s p) (first.records.reads p x has_.there)
      (second.records.reads p y of) ((first.records.each p x has_.there).each)
      (each_has (IsVersion form.coding g y (record_key y (s p)))
      (IsVersion form.coding f x (record_key y (s p)))
      (λ e is. version_too x y (record_key y (s p)) e has_.same (placed e.at.page.0 is.placed) is) (s p)
      (second.records.each p y of).each))
    where
      has_ : HasAlike f p.page.0 y
      has_ = alike p.page.0 y of

      x : Table
      x = has_.its

      placed : (n : ℕ) → g.table_of n ≡ Some y → f.table_of n ≡ Some has_.its
      placed n there =
          let it = alike n y there in
          it.there ∙ ap Some (one_table form size state pages a r first it.its has_.its
          (table_at_stands a n it.its it.there) (table_at_stands a p.page.0 has_.its has_.there)
          (it.same.name ∙ sym has_.same.name))

  -- ---- a table that goes

  named_by : (chosen : ℕ → Bool) → ((u : ℕ) → chosen u ≡ true → all_but t u ≡ true) → (name : List ℕ)
      → HasTableOf (first.names.named chosen) name → HasTableOf (tables_of b) name
  named_by chosen within name has_ =
      let it = one_named (first.names.named chosen) name has_ in
      subst (HasTableOf (tables_of b)) it.named (among_named (tables_of b) it.its
      (subst (λ (ts : List Table). StaysAmong ts it.its) named_is
      (one_each (StaysAmong (first.names.named (all_but t))) (first.names.named chosen) it.its
      (first.names.stay chosen (all_but t) within) it.one)))

  -- a committed row of the catalog names a table that stays
  committed_stays : (name : List ℕ) → IsNamed f r cat name → HasTableOf (tables_of b) name
  committed_stays name is = named_by (λ u. false) (λ u none. absurd (false≢true none)) name
      ((first.names.lawful (λ u. false)).are_tables.whole name is.row
      (ap (first.names.lawful (λ u. false)).rows (sym is.keyed)
      ∙ (first.names.lawful (λ u. false)).are_rows.there is.place is.row (record {
        of_table = is.shows.of_table;
        row_shown = ap (λ (c : ℕ → Bool). shown c (r is.place)) (fun_ext none_more) ∙ is.shows.row_shown;
      })))
    where
      none_more : (u : ℕ) → committed_with f (λ v. false) u ≡ committed_in f u
      none_more u = at (is_committed (f.state u)) (is_limbo (f.state u))
        where
          at : (c l : Bool) → (c || (l && false)) ≡ c
          at true l = refl
          at false true = refl
          at false false = refl

  -- and so does one that another transaction has made
  made_stays : (u : ℕ) (name : List ℕ) → u ≢ t → HasMade f r cat u name → HasTableOf (tables_of b) name
  made_stays u name apart is = named_by (λ v. v == u) (λ v its. within v (eqb-true v u its)) name
      ((first.names.lawful (λ v. v == u)).are_tables.whole name is.version.row
      (ap (first.names.lawful (λ v. v == u)).rows (sym is.keyed)
      ∙ (first.names.lawful (λ v. v == u)).are_rows.there is.place is.version.row (record {
        of_table = is.limbo.of_table;
        row_shown = ap (shown (committed_with f (λ v. v == u))) is.limbo.newest ∙ seen;
      })))
    where
      within : (v : ℕ) → v ≡ u → all_but t v ≡ true
      within v same = ap not (ne_eqb v t (λ its. apart (sym same ∙ its)))

      counted : committed_with f (λ v. v == u) (writer is.version) ≡ true
      counted =
          let its : (writer is.version == u) ≡ true = eq-eqb (writer is.version) u is.its_own in
          let limbo = is.limbo.limbo in
          rw (limbo, its) refl

      seen : shown (committed_with f (λ v. v == u)) (is.version ∷ is.limbo.older) ≡ Some is.version.row
      seen =
          let counts_ = counted in
          let alive = is.alive in
          ap (λ (c : Bool). if c then (if is.version.version.deleted then None else Some is.version.row)
          else shown (committed_with f (λ v. v == u)) is.limbo.older) counts_
          ∙ ap (λ (d : Bool). if d then None else Some is.version.row) alive

  module _ (p : RecId) (x : Table) (of : table_in f p ≡ Some x) (gone : table_in g p ≡ None) where
    not_named : HasTableOf (tables_of b) x.name → ⊥
    not_named named =
        let it = alike_named p.page.0 x of named in let both = sym gone ∙ it.there in absurd cc

    not_catalog : x.name ≢ catalog_name
    not_catalog name = at (has_stand (stands_of a) p.page.0 x of)
      where
        at : (a.catalog.table ≡ x) ⊎ IsOneOf (tables_of a) x → ⊥
        at (inl is) =
            let there = in_second p.page.0 (of ∙ ap Some (sym is)) in
            let both = sym gone ∙ there in absurd cc
        at (inr is) = named_other form size state pages a r first x is name

    -- each of its versions is of one that is dead, or the transaction's
    its_or_dead : (e : Entry) → MayStandIn f r cat x e → (state (writer e) ≡ Dead) ⊎ (writer e ≡ t)
    its_or_dead e (inl is) = absurd (not_catalog is)
    its_or_dead e (inr (inl is)) = absurd (not_named (committed_stays x.name is))
    its_or_dead e (inr (inr (inl is))) = inl is
    its_or_dead e (inr (inr (inr is))) = at (cases_eq (writer e) t)
      where
        at : (writer e ≡ t) ⊎ (writer e ≢ t) → (state (writer e) ≡ Dead) ⊎ (writer e ≡ t)
        at (inl same) = inr same
        at (inr ne) = absurd (not_named (made_stays (writer e) x.name ne is))

    not_committed : (e : Entry) → (state (writer e) ≡ Dead) ⊎ (writer e ≡ t) → state (writer e) ≡ Committed → ⊥
    not_committed e (inl dead) committed = let both = sym dead ∙ committed in absurd cc
    not_committed e (inr its) committed =
        let both : Limbo ≡ Committed = sym falls.limbo ∙ (ap state (sym its) ∙ committed) in absurd cc

    -- so it has one version at most, and without the transaction none that counts
    none_left : (es : List Entry) → Each (MayStandIn f r cat x) es
        → EachBack (λ e. state (writer e) ≡ Committed) es
        → without_newest_by t (told_versions state x es) ≡ []
    none_left [] each backs = refl
    none_left (d ∷ []) each backs = by (its_or_dead d each.0) (is_dead (state (writer d))) refl
      where
        by : (state (writer d) ≡ Dead) ⊎ (writer d ≡ t) → (c : Bool) → is_dead (state (writer d)) ≡ c
            → without_newest_by t (map (λ e. generation (writer e) (told_given x e))
            (if is_dead (state (writer d)) then [] else d ∷ [])) ≡ []
        by which true is = rw is refl
        by (inl dead) false is = absurd (false≢true (sym is ∙ ap is_dead dead))
        by (inr its) false is = rw (is, eq-eqb (writer d) t its) refl
    none_left (d ∷ d2 ∷ ds) each backs = absurd (not_committed d2 (its_or_dead d2 each.1.0) backs.0)

    pub goes : without_newest_by t (told_versions state x (r p)) ≡ []
    goes = none_left (r p) (first.own_tables p x of) (first.records.each p x of).backs

  -- ---- a table that stays

  -- the rows that count without the transaction are those that count with it, where no version is its
  shown_without : (es : List Entry) → Each (NotIts t) es → shown counts es ≡ shown (committed_with f all) es
  shown_without [] each = refl
  shown_without (e ∷ es) each = at (shown_without es each.1)
    where
      same : counts (writer e) ≡ committed_with f all (writer e)
      same = rw (ne_eqb (writer e) t each.0) refl

      at : shown counts es ≡ shown (committed_with f all) es
          → (if counts (writer e) then (if e.version.deleted then None else Some e.row) else shown counts es)
          ≡ (if committed_with f all (writer e) then (if e.version.deleted then None else Some e.row)
          else shown (committed_with f all) es)
      at more = ap (λ (c : Bool). if c then (if e.version.deleted then None else Some e.row) else shown counts es)
          same ∙ ap (λ (x : Option Row). if committed_with f all (writer e)
          then (if e.version.deleted then None else Some e.row) else x) more

  -- the name of a table of the first layout whose row in the catalog is not the transaction's is one of the
  -- second one's
  pub stays_unless : (x : Table) → IsOneOf (tables_of a) x
      → ((p : RecId) (e : Entry) (es : List Entry) (row : Row) → table_in f p ≡ Some cat → r p ≡ e ∷ es
      → shown (committed_with f all) (r p) ≡ Some row → key_of cat row ≡ table_key x.name → writer e ≢ t)
      → HasTableOf (tables_of b) x.name
  stays_unless x is not_its = by (first.names.all.are_rows.whole (table_key x.name) it.row it.there)
    where
      it : IsTable first.names.all.rows x
      it = one_each (IsTable first.names.all.rows) (tables_of a) x first.names.all.are_tables.each is

      by : (p : RecId) × Shows f (committed_with f all) r p cat it.row × (key_of cat it.row ≡ table_key x.name)
          → HasTableOf (tables_of b) x.name
      by (p, shows, keyed) = on (r p) refl
        where
          older : (es : List Entry) → Each (λ d. state (writer d) ≡ Committed) es → Each (NotIts t) es
          older [] each = tt
          older (d ∷ ds) each = (
            λ its. let both : Limbo ≡ Committed = sym falls.limbo ∙ (ap state (sym its) ∙ each.0) in absurd cc,
            older ds each.1,
          )

          on : (es : List Entry) → r p ≡ es → HasTableOf (tables_of b) x.name
          on [] none =
              let nothing : None ≡ Some it.row = ap (shown (committed_with f all)) (sym none) ∙ shows.row_shown in
              absurd cc
          on (e ∷ es) some = subst (λ (ts : List Table). HasTableOf ts x.name) named_is
              (names_first.are_tables.whole x.name it.row (ap names_first.rows (sym keyed)
              ∙ names_first.are_rows.there p it.row (record {
                of_table = shows.of_table;
                row_shown = ap (shown counts) some ∙ (shown_without (e ∷ es) (
                  not_its p e es it.row shows.of_table some shows.row_shown keyed,
                  older es
                      (subst (EachBack (λ d. state (writer d) ≡ Committed)) some
                      (first.records.each p cat shows.of_table).backs),
                )
                    ∙ (ap (shown (committed_with f all)) (sym some) ∙ shows.row_shown));
              })))

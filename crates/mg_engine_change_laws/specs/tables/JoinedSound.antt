-- The pages with a new table are sound where its maker counts as in limbo.
use Rattle.std.proofs.Common.{◌≡◌, ◌≢◌, ◌⊎◌, ◌<◌, ◌≤◌, inl, inr, refl, sym, ap, ◌∙◌, subst, ℕ, Bool, true, false, List, [], ◌∷◌, Option, None, Some}
use Rattle.std.specs.Prelude.{if◌then◌else◌}
use Rattle.std.proofs.lemmas.Bool.{false≢true}
use Rattle.std.specs.Cmp.Lexicographic.{slice_cmp}
use Rattle.std.specs.Ordering.{nat_cmp}
use Rattle.std.specs.declared.cmp.Ordering.{Ordering}
use Rattle.std.specs.declared.cmp.Ordering.TheVariants.{Less, Equal, Greater}
use Rattle.mg_base.specs.declared.numbers.RecId.{RecId}
use Rattle.mg_base.specs.declared.transaction.TxState.{TxState}
use Rattle.mg_base.specs.declared.transaction.TxState.TheVariants.{Committed, Limbo}
use Rattle.mg_value.specs.declared.value.Value.{Value}
use Rattle.mg_header.specs.HeaderPage.{header_in}
use Rattle.mg_slots.specs.DataPage.{cell_of}
use Rattle.mg_model.specs.declared.table.Index.{Index}
use Rattle.mg_model.specs.declared.table.Table.{Table}
use Rattle.mg_model.specs.Changes.{by_order}
use Rattle.mg_version.specs.declared.cell.Cell.{Cell}
use Rattle.mg_version.specs.declared.cell.Link.{Link}
use Rattle.mg_image.specs.declared.entry.Entry.{Entry}
use Rattle.mg_image.specs.Catalog.{HasMade, IsNamed, MayStandIn}
use Rattle.mg_image.specs.FactLaws.{each_has}
use Rattle.mg_image.specs.Form.{Form, Pages, Row}
use Rattle.mg_image.specs.Inventory.{next_of, oldest_of}
use Rattle.mg_image.specs.RecordRules.{Each, EachBack, Facts, IsRecord, IsVersion, TakesKey, committed_in, table_in}
use Rattle.mg_image.specs.Records.{Cells, Chain, Reading, Stands, cells_of, ended, goes, key_of, newest_of, record_key, shown, slot_cell, writer}
use Rattle.mg_image.specs.Sound.{HasTablePages, IsSoundBy, facts_by}
use Rattle.mg_image.specs.Tables.{EachStand, Layout, Stand, has, table_at}
use Rattle.mg_image_overlay_laws.specs.transactions.Begins.{Raises, committed_still, dead_before}
use Rattle.mg_engine_change_laws.specs.tables.Joined.{IsMade, JoinedAreSound, Joins, layout_with, stands_with}
use Rattle.mg_engine_change_laws.specs.tables.JoinedNames.{cat_is, names_joined, of_catalog, of_other, read_still, same_catalog, was_of_catalog, was_other}
use Rattle.mg_engine_change_laws.specs.tables.JoinedRows.{cases_made, catalog_named, catalog_page, made_once, other_name}
use Rattle.mg_engine_change_laws.specs.tables.Rows.{MadeRow, reading_with}
use Rattle.mg_image.specs.Held.{HasLimbo, Shows}
use Rattle.mg_image.specs.Indexes.{IsFoundIn}

-- ---- lists

each_of : (P : Entry → Type 0) → ((e : Entry) → P e) → (es : List Entry) → Each P es
each_of P holds [] = tt
each_of P holds (e ∷ es) = (holds e, each_of P holds es)

backs_have : (P Q : Entry → Type 0) → ((e : Entry) → P e → Q e) → (es : List Entry) → EachBack P es → EachBack Q es
backs_have P Q gives [] each = tt
backs_have P Q gives (e ∷ es) each = each_has P Q gives es each

pub each_stand_with : (P : Stand → Type 0) (s : Stand) (ss : List Stand) → P s → EachStand P ss
    → EachStand P (stands_with s ss)
each_stand_with P s [] is each = (is, tt)
each_stand_with P s (u ∷ us) is each =
    at (slice_cmp nat_cmp s.table.name u.table.name) (each_stand_with P s us is each.1)
  where
    at : (o : Ordering) → EachStand P (stands_with s us)
        → EachStand P (by_order o (s ∷ u ∷ us) (s ∷ u ∷ us) (u ∷ stands_with s us))
    at Less more = (is, each)
    at Equal more = (is, each)
    at Greater more = (each.0, more)

-- a chain of cells that stay
chain_moved : (h k : Cells) (l : Option Link) (es : List Entry) → Chain h l es → Each (λ e. k e.at ≡ h e.at) es
    → Chain k l es
chain_moved h k l es ended each = ended
chain_moved h k l es (goes m e fs at is tx more) each =
    goes m e fs at (each.0 ∙ is) tx (chain_moved h k e.version.back fs more each.1)

-- a cell that stands there is of a version
stands_has : (P : RecId → Type 0) (es : List Entry) (x : RecId) → Each (λ e. P e.at) es → Stands es x → P x
stands_has P [] x each none = absurd none
stands_has P (e ∷ es) x each (inl same) = subst P same each.0
stands_has P (e ∷ es) x each (inr more) = stands_has P es x each.1 more

module _ (form : Form) (size : ℕ) (state now : ℕ → TxState) (t : ℕ) (old new : Pages) (a c : Layout) (r rc : Reading)
    (made : List MadeRow) (stand : Stand) (raises : Raises state now t) (before : IsSoundBy form size now old a r)
    (after : IsSoundBy form size state new c rc) (joins : Joins form size now t old new a c r rc made stand) where
  abbrev f : Facts
  f = facts_by now old a

  abbrev fc : Facts
  fc = facts_by state new c

  abbrev g : Facts
  g = facts_by now new (layout_with a c stand)

  abbrev cat : Table
  cat = a.catalog.table

  abbrev s : Reading
  s = reading_with made r

  same_cat : c.catalog.table ≡ a.catalog.table
  same_cat = same_catalog form size state now t old new a c r rc made stand raises before after joins

  -- ---- records of the catalog, and of other tables

  -- A record of the catalog reads as it does with the maker dead.
  record InCatalog (p : RecId) (table : Table) : Type 0 where
    placed : has c.catalog.data_pages p.page.0 ≡ true
    its : table ≡ a.catalog.table
    reads : reading_with made r p ≡ rc p
    of_after : table_in fc p ≡ Some c.catalog.table

  -- One of another table reads as before.
  record InOther (p : RecId) (table : Table) : Type 0 where
    off : has c.catalog.data_pages p.page.0 ≡ false
    there : table_at a.tables p.page.0 ≡ Some table
    of_before : table_in f p ≡ Some table
    reads : reading_with made r p ≡ r p

  still_off : (p : RecId) → has c.catalog.data_pages p.page.0 ≡ false → reading_with made r p ≡ r p
  still_off p off = at (cases_made made r p)
    where
      at : ((row : MadeRow) × IsMade made row × (row.at ≡ p) × (reading_with made r p ≡ row.first ∷ []))
          ⊎ (reading_with made r p ≡ r p) → reading_with made r p ≡ r p
      at (inl (row, is, here, reads)) = absurd (false≢true (sym off
          ∙ (ap (λ (x : RecId). has c.catalog.data_pages x.page.0) (sym here) ∙ (joins.rows row is).placed)))
      at (inr same) = same

  whose : (p : RecId) (table : Table) → table_in g p ≡ Some table → InCatalog p table ⊎ InOther p table
  whose p table of = at (has c.catalog.data_pages p.page.0) refl
    where
      at : (b : Bool) → has c.catalog.data_pages p.page.0 ≡ b → InCatalog p table ⊎ InOther p table
      at true on = inl (record {
        placed = on;
        its = let both : Some table ≡ Some a.catalog.table = sym of
            ∙ of_catalog form size state now t old new a c r rc made stand raises before after joins p.page.0 on in cc;
        reads = sym (joins.read p on);
        of_after = rw on refl;
      })
      at false off =
          let there : table_at a.tables p.page.0 ≡ Some table =
          sym (of_other form size state now t old new a c r rc made stand raises before after joins p.page.0 off) ∙ of in
          inr (record {
            off = off;
            there = there;
            of_before = was_other form size state now t old new a c r rc made stand raises before after joins p.page.0 off
                ∙ there;
            reads = still_off p off;
          })

  -- ---- versions

  next_same : next_of new ≡ next_of old
  next_same = ap (λ (page : List ℕ). (header_in page).next.0) joins.header

  oldest_same : oldest_of new ≡ oldest_of old
  oldest_same = ap (λ (page : List ℕ). (header_in page).oit.0) joins.header

  -- the page of another table, by what was before
  other_page : (n : ℕ) (table : Table) → table.name ≢ a.catalog.table.name → f.table_of n ≡ Some table
      → table_at a.tables n ≡ Some table
  other_page n table apart is = at (has a.catalog.data_pages n) refl is
    where
      at : (b : Bool) → has a.catalog.data_pages n ≡ b
          → (if b then Some a.catalog.table else table_at a.tables n) ≡ Some table → table_at a.tables n ≡ Some table
      at true on is_ = let same : a.catalog.table ≡ table = cc in absurd (apart (ap (λ (x : Table). x.name) (sym same)))
      at false off is_ = is_

  not_catalog : (n : ℕ) (table : Table) → table_at a.tables n ≡ Some table → table.name ≢ a.catalog.table.name
  not_catalog n table is same = other_name form size now old a r before n table is
      (same ∙ catalog_named form size now old a r before)

  catalog_version : (key : Value) (e : Entry) → IsVersion form.coding fc c.catalog.table key e
      → IsVersion form.coding g c.catalog.table key e
  catalog_version key e is = record {
    placed = of_catalog form size state now t old new a c r rc made stand raises before after joins e.at.page.0
        (catalog_page form size state new c rc after e.at.page.0 is.placed) ∙ ap (λ (x : Table). Some x) (sym same_cat);
    drawn = is.drawn;
    dead = λ dead. is.dead (dead_before state now t raises (writer e) dead);
    format = is.format;
    spelled = is.spelled;
    storable = is.storable;
    erased = is.erased;
    keyed = is.keyed;
  }

  other_version : (table : Table) → table.name ≢ a.catalog.table.name → (key : Value) (e : Entry)
      → IsVersion form.coding f table key e → IsVersion form.coding g table key e
  other_version table apart key e is =
      let there : table_at a.tables e.at.page.0 ≡ Some table = other_page e.at.page.0 table apart is.placed in record {
        placed = of_other form size state now t old new a c r rc made stand raises before after joins e.at.page.0
            (joins.apart e.at.page.0 table there) ∙ there;
        drawn = subst (λ (n : ℕ). writer e < n) (sym next_same) is.drawn;
        dead = λ dead. subst (λ (n : ℕ). n ≤ writer e) (sym oldest_same) (is.dead dead);
        format = is.format;
        spelled = is.spelled;
        storable = is.storable;
        erased = is.erased;
        keyed = is.keyed;
      }

  catalog_record : (p : RecId) → table_in fc p ≡ Some c.catalog.table → IsRecord form.coding g c.catalog.table (rc p)
  catalog_record p of =
      let is = after.records.each p c.catalog.table of in record {
        once = is.once;
        each = each_has (IsVersion form.coding fc c.catalog.table (record_key c.catalog.table (rc p)))
            (IsVersion form.coding g c.catalog.table (record_key c.catalog.table (rc p)))
            (catalog_version (record_key c.catalog.table (rc p))) (rc p) is.each;
        backs = backs_have (λ e. fc.state (writer e) ≡ Committed) (λ e. g.state (writer e) ≡ Committed)
            (λ e. committed_still state now t raises (writer e)) (rc p) is.backs;
      }

  other_record : (p : RecId) (table : Table) → table.name ≢ a.catalog.table.name → table_in f p ≡ Some table
      → IsRecord form.coding g table (r p)
  other_record p table apart of =
      let is = before.records.each p table of in record {
        once = is.once;
        each = each_has (IsVersion form.coding f table (record_key table (r p)))
            (IsVersion form.coding g table (record_key table (r p)))
            (other_version table apart (record_key table (r p))) (r p) is.each;
        backs = is.backs;
      }

  -- ---- the rules of records

  cell_left : (x : RecId) (table : Table) → table_at a.tables x.page.0 ≡ Some table → cells_of new x ≡ cells_of old x
  cell_left x table there = ap (λ (page : List ℕ). slot_cell (cell_of page x.slot)) (joins.left x.page.0 table there)

  reads_on : (p : RecId) (table : Table) → table_in g p ≡ Some table
      → Chain (cells_of new) (newest_of p (cells_of new p)) (reading_with made r p)
  reads_on p table of = at (whose p table of)
    where
      at : InCatalog p table ⊎ InOther p table
          → Chain (cells_of new) (newest_of p (cells_of new p)) (reading_with made r p)
      at (inl it) = subst (Chain (cells_of new) (newest_of p (cells_of new p))) (sym it.reads)
          (after.records.reads p c.catalog.table it.of_after)
      at (inr it) = subst (Chain (cells_of new) (newest_of p (cells_of new p))) (sym it.reads)
          (subst (λ (x : Option Cell). Chain (cells_of new) (newest_of p x) (r p)) (sym (cell_left p table it.there))
          (chain_moved (cells_of old) (cells_of new) (newest_of p (cells_of old p)) (r p)
          (before.records.reads p table it.of_before)
          (each_has (IsVersion form.coding f table (record_key table (r p)))
          (λ e. cells_of new e.at ≡ cells_of old e.at)
          (λ e is. cell_left e.at table (other_page e.at.page.0 table (not_catalog p.page.0 table it.there) is.placed))
          (r p) (before.records.each p table it.of_before).each)))

  outside_on : (p : RecId) → table_in g p ≡ None → reading_with made r p ≡ []
  outside_on p none = at (has c.catalog.data_pages p.page.0) refl
    where
      at : (b : Bool) → has c.catalog.data_pages p.page.0 ≡ b → reading_with made r p ≡ []
      at true on = let both : None ≡ Some a.catalog.table = sym none
          ∙ of_catalog form size state now t old new a c r rc made stand raises before after joins p.page.0 on in absurd cc
      at false off = still_off p off ∙ before.records.outside p
          (was_other form size state now t old new a c r rc made stand raises before after joins p.page.0 off
          ∙ (sym (of_other form size state now t old new a c r rc made stand raises before after joins p.page.0 off)
          ∙ none))

  each_on : (p : RecId) (table : Table) → table_in g p ≡ Some table
      → IsRecord form.coding g table (reading_with made r p)
  each_on p table of = at (whose p table of)
    where
      at : InCatalog p table ⊎ InOther p table → IsRecord form.coding g table (reading_with made r p)
      at (inl it) = subst (IsRecord form.coding g table) (sym it.reads)
          (subst (λ (x : Table). IsRecord form.coding g x (rc p)) (same_cat ∙ sym it.its) (catalog_record p it.of_after))
      at (inr it) = subst (IsRecord form.coding g table) (sym it.reads)
          (other_record p table (not_catalog p.page.0 table it.there) it.of_before)

  -- a cell of a record of the catalog is on its pages, and that of another record is not
  cell_in : (p x : RecId) (table : Table) → InCatalog p table → Stands (reading_with made r p) x
      → has c.catalog.data_pages x.page.0 ≡ true
  cell_in p x table it there = stands_has (λ y. has c.catalog.data_pages y.page.0 ≡ true) (rc p) x
      (each_has (IsVersion form.coding fc c.catalog.table (record_key c.catalog.table (rc p)))
      (λ e. has c.catalog.data_pages e.at.page.0 ≡ true)
      (λ e is. catalog_page form size state new c rc after e.at.page.0 is.placed) (rc p)
      (after.records.each p c.catalog.table it.of_after).each) (subst (λ (es : List Entry). Stands es x) it.reads there)

  cell_off : (p x : RecId) (table : Table) → InOther p table → Stands (reading_with made r p) x
      → has c.catalog.data_pages x.page.0 ≡ false
  cell_off p x table it there = stands_has (λ y. has c.catalog.data_pages y.page.0 ≡ false) (r p) x
      (each_has (IsVersion form.coding f table (record_key table (r p)))
      (λ e. has c.catalog.data_pages e.at.page.0 ≡ false)
      (λ e is. joins.apart e.at.page.0 table
      (other_page e.at.page.0 table (not_catalog p.page.0 table it.there) is.placed)) (r p)
      (before.records.each p table it.of_before).each) (subst (λ (es : List Entry). Stands es x) it.reads there)

  apart_on : (p q x : RecId) → Stands (reading_with made r p) x → Stands (reading_with made r q) x → p ≡ q
  apart_on p q x here there = at (table_in g p) refl (table_in g q) refl
    where
      by : (y z : Table) → InCatalog p y ⊎ InOther p y → InCatalog q z ⊎ InOther q z → p ≡ q
      by y z (inl first) (inl second) = after.records.apart p q x
          (subst (λ (es : List Entry). Stands es x) first.reads here)
          (subst (λ (es : List Entry). Stands es x) second.reads there)
      by y z (inl first) (inr second) =
          absurd (false≢true (sym (cell_off q x z second there) ∙ cell_in p x y first here))
      by y z (inr first) (inl second) =
          absurd (false≢true (sym (cell_off p x y first here) ∙ cell_in q x z second there))
      by y z (inr first) (inr second) = before.records.apart p q x
          (subst (λ (es : List Entry). Stands es x) first.reads here)
          (subst (λ (es : List Entry). Stands es x) second.reads there)

      at : (y : Option Table) → table_in g p ≡ y → (z : Option Table) → table_in g q ≡ z → p ≡ q
      at None none z is = absurd (subst (λ (es : List Entry). Stands es x) (outside_on p none) here)
      at (Some y) is None none = absurd (subst (λ (es : List Entry). Stands es x) (outside_on q none) there)
      at (Some y) is (Some z) also = by y z (whose p y is) (whose q z also)

  -- ---- keys

  takes_some : (es : List Entry) → TakesKey g es → es ≢ []
  takes_some [] (inl (row, is)) none = absurd cc
  takes_some [] (inr limbo) none = limbo
  takes_some (e ∷ es) takes none = absurd cc

  was_in_catalog : (p : RecId) → has c.catalog.data_pages p.page.0 ≡ true → r p ≢ [] → table_in f p ≡ Some cat
  was_in_catalog p on some = at (joins.fresh p on)
    where
      at : (has a.catalog.data_pages p.page.0 ≡ true) ⊎ (r p ≡ []) → table_in f p ≡ Some cat
      at (inl was) = was_of_catalog form size state now t old new a c r rc made stand raises before after joins p.page.0 was
      at (inr none) = absurd (some none)

  abbrev Cases : RecId → Type 0
  Cases p = ((row : MadeRow) × IsMade made row × (row.at ≡ p) × (reading_with made r p ≡ row.first ∷ []))
      ⊎ (reading_with made r p ≡ r p)

  -- a new row and an older record
  new_and_old : (p q : RecId) (row : MadeRow) → IsMade made row → reading_with made r p ≡ row.first ∷ []
      → has c.catalog.data_pages q.page.0 ≡ true → reading_with made r q ≡ r q → TakesKey g (reading_with made r q)
      → record_key cat (reading_with made r p) ≡ record_key cat (reading_with made r q) → ⊥
  new_and_old p q row is reads on same takes keys =
      let takes_r : TakesKey g (r q) = subst (TakesKey g) same takes in
      (joins.rows row is).free q (was_in_catalog q on (takes_some (r q) takes_r))
      (ap (record_key cat) (sym same) ∙ (sym keys ∙ ap (record_key cat) reads)) takes_r

  catalog_keys : (p q : RecId) → has c.catalog.data_pages p.page.0 ≡ true → has c.catalog.data_pages q.page.0 ≡ true
      → TakesKey g (reading_with made r p) → TakesKey g (reading_with made r q)
      → record_key cat (reading_with made r p) ≡ record_key cat (reading_with made r q) → Cases p → Cases q → p ≡ q
  catalog_keys p q on_p on_q takes_p takes_q keys (inl (x, is, here, reads)) (inl (y, also, there, read)) =
      let one : x ≡ y = made_once made joins.keys x y is also
      (sym (cat_is form size state now t old new a c r rc made stand raises before after joins x.first.row)
      ∙ (ap (record_key cat) (sym reads) ∙ (keys ∙ (ap (record_key cat) read
      ∙ cat_is form size state now t old new a c r rc made stand raises before after joins y.first.row)))) in
      sym here ∙ (ap (λ (z : MadeRow). z.at) one ∙ there)
  catalog_keys p q on_p on_q takes_p takes_q keys (inl (x, is, here, reads)) (inr same) =
      absurd (new_and_old p q x is reads on_q same takes_q keys)
  catalog_keys p q on_p on_q takes_p takes_q keys (inr same) (inl (y, also, there, read)) =
      absurd (new_and_old q p y also read on_p same takes_p (sym keys))
  catalog_keys p q on_p on_q takes_p takes_q keys (inr same) (inr also) =
      let first : TakesKey g (r p) = subst (TakesKey g) same takes_p in
      let second : TakesKey g (r q) = subst (TakesKey g) also takes_q in
      before.records.keys p q cat (was_in_catalog p on_p (takes_some (r p) first))
      (was_in_catalog q on_q (takes_some (r q) second)) first second
      (ap (record_key cat) (sym same) ∙ (keys ∙ ap (record_key cat) also))

  keys_on : (p q : RecId) (table : Table) → table_in g p ≡ Some table → table_in g q ≡ Some table
      → TakesKey g (reading_with made r p) → TakesKey g (reading_with made r q)
      → record_key table (reading_with made r p) ≡ record_key table (reading_with made r q) → p ≡ q
  keys_on p q table of_p of_q takes_p takes_q keys = at (whose p table of_p) (whose q table of_q)
    where
      at : InCatalog p table ⊎ InOther p table → InCatalog q table ⊎ InOther q table → p ≡ q
      at (inl first) (inl second) = catalog_keys p q first.placed second.placed takes_p takes_q
          (subst (λ (x : Table). record_key x (reading_with made r p) ≡ record_key x (reading_with made r q)) first.its
          keys) (cases_made made r p) (cases_made made r q)
      at (inl first) (inr second) =
          absurd (not_catalog q.page.0 table second.there (ap (λ (x : Table). x.name) first.its))
      at (inr first) (inl second) =
          absurd (not_catalog p.page.0 table first.there (ap (λ (x : Table). x.name) second.its))
      at (inr first) (inr second) = before.records.keys p q table first.of_before second.of_before
          (subst (TakesKey g) first.reads takes_p) (subst (TakesKey g) second.reads takes_q)
          (ap (record_key table) (sym first.reads) ∙ (keys ∙ ap (record_key table) second.reads))

  -- ---- whose versions a table has

  named_on : (name : List ℕ) → IsNamed f r a.catalog.table name → IsNamed g s c.catalog.table name
  named_on name is = record {
    place = is.place;
    row = is.row;
    shows = record {
      of_table = of_catalog form size state now t old new a c r rc made stand raises before after joins is.place.page.0
          (joins.grown is.place.page.0 (catalog_page form size now old a r before is.place.page.0 is.shows.of_table))
          ∙ ap (λ (x : Table). Some x) (sym same_cat);
      row_shown = ap (shown (committed_in g)) (read_still form size state now t old new a c r rc made stand raises before
          after joins is.place some) ∙ is.shows.row_shown;
    };
    keyed = ap (λ (x : Table). key_of x is.row) same_cat ∙ is.keyed;
  }
    where
      some : r is.place ≢ []
      some none = let both : None ≡ Some is.row = sym (ap (shown (committed_in f)) none) ∙ is.shows.row_shown in absurd cc

  made_on : (u : ℕ) (name : List ℕ) → HasMade f r a.catalog.table u name → HasMade g s c.catalog.table u name
  made_on u name is = record {
    place = is.place;
    version = is.version;
    limbo = record {
      of_table = of_catalog form size state now t old new a c r rc made stand raises before after joins is.place.page.0
          (joins.grown is.place.page.0 (catalog_page form size now old a r before is.place.page.0 is.limbo.of_table))
          ∙ ap (λ (x : Table). Some x) (sym same_cat);
      older = is.limbo.older;
      newest = read_still form size state now t old new a c r rc made stand raises before after joins is.place some
          ∙ is.limbo.newest;
      limbo = is.limbo.limbo;
    };
    its_own = is.its_own;
    alive = is.alive;
    keyed = ap (λ (x : Table). key_of x is.version.row) same_cat ∙ is.keyed;
  }
    where
      some : r is.place ≢ []
      some none = let both : [] ≡ is.version ∷ is.limbo.older = sym none ∙ is.limbo.newest in absurd cc

  own_on : (p : RecId) (table : Table) → table_in g p ≡ Some table
      → Each (MayStandIn g s c.catalog.table table) (reading_with made r p)
  own_on p table of = at (whose p table of)
    where
      may : (e : Entry) → MayStandIn f r a.catalog.table table e → MayStandIn g s c.catalog.table table e
      may e (inl is) = inl is
      may e (inr (inl is)) = inr (inl (named_on table.name is))
      may e (inr (inr (inl is))) = inr (inr (inl is))
      may e (inr (inr (inr is))) = inr (inr (inr (made_on (writer e) table.name is)))

      at : InCatalog p table ⊎ InOther p table → Each (MayStandIn g s c.catalog.table table) (reading_with made r p)
      at (inl it) = each_of (MayStandIn g s c.catalog.table table)
          (λ e. inl (ap (λ (x : Table). x.name) it.its ∙ catalog_named form size now old a r before))
          (reading_with made r p)
      at (inr it) = subst (Each (MayStandIn g s c.catalog.table table)) (sym it.reads)
          (each_has (MayStandIn f r a.catalog.table table) (MayStandIn g s c.catalog.table table) may (r p)
          (before.own_tables p table it.of_before))

  -- ---- rows are found in indexes: the catalog has none, and those of other tables are as they were

  none_asked : (p : RecId) (table : Table) (row : Row) → InCatalog p table → IsFoundIn new table.indexes p row
  none_asked p table row it = subst (λ (is : List Index). IsFoundIn new is p row)
      (sym (ap (λ (x : Table). x.indexes) (it.its ∙ before.catalog))) tt

  committed_on : (p : RecId) (table : Table) (row : Row) → Shows g (committed_in g) s p table row
      → IsFoundIn new table.indexes p row
  committed_on p table row shows = at (whose p table shows.of_table)
    where
      at : InCatalog p table ⊎ InOther p table → IsFoundIn new table.indexes p row
      at (inl it) = none_asked p table row it
      at (inr it) = joins.found p table row it.there (before.indexed.committed p table row (record {
        of_table = it.of_before;
        row_shown = ap (shown (committed_in f)) (sym it.reads) ∙ shows.row_shown;
      }))

  limbo_on : (p : RecId) (table : Table) (e : Entry) → HasLimbo g s p table e → e.version.deleted ≡ false
      → IsFoundIn new table.indexes p e.row
  limbo_on p table e has_ alive = at (whose p table has_.of_table)
    where
      at : InCatalog p table ⊎ InOther p table → IsFoundIn new table.indexes p e.row
      at (inl it) = none_asked p table e.row it
      at (inr it) = joins.found p table e.row it.there (before.indexed.limbo p table e (record {
        of_table = it.of_before;
        older = has_.older;
        newest = sym it.reads ∙ has_.newest;
        limbo = has_.limbo;
      }) alive)

  -- ---- the whole

  pub joined_sound : IsSoundBy form size now new (layout_with a c stand) (reading_with made r)
  joined_sound = record {
    header = after.header;
    transactions = after.transactions;
    inventory = after.inventory;
    catalog = after.catalog;
    tables = (
      after.tables.0,
      each_stand_with (HasTablePages form.in_primary size new) stand a.tables joins.stand_pages joins.tables_pages,
    );
    sequences = after.sequences;
    names = names_joined form size state now t old new a c r rc made stand raises before after joins;
    once = joins.once;
    records = record {
      reads = reads_on;
      outside = outside_on;
      each = each_on;
      apart = apart_on;
      keys = keys_on;
    };
    limbo = subst (λ (n : ℕ). (u : ℕ) → u < n → now u ≢ Limbo)
        (sym (ap (λ (page : List ℕ). (header_in page).oat.0) joins.header)) before.limbo;
    own_tables = own_on;
    indexed = record { committed = committed_on; limbo = limbo_on };
  }

pub joined_are_sound : (form : Form) → JoinedAreSound form
joined_are_sound form size state now t old new a c r rc made stand raises before after joins =
    joined_sound form size state now t old new a c r rc made stand raises before after joins

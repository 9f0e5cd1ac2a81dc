-- The pages without tables that were taken back are sound where their maker counts as in limbo.
use Rattle.std.proofs.Common.{◌≡◌, ◌≢◌, ◌⊎◌, ◌<◌, ◌≤◌, inl, inr, refl, sym, ap, ◌∙◌, subst, ℕ, Bool, true, false, List, [], ◌∷◌, Option, None, Some}
use Rattle.std.specs.Prelude.{if◌then◌else◌}
use Rattle.std.proofs.lemmas.Bool.{false≢true}
use Rattle.mg_base.specs.declared.numbers.RecId.{RecId}
use Rattle.mg_base.specs.declared.transaction.TxState.{TxState}
use Rattle.mg_base.specs.declared.transaction.TxState.TheVariants.{Committed, Limbo}
use Rattle.mg_value.specs.declared.value.Value.{Value}
use Rattle.mg_header.specs.HeaderPage.{header_in}
use Rattle.mg_slots.specs.DataPage.{cell_of}
use Rattle.mg_model.specs.declared.table.Table.{Table}
use Rattle.mg_model.specs.Catalog.{table_key}
use Rattle.mg_version.specs.declared.cell.Cell.{Cell}
use Rattle.mg_version.specs.declared.cell.Link.{Link}
use Rattle.mg_image.specs.declared.entry.Entry.{Entry}
use Rattle.mg_image.specs.Catalog.{HasMade, IsNamed, MayStandIn}
use Rattle.mg_image.specs.FactLaws.{each_has}
use Rattle.mg_image.specs.Held.{HasLimbo, Shows}
use Rattle.mg_image.specs.Indexes.{IsFoundIn}
use Rattle.mg_image.specs.Form.{Form, Pages, Row}
use Rattle.mg_image.specs.Inventory.{next_of, oldest_of}
use Rattle.mg_image.specs.RecordRules.{Each, EachBack, Facts, IsRecord, IsVersion, TakesKey, committed_in, table_in}
use Rattle.mg_image.specs.Records.{Cells, Chain, Reading, Stands, cells_of, ended, goes, key_of, newest_of, record_key, shown, slot_cell, writer}
use Rattle.mg_image.specs.Sound.{IsSoundBy, facts_by}
use Rattle.mg_image.specs.Tables.{Layout, has, table_at}
use Rattle.mg_image_overlay_laws.specs.transactions.Begins.{Raises, committed_still, dead_before}
use Rattle.mg_engine_step_laws.specs.tables_back.Taken.{HasGone, IsLeft, LeftAreSound, TakesBack, layout_left, read_of, reading_left, stands_left}
use Rattle.mg_engine_step_laws.specs.tables_back.TakenPages.{takes_back}
use Rattle.mg_engine_step_laws.specs.tables_back.TakenNames.{catalog_named, catalog_page, left_at, left_is, names_left, of_catalog, of_other, other_name, reads_catalog, same_catalog, was_catalog, was_of_catalog, was_other}

-- ---- lists

each_of : (P : Entry → Type 0) → ((e : Entry) → P e) → (es : List Entry) → Each P es
each_of P holds [] = tt
each_of P holds (e ∷ es) = (holds e, each_of P holds es)

backs_have : (P Q : Entry → Type 0) → ((e : Entry) → P e → Q e) → (es : List Entry) → EachBack P es → EachBack Q es
backs_have P Q gives [] each = tt
backs_have P Q gives (e ∷ es) each = each_has P Q gives es each

-- a chain of cells that stay
chain_moved : (h k : Cells) (l : Option Link) (es : List Entry) → Chain h l es → Each (λ e. k e.at ≡ h e.at) es
    → Chain k l es
chain_moved h k l es ended each = ended
chain_moved h k l es (goes m e fs at is tx more) each =
    goes m e fs at (each.0 ∙ is) tx (chain_moved h k e.version.back fs more each.1)

-- a cell that stands there is of a version
stands_has : (P : RecId → Type 0) (es : List Entry) (x : RecId) → Each (λ e. P e.at) es → Stands es x → P x
stands_has P [] x each none = absurd none
stands_has P (e ∷ es) x each (inl same) = subst P same each.0
stands_has P (e ∷ es) x each (inr more) = stands_has P es x each.1 more

module _ (form : Form) (size : ℕ) (state now : ℕ → TxState) (t : ℕ) (old new : Pages) (a c : Layout) (r rc : Reading)
    (gone : Value → Bool) (raises : Raises state now t) (before : IsSoundBy form size now old a r)
    (after : IsSoundBy form size state new c rc) (takes : TakesBack form size now t old new a c r rc gone) where
  abbrev f : Facts
  f = facts_by now old a

  abbrev fc : Facts
  fc = facts_by state new c

  abbrev g : Facts
  g = facts_by now new (layout_left gone a c)

  abbrev cat : Table
  cat = a.catalog.table

  abbrev s : Reading
  s = reading_left gone a c r rc

  same_cat : c.catalog.table ≡ a.catalog.table
  same_cat = same_catalog form size state now t old new a c r rc gone raises before after takes

  -- ---- records of the catalog, and of other tables

  -- A record of the catalog reads as it does with the maker dead.
  record InCatalog (p : RecId) (table : Table) : Type 0 where
    placed : has c.catalog.data_pages p.page.0 ≡ true
    its : table ≡ a.catalog.table
    reads : reading_left gone a c r rc p ≡ rc p
    of_after : table_in fc p ≡ Some c.catalog.table

  -- One of another table reads as before.
  record InOther (p : RecId) (table : Table) : Type 0 where
    off : has c.catalog.data_pages p.page.0 ≡ false
    there : table_at (stands_left gone a.tables) p.page.0 ≡ Some table
    stays : gone (table_key table.name) ≡ false
    apart : table.name ≢ a.catalog.table.name
    of_before : table_in f p ≡ Some table
    reads : reading_left gone a c r rc p ≡ r p

  whose : (p : RecId) (table : Table) → table_in g p ≡ Some table → InCatalog p table ⊎ InOther p table
  whose p table of = at (has c.catalog.data_pages p.page.0) refl
    where
      at : (b : Bool) → has c.catalog.data_pages p.page.0 ≡ b → InCatalog p table ⊎ InOther p table
      at true on = inl (record {
        placed = on;
        its = let both : Some table ≡ Some a.catalog.table = sym of
            ∙ of_catalog form size state now t old new a c r rc gone raises before after takes p.page.0 on in cc;
        reads = reads_catalog form size state now t old new a c r rc gone raises before after takes p on;
        of_after = rw on refl;
      })
      at false off =
          let there : table_at (stands_left gone a.tables) p.page.0 ≡ Some table =
          sym (of_other form size state now t old new a c r rc gone raises before after takes p.page.0 off) ∙ of in
          inr (record {
            off = off;
            there = there;
            stays = left_is gone a.tables p.page.0 table there;
            apart = λ same. other_name form size now old a r before p.page.0 table
                (takes.stands p.page.0 table there) (same ∙ catalog_named form size now old a r before);
            of_before = was_other form size state now t old new a c r rc gone raises before after takes p.page.0 off
                ∙ takes.stands p.page.0 table there;
            reads = rw off (ap (λ (x : Option Table). read_of x (r p)) there);
          })

  -- ---- versions

  next_same : next_of new ≡ next_of old
  next_same = ap (λ (page : List ℕ). (header_in page).next.0) takes.header

  oldest_same : oldest_of new ≡ oldest_of old
  oldest_same = ap (λ (page : List ℕ). (header_in page).oit.0) takes.header

  -- the page of another table that is left, by what was before
  other_page : (n : ℕ) (table : Table) → table.name ≢ a.catalog.table.name → gone (table_key table.name) ≡ false
      → f.table_of n ≡ Some table → table_at (stands_left gone a.tables) n ≡ Some table
  other_page n table apart stays is = left_at gone a.tables n table (at (has a.catalog.data_pages n) refl is) stays
    where
      at : (b : Bool) → has a.catalog.data_pages n ≡ b
          → (if b then Some a.catalog.table else table_at a.tables n) ≡ Some table → table_at a.tables n ≡ Some table
      at true on is_ = let same : a.catalog.table ≡ table = cc in absurd (apart (ap (λ (x : Table). x.name) (sym same)))
      at false off is_ = is_

  catalog_version : (key : Value) (e : Entry) → IsVersion form.coding fc c.catalog.table key e
      → IsVersion form.coding g c.catalog.table key e
  catalog_version key e is = record {
    placed = of_catalog form size state now t old new a c r rc gone raises before after takes e.at.page.0
        (catalog_page form size state new c rc after e.at.page.0 is.placed) ∙ ap (λ (x : Table). Some x) (sym same_cat);
    drawn = is.drawn;
    dead = λ dead. is.dead (dead_before state now t raises (writer e) dead);
    format = is.format;
    spelled = is.spelled;
    storable = is.storable;
    erased = is.erased;
    keyed = is.keyed;
  }

  other_version : (table : Table) → table.name ≢ a.catalog.table.name → gone (table_key table.name) ≡ false
      → (key : Value) (e : Entry) → IsVersion form.coding f table key e → IsVersion form.coding g table key e
  other_version table apart stays key e is =
      let there : table_at (stands_left gone a.tables) e.at.page.0 ≡ Some table =
      other_page e.at.page.0 table apart stays is.placed in record {
        placed = of_other form size state now t old new a c r rc gone raises before after takes e.at.page.0
            (takes.apart e.at.page.0 table there) ∙ there;
        drawn = subst (λ (n : ℕ). writer e < n) (sym next_same) is.drawn;
        dead = λ dead. subst (λ (n : ℕ). n ≤ writer e) (sym oldest_same) (is.dead dead);
        format = is.format;
        spelled = is.spelled;
        storable = is.storable;
        erased = is.erased;
        keyed = is.keyed;
      }

  catalog_record : (p : RecId) → table_in fc p ≡ Some c.catalog.table → IsRecord form.coding g c.catalog.table (rc p)
  catalog_record p of =
      let is = after.records.each p c.catalog.table of in record {
        once = is.once;
        each = each_has (IsVersion form.coding fc c.catalog.table (record_key c.catalog.table (rc p)))
            (IsVersion form.coding g c.catalog.table (record_key c.catalog.table (rc p)))
            (catalog_version (record_key c.catalog.table (rc p))) (rc p) is.each;
        backs = backs_have (λ e. fc.state (writer e) ≡ Committed) (λ e. g.state (writer e) ≡ Committed)
            (λ e. committed_still state now t raises (writer e)) (rc p) is.backs;
      }

  other_record : (p : RecId) (table : Table) → table.name ≢ a.catalog.table.name
      → gone (table_key table.name) ≡ false → table_in f p ≡ Some table → IsRecord form.coding g table (r p)
  other_record p table apart stays of =
      let is = before.records.each p table of in record {
        once = is.once;
        each = each_has (IsVersion form.coding f table (record_key table (r p)))
            (IsVersion form.coding g table (record_key table (r p)))
            (other_version table apart stays (record_key table (r p))) (r p) is.each;
        backs = is.backs;
      }

  -- ---- the rules of records

  cell_left : (x : RecId) (table : Table) → table_at (stands_left gone a.tables) x.page.0 ≡ Some table
      → cells_of new x ≡ cells_of old x
  cell_left x table there = ap (λ (page : List ℕ). slot_cell (cell_of page x.slot)) (takes.left x.page.0 table there)

  reads_on : (p : RecId) (table : Table) → table_in g p ≡ Some table
      → Chain (cells_of new) (newest_of p (cells_of new p)) (reading_left gone a c r rc p)
  reads_on p table of = at (whose p table of)
    where
      at : InCatalog p table ⊎ InOther p table
          → Chain (cells_of new) (newest_of p (cells_of new p)) (reading_left gone a c r rc p)
      at (inl it) = subst (Chain (cells_of new) (newest_of p (cells_of new p))) (sym it.reads)
          (after.records.reads p c.catalog.table it.of_after)
      at (inr it) = subst (Chain (cells_of new) (newest_of p (cells_of new p))) (sym it.reads)
          (subst (λ (x : Option Cell). Chain (cells_of new) (newest_of p x) (r p)) (sym (cell_left p table it.there))
          (chain_moved (cells_of old) (cells_of new) (newest_of p (cells_of old p)) (r p)
          (before.records.reads p table it.of_before)
          (each_has (IsVersion form.coding f table (record_key table (r p)))
          (λ e. cells_of new e.at ≡ cells_of old e.at)
          (λ e is. cell_left e.at table (other_page e.at.page.0 table it.apart it.stays is.placed))
          (r p) (before.records.each p table it.of_before).each)))

  outside_on : (p : RecId) → table_in g p ≡ None → reading_left gone a c r rc p ≡ []
  outside_on p none = at (has c.catalog.data_pages p.page.0) refl
    where
      at : (b : Bool) → has c.catalog.data_pages p.page.0 ≡ b → reading_left gone a c r rc p ≡ []
      at true on = let both : None ≡ Some a.catalog.table = sym none
          ∙ of_catalog form size state now t old new a c r rc gone raises before after takes p.page.0 on in absurd cc
      at false off = rw off (ap (λ (x : Option Table). read_of x (r p))
          (sym (of_other form size state now t old new a c r rc gone raises before after takes p.page.0 off) ∙ none))

  each_on : (p : RecId) (table : Table) → table_in g p ≡ Some table
      → IsRecord form.coding g table (reading_left gone a c r rc p)
  each_on p table of = at (whose p table of)
    where
      at : InCatalog p table ⊎ InOther p table → IsRecord form.coding g table (reading_left gone a c r rc p)
      at (inl it) = subst (IsRecord form.coding g table) (sym it.reads)
          (subst (λ (x : Table). IsRecord form.coding g x (rc p)) (same_cat ∙ sym it.its) (catalog_record p it.of_after))
      at (inr it) = subst (IsRecord form.coding g table) (sym it.reads)
          (other_record p table it.apart it.stays it.of_before)

  -- a cell of a record of the catalog is on its pages, and that of another record is not
  cell_in : (p x : RecId) (table : Table) → InCatalog p table → Stands (reading_left gone a c r rc p) x
      → has c.catalog.data_pages x.page.0 ≡ true
  cell_in p x table it there = stands_has (λ y. has c.catalog.data_pages y.page.0 ≡ true) (rc p) x
      (each_has (IsVersion form.coding fc c.catalog.table (record_key c.catalog.table (rc p)))
      (λ e. has c.catalog.data_pages e.at.page.0 ≡ true)
      (λ e is. catalog_page form size state new c rc after e.at.page.0 is.placed) (rc p)
      (after.records.each p c.catalog.table it.of_after).each) (subst (λ (es : List Entry). Stands es x) it.reads there)

  cell_off : (p x : RecId) (table : Table) → InOther p table → Stands (reading_left gone a c r rc p) x
      → has c.catalog.data_pages x.page.0 ≡ false
  cell_off p x table it there = stands_has (λ y. has c.catalog.data_pages y.page.0 ≡ false) (r p) x
      (each_has (IsVersion form.coding f table (record_key table (r p)))
      (λ e. has c.catalog.data_pages e.at.page.0 ≡ false)
      (λ e is. takes.apart e.at.page.0 table (other_page e.at.page.0 table it.apart it.stays is.placed)) (r p)
      (before.records.each p table it.of_before).each) (subst (λ (es : List Entry). Stands es x) it.reads there)

  apart_on : (p q x : RecId) → Stands (reading_left gone a c r rc p) x → Stands (reading_left gone a c r rc q) x → p ≡ q
  apart_on p q x here there = at (table_in g p) refl (table_in g q) refl
    where
      by : (y z : Table) → InCatalog p y ⊎ InOther p y → InCatalog q z ⊎ InOther q z → p ≡ q
      by y z (inl first) (inl second) = after.records.apart p q x
          (subst (λ (es : List Entry). Stands es x) first.reads here)
          (subst (λ (es : List Entry). Stands es x) second.reads there)
      by y z (inl first) (inr second) =
          absurd (false≢true (sym (cell_off q x z second there) ∙ cell_in p x y first here))
      by y z (inr first) (inl second) =
          absurd (false≢true (sym (cell_off p x y first here) ∙ cell_in q x z second there))
      by y z (inr first) (inr second) = before.records.apart p q x
          (subst (λ (es : List Entry). Stands es x) first.reads here)
          (subst (λ (es : List Entry). Stands es x) second.reads there)

      at : (y : Option Table) → table_in g p ≡ y → (z : Option Table) → table_in g q ≡ z → p ≡ q
      at None none z is = absurd (subst (λ (es : List Entry). Stands es x) (outside_on p none) here)
      at (Some y) is None none = absurd (subst (λ (es : List Entry). Stands es x) (outside_on q none) there)
      at (Some y) is (Some z) also = by y z (whose p y is) (whose q z also)

  -- ---- keys

  takes_some : (es : List Entry) → TakesKey g es → es ≢ []
  takes_some [] (inl (row, is)) none = absurd cc
  takes_some [] (inr limbo) none = limbo
  takes_some (e ∷ es) takes_ none = absurd cc

  -- a record that takes a key has not gone
  still : (p : RecId) → has c.catalog.data_pages p.page.0 ≡ true → TakesKey g (rc p) → rc p ≡ r p
  still p on key = at (takes.each p on)
    where
      at : HasGone gone a.catalog.table t (r p) (rc p)
          ⊎ IsLeft gone (facts_by now old a) a.catalog.table (r p) (rc p) → rc p ≡ r p
      at (inl went) = absurd (takes_some (rc p) key went.none)
      at (inr left) = left.same

  keys_on : (p q : RecId) (table : Table) → table_in g p ≡ Some table → table_in g q ≡ Some table
      → TakesKey g (reading_left gone a c r rc p) → TakesKey g (reading_left gone a c r rc q)
      → record_key table (reading_left gone a c r rc p) ≡ record_key table (reading_left gone a c r rc q) → p ≡ q
  keys_on p q table of_p of_q takes_p takes_q keys = at (whose p table of_p) (whose q table of_q)
    where
      at : InCatalog p table ⊎ InOther p table → InCatalog q table ⊎ InOther q table → p ≡ q
      at (inl first) (inl second) =
          let here : reading_left gone a c r rc p ≡ r p = first.reads
          ∙ still p first.placed (subst (TakesKey g) first.reads takes_p) in
          let there : reading_left gone a c r rc q ≡ r q = second.reads
          ∙ still q second.placed (subst (TakesKey g) second.reads takes_q) in
          before.records.keys p q cat
          (was_of_catalog form size state now t old new a c r rc gone raises before after takes p.page.0 first.placed)
          (was_of_catalog form size state now t old new a c r rc gone raises before after takes q.page.0 second.placed)
          (subst (TakesKey g) here takes_p) (subst (TakesKey g) there takes_q)
          (subst (λ (x : Table). record_key x (r p) ≡ record_key x (r q)) first.its
          (ap (record_key table) (sym here) ∙ (keys ∙ ap (record_key table) there)))
      at (inl first) (inr second) = absurd (second.apart (ap (λ (x : Table). x.name) first.its))
      at (inr first) (inl second) = absurd (first.apart (ap (λ (x : Table). x.name) second.its))
      at (inr first) (inr second) = before.records.keys p q table first.of_before second.of_before
          (subst (TakesKey g) first.reads takes_p) (subst (TakesKey g) second.reads takes_q)
          (ap (record_key table) (sym first.reads) ∙ (keys ∙ ap (record_key table) second.reads))

  -- ---- whose versions a table has

  named_on : (name : List ℕ) → IsNamed f r a.catalog.table name → IsNamed g s c.catalog.table name
  named_on name is = record {
    place = is.place;
    row = is.row;
    shows = record {
      of_table = of_catalog form size state now t old new a c r rc gone raises before after takes is.place.page.0 on
          ∙ ap (λ (x : Table). Some x) (sym same_cat);
      row_shown = ap (shown (committed_in g))
          (reads_catalog form size state now t old new a c r rc gone raises before after takes is.place on
          ∙ at (takes.each is.place on)) ∙ is.shows.row_shown;
    };
    keyed = ap (λ (x : Table). key_of x is.row) same_cat ∙ is.keyed;
  }
    where
      on : has c.catalog.data_pages is.place.page.0 ≡ true
      on = was_catalog form size state now t old new a c r rc gone raises before after takes is.place.page.0
          is.shows.of_table

      at : HasGone gone a.catalog.table t (r is.place) (rc is.place)
          ⊎ IsLeft gone (facts_by now old a) a.catalog.table (r is.place) (rc is.place) → rc is.place ≡ r is.place
      at (inl went) =
          let limbo : now (writer went.version) ≡ Limbo = ap now went.its ∙ raises.limbo in
          let none : shown (committed_in f) (went.version ∷ []) ≡ None = rw limbo refl in
          let both : None ≡ Some is.row = sym none
          ∙ (sym (ap (shown (committed_in f)) went.alone) ∙ is.shows.row_shown) in absurd cc
      at (inr left) = left.same

  made_on : (u : ℕ) (name : List ℕ) → gone (table_key name) ≡ false → HasMade f r a.catalog.table u name
      → HasMade g s c.catalog.table u name
  made_on u name stays is = record {
    place = is.place;
    version = is.version;
    limbo = record {
      of_table = of_catalog form size state now t old new a c r rc gone raises before after takes is.place.page.0 on
          ∙ ap (λ (x : Table). Some x) (sym same_cat);
      older = is.limbo.older;
      newest = reads_catalog form size state now t old new a c r rc gone raises before after takes is.place on
          ∙ (at (takes.each is.place on) ∙ is.limbo.newest);
      limbo = is.limbo.limbo;
    };
    its_own = is.its_own;
    alive = is.alive;
    keyed = ap (λ (x : Table). key_of x is.version.row) same_cat ∙ is.keyed;
  }
    where
      on : has c.catalog.data_pages is.place.page.0 ≡ true
      on = was_catalog form size state now t old new a c r rc gone raises before after takes is.place.page.0
          is.limbo.of_table

      at : HasGone gone a.catalog.table t (r is.place) (rc is.place)
          ⊎ IsLeft gone (facts_by now old a) a.catalog.table (r is.place) (rc is.place) → rc is.place ≡ r is.place
      at (inl went) = absurd (false≢true (sym stays ∙ (ap gone (sym is.keyed
          ∙ sym (ap (record_key a.catalog.table) is.limbo.newest)) ∙ went.keyed)))
      at (inr left) = left.same

  own_on : (p : RecId) (table : Table) → table_in g p ≡ Some table
      → Each (MayStandIn g s c.catalog.table table) (reading_left gone a c r rc p)
  own_on p table of = at (whose p table of)
    where
      may : gone (table_key table.name) ≡ false → (e : Entry) → MayStandIn f r a.catalog.table table e
          → MayStandIn g s c.catalog.table table e
      may stays e (inl is) = inl is
      may stays e (inr (inl is)) = inr (inl (named_on table.name is))
      may stays e (inr (inr (inl is))) = inr (inr (inl is))
      may stays e (inr (inr (inr is))) = inr (inr (inr (made_on (writer e) table.name stays is)))

      at : InCatalog p table ⊎ InOther p table
          → Each (MayStandIn g s c.catalog.table table) (reading_left gone a c r rc p)
      at (inl it) = each_of (MayStandIn g s c.catalog.table table)
          (λ e. inl (ap (λ (x : Table). x.name) it.its ∙ catalog_named form size now old a r before))
          (reading_left gone a c r rc p)
      at (inr it) = subst (Each (MayStandIn g s c.catalog.table table)) (sym it.reads)
          (each_has (MayStandIn f r a.catalog.table table) (MayStandIn g s c.catalog.table table) (may it.stays) (r p)
          (before.own_tables p table it.of_before))

  -- ---- indexes

  -- a record of the catalog that has versions reads as it did
  catalog_was : (p : RecId) (table : Table) → InCatalog p table → table_in f p ≡ Some table
  catalog_was p table it =
      was_of_catalog form size state now t old new a c r rc gone raises before after takes p.page.0 it.placed
      ∙ ap (λ (x : Table). Some x) (sym it.its)

  catalog_same : (p : RecId) (table : Table) → InCatalog p table → reading_left gone a c r rc p ≢ []
      → reading_left gone a c r rc p ≡ r p
  catalog_same p table it some = it.reads ∙ at (takes.each p it.placed)
    where
      at : HasGone gone a.catalog.table t (r p) (rc p)
          ⊎ IsLeft gone (facts_by now old a) a.catalog.table (r p) (rc p) → rc p ≡ r p
      at (inl went) = absurd (some (it.reads ∙ went.none))
      at (inr left) = left.same

  committed_found : (p : RecId) (table : Table) (row : Row) → Shows g (committed_in g) s p table row
      → InCatalog p table ⊎ InOther p table → IsFoundIn new table.indexes p row
  committed_found p table row shows is = at is
    where
      found : table_in f p ≡ Some table → reading_left gone a c r rc p ≡ r p → IsFoundIn new table.indexes p row
      found of same = takes.found table p row of (before.indexed.committed p table row
          (record { of_table = of; row_shown = ap (shown (committed_in g)) (sym same) ∙ shows.row_shown }))

      some : reading_left gone a c r rc p ≢ []
      some none = let both : None ≡ Some row = sym (ap (shown (committed_in g)) none) ∙ shows.row_shown in absurd cc

      at : InCatalog p table ⊎ InOther p table → IsFoundIn new table.indexes p row
      at (inl it) = found (catalog_was p table it) (catalog_same p table it some)
      at (inr it) = found it.of_before it.reads

  limbo_found : (p : RecId) (table : Table) (e : Entry) → HasLimbo g s p table e → e.version.deleted ≡ false
      → InCatalog p table ⊎ InOther p table → IsFoundIn new table.indexes p e.row
  limbo_found p table e has_ alive is = at is
    where
      found : table_in f p ≡ Some table → reading_left gone a c r rc p ≡ r p → IsFoundIn new table.indexes p e.row
      found of same = takes.found table p e.row of (before.indexed.limbo p table e (record {
        of_table = of;
        older = has_.older;
        newest = sym same ∙ has_.newest;
        limbo = has_.limbo;
      }) alive)

      some : reading_left gone a c r rc p ≢ []
      some none = let both : [] ≡ e ∷ has_.older = sym none ∙ has_.newest in absurd cc

      at : InCatalog p table ⊎ InOther p table → IsFoundIn new table.indexes p e.row
      at (inl it) = found (catalog_was p table it) (catalog_same p table it some)
      at (inr it) = found it.of_before it.reads

  -- ---- the whole

  pub left_sound : IsSoundBy form size now new (layout_left gone a c) (reading_left gone a c r rc)
  left_sound = record {
    header = after.header;
    transactions = after.transactions;
    inventory = after.inventory;
    catalog = after.catalog;
    tables = (after.tables.0, takes.tables_pages);
    sequences = after.sequences;
    names = names_left form size state now t old new a c r rc gone raises before after takes;
    once = takes.once;
    records = record {
      reads = reads_on;
      outside = outside_on;
      each = each_on;
      apart = apart_on;
      keys = keys_on;
    };
    limbo = subst (λ (n : ℕ). (u : ℕ) → u < n → now u ≢ Limbo)
        (sym (ap (λ (page : List ℕ). (header_in page).oat.0) takes.header)) before.limbo;
    own_tables = own_on;
    indexed = record {
      committed = λ p table row shows. committed_found p table row shows (whose p table shows.of_table);
      limbo = λ p table e has_ alive. limbo_found p table e has_ alive (whose p table has_.of_table);
    };
  }

pub left_are_sound : (form : Form) → LeftAreSound form
left_are_sound form size state now t old new a c r rc gone raises before after leaves rows =
    left_sound form size state now t old new a c r rc gone raises before after
    (takes_back form size now t old new a c r rc gone before leaves rows)

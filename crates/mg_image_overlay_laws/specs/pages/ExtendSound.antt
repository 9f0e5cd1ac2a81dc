-- A table gets a page more, of pointers or of data: a sound image stays sound.
use Rattle.mg_base.specs.declared.numbers.RecId.{RecId}
use Rattle.mg_base.specs.declared.transaction.TxState.{TxState}
use Rattle.mg_header.specs.declared.header.Header.{Header}
use Rattle.mg_image.specs.Catalog.{CatalogNames, HasNames, HasOwnTables, MayStandIn, catalog_table, committed_with}
use Rattle.mg_image.specs.FactLaws.{records_on_same_cells}
use Rattle.mg_image.specs.Form.{Form, Pages, Row, Rows}
use Rattle.mg_image.specs.Held.{AreChanges, AreRows, Changes, Database, HasLimbo, IsChangedAt, IsHeld, IsHeldAt, Shows}
use Rattle.mg_image.specs.Indexes.{EachPage, IsFoundIn}
use Rattle.mg_image.specs.Inventory.{header_of, is_used, last_sequence, tip_page}
use Rattle.mg_image.specs.Reached.{linked_pages, tips_of}
use Rattle.mg_image.specs.RecordRules.{AreRecords, Each, Facts, committed_in, table_in}
use Rattle.mg_image.specs.Records.{Change, Reading, cells_of, key_of, newest_of, shown}
use Rattle.mg_image.specs.Sound.{HasInventory, HasTablePages, IsSoundBy, facts_by}
use Rattle.mg_image.specs.Tables.{EachStand, Has, Layout, pages_of, stands_of, table_at}
use Rattle.mg_image.specs.declared.entry.Entry.{Entry}
use Rattle.mg_image_overlay_laws.specs.pages.Grow.{IsWith, header_grows, header_is, once_is_with, tips_are, transactions_grow}
use Rattle.mg_image_overlay_laws.specs.pages.Growth.{page_added}
use Rattle.mg_image_overlay_laws.specs.tables.TableOwners.{names_stay, own_tables_stay}
use Rattle.mg_model.specs.declared.table.Table.{Table}
use Rattle.mg_value.specs.declared.value.Value.{Value}
use Rattle.std.proofs.Common.{Bool, List, None, Option, Some, [], ap, inl, inr, length, refl, subst, sym, true, ℕ, ◌++◌, ◌<◌, ◌∙◌, ◌∷◌, ◌≡◌, ◌≢◌, ◌≤◌, ◌⊎◌}
use Rattle.std.proofs.Math.Path.{fun_ext}
use Rattle.std.proofs.lemmas.Bool.{cases_eq}
use Rattle.std.specs.List.{flat_map}
use Rattle.std.specs.Prelude.{map}

-- A table has a page more, which was not linked, and on which no record begins where it is one of data;
-- the page inventory is lawful, and what else is read is as it was.
pub record Extends (form : Form) (size : ℕ) (old new : Pages) (layout layout_after : Layout) (n : ℕ)
    : Type 0 where
  pub header_page : new 0 ≡ old 0
  pub tips : (sequence : ℕ) → sequence ≤ last_sequence size old
      → new (tip_page size old sequence) ≡ old (tip_page size old sequence)
  pub used : (m : ℕ) → is_used size old m ≡ true → is_used size new m ≡ true
  pub lengths : (m : ℕ) → length (new m) ≡ length (old m)
  pub inventory : HasInventory size new
  pub tables : EachStand (HasTablePages form.in_primary size new) (stands_of layout_after)
  pub catalog : layout_after.catalog.table ≡ layout.catalog.table
  pub names : map (λ stand. stand.table) layout_after.tables ≡ map (λ stand. stand.table) layout.tables
  pub sequences : EachPage (λ m. form.sequence_page (new m) m) layout_after.sequences
  pub linked : IsWith n (linked_pages size old layout)
      (tips_of size old ++ flat_map pages_of (stands_of layout_after) ++ layout_after.sequences)
  pub not_linked : Has (linked_pages size old layout) n → ⊥
  pub no_table : table_at (stands_of layout) n ≡ None
  pub others : (m : ℕ) → m ≢ n → table_at (stands_of layout_after) m ≡ table_at (stands_of layout) m
  pub cells : (x : RecId) (table : Table) → table_at (stands_of layout) x.page.0 ≡ Some table
      → cells_of new x ≡ cells_of old x
  pub no_record : (table : Table) → table_at (stands_of layout_after) n ≡ Some table
      → (x : RecId) → x.page.0 ≡ n → newest_of x (cells_of new x) ≡ None
  pub found : (table : Table) (x : RecId) (row : Row)
      → table_at (stands_of layout) x.page.0 ≡ Some table → IsFoundIn old table.indexes x row
      → IsFoundIn new table.indexes x row

module _ (form : Form) (size : ℕ) (state : ℕ → TxState) (old new : Pages)
    (layout layout_after : Layout) (r : Reading) (n : ℕ)
    (sound : IsSoundBy form size state old layout r)
    (extends : Extends form size old new layout layout_after n) where
  abbrev f : Facts
  f = facts_by state old layout

  abbrev g : Facts
  g = facts_by state new layout_after

  pub header_as : header_of new ≡ header_of old
  header_as = header_is size old new extends.header_page extends.used extends.lengths sound.header
      sound.transactions extends.tips

  -- no record is read of the new page
  empty : (p : RecId) → p.page.0 ≡ n → r p ≡ []
  empty p same = sound.records.outside p (ap f.table_of same ∙ extends.no_table)

  of_before : (p : RecId) (table : Table) → table_in g p ≡ Some table
      → (r p ≡ []) ⊎ (table_in f p ≡ Some table)
  of_before p table of = at (cases_eq p.page.0 n)
    where
      at : (p.page.0 ≡ n) ⊎ (p.page.0 ≢ n) → (r p ≡ []) ⊎ (table_in f p ≡ Some table)
      at (inl same) = inl (empty p same)
      at (inr ne) = inr (sym (extends.others p.page.0 ne) ∙ of)

  of_after : (p : RecId) (table : Table) → table_in f p ≡ Some table → table_in g p ≡ Some table
  of_after p table of = at (cases_eq p.page.0 n)
    where
      at : (p.page.0 ≡ n) ⊎ (p.page.0 ≢ n) → table_in g p ≡ Some table
      at (inl same) =
          let both : Some table ≡ None = sym of ∙ (ap f.table_of same ∙ extends.no_table) in absurd cc
      at (inr ne) = extends.others p.page.0 ne ∙ of

  shows_before : (counts : ℕ → Bool) (p : RecId) (table : Table) (row : Row)
      → Shows g counts r p table row → Shows f counts r p table row
  shows_before counts p table row shows = at (of_before p table shows.of_table)
    where
      at : (r p ≡ []) ⊎ (table_in f p ≡ Some table) → Shows f counts r p table row
      at (inl none) =
          let both : None ≡ Some row = ap (shown counts) (sym none) ∙ shows.row_shown in absurd cc
      at (inr of) = record { of_table = of; row_shown = shows.row_shown }

  shows_after : (counts : ℕ → Bool) (p : RecId) (table : Table) (row : Row)
      → Shows f counts r p table row → Shows g counts r p table row
  shows_after counts p table row shows = record {
    of_table = of_after p table shows.of_table;
    row_shown = shows.row_shown;
  }

  limbo_before : (p : RecId) (table : Table) (e : Entry) → HasLimbo g r p table e → HasLimbo f r p table e
  limbo_before p table e has = at (of_before p table has.of_table)
    where
      at : (r p ≡ []) ⊎ (table_in f p ≡ Some table) → HasLimbo f r p table e
      at (inl none) = let both : [] ≡ e ∷ has.older = sym none ∙ has.newest in absurd cc
      at (inr of) = record {
        of_table = of;
        older = has.older;
        newest = has.newest;
        limbo = has.limbo;
      }

  limbo_after : (p : RecId) (table : Table) (e : Entry) → HasLimbo f r p table e → HasLimbo g r p table e
  limbo_after p table e has = record {
    of_table = of_after p table has.of_table;
    older = has.older;
    newest = has.newest;
    limbo = has.limbo;
  }

  records_after : AreRecords form.coding g (cells_of new) r
  records_after = by (table_at (stands_of layout_after) n) refl
    where
      on_new : AreRecords form.coding f (cells_of new) r
      on_new = records_on_same_cells form.coding f (cells_of old) (cells_of new) r
          (λ p table of. extends.cells p table of) sound.records

      by : (t : Option Table) → table_at (stands_of layout_after) n ≡ t
          → AreRecords form.coding g (cells_of new) r
      by (Some table) is = page_added form.coding f g (cells_of new) r n table (record {
        was = extends.no_table;
        is = is;
        others = extends.others;
        state = refl;
        next = ap (λ (h : Header). h.next.0) header_as;
        oldest = ap (λ (h : Header). h.oit.0) header_as;
      }) (extends.no_record table is) on_new
      by None is = subst (λ (e : Facts). AreRecords form.coding e (cells_of new) r) (sym facts) on_new
        where
          at : (m : ℕ) → (m ≡ n) ⊎ (m ≢ n)
              → table_at (stands_of layout_after) m ≡ table_at (stands_of layout) m
          at m (inl same) = ap (table_at (stands_of layout_after)) same
              ∙ (is ∙ sym (ap (table_at (stands_of layout)) same ∙ extends.no_table))
          at m (inr ne) = extends.others m ne

          table_of : table_at (stands_of layout_after) ≡ table_at (stands_of layout)
          table_of = fun_ext (λ m. at m (cases_eq m n))

          facts : g ≡ f
          facts = λ i. record {
            state = state;
            next = (header_as i).next.0;
            oldest = (header_as i).oit.0;
            table_of = table_of i;
          }

  rows_after : (counts : ℕ → Bool) (table : Table) (rows : Rows) → AreRows f counts r table rows
      → AreRows g counts r table rows
  rows_after counts table rows are = record {
    there = λ p row shows. are.there p row (shows_before counts p table row shows);
    whole = λ key row is. whole key row (are.whole key row is);
  }
    where
      whole : (key : Value) (row : Row)
          → (p : RecId) × Shows f counts r p table row × (key_of table row ≡ key)
          → (p : RecId) × Shows g counts r p table row × (key_of table row ≡ key)
      whole key row (p, shows, keyed) = (p, shows_after counts p table row shows, keyed)

  names_after : HasNames size g r layout_after.catalog.table
      (map (λ stand. stand.table) layout_after.tables)
  names_after = subst (λ (table : Table). HasNames size g r table
      (map (λ stand. stand.table) layout_after.tables)) (sym extends.catalog)
      (subst (HasNames size g r layout.catalog.table) (sym extends.names) (record {
        named = sound.names.named;
        lawful = λ chosen. moved (committed_with f chosen) (sound.names.named chosen)
            (sound.names.lawful chosen);
        all = moved (committed_with f (λ u. true)) (map (λ stand. stand.table) layout.tables)
            sound.names.all;
        stay = sound.names.stay;
      }))
    where
      moved : (counts : ℕ → Bool) (named : List Table)
          → CatalogNames size f counts r layout.catalog.table named
          → CatalogNames size g counts r layout.catalog.table named
      moved counts named is = record {
        rows = is.rows;
        are_rows = rows_after counts layout.catalog.table is.rows is.are_rows;
        are_tables = is.are_tables;
        fit = is.fit;
      }

  owns_after : HasOwnTables g r layout_after.catalog.table
  owns_after = subst (HasOwnTables g r) (sym extends.catalog)
      (own_tables_stay f g r r layout.catalog.table (names_stay f g r r layout.catalog.table (record {
        shows = λ p row shows. shows_after (committed_in f) p layout.catalog.table row shows;
        limbo = λ p e has. limbo_after p layout.catalog.table e has;
        dead = λ t is. is;
      })) (λ p table of. at p table (of_before p table of)))
    where
      at : (p : RecId) (table : Table) → (r p ≡ []) ⊎ (table_in f p ≡ Some table)
          → Each (MayStandIn f r layout.catalog.table table) (r p)
      at p table (inl none) = subst (Each (MayStandIn f r layout.catalog.table table)) (sym none) tt
      at p table (inr of) = sound.own_tables p table of

  pub extend_sound : IsSoundBy form size state new layout_after r
  extend_sound = record {
    header = header_grows size old new extends.header_page extends.used extends.lengths sound.header
        sound.transactions extends.tips;
    transactions = transactions_grow size old new extends.header_page extends.used extends.lengths
        sound.header sound.transactions extends.tips;
    inventory = extends.inventory;
    catalog = extends.catalog ∙ (sound.catalog
        ∙ ap (λ (h : Header). catalog_table h.catalog.0) (sym header_as));
    tables = extends.tables;
    sequences = extends.sequences;
    names = names_after;
    once = once_is_with n (linked_pages size old layout) (linked_pages size new layout_after)
        (subst (λ (tips : List ℕ). IsWith n (linked_pages size old layout)
        (tips ++ flat_map pages_of (stands_of layout_after) ++ layout_after.sequences))
        (sym (tips_are size old new extends.header_page extends.used extends.lengths sound.header
        sound.transactions extends.tips)) extends.linked) sound.once extends.not_linked;
    records = records_after;
    limbo = λ t below. sound.limbo t (subst (λ (h : Header). t < h.oat.0) header_as below);
    own_tables = owns_after;
    indexed = record {
      committed = λ p table row shows. extends.found table p row
          ((shows_before (committed_in f) p table row shows).of_table)
          (sound.indexed.committed p table row (shows_before (committed_in f) p table row shows));
      limbo = λ p table e has alive. extends.found table p e.row ((limbo_before p table e has).of_table)
          (sound.indexed.limbo p table e (limbo_before p table e has) alive);
    };
  }

  -- the same is held
  pub extend_held : (db : Database) → IsHeld f (committed_in f) r db → IsHeld g (committed_in g) r db
  extend_held db held = record {
    there = λ p table row shows has. held.there p table row
        (shows_before (committed_in f) p table row shows) has;
    whole = λ name key row is. at name key row (held.whole name key row is);
    tables = held.tables;
  }
    where
      at : (name : List ℕ) (key : Value) (row : Row) → IsHeldAt f (committed_in f) r name key row
          → IsHeldAt g (committed_in g) r name key row
      at name key row it = record {
        place = it.place;
        table = it.table;
        stored = it.stored;
        shows = shows_after (committed_in f) it.place it.table it.stored it.shows;
        named = it.named;
        keyed = it.keyed;
        told = it.told;
      }

  pub extend_changes : (changes : Changes) → AreChanges f r changes → AreChanges g r changes
  extend_changes changes are = record {
    there = λ p table e has. are.there p table e (limbo_before p table e has);
    whole = λ t name key change is. at t name key change (are.whole t name key change is);
  }
    where
      at : (t : ℕ) (name : List ℕ) (key : Value) (change : Change) → IsChangedAt f r t name key change
          → IsChangedAt g r t name key change
      at t name key change it = record {
        place = it.place;
        table = it.table;
        version = it.version;
        limbo = limbo_after it.place it.table it.version it.limbo;
        its_own = it.its_own;
        named = it.named;
        keyed = it.keyed;
        told = it.told;
      }

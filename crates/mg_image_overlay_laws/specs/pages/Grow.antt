-- A table gets a data page: a sound image stays sound.
use Rattle.mg_base.specs.declared.numbers.RecId.{RecId}
use Rattle.mg_base.specs.declared.transaction.TxState.{TxState}
use Rattle.mg_header.specs.HeaderPage.{header_in}
use Rattle.mg_header.specs.declared.header.Header.{Header}
use Rattle.mg_image.specs.Catalog.{CatalogNames, HasNames, HasOwnTables, MayStandIn, catalog_table, committed_with}
use Rattle.mg_image.specs.FactLaws.{records_on_same_cells}
use Rattle.mg_image.specs.Form.{Form, Pages, Row, Rows}
use Rattle.mg_image.specs.Held.{AreRows, HasLimbo, Shows}
use Rattle.mg_image.specs.Indexes.{EachPage, IsFoundIn}
use Rattle.mg_image.specs.Inventory.{header_of, is_used, last_sequence, tip_before, tip_page}
use Rattle.mg_image.specs.Reached.{IsAsWanted, linked_pages, tips_below, tips_of}
use Rattle.mg_image.specs.RecordRules.{AreRecords, Each, Facts, committed_in, table_in}
use Rattle.mg_image.specs.Records.{Reading, cells_of, key_of, newest_of, shown}
use Rattle.mg_image.specs.Sound.{HasHeader, HasInventory, HasNoneUndrawn, HasTablePages, HasTips, HasTransactions, IsSoundBy, IsUndrawn, facts_by}
use Rattle.mg_image.specs.Tables.{EachStand, Has, IsOnce, Layout, Stand, has, pages_of, stands_of, table_at, tree_pages}
use Rattle.mg_image.specs.declared.entry.Entry.{Entry as Read}
use Rattle.mg_image_overlay_laws.specs.pages.Growth.{AddsPage, GrowsStand, grown, page_added, table_grows, wanted_still}
use Rattle.mg_image_overlay_laws.specs.tables.TableOwners.{names_stay, own_tables_stay}
use Rattle.mg_model.specs.declared.table.Table.{Table}
use Rattle.mg_tip.specs.TipPage.{places, prev_in, state_in, tip_checks}
use Rattle.mg_value.specs.declared.value.Value.{Value}
use Rattle.std.proofs.Common.{Bool, List, None, Some, [], ap, arith, false, inl, inr, length, refl, subst, suc, sym, true, zero, ℕ, ◌%◌, ◌++◌, ◌+◌, ◌-◌, ◌/◌, ◌<◌, ◌==◌, ◌||◌, ◌∙◌, ◌∷◌, ◌≡◌, ◌≢◌, ◌≤◌, ◌⊎◌}
use Rattle.std.proofs.lemmas.Bool.{cases_eq, eq-eqb, ne_eqb}
use Rattle.std.specs.List.{flat_map}
use Rattle.std.specs.Prelude.{if◌then◌else◌, map}

-- ---- lists of stands

-- the pages of stands, where one of them has one more
abbrev pub with_grown : List Stand → Stand → ℕ → List Stand → List Stand
with_grown before stand n after = before ++ (grown stand n ∷ after)

-- the table of a page, where a data page is added
has_last : (ms : List ℕ) (n k : ℕ) → has (ms ++ (n ∷ [])) k ≡ (has ms k || (k == n || false))
has_last [] n k = refl
has_last (m ∷ ms) n k = at (k == m) (has_last ms n k)
  where
    at : (b : Bool) → has (ms ++ (n ∷ [])) k ≡ (has ms k || (k == n || false))
        → (b || has (ms ++ (n ∷ [])) k) ≡ ((b || has ms k) || (k == n || false))
    at true more = refl
    at false more = more

-- another page belongs to whom it did
pub other_table : (before after : List Stand) (stand : Stand) (n k : ℕ) → k ≢ n
    → table_at (with_grown before stand n after) k ≡ table_at (before ++ (stand ∷ after)) k
other_table [] after stand n k ne =
    ap (λ (b : Bool). if b then Some stand.table else table_at after k) (has_last stand.data_pages n k ∙ at (has stand.data_pages k))
  where
    at : (b : Bool) → (b || (k == n || false)) ≡ b
    at true = refl
    at false = rw (ne_eqb k n ne) refl
other_table (other ∷ before) after stand n k ne = at (has other.data_pages k)
    (other_table before after stand n k ne)
  where
    at : (b : Bool)
        → table_at (with_grown before stand n after) k ≡ table_at (before ++ (stand ∷ after)) k
        → (if b then Some other.table else table_at (with_grown before stand n after) k)
        ≡ (if b then Some other.table else table_at (before ++ (stand ∷ after)) k)
    at true more = refl
    at false more = more

-- the new one belongs to the table, where no stand had it
pub its_table : (before after : List Stand) (stand : Stand) (n : ℕ)
    → table_at (before ++ (stand ∷ after)) n ≡ None
    → table_at (with_grown before stand n after) n ≡ Some stand.table
its_table [] after stand n none =
    ap (λ (b : Bool). if b then Some stand.table else table_at after n) (has_last stand.data_pages n n ∙ at (has stand.data_pages n))
  where
    at : (b : Bool) → (b || (n == n || false)) ≡ true
    at true = refl
    at false = rw (eq-eqb n n refl) refl
its_table (other ∷ before) after stand n none = at (has other.data_pages n) none
    (its_table before after stand n)
  where
    at : (b : Bool)
        → (if b then Some other.table else table_at (before ++ (stand ∷ after)) n) ≡ None
        → (table_at (before ++ (stand ∷ after)) n ≡ None
        → table_at (with_grown before stand n after) n ≡ Some stand.table)
        → (if b then Some other.table else table_at (with_grown before stand n after) n)
        ≡ Some stand.table
    at true none more = absurd cc
    at false none more = more none

-- ---- the pages that are linked

assoc : (fs gs hs : List ℕ) → (fs ++ gs) ++ hs ≡ fs ++ (gs ++ hs)
assoc [] gs hs = refl
assoc (f ∷ fs) gs hs = ap (λ (ks : List ℕ). f ∷ ks) (assoc fs gs hs)

-- a list with a number more at some place
pub data IsWith (n : ℕ) : List ℕ → List ℕ → Type 0 where
  here : (ns : List ℕ) → IsWith n ns (n ∷ ns)
  later : (m : ℕ) (ms ns : List ℕ) → IsWith n ms ns → IsWith n (m ∷ ms) (m ∷ ns)

pub with_front : (n : ℕ) (fs ms ns : List ℕ) → IsWith n ms ns → IsWith n (fs ++ ms) (fs ++ ns)
with_front n [] ms ns is = is
with_front n (f ∷ fs) ms ns is = later f (fs ++ ms) (fs ++ ns) (with_front n fs ms ns is)

pub with_back : (n : ℕ) (ms ns bs : List ℕ) → IsWith n ms ns → IsWith n (ms ++ bs) (ns ++ bs)
with_back n ms ns bs (here ks) = here (ks ++ bs)
with_back n ms ns bs (later m ks ls is) = later m (ks ++ bs) (ls ++ bs) (with_back n ks ls bs is)

pub with_last : (n : ℕ) (ms : List ℕ) → IsWith n ms (ms ++ (n ∷ []))
with_last n [] = here []
with_last n (m ∷ ms) = later m ms (ms ++ (n ∷ [])) (with_last n ms)

pub has_with : (n : ℕ) (ms ns : List ℕ) (k : ℕ) → IsWith n ms ns → Has ns k → (k ≡ n) ⊎ Has ms k
has_with n ms ns k (here ls) there = there
has_with n ms ns k (later m ls os is) (inl e) = inr (inl e)
has_with n ms ns k (later m ls os is) (inr more) = at (has_with n ls os k is more)
  where
    at : (k ≡ n) ⊎ Has ls k → (k ≡ n) ⊎ Has (m ∷ ls) k
    at (inl e) = inl e
    at (inr there) = inr (inr there)

-- none stands twice, where it was none of them
pub once_is_with : (n : ℕ) (ms ns : List ℕ) → IsWith n ms ns → IsOnce ms → (Has ms n → ⊥) → IsOnce ns
once_is_with n ms ns (here ls) once out = (out, once)
once_is_with n ms ns (later m ls os is) once out = (
  (λ there. at (has_with n ls os m is there)),
  once_is_with n ls os is once.1 (λ there. out (inr there)),
)
  where
    at : (m ≡ n) ⊎ Has ls m → ⊥
    at (inl e) = out (inl (sym e))
    at (inr there) = once.0 there

stand_with : (stand : Stand) (n : ℕ) → IsWith n (pages_of stand) (pages_of (grown stand n))
stand_with stand n = with_back n (stand.pointers ++ stand.data_pages)
    (stand.pointers ++ (stand.data_pages ++ (n ∷ []))) (tree_pages stand.trees)
    (with_front n stand.pointers stand.data_pages (stand.data_pages ++ (n ∷ []))
    (with_last n stand.data_pages))

pub stands_with : (before after : List Stand) (stand : Stand) (n : ℕ)
    → IsWith n (flat_map pages_of (before ++ (stand ∷ after)))
    (flat_map pages_of (with_grown before stand n after))
stands_with [] after stand n =
    with_back n (pages_of stand) (pages_of (grown stand n)) (flat_map pages_of after) (stand_with stand n)
stands_with (other ∷ before) after stand n =
    with_front n (pages_of other) (flat_map pages_of (before ++ (stand ∷ after)))
    (flat_map pages_of (with_grown before stand n after)) (stands_with before after stand n)

-- ---- header and transactions, where their pages stay and used pages are used still

module _ (size : ℕ) (old new : Pages) (header_page : new 0 ≡ old 0)
    (used : (m : ℕ) → is_used size old m ≡ true → is_used size new m ≡ true)
    (lengths : (m : ℕ) → length (new m) ≡ length (old m))
    (header : HasHeader size old) (transactions : HasTransactions size old)
    (tip_kept : (sequence : ℕ) → sequence ≤ last_sequence size old
    → new (tip_page size old sequence) ≡ old (tip_page size old sequence)) where
  pub header_grows : HasHeader size new
  header_grows = record {
    lawful_size = header.lawful_size;
    whole = λ n. lengths n ∙ header.whole n;
    database = rw header_page header.database;
    fields = rw header_page header.fields;
    used = used 0 header.used;
  }

  pub header_is : header_of new ≡ header_of old
  header_is = ap header_in header_page

  pub last_is : last_sequence size new ≡ last_sequence size old
  last_is = ap (λ (h : Header). (h.next.0 - 1) / places size) header_is

  before_is : (k : ℕ) → k ≤ last_sequence size old
      → tip_before new (header_of old).last_tip.0 k ≡ tip_before old (header_of old).last_tip.0 k
  before_is zero below = refl
  before_is (suc k) below =
      let so : last_sequence size old - (last_sequence size old - k) ≡ k = omega (arith, below) in
      let at_k : new (tip_before old (header_of old).last_tip.0 k)
      ≡ old (tip_before old (header_of old).last_tip.0 k) =
      subst (λ (j : ℕ). new (tip_before old (header_of old).last_tip.0 j)
      ≡ old (tip_before old (header_of old).last_tip.0 j)) so
      (tip_kept (last_sequence size old - k) (omega (arith, below))) in
      ap (λ (page : ℕ). prev_in (new page)) (before_is k (omega (arith, below)))
      ∙ ap prev_in at_k

  pub tip_is : (sequence : ℕ) → sequence ≤ last_sequence size old
      → tip_page size new sequence ≡ tip_page size old sequence
  tip_is sequence below =
      ap (λ (h : Header). tip_before new h.last_tip.0 (last_sequence size new - sequence)) header_is
      ∙ (ap (λ (last : ℕ). tip_before new (header_of old).last_tip.0 (last - sequence)) last_is
      ∙ before_is (last_sequence size old - sequence) (omega (arith, below)))

  pub transactions_grow : HasTransactions size new
  transactions_grow = record { each = each; undrawn = undrawn }
    where
      each : HasTips size new
      each sequence below =
          let within : sequence ≤ last_sequence size old =
          subst (λ (m : ℕ). sequence ≤ m) last_is below in
          subst (λ (n : ℕ). IsAsWanted size new n (tip_checks (new n) n sequence))
          (sym (tip_is sequence within))
          (wanted_still size old new (tip_page size old sequence)
          (tip_checks (old (tip_page size old sequence)) (tip_page size old sequence) sequence)
          (tip_checks (new (tip_page size old sequence)) (tip_page size old sequence) sequence)
          (used (tip_page size old sequence))
          (ap (λ (page : List ℕ). tip_checks page (tip_page size old sequence) sequence)
          (tip_kept sequence within)) (transactions.each sequence within))

      undrawn : HasNoneUndrawn size new
      undrawn t past on =
          let at_last : t / places size ≡ last_sequence size old = on ∙ last_is in
          let within : t / places size ≤ last_sequence size old = omega (arith, at_last) in
          subst (λ (page : List ℕ). IsUndrawn (state_in page (t % places size)))
          (sym (ap new (tip_is (t / places size) within) ∙ tip_kept (t / places size) within))
          (transactions.undrawn t (subst (λ (h : Header). h.next.0 ≤ t) header_is past) at_last)

  pub tips_are : tips_of size new ≡ tips_of size old
  tips_are = ap (λ (n : ℕ). tips_below size new (n + 1)) last_is
      ∙ below (last_sequence size old + 1) (omega arith)
    where
      below : (n : ℕ) → n ≤ last_sequence size old + 1 → tips_below size new n ≡ tips_below size old n
      below zero within = refl
      below (suc n) within =
          ap (λ (page : ℕ). page ∷ tips_below size new n) (tip_is n (omega (arith, within)))
          ∙ ap (λ (pages : List ℕ). tip_page size old n ∷ pages) (below n (omega (arith, within)))

-- ---- the whole

-- What a batch leaves of an image that has its pages: one table has one data page more, an empty
-- one, which was not used; the page inventory is lawful, and all other pages are as they were.
pub record GrowsImage (form : Form) (size : ℕ) (old new : Pages) (before after : List Stand)
    (stand : Stand) (front : List ℕ) (q n : ℕ) (sequences : List ℕ) : Type 0 where
  pub stand_grows : GrowsStand form.in_primary size old new stand front q n
  pub header_page : new 0 ≡ old 0
  pub tips : (sequence : ℕ) → sequence ≤ last_sequence size old
      → new (tip_page size old sequence) ≡ old (tip_page size old sequence)
  pub lengths : (m : ℕ) → length (new m) ≡ length (old m)
  pub inventory : HasInventory size new
  pub before_kept : EachStand (HasTablePages form.in_primary size new) before
  pub after_kept : EachStand (HasTablePages form.in_primary size new) after
  pub sequence_pages : EachPage (λ m. form.sequence_page (new m) m) sequences
  pub fresh : is_used size old n ≡ false
  pub not_linked : Has (tips_of size old ++ flat_map pages_of (before ++ (stand ∷ after)) ++ sequences) n → ⊥
  pub no_table : table_at (before ++ (stand ∷ after)) n ≡ None
  pub cells : (x : RecId) (table : Table) → table_at (before ++ (stand ∷ after)) x.page.0 ≡ Some table
      → cells_of new x ≡ cells_of old x
  pub no_record : (x : RecId) → x.page.0 ≡ n → newest_of x (cells_of new x) ≡ None
  pub found : (table : Table) (x : RecId) (row : List Value)
      → table_at (before ++ (stand ∷ after)) x.page.0 ≡ Some table → IsFoundIn old table.indexes x row
      → IsFoundIn new table.indexes x row

pub each_joined : (P : Stand → Type 0) (before after : List Stand) (stand : Stand) → EachStand P before
    → P stand → EachStand P after → EachStand P (before ++ (stand ∷ after))
each_joined P [] after stand first mid last = (mid, last)
each_joined P (other ∷ before) after stand first mid last =
    (first.0, each_joined P before after stand first.1 mid last)

pub each_mid : (P : Stand → Type 0) (before after : List Stand) (stand : Stand)
    → EachStand P (before ++ (stand ∷ after)) → P stand
each_mid P [] after stand each = each.0
each_mid P (other ∷ before) after stand each = each_mid P before after stand each.1

-- the table of the grown stand is that of the stand: the catalog names the same
names_same : (before after : List Stand) (stand : Stand) (n : ℕ)
    → map (λ (s : Stand). s.table) (with_grown before stand n after)
    ≡ map (λ (s : Stand). s.table) (before ++ (stand ∷ after))
names_same [] after stand n = refl
names_same (other ∷ before) after stand n =
    ap (λ (ts : List Table). other.table ∷ ts) (names_same before after stand n)

module _ (form : Form) (size : ℕ) (state : ℕ → TxState) (old new : Pages) (catalog : Stand)
    (sequences : List ℕ) (r : Reading) (before after : List Stand) (stand : Stand) (front : List ℕ)
    (q n : ℕ) where
  abbrev pub layout : Layout
  layout = record { catalog = catalog; tables = before ++ (stand ∷ after); sequences = sequences }

  abbrev pub layout_after : Layout
  layout_after = record { catalog = catalog; tables = with_grown before stand n after; sequences = sequences }

  module _ (sound : IsSoundBy form size state old layout r)
      (grows : GrowsImage form size old new (catalog ∷ before) after stand front q n sequences) where
    abbrev f : Facts
    f = facts_by state old layout

    abbrev g : Facts
    g = facts_by state new layout_after

    header_as : header_of new ≡ header_of old
    header_as = header_is size old new grows.header_page grows.stand_grows.used grows.lengths
        sound.header sound.transactions grows.tips

    adds : AddsPage f g n stand.table
    adds = record {
      was = grows.no_table;
      is = its_table (catalog ∷ before) after stand n grows.no_table;
      others = λ m ne. other_table (catalog ∷ before) after stand n m ne;
      state = refl;
      next = ap (λ (h : Header). h.next.0) header_as;
      oldest = ap (λ (h : Header). h.oit.0) header_as;
    }

    records_after : AreRecords form.coding g (cells_of new) r
    records_after = page_added form.coding f g (cells_of new) r n stand.table adds grows.no_record
        (records_on_same_cells form.coding f (cells_of old) (cells_of new) r
        (λ p table of. grows.cells p table of) sound.records)

    -- no record is read of the new page
    empty : (p : RecId) → p.page.0 ≡ n → r p ≡ []
    empty p same = sound.records.outside p (ap f.table_of same ∙ grows.no_table)

    of_before : (p : RecId) (table : Table) → table_in g p ≡ Some table
        → (r p ≡ []) ⊎ (table_in f p ≡ Some table)
    of_before p table of = at (cases_eq p.page.0 n)
      where
        at : (p.page.0 ≡ n) ⊎ (p.page.0 ≢ n) → (r p ≡ []) ⊎ (table_in f p ≡ Some table)
        at (inl same) = inl (empty p same)
        at (inr ne) = inr (sym (adds.others p.page.0 ne) ∙ of)

    of_after : (p : RecId) (table : Table) → table_in f p ≡ Some table → table_in g p ≡ Some table
    of_after p table of = at (cases_eq p.page.0 n)
      where
        at : (p.page.0 ≡ n) ⊎ (p.page.0 ≢ n) → table_in g p ≡ Some table
        at (inl same) =
            let both : Some table ≡ None = sym of ∙ (ap f.table_of same ∙ grows.no_table) in absurd cc
        at (inr ne) = adds.others p.page.0 ne ∙ of

    shows_before : (counts : ℕ → Bool) (p : RecId) (table : Table) (row : Row)
        → Shows g counts r p table row → Shows f counts r p table row
    shows_before counts p table row shows = at (of_before p table shows.of_table)
      where
        at : (r p ≡ []) ⊎ (table_in f p ≡ Some table) → Shows f counts r p table row
        at (inl none) =
            let both : None ≡ Some row = ap (shown counts) (sym none) ∙ shows.row_shown in absurd cc
        at (inr of) = record { of_table = of; row_shown = shows.row_shown }

    rows_after : (counts : ℕ → Bool) (table : Table) (rows : Rows) → AreRows f counts r table rows
        → AreRows g counts r table rows
    rows_after counts table rows are = record {
      there = λ p row shows. are.there p row (shows_before counts p table row shows);
      whole = λ key row is. whole key row (are.whole key row is);
    }
      where
        whole : (key : Value) (row : Row)
            → (p : RecId) × Shows f counts r p table row × (key_of table row ≡ key)
            → (p : RecId) × Shows g counts r p table row × (key_of table row ≡ key)
        whole key row (p, shows, keyed) = (
          p,
          record { of_table = of_after p table shows.of_table; row_shown = shows.row_shown },
          keyed,
        )

    names_after : HasNames size g r catalog.table (map (λ (s : Stand). s.table) layout_after.tables)
    names_after = subst (HasNames size g r catalog.table) (sym (names_same before after stand n)) (record {
      named = sound.names.named;
      lawful = λ chosen. moved (committed_with f chosen) (sound.names.named chosen)
          (sound.names.lawful chosen);
      all = moved (committed_with f (λ u. true)) (map (λ (s : Stand). s.table) layout.tables)
          sound.names.all;
      stay = sound.names.stay;
    })
      where
        moved : (counts : ℕ → Bool) (named : List Table)
            → CatalogNames size f counts r catalog.table named
            → CatalogNames size g counts r catalog.table named
        moved counts named is = record {
          rows = is.rows;
          are_rows = rows_after counts catalog.table is.rows is.are_rows;
          are_tables = is.are_tables;
          fit = is.fit;
        }

    owns_after : HasOwnTables g r catalog.table
    owns_after = own_tables_stay f g r r catalog.table (names_stay f g r r catalog.table (record {
      shows = λ p row shows. record {
        of_table = of_after p catalog.table shows.of_table;
        row_shown = shows.row_shown;
      };
      limbo = λ p e has. record {
        of_table = of_after p catalog.table has.of_table;
        older = has.older;
        newest = has.newest;
        limbo = has.limbo;
      };
      dead = λ t is. is;
    })) (λ p table of. at p table (of_before p table of))
      where
        at : (p : RecId) (table : Table) → (r p ≡ []) ⊎ (table_in f p ≡ Some table)
            → Each (MayStandIn f r catalog.table table) (r p)
        at p table (inl none) = subst (Each (MayStandIn f r catalog.table table)) (sym none) tt
        at p table (inr of) = sound.own_tables p table of

    -- the image is sound, and the table has the page
    pub grow_sound : IsSoundBy form size state new layout_after r
    grow_sound = record {
      header = header_grows size old new grows.header_page grows.stand_grows.used grows.lengths
          sound.header sound.transactions grows.tips;
      transactions = transactions_grow size old new grows.header_page grows.stand_grows.used
          grows.lengths sound.header sound.transactions grows.tips;
      inventory = grows.inventory;
      catalog = sound.catalog ∙ ap (λ (h : Header). catalog_table h.catalog.0) (sym header_as);
      tables = each_joined (HasTablePages form.in_primary size new) (catalog ∷ before) after
          (grown stand n) grows.before_kept
          (table_grows form.in_primary size old new stand front q n grows.stand_grows
          (each_mid (HasTablePages form.in_primary size old) (catalog ∷ before) after stand
          sound.tables)) grows.after_kept;
      sequences = grows.sequence_pages;
      names = names_after;
      once = once_is_with n (linked_pages size old layout) (linked_pages size new layout_after)
          linked sound.once grows.not_linked;
      records = records_after;
      limbo = λ t below. sound.limbo t (subst (λ (h : Header). t < h.oat.0) header_as below);
      own_tables = owns_after;
      indexed = record {
        committed = λ p table row shows. grows.found table p row
            ((shows_before (committed_in f) p table row shows).of_table)
            (sound.indexed.committed p table row (shows_before (committed_in f) p table row shows));
        limbo = λ p table e has alive. limbo_found p table e has alive
            (of_before p table has.of_table);
      };
    }
      where
        linked : IsWith n (linked_pages size old layout) (linked_pages size new layout_after)
        linked = subst (λ (tips : List ℕ). IsWith n (linked_pages size old layout)
            (tips ++ flat_map pages_of (stands_of layout_after) ++ sequences))
            (sym (tips_are size old new grows.header_page grows.stand_grows.used grows.lengths
            sound.header sound.transactions grows.tips))
            (with_back n (tips_of size old ++ flat_map pages_of (stands_of layout))
            (tips_of size old ++ flat_map pages_of (stands_of layout_after)) sequences
            (with_front n (tips_of size old) (flat_map pages_of (stands_of layout))
            (flat_map pages_of (stands_of layout_after)) (stands_with (catalog ∷ before) after stand n)))

        limbo_found : (p : RecId) (table : Table) (e : Read) → HasLimbo g r p table e
            → e.version.deleted ≡ false → (r p ≡ []) ⊎ (table_in f p ≡ Some table)
            → IsFoundIn new table.indexes p e.row
        limbo_found p table e has alive (inl none) =
            let both : [] ≡ e ∷ has.older = sym none ∙ has.newest in absurd cc
        limbo_found p table e has alive (inr of) = grows.found table p e.row of
            (sound.indexed.limbo p table e (record {
              of_table = of;
              older = has.older;
              newest = has.newest;
              limbo = has.limbo;
            }) alive)

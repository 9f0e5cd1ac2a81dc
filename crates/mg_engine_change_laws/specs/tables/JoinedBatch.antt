-- A table is made in one batch by a transaction that may have made others before: every overlay is kept for the history
-- with its rows, where the pages that the batch leaves and makes are what they have to be.
use Rattle.std.proofs.Common.{◌≡◌, ◌⊎◌, inl, inr, refl, sym, ap, ◌∙◌, subst, ◌+◌, ℕ, Bool, true, false, List, [], ◌∷◌, Option, None, Some}
use Rattle.std.specs.Prelude.{if◌then◌else◌, map}
use Rattle.mg_base.specs.Disk.{Meaning}
use Rattle.mg_base.specs.Image.{Image}
use Rattle.mg_base.specs.declared.numbers.RecId.{RecId}
use Rattle.mg_base.specs.declared.numbers.TxNo.{TxNo}
use Rattle.mg_base.specs.declared.transaction.TxState.{TxState}
use Rattle.mg_base.specs.declared.transaction.TxState.TheVariants.{Active}
use Rattle.mg_catalog.specs.ByKey.{HaveOwnKeys, by_key}
use Rattle.mg_catalog.specs.RowsSaid.{column_row, column_rows, table_row}
use Rattle.mg_model.specs.declared.opening.Opening.{Opening}
use Rattle.mg_model.specs.declared.table.Table.{Table}
use Rattle.mg_model.specs.CatalogRules.{AreTables}
use Rattle.mg_model.specs.Catalog.{told_cells}
use Rattle.mg_model.specs.Changes.{Cells}
use Rattle.mg_model.specs.History.{Entries}
use Rattle.mg_records.specs.Writing.{new_table, rows_made}
use Rattle.mg_value.specs.declared.shape.Column.{Column}
use Rattle.mg_value.specs.declared.shape.Shape.{Shape}
use Rattle.mg_pool.specs.Batch.{Changed, content_in, lists}
use Rattle.mg_pool.specs.Pool.{shown}
use Rattle.mg_pool.specs.declared.pool.Pool.{Pool}
use Rattle.mg_pool_overlay_laws.specs.Needs.{Asked, Sessions}
use Rattle.mg_space.specs.View.{viewed}
use Rattle.mg_tie_laws.specs.Changed.{BatchIsChanged, ChangesFresh, KeptIn, cache_over, changed_fresh, fresh, needs_in}
use Rattle.mg_overlay_laws.specs.BatchLaws.{good_of_pool}
use Rattle.mg_overlay_laws.specs.Overlays.{LaysBatch, left_state, without}
use Rattle.mg_tie_laws.specs.Batches.{within_self}
use Rattle.mg_tie_laws.specs.FirstPages.{left_within}
use Rattle.mg_image.specs.declared.entry.Entry.{Entry}
use Rattle.mg_image.specs.Catalog.{FitsPages}
use Rattle.mg_image.specs.Form.{Form, Pages, Row}
use Rattle.mg_image.specs.Indexes.{IsFoundIn}
use Rattle.mg_image.specs.Reached.{linked_pages}
use Rattle.mg_image.specs.ReadingLaws.{RowsAreOne}
use Rattle.mg_image.specs.RecordRules.{TakesKey, table_in}
use Rattle.mg_image.specs.Records.{Reading, key_of, record_key}
use Rattle.mg_image.specs.Sound.{HasTablePages, IsSoundBy, facts_by}
use Rattle.mg_image.specs.StepLaws.{put_reading, same_place}
use Rattle.mg_image.specs.Tables.{EachStand, IsOnce, Layout, Stand, has, stands_of, table_at}
use Rattle.mg_image_overlay_laws.specs.transactions.Begins.{Raises}
use Rattle.mg_image_overlay_laws.specs.pages.Kinds.{HasNoSequences}
use Rattle.mg_image_overlay_laws.specs.kept.KeptImages.{IsBehind, IsKept, keeping}
use Rattle.mg_image_overlay_laws.specs.names.Creating.{without_raises}
use Rattle.mg_tie_laws.specs.CatalogRows.{IsRowOf}
use Rattle.mg_tie_laws.specs.Filled.{IsFilled, MayFill, catalog_of}
use Rattle.mg_tie_laws.specs.Filling.{NewRow}
use Rattle.mg_table_batch.specs.Filling.{FillsTable, rows_at}
use Rattle.mg_image_overlay_laws.specs.tables.Growing.{IsTableOf}
use Rattle.mg_tie_laws.specs.Made.{FilledTablesGo, LeavesOthersEach}
use Rattle.mg_tie_laws.specs.Ties.{HoldsOfRows, IsOneOf, row_put, tables_fill_catalogs}
use Rattle.mg_engine_step_laws.specs.tables.SameRecords.{catalog_stands, same_catalog, same_page, same_record}
use Rattle.mg_engine_change_laws.specs.tables.Joined.{IsMade, Joins, layout_with, rows_stored}
use Rattle.mg_engine_change_laws.specs.tables.JoinedKept.{joined_kept}
use Rattle.mg_engine_change_laws.specs.tables.JoinedRows.{catalog_page}
use Rattle.mg_engine_change_laws.specs.tables.Rows.{MadeRow, reading_with, row_told, with_rows}
use Rattle.mg_engine_change_laws.specs.tables.TableReads.{HasRows, MayPut, table_is_read}

-- ---- definitions

-- What the batch leaves and makes of pages, over a layout in which the maker counts as in limbo and one after it in
-- which it counts as dead: all tables have their pages as they were, the new one has its first, and no page is twice.
pub record HasPages (form : Form) (size : ℕ) (old new : Pages) (a c : Layout) (stand : Stand) : Type 0 where
  pub tables_pages : EachStand (HasTablePages form.in_primary size new) a.tables
  pub stand_pages : HasTablePages form.in_primary size new stand
  pub empty : stand.data_pages ≡ []
  pub once : IsOnce (linked_pages size new (layout_with a c stand))
  pub left : (n : ℕ) (table : Table) → table_at a.tables n ≡ Some table → new n ≡ old n
  pub apart : (n : ℕ) (table : Table) → table_at a.tables n ≡ Some table → has c.catalog.data_pages n ≡ false
  pub found : (p : RecId) (table : Table) (row : Row) → table_at a.tables p.page.0 ≡ Some table
      → IsFoundIn old table.indexes p row → IsFoundIn new table.indexes p row

-- the rows of a table say it alone, under their own keys, and no record of a sound image takes one of these
pub record AreItsRows (form : Form) (size : ℕ) (state : ℕ → TxState) (pages : Pages) (rows : List Row) (table : Table)
    : Type 0 where
  pub keys : HaveOwnKeys rows
  pub alone : AreTables (by_key rows) (table ∷ [])
  pub fits : FitsPages size table
  pub free : (chosen : ℕ → Bool) (layout : Layout) (r : Reading)
      → IsSoundBy form size (left_state chosen state) pages layout r → (row : Row) → IsOneOf rows row → (p : RecId)
      → table_in (facts_by (left_state chosen state) pages layout) p ≡ Some layout.catalog.table
      → record_key layout.catalog.table (r p) ≡ key_of layout.catalog.table row
      → TakesKey (facts_by (left_state chosen state) pages layout) (r p) → ⊥

-- What is read of the batch where the maker counts as dead: the pages before it are behind those after, and have the
-- header that they had.
pub record ReadsBatch (form : Form) (size : ℕ) (state : ℕ → TxState) (old new : Pages) : Type 0 where
  pub layout : Layout
  pub reading : Reading
  pub sound : IsSoundBy form size state new layout reading
  pub was : Layout
  pub in_was : Reading
  pub was_sound : IsSoundBy form size state old was in_was
  pub behind : IsBehind size new old layout was
  pub header : new 0 ≡ old 0

-- And what joins the pages with the table, over a layout and a reading in which the maker counts as in limbo.
pub record HasJoined (form : Form) (size : ℕ) (state now : ℕ → TxState) (t : ℕ) (old new : Pages) (rows : List Row)
    (stand : Stand) (a : Layout) (r : Reading) : Type 0 where
  pub batch : ReadsBatch form size state old new
  pub raises : Raises state now t
  pub made : List MadeRow
  pub stored : rows_stored made ≡ rows
  pub joins : Joins form size now t old new a batch.layout r batch.reading made stand

-- ---- lists

puts_of : {D L : Type 0} (store : Pool D L) (image : Image) (t : ℕ) (rows : List Row) (P Q : NewRow → Type 0)
    → ((row : NewRow) → P row → Q row)
    → HoldsOfRows store.geometry.size (catalog_of (shown store.dirty image)) t rows P → MayPut store image t rows Q
puts_of store image t [] P Q gives holds = tt
puts_of store image t (row ∷ rows) P Q gives holds = (
  λ at v stores. gives (row_put at v row) (holds row (inl refl) at v stores),
  puts_of store image t rows P Q gives (λ other is. holds other (inr is)),
)

one_of : (made : List MadeRow) (row : MadeRow) → IsMade made row → IsOneOf (rows_stored made) row.first.row
one_of [] row is = is
one_of (first ∷ made) row (inl same) = inl (ap (λ (x : MadeRow). x.first.row) (sym same))
one_of (first ∷ made) row (inr more) = inr (one_of made row more)

told_stored : (made : List MadeRow) → map row_told made ≡ map told_cells (rows_stored made)
told_stored [] = refl
told_stored (row ∷ made) = ap (λ (rs : List Cells). row_told row ∷ rs) (told_stored made)

told_columns : (name : List ℕ) (key place : ℕ) (columns : List Column)
    → map told_cells (column_rows name key place columns) ≡ column_rows name key place columns
told_columns name key place [] = refl
told_columns name key place (c ∷ cs) =
    ap (λ (rs : List Cells). column_row name key place c ∷ rs) (told_columns name key (place + 1) cs)

-- rows that are stored as those of a table are its rows as a history has them
pub told_made : (name : List ℕ) (shape : Shape) (page : ℕ) (made : List MadeRow)
    → rows_stored made ≡ rows_at name shape page → map row_told made ≡ rows_made name shape
told_made name shape page made stored = told_stored made ∙ (ap (map told_cells) stored
    ∙ ap (λ (rs : List Cells). table_row (new_table name shape) ∷ rs)
    (told_columns name shape.key 0 shape.columns))

-- a reading with rows goes by what was read of the record before
read_alike : (rows : List MadeRow) (r s : Reading) (p : RecId) → r p ≡ s p → reading_with rows r p ≡ reading_with rows s p
read_alike [] r s p same = same
read_alike (row ∷ rows) r s p same = read_alike rows (put_reading r row.at (row.first ∷ []))
    (put_reading s row.at (row.first ∷ [])) p
    (ap (λ (es : List Entry). if same_place p row.at then row.first ∷ [] else es) same)

module _ (form : Form) (one : RowsAreOne form.coding) (none : HasNoSequences form) {D L : Type 0} (m : Meaning D)
    (before after : Pool D L) (i j : Image) (batch : Changed) (asked : Asked) (session : Sessions) (o : Opening)
    (h : Entries) (t : TxNo) (state : ℕ → TxState) (name : List ℕ) (shape : Shape) (stand : Stand)
    (changes : ChangesFresh m before after i j batch)
    (fills : FillsTable before i (catalog_of (shown before.dirty i)) t.0 name shape fresh batch)
    (active : state t.0 ≡ Active)
    (rows_may : HoldsOfRows before.geometry.size (catalog_of (shown before.dirty i)) t.0 (rows_at name shape fills.page)
    (IsRowOf form before.geometry.size t.0 state (shown before.dirty i)))
    (its : AreItsRows form before.geometry.size state (shown before.dirty i) (rows_at name shape fills.page) stand.table)
    (every : KeptIn form before.geometry.size o h state asked session before i) where
  abbrev size : ℕ
  size = before.geometry.size

  abbrev pool : Pages
  pool = shown before.dirty i

  it : BatchIsChanged before after i j batch asked session
  it = changed_fresh m before after i j batch asked session changes

  kept_by : (chosen : ℕ → Bool) → IsKept form before.geometry.size o h (left_state chosen state) (shown before.dirty i)
      (shown before.dirty i)
  kept_by chosen = good_of_pool (keeping form before.geometry.size o h) state (cache_over before i)
      (needs_in asked session before) it.changes.was_clean (λ u p needs. (it.left u p needs).0) every chosen

  -- nothing of the batch is laid
  never : false ≡ true → ⊥
  never is = cc

  lays : LaysBatch (shown before.dirty i) (viewed before i batch) (content_in batch.pages) (lists batch.orders)
      (λ p. false) (shown before.dirty i)
  lays = record {
    was = λ p is. absurd (never is);
    is = λ p is. absurd (never is);
    first = λ a b ordered is. absurd (never is);
    together = λ a b ordered in_batch is. absurd (never is);
  }

  left : (q : ℕ) → content_in batch.pages q ≡ None → shown before.dirty i q ≡ viewed before i batch q
  left q none_ = sym (left_within before i (content_in batch.pages) (lists batch.orders) batch (within_self batch) q
      none_)

  module _ (chosen : ℕ → Bool) (on : chosen t.0 ≡ true) where
    abbrev off : ℕ → TxState
    off = left_state (without t.0 chosen) state

    raises : Raises (left_state (without t.0 chosen) state) (left_state chosen state) t.0
    raises = without_raises state t.0 chosen active on

    abbrev start : IsKept form before.geometry.size o h (left_state (without t.0 chosen) state) (shown before.dirty i)
        (shown before.dirty i)
    start = kept_by (without t.0 chosen)

    abbrev begun : IsFilled form one none before i changes.geometry (left_state (without t.0 chosen) state) o h
        (content_in batch.pages) (lists batch.orders) (viewed before i batch) (λ p. false) (shown before.dirty i) lays
        left fresh
    begun = record { kept = start; header = refl }

    -- the batch, with the maker dead
    rows_now : HasRows form one none before i changes.geometry (left_state (without t.0 chosen) state) o h
        (content_in batch.pages) (lists batch.orders) (viewed before i batch) (λ p. false) (shown before.dirty i) lays
        left start.layout t.0 start.of_pool start.in_pool (rows_at name shape fills.page) batch
    rows_now = table_is_read form one none before i changes.geometry (left_state (without t.0 chosen) state) o h
        (content_in batch.pages) (lists batch.orders) (viewed before i batch) (λ p. false) (shown before.dirty i) lays
        left start.layout t.0 name shape fresh batch fills
        (puts_of before i t.0 (rows_at name shape fills.page)
        (IsRowOf form before.geometry.size t.0 state (shown before.dirty i))
        (MayFill form one none before i changes.geometry (left_state (without t.0 chosen) state) o h
        (content_in batch.pages) (lists batch.orders) (viewed before i batch) (λ p. false) (shown before.dirty i) lays
        left start.layout)
        (λ row is. (
          ap (left_state (without t.0 chosen) state) is.0 ∙ raises.dead,
          is.1 (without t.0 chosen) start.layout start.reading start.sound,
        )) rows_may) (within_self batch) begun

    pub reads_batch : ReadsBatch form before.geometry.size (left_state (without t.0 chosen) state)
        (shown before.dirty i) (viewed before i batch)
    reads_batch = record {
      layout = rows_now.filled.kept.of_pool;
      reading = rows_now.filled.kept.in_pool;
      sound = rows_now.filled.kept.pool_sound;
      was = rows_now.filled.kept.layout;
      in_was = rows_now.filled.kept.reading;
      was_sound = rows_now.filled.kept.sound;
      behind = rows_now.filled.kept.behind;
      header = rows_now.filled.header;
    }

    module _ (was : IsKept form before.geometry.size o h (left_state chosen state) (shown before.dirty i)
        (shown before.dirty i))
        (pages_there : HasPages form before.geometry.size (shown before.dirty i) (viewed before i batch) was.layout
        rows_now.filled.kept.of_pool stand) where
      abbrev a : Layout
      a = was.layout

      abbrev r : Reading
      r = was.reading

      abbrev c : Layout
      c = rows_now.filled.kept.of_pool

      abbrev d : Layout
      d = start.of_pool

      -- the catalog before, in both
      cat_same : a.catalog.table ≡ d.catalog.table
      cat_same = same_catalog form size (left_state chosen state) (left_state (without t.0 chosen) state) pool a d r
          start.in_pool was.sound start.pool_sound

      to_dead : (n : ℕ) → table_at (stands_of a) n ≡ Some a.catalog.table → table_at (stands_of d) n ≡ Some a.catalog.table
      to_dead n is = same_page form one size (left_state chosen state) (left_state (without t.0 chosen) state) pool a d r
          start.in_pool was.sound start.pool_sound a.catalog.table (catalog_stands a)
          (subst (IsTableOf d) (sym cat_same) (catalog_stands d)) n is

      from_dead : (n : ℕ) → table_at (stands_of d) n ≡ Some a.catalog.table → table_at (stands_of a) n ≡ Some a.catalog.table
      from_dead n is = same_page form one size (left_state (without t.0 chosen) state) (left_state chosen state) pool d a
          start.in_pool r start.pool_sound was.sound a.catalog.table
          (subst (IsTableOf d) (sym cat_same) (catalog_stands d)) (catalog_stands a) n is

      read_same : (p : RecId) → table_at (stands_of a) p.page.0 ≡ Some a.catalog.table → r p ≡ start.in_pool p
      read_same p is = same_record form one size (left_state chosen state) (left_state (without t.0 chosen) state) pool a d
          r start.in_pool was.sound start.pool_sound a.catalog.table (catalog_stands a)
          (subst (IsTableOf d) (sym cat_same) (catalog_stands d)) p is

      -- and after
      cat_after : c.catalog.table ≡ a.catalog.table
      cat_after = rows_now.grown.catalog ∙ sym cat_same

      at_cat : (l : Layout) (n : ℕ) → has l.catalog.data_pages n ≡ true
          → table_at (stands_of l) n ≡ Some l.catalog.table
      at_cat l n is = rw is refl

      grown : (n : ℕ) → has a.catalog.data_pages n ≡ true → has c.catalog.data_pages n ≡ true
      grown n is = catalog_page form size (left_state (without t.0 chosen) state) (viewed before i batch) c
          rows_now.filled.kept.in_pool rows_now.filled.kept.pool_sound n
          (rows_now.grown.stays n a.catalog.table (to_dead n (at_cat a n is))
          ∙ ap (λ (x : Table). Some x) (sym cat_after))

      -- a record on a page of the catalog was one of it, or there was none, with the maker alive or dead
      fresh_both : (p : RecId) → has c.catalog.data_pages p.page.0 ≡ true
          → (table_at (stands_of a) p.page.0 ≡ Some a.catalog.table) ⊎ ((r p ≡ []) × (start.in_pool p ≡ []))
      fresh_both p is = by (rows_now.grown.new p.page.0 a.catalog.table
          (at_cat c p.page.0 is ∙ ap (λ (x : Table). Some x) cat_after))
        where
          outside : table_at (stands_of a) p.page.0 ≡ None → r p ≡ []
          outside none_ = was.sound.records.outside p none_

          empty_now : (b : Bool) → has a.catalog.data_pages p.page.0 ≡ b
              → (table_at (stands_of a) p.page.0 ≡ Some a.catalog.table) ⊎ (r p ≡ [])
          empty_now true on_ = inl (at_cat a p.page.0 on_)
          empty_now false off_ = other (table_at a.tables p.page.0) refl
            where
              other : (x : Option Table) → table_at a.tables p.page.0 ≡ x
                  → (table_at (stands_of a) p.page.0 ≡ Some a.catalog.table) ⊎ (r p ≡ [])
              other None none_ = inr (outside (rw off_ none_))
              other (Some x) some =
                  let both : true ≡ false = sym is ∙ pages_there.apart p.page.0 x some in absurd cc

          by : (table_at (stands_of d) p.page.0 ≡ Some a.catalog.table)
              ⊎ ((q : RecId) → q.page.0 ≡ p.page.0 → start.in_pool q ≡ [])
              → (table_at (stands_of a) p.page.0 ≡ Some a.catalog.table) ⊎ ((r p ≡ []) × (start.in_pool p ≡ []))
          by (inl there) = inl (from_dead p.page.0 there)
          by (inr none_) = on_empty (empty_now (has a.catalog.data_pages p.page.0) refl)
            where
              on_empty : (table_at (stands_of a) p.page.0 ≡ Some a.catalog.table) ⊎ (r p ≡ [])
                  → (table_at (stands_of a) p.page.0 ≡ Some a.catalog.table) ⊎ ((r p ≡ []) × (start.in_pool p ≡ []))
              on_empty (inl there) = inl there
              on_empty (inr empty) = inr (empty, none_ p refl)

      alike : (p : RecId) → has c.catalog.data_pages p.page.0 ≡ true → r p ≡ start.in_pool p
      alike p is = by (fresh_both p is)
        where
          by : (table_at (stands_of a) p.page.0 ≡ Some a.catalog.table) ⊎ ((r p ≡ []) × (start.in_pool p ≡ []))
              → r p ≡ start.in_pool p
          by (inl there) = read_same p there
          by (inr none_) = none_.0 ∙ sym none_.1

      on_page : (x : MadeRow) → IsMade rows_now.made x → has c.catalog.data_pages x.at.page.0 ≡ true
      on_page x is = catalog_page form size (left_state (without t.0 chosen) state) (viewed before i batch) c
          rows_now.filled.kept.in_pool rows_now.filled.kept.pool_sound x.at.page.0
          ((rows_now.each x is).placed ∙ ap (λ (y : Table). Some y) (sym (cat_after ∙ was.sound.catalog)))

      joins : Joins form before.geometry.size (left_state chosen state) t.0 (shown before.dirty i)
          (viewed before i batch) was.layout rows_now.filled.kept.of_pool was.reading rows_now.filled.kept.in_pool
          rows_now.made stand
      joins = record {
        header = rows_now.filled.header;
        tables_pages = pages_there.tables_pages;
        stand_pages = pages_there.stand_pages;
        empty = pages_there.empty;
        once = pages_there.once;
        left = pages_there.left;
        apart = pages_there.apart;
        grown = grown;
        fresh = λ p is. fresh_of p (fresh_both p is);
        read = λ p is. ap (λ (s : Reading). s p) rows_now.read
            ∙ sym (read_alike rows_now.made r start.in_pool p (alike p is));
        rows = λ x is. record {
          placed = on_page x is;
          empty = alike x.at (on_page x is) ∙ (rows_now.each x is).empty;
          its = (rows_now.each x is).its;
          stays = (rows_now.each x is).stays;
          free = its.free chosen a r was.sound x.first.row
              (subst (λ (rs : List Row). IsOneOf rs x.first.row) rows_now.stored (one_of rows_now.made x is));
        };
        places = rows_now.places;
        keys = subst HaveOwnKeys (sym rows_now.stored) its.keys;
        alone = subst (λ (rs : List Cells). AreTables (by_key rs) (stand.table ∷ [])) (sym rows_now.stored) its.alone;
        fits = its.fits;
        found = pages_there.found;
      }
        where
          fresh_of : (p : RecId)
              → (table_at (stands_of a) p.page.0 ≡ Some a.catalog.table) ⊎ ((r p ≡ []) × (start.in_pool p ≡ []))
              → (has a.catalog.data_pages p.page.0 ≡ true) ⊎ (r p ≡ [])
          fresh_of p (inl there) = inl (catalog_page form size (left_state chosen state) pool a r was.sound p.page.0 there)
          fresh_of p (inr none_) = inr none_.0

      raised : IsKept form before.geometry.size o (with_rows t (rows_made name shape) h) (left_state chosen state)
          (viewed before i batch) (viewed before i batch)
      raised = subst (λ (rows : List Cells). IsKept form before.geometry.size o (with_rows t rows h)
          (left_state chosen state) (viewed before i batch) (viewed before i batch))
          (told_made name shape fills.page rows_now.made rows_now.stored)
          (joined_kept form before.geometry.size o h (left_state (without t.0 chosen) state) (left_state chosen state) t
          (shown before.dirty i) (viewed before i batch) rows_now.filled.kept.of_pool rows_now.filled.kept.in_pool
          rows_now.made stand raises was rows_now.filled.kept.pool_sound joins)

      has_joined : HasJoined form before.geometry.size (left_state (without t.0 chosen) state)
          (left_state chosen state) t.0 (shown before.dirty i) (viewed before i batch) (rows_at name shape fills.page)
          stand was.layout was.reading
      unfolding reads_batch rows_now
      has_joined = record {
        batch = reads_batch;
        raises = raises;
        made = rows_now.made;
        stored = rows_now.stored;
        joins = joins;
      }

    pub joined_batch : ((a c : Layout) (r rc : Reading)
        → IsSoundBy form before.geometry.size (left_state chosen state) (shown before.dirty i) a r
        → IsSoundBy form before.geometry.size (left_state (without t.0 chosen) state) (viewed before i batch) c rc
        → HasPages form before.geometry.size (shown before.dirty i) (viewed before i batch) a c stand)
        → (was : IsKept form before.geometry.size o h (left_state chosen state) (shown before.dirty i)
        (shown before.dirty i))
        → HasJoined form before.geometry.size (left_state (without t.0 chosen) state)
        (left_state chosen state) t.0 (shown before.dirty i) (viewed before i batch) (rows_at name shape fills.page)
        stand was.layout was.reading
    joined_batch there was = has_joined was (there was.layout rows_now.filled.kept.of_pool was.reading
        rows_now.filled.kept.in_pool was.sound rows_now.filled.kept.pool_sound)

    -- so it is where the pages are there
    made_kept : ((a c : Layout) (r rc : Reading)
        → IsSoundBy form before.geometry.size (left_state chosen state) (shown before.dirty i) a r
        → IsSoundBy form before.geometry.size (left_state (without t.0 chosen) state) (viewed before i batch) c rc
        → HasPages form before.geometry.size (shown before.dirty i) (viewed before i batch) a c stand)
        → IsKept form before.geometry.size o h (left_state chosen state) (shown before.dirty i) (shown before.dirty i)
        → IsKept form before.geometry.size o (with_rows t (rows_made name shape) h) (left_state chosen state)
        (viewed before i batch) (viewed before i batch)
    made_kept there was = raised was (there was.layout rows_now.filled.kept.of_pool was.reading
        rows_now.filled.kept.in_pool was.sound rows_now.filled.kept.pool_sound)

-- ---- the law

-- a table is made in one batch by an active transaction that has not asked for its commit, whatever it has made before:
-- every overlay is kept for the history with an entry for each of its rows
abbrev pub MadeTableKeeps : Form → (D L : Type 0) → Meaning D → Type 0
MadeTableKeeps form D L m = (before after : Pool D L) (i j : Image) (batch : Changed) (asked : Asked)
    (session : Sessions) (o : Opening) (h : Entries) (t : TxNo) (state : ℕ → TxState) (name : List ℕ) (shape : Shape)
    (stand : Stand) → ChangesFresh m before after i j batch
    → (fills : FillsTable before i (catalog_of (shown before.dirty i)) t.0 name shape fresh batch)
    → state t.0 ≡ Active → asked t.0 ≡ false
    -- its rows
    → HoldsOfRows before.geometry.size (catalog_of (shown before.dirty i)) t.0 (rows_at name shape fills.page)
    (IsRowOf form before.geometry.size t.0 state (shown before.dirty i))
    → AreItsRows form before.geometry.size state (shown before.dirty i) (rows_at name shape fills.page) stand.table
    → LeavesOthersEach o t.0 h (with_rows t (rows_made name shape) h)
    -- the pages
    → ((chosen : ℕ → Bool) → chosen t.0 ≡ true → (a c : Layout) (r rc : Reading)
    → IsSoundBy form before.geometry.size (left_state chosen state) (shown before.dirty i) a r
    → IsSoundBy form before.geometry.size (left_state (without t.0 chosen) state) (viewed before i batch) c rc
    → HasPages form before.geometry.size (shown before.dirty i) (viewed before i batch) a c stand)
    → KeptIn form before.geometry.size o h state asked session before i
    → KeptIn form before.geometry.size o (with_rows t (rows_made name shape) h) state asked session after j

pub made_table_keeps : (form : Form) → RowsAreOne form.coding → HasNoSequences form → (D L : Type 0) (m : Meaning D)
    → FilledTablesGo form D L m → MadeTableKeeps form D L m
made_table_keeps form one none D L m go before after i j batch asked session o h t state name shape stand changes fills
    active not_asked rows_may its brings there every =
    go before after i j batch asked session o h (with_rows t (rows_made name shape) h) t.0 state changes
    (tables_fill_catalogs form D L before i (catalog_of (shown before.dirty i)) t.0 name shape t.0 state
    (shown before.dirty i) fresh batch fills rows_may).0 active not_asked brings
    (λ chosen on was kept. subst (λ (pages : Pages). IsKept form before.geometry.size o
    (with_rows t (rows_made name shape) h) (left_state chosen state) pages pages)
    (sym (changed_fresh m before after i j batch asked session changes).pool)
    (made_kept form one none m before after i j batch asked session o h t state name shape stand changes fills active
    rows_may its every chosen on (there chosen on) was)) every

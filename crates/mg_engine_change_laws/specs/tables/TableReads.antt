-- A batch with a new table, step by step, with its maker dead: the catalog's records read as before, and each row as the
-- first version of a new one.
use Rattle.std.proofs.Common.{◌≡◌, ◌≢◌, ◌⊎◌, inl, inr, refl, sym, ap, ◌∙◌, subst, ℕ, true, false, List, [], ◌∷◌, Option, None, Some}
use Rattle.mg_base.specs.Image.{Image}
use Rattle.mg_base.specs.declared.numbers.RecId.{RecId}
use Rattle.mg_base.specs.declared.transaction.TxState.{TxState}
use Rattle.mg_careful.specs.CarefulWrite.{PageSet}
use Rattle.mg_careful.specs.Precedence.{Orders}
use Rattle.mg_model.specs.declared.opening.Opening.{Opening}
use Rattle.mg_model.specs.declared.table.Table.{Table}
use Rattle.mg_model.specs.History.{Entries}
use Rattle.mg_pointer.specs.PointerPage.{new_pointer_page}
use Rattle.mg_pointer.specs.PointerPageLaws.{length-new_pointer_page}
use Rattle.mg_pool.specs.Batch.{Changed}
use Rattle.mg_pool.specs.Pool.{shown}
use Rattle.mg_pool.specs.declared.pool.Pool.{Pool}
use Rattle.mg_space.specs.Taking.{IsGeometry}
use Rattle.mg_space.specs.View.{viewed}
use Rattle.mg_value.specs.declared.shape.Shape.{Shape}
use Rattle.mg_version.specs.declared.cell.TheConstants.{ANCHOR_LEN}
use Rattle.mg_version.specs.declared.cell.Version.{Version}
use Rattle.mg_heap.specs.Growth.{orders_to}
use Rattle.mg_tie_laws.specs.Batches.{IsWithin}
use Rattle.mg_chain.specs.Chains.{newest_link}
use Rattle.mg_tie_laws.specs.PushTies.{written}
use Rattle.mg_tie_laws.specs.Rows.{within_orders}
use Rattle.mg_image.specs.declared.entry.Entry.{Entry}
use Rattle.mg_image.specs.Form.{Form, Pages, Row}
use Rattle.mg_image.specs.ReadingLaws.{RowsAreOne}
use Rattle.mg_image.specs.Records.{Reading, writer}
use Rattle.mg_image.specs.StepLaws.{cases_place, put_reading, same_place}
use Rattle.mg_image.specs.Tables.{Layout, stands_of, table_at}
use Rattle.mg_image_overlay_laws.specs.pages.Kinds.{HasNoSequences}
use Rattle.mg_overlay_laws.specs.Overlays.{LaysBatch}
use Rattle.mg_image_overlay_laws.specs.tables.Growing.{HasGrown}
use Rattle.mg_tie_laws.specs.Filled.{IsFilled, MayFill, ReadsRow, catalog_of, order_reads, order_step, row_reads, row_step, take_reads, take_step}
use Rattle.mg_tie_laws.specs.Filling.{NewRow, TakesAndMakes}
use Rattle.mg_tie_laws.specs.Within.{given_within, made_within}
use Rattle.mg_table_batch.specs.Filling.{FillsTable, PutsRow, PutsRows, PutsTable, StoresRow, page_of_version, puts_more, puts_none, rows_at}
use Rattle.mg_engine_change_laws.specs.tables.Joined.{HasOwnPlace, HaveOwnPlaces, IsMade, rows_stored}
use Rattle.mg_engine_change_laws.specs.tables.Rows.{MadeRow, reading_with}

-- ---- readings

put_some : (r : Reading) (p q : RecId) (e : Entry) → put_reading r p (e ∷ []) q ≡ [] → (q ≢ p) × (r q ≡ [])
put_some r p q e none = at (cases_place q p)
  where
    at : ((q ≡ p) × (same_place q p ≡ true)) ⊎ ((q ≢ p) × (same_place q p ≡ false)) → (q ≢ p) × (r q ≡ [])
    at (inl (is, yes_)) =
        let here : put_reading r p (e ∷ []) q ≡ e ∷ [] = rw yes_ refl in
        let both : e ∷ [] ≡ [] = sym here ∙ none in absurd cc
    at (inr (ne, no_)) =
        let there : put_reading r p (e ∷ []) q ≡ r q = rw no_ refl in (ne, sym there ∙ none)

-- a layout grows, after a record has come
grown_after : (a b c : Layout) (r : Reading) (p : RecId) (e : Entry) → HasGrown a b r
    → HasGrown b c (put_reading r p (e ∷ [])) → HasGrown a c r
grown_after a b c r p e first second = record {
  catalog = second.catalog ∙ first.catalog;
  names = second.names ∙ first.names;
  stays = λ m table is. second.stays m table (first.stays m table is);
  new = λ m table is. at m table (second.new m table is);
}
  where
    at : (m : ℕ) (table : Table)
        → (table_at (stands_of b) m ≡ Some table)
        ⊎ ((q : RecId) → q.page.0 ≡ m → put_reading r p (e ∷ []) q ≡ [])
        → (table_at (stands_of a) m ≡ Some table) ⊎ ((q : RecId) → q.page.0 ≡ m → r q ≡ [])
    at m table (inl was) = first.new m table was
    at m table (inr none) = inr (λ q on. (put_some r p q e (none q on)).1)

grown_self : (a : Layout) (r : Reading) → HasGrown a a r
grown_self a r = record {
  catalog = refl;
  names = refl;
  stays = λ m table is. is;
  new = λ m table is. inl is;
}

-- ---- what holds of each row

-- each row that is stored so may be filled in
abbrev pub MayPut : {D L : Type 0} → Pool D L → Image → ℕ → List Row → (NewRow → Type 0) → Type 0
MayPut store image t [] P = Unit {0}
MayPut store image t (row ∷ rows) P = ((at : RecId) (v : Version)
    → StoresRow store.geometry.size (catalog_of (shown store.dirty image)) t row v
    → P (record { at = at; version = v; row = row })) × MayPut store image t rows P

-- A row stands in a new record of the catalog.
pub record IsPutRow (a c : Layout) (r : Reading) (catalog : Table) (t : ℕ) (row : MadeRow) : Type 0 where
  pub placed : table_at (stands_of c) row.at.page.0 ≡ Some catalog
  pub empty : r row.at ≡ []
  pub its : writer row.first ≡ t
  pub stays : row.first.version.deleted ≡ false

module _ (form : Form) (one : RowsAreOne form.coding) (none : HasNoSequences form) {D L : Type 0}
    (store : Pool D L) (image : Image) (lawful : IsGeometry store.geometry) (state : ℕ → TxState)
    (o : Opening) (h : Entries) (contents : ℕ → Option (List ℕ)) (orders : Orders) (changed : Pages)
    (set_ : PageSet) (img : Pages)
    (lays : LaysBatch (shown store.dirty image) changed contents orders set_ img)
    (left : (m : ℕ) → contents m ≡ None → shown store.dirty image m ≡ changed m) (first : Layout) (t : ℕ) where
  abbrev catalog : Table
  catalog = catalog_of (shown store.dirty image)

  abbrev Filled : Changed → Type 0
  Filled b = IsFilled form one none store image lawful state o h contents orders changed set_ img lays left b

  abbrev May : NewRow → Type 0
  May row = MayFill form one none store image lawful state o h contents orders changed set_ img lays left first row

  -- A batch has come to have these rows.
  pub record HasRows (a : Layout) (r : Reading) (rows : List Row) (new : Changed) : Type 0 where
    pub filled : IsFilled form one none store image lawful state o h contents orders changed set_ img lays left new
    pub made : List MadeRow
    pub stored : rows_stored made ≡ rows
    pub grown : HasGrown a filled.kept.of_pool r
    pub read : filled.kept.in_pool ≡ reading_with made r
    pub each : (row : MadeRow) → IsMade made row
        → IsPutRow a filled.kept.of_pool r (catalog_of (shown store.dirty image)) t row
    pub places : HaveOwnPlaces made

  -- ---- within the batch

  row_within : (old mid : Changed) (row : Row) (at : RecId) → PutsRow store image catalog t old mid row at
      → IsWithin contents orders mid → IsWithin contents orders old
  row_within old mid row at put within = given_within store image contents orders catalog.pointer.0 ANCHOR_LEN old
      put.given at.page put.spot.gives
      (made_within store image contents orders catalog.pointer.0 put.given mid at put.version put.makes within)

  rows_within : (rows : List Row) (old new : Changed) → PutsRows store image catalog t rows old new
      → IsWithin contents orders new → IsWithin contents orders old
  rows_within rows old new (puts_none b) within = within
  rows_within rows old new (puts_more row later before mid after at put more) within =
      row_within before mid row at put (rows_within later mid after more within)

  -- ---- one row

  -- A row was put: the step, and what is read then.
  record OneRow (old mid : Changed) (row : Row) (at : RecId) (was : IsFilled form one none store image lawful state o h
      contents orders changed set_ img lays left old) : Type 0 where
    filled : IsFilled form one none store image lawful state o h contents orders changed set_ img lays left mid
    entry : Entry
    of_row : entry.row ≡ row
    its : writer entry ≡ t
    stays : entry.version.deleted ≡ false
    reads : ReadsRow was.kept.of_pool filled.kept.of_pool was.kept.in_pool filled.kept.in_pool
        (catalog_of (shown store.dirty image)) at entry

  one_row : (old mid : Changed) (row : Row) (at : RecId) → (put : PutsRow store image catalog t old mid row at)
      → ((p : RecId) (v : Version) → StoresRow store.geometry.size catalog t row v
      → May (record { at = p; version = v; row = row })) → IsWithin contents orders mid → (was : Filled old)
      → OneRow old mid row at was
  one_row old mid row at put may within was = record {
    filled = next;
    entry = written put.makes.makes.at put.version None row;
    of_row = refl;
    its = put.stores.stored.its;
    stays = put.stores.stored.deleted;
    reads = row_reads form one none store image lawful state o h contents orders changed set_ img lays left old
        put.given mid (record { at = at; version = put.version; row = row }) put.spot put.makes within holds.0 first
        holds.1 was next.kept.of_pool next.kept.in_pool next.kept.pool_sound;
  }
    where
      holds : MayFill form one none store image lawful state o h contents orders changed set_ img lays left first
          (record { at = at; version = put.version; row = row })
      holds = may at put.version put.stores

      next : IsFilled form one none store image lawful state o h contents orders changed set_ img lays left mid
      next = row_step form one none store image lawful state o h contents orders changed set_ img lays left old
          put.given mid (record { at = at; version = put.version; row = row }) put.spot put.makes within holds.0 first
          holds.1 was

  -- a row in front of others
  row_before : (old mid new : Changed) (row : Row) (rows : List Row) (at : RecId) (was : Filled old)
      (it : OneRow old mid row at was)
      → HasRows it.filled.kept.of_pool it.filled.kept.in_pool rows new
      → HasRows was.kept.of_pool was.kept.in_pool (row ∷ rows) new
  row_before old mid new row rows at was it more = record {
    filled = more.filled;
    made = here ∷ more.made;
    stored = (λ i. it.of_row i ∷ rows_stored more.made) ∙ ap (λ (rs : List Row). row ∷ rs) more.stored;
    grown = grown_after was.kept.of_pool it.filled.kept.of_pool more.filled.kept.of_pool was.kept.in_pool at it.entry
        it.reads.grown (subst (λ (s : Reading). HasGrown it.filled.kept.of_pool more.filled.kept.of_pool s) it.reads.read
        more.grown);
    read = more.read ∙ ap (reading_with more.made) it.reads.read;
    each = each;
    places = (own more.made (λ x is. (was_empty x is).0), more.places);
  }
    where
      here : MadeRow
      here = record { at = at; first = it.entry }

      was_empty : (x : MadeRow) → IsMade more.made x → (x.at ≢ at) × (was.kept.in_pool x.at ≡ [])
      was_empty x is = put_some was.kept.in_pool at x.at it.entry
          (ap (λ (s : Reading). s x.at) (sym it.reads.read) ∙ (more.each x is).empty)

      own : (xs : List MadeRow) → ((x : MadeRow) → IsMade xs x → x.at ≢ at)
          → HasOwnPlace (record { at = at; first = it.entry }) xs
      own [] apart = tt
      own (x ∷ xs) apart = (apart x (inl refl), own xs (λ y is. apart y (inr is)))

      each : (x : MadeRow) → IsMade (record { at = at; first = it.entry } ∷ more.made) x
          → IsPutRow was.kept.of_pool more.filled.kept.of_pool was.kept.in_pool
          (catalog_of (shown store.dirty image)) t x
      each x (inl same) = subst (IsPutRow was.kept.of_pool more.filled.kept.of_pool was.kept.in_pool
          (catalog_of (shown store.dirty image)) t) same (record {
            placed = more.grown.stays at.page.0 (catalog_of (shown store.dirty image)) it.reads.placed;
            empty = it.reads.empty;
            its = it.its;
            stays = it.stays;
          })
      each x (inr is) = record {
        placed = (more.each x is).placed;
        empty = (was_empty x is).1;
        its = (more.each x is).its;
        stays = (more.each x is).stays;
      }

  -- ---- all rows

  no_rows : (b : Changed) (was : Filled b) → HasRows was.kept.of_pool was.kept.in_pool [] b
  no_rows b was = record {
    filled = was;
    made = [];
    stored = refl;
    grown = grown_self was.kept.of_pool was.kept.in_pool;
    read = refl;
    each = λ row is. absurd is;
    places = tt;
  }

  rows_read : (rows : List Row) (old new : Changed) → PutsRows store image catalog t rows old new
      → MayPut store image t rows May → IsWithin contents orders new → (was : Filled old)
      → HasRows was.kept.of_pool was.kept.in_pool rows new
  rows_read rows old new (puts_none b) may within was = no_rows b was
  rows_read rows old new (puts_more row later before mid after at put more) may within was =
      let it = one_row before mid row at put may.0 (rows_within later mid after more within) was in
      row_before before mid after row later at was it
      (rows_read later mid after more may.1 within it.filled)

  -- what reads as before is a start as well
  rows_from : (a b : Layout) (r s : Reading) (rows : List Row) (new : Changed) → (a ≡ b) × (r ≡ s)
      → HasRows b s rows new → HasRows a r rows new
  rows_from a b r s rows new same has_ = subst (λ (x : Layout). HasRows x r rows new) (sym same.0)
      (subst (λ (x : Reading). HasRows b x rows new) (sym same.1) has_)

  table_read : (rows : List Row) (page : ℕ) (old new : Changed) → PutsTable store image catalog t rows page old new
      → MayPut store image t rows May → IsWithin contents orders new → (was : Filled old)
      → HasRows was.kept.of_pool was.kept.in_pool rows new
  table_read [] page old new same may within was = subst (λ (b : Changed). (x : Filled b)
      → HasRows x.kept.of_pool x.kept.in_pool [] new) same (λ x. no_rows new x) was
  table_read (own ∷ columns) page old new (named, puts, more) may within was =
      row_before old puts.put new own columns puts.at was it
      (rows_from it.filled.kept.of_pool ordered.kept.of_pool it.filled.kept.in_pool ordered.kept.in_pool columns new
      (order_reads form one none store image lawful state o h contents orders changed set_ img lays left puts.put named
      (orders_to store.geometry.size page (page_of_version puts.at (newest_link (viewed store image puts.put) puts.at)))
      puts.ordered it.filled ordered.kept.of_pool ordered.kept.in_pool ordered.kept.pool_sound)
      (rows_read columns named new more may.1 within ordered))
    where
      named_within : IsWithin contents orders named
      named_within = rows_within columns named new more within

      it : OneRow old puts.put own puts.at was
      it = one_row old puts.put own puts.at puts.puts may.0
          (within_orders contents orders puts.put named (orders_to store.geometry.size page
          (page_of_version puts.at (newest_link (viewed store image puts.put) puts.at))) puts.ordered named_within) was

      ordered : IsFilled form one none store image lawful state o h contents orders changed set_ img lays left named
      ordered = order_step form one none store image lawful state o h contents orders changed set_ img lays left puts.put
          named (orders_to store.geometry.size page
          (page_of_version puts.at (newest_link (viewed store image puts.put) puts.at))) puts.ordered it.filled

  -- ---- the batch

  -- with the maker dead, the batch has the rows of the table
  pub table_is_read : (name : List ℕ) (shape : Shape) (old new : Changed)
      → (fills : FillsTable store image (catalog_of (shown store.dirty image)) t name shape old new)
      → MayPut store image t (rows_at name shape fills.page) (MayFill form one none store image lawful state o h contents
      orders changed set_ img lays left first) → IsWithin contents orders new
      → (was : IsFilled form one none store image lawful state o h contents orders changed set_ img lays left old)
      → HasRows was.kept.of_pool was.kept.in_pool (rows_at name shape fills.page) new
  table_is_read name shape old new fills may within was =
      rows_from was.kept.of_pool begun.kept.of_pool was.kept.in_pool begun.kept.in_pool
      (rows_at name shape fills.page) new
      (take_reads form one none store image lawful state o h contents orders changed set_ img lays left old fills.begun
      fills.page (new_pointer_page store.geometry.size fills.page fills.page 0) taking was begun.kept.of_pool
      begun.kept.in_pool begun.kept.pool_sound)
      (table_read (rows_at name shape fills.page) fills.page fills.begun new fills.rows may within begun)
    where
      taking : TakesAndMakes store image old fills.begun fills.page
          (new_pointer_page store.geometry.size fills.page fills.page 0)
      taking = record {
        taken = fills.takes.taken;
        bit = fills.takes.bit;
        takes = fills.takes.takes;
        puts = fills.takes.puts;
        len = length-new_pointer_page store.geometry.size fills.page fills.page 0;
      }

      begun : IsFilled form one none store image lawful state o h contents orders changed set_ img lays left fills.begun
      begun = take_step form one none store image lawful state o h contents orders changed set_ img lays left old
          fills.begun fills.page (new_pointer_page store.geometry.size fills.page fills.page 0) taking was

-- ---- the law

-- a batch with a new table, where its maker counts as dead: over all that a sound image may have of it the catalog's
-- records read as they did, and each row of the table as the first version of a record that had none
abbrev pub TablesAreRead : Form → (D L : Type 0) → Type 0
TablesAreRead form D L = (one : RowsAreOne form.coding) (none : HasNoSequences form) (store : Pool D L) (image : Image)
    (lawful : IsGeometry store.geometry) (state : ℕ → TxState) (o : Opening) (h : Entries)
    (contents : ℕ → Option (List ℕ)) (orders : Orders) (changed : Pages) (set_ : PageSet) (img : Pages)
    (lays : LaysBatch (shown store.dirty image) changed contents orders set_ img)
    (left : (m : ℕ) → contents m ≡ None → shown store.dirty image m ≡ changed m) (first : Layout) (t : ℕ)
    (name : List ℕ) (shape : Shape) (old new : Changed)
    → (fills : FillsTable store image (catalog_of (shown store.dirty image)) t name shape old new)
    → MayPut store image t (rows_at name shape fills.page) (MayFill form one none store image lawful state o h contents
    orders changed set_ img lays left first) → IsWithin contents orders new
    → (was : IsFilled form one none store image lawful state o h contents orders changed set_ img lays left old)
    → HasRows form one none store image lawful state o h contents orders changed set_ img lays left first t
    was.kept.of_pool was.kept.in_pool (rows_at name shape fills.page) new

pub tables_are_read : (form : Form) (D L : Type 0) → TablesAreRead form D L
tables_are_read form D L one none store image lawful state o h contents orders changed set_ img lays left first t name
    shape old new fills may within was = table_is_read form one none store image lawful state o h contents orders
    changed set_ img lays left first t name shape old new fills may within was

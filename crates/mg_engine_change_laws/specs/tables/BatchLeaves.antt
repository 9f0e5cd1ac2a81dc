-- What a batch with a new table leaves of the pages, from what is read of it where the maker counts as dead.
use Rattle.std.proofs.Common.{◌≡◌, ◌≢◌, sym, ap, ◌∙◌, subst, ◌^◌, ◌<◌, ◌≤◌, arith, ℕ, true, false, List, ◌++◌}
use Rattle.mg_base.specs.Checks.{Check, PassesAll, common_checks}
use Rattle.mg_base.specs.Disk.{Meaning}
use Rattle.mg_base.specs.Fields.{byte}
use Rattle.mg_base.specs.Image.{Image}
use Rattle.mg_base.specs.declared.numbers.TxNo.{TxNo}
use Rattle.mg_base.specs.declared.transaction.TxState.{TxState}
use Rattle.mg_base.specs.declared.transaction.TxState.TheVariants.{Active}
use Rattle.mg_header.specs.HeaderPage.{header_in}
use Rattle.mg_heap.specs.Reading.{owner_in}
use Rattle.mg_value.specs.declared.shape.Shape.{Shape}
use Rattle.mg_model.specs.declared.opening.Opening.{Opening}
use Rattle.mg_model.specs.declared.table.Table.{Table}
use Rattle.mg_model.specs.History.{Entries}
use Rattle.mg_pointer.specs.PointerPage.{new_pointer_page, pointer_checks}
use Rattle.mg_pointer.specs.PointerPageLaws.{new_page_passes}
use Rattle.mg_image.specs.Form.{Form, Pages}
use Rattle.mg_image.specs.Inventory.{is_used, next_of}
use Rattle.mg_image.specs.ReadingLaws.{RowsAreOne}
use Rattle.mg_image.specs.Records.{Reading}
use Rattle.mg_image.specs.Sound.{IsSoundBy}
use Rattle.mg_image.specs.Tables.{Layout, pages_of}
use Rattle.std.specs.List.{flat_map}
use Rattle.mg_image_overlay_laws.specs.pages.DataPages.{kind_of}
use Rattle.mg_image_overlay_laws.specs.pages.Growth.{has_front}
use Rattle.mg_image_overlay_laws.specs.pages.Kinds.{HasNoSequences, linked_is, stands_linked}
use Rattle.mg_pool.specs.Batch.{Changed}
use Rattle.mg_pool.specs.Pool.{shown}
use Rattle.mg_pool.specs.declared.pool.Pool.{Pool}
use Rattle.mg_pool_overlay_laws.specs.Needs.{Asked, Sessions}
use Rattle.mg_space.specs.TakingLaws.{page_sizes}
use Rattle.mg_space.specs.View.{viewed}
use Rattle.mg_tie_laws.specs.Changed.{BatchIsChanged, ChangesFresh, KeptIn, changed_fresh, fresh}
use Rattle.mg_tie_laws.specs.CatalogRows.{IsRowOf}
use Rattle.mg_tie_laws.specs.Filled.{catalog_of}
use Rattle.mg_tie_laws.specs.FilledPages.{filled_pages_stay}
use Rattle.mg_tie_laws.specs.Filling.{Fills, HasTaken}
use Rattle.mg_tie_laws.specs.Others.{IsLeft, IsOther}
use Rattle.mg_table_batch.specs.Filling.{FillsTable, rows_at}
use Rattle.mg_tie_laws.specs.Ties.{HoldsOfRows, tables_fill_catalogs}
use Rattle.mg_engine_change_laws.specs.tables.JoinedBatch.{ReadsBatch}
use Rattle.mg_engine_step_laws.specs.commits.ListShows.{BehindKeepsTips}
use Rattle.mg_engine_change_laws.specs.tables.StandMade.{LeavesPages}
use Rattle.mg_engine_change_laws.specs.tables.StandMadeLaws.{has_first}

owner_with : (page : List ℕ) (n kind owner seq : ℕ) (rest : List Check)
    → PassesAll (common_checks page n kind owner seq ++ rest) → owner_in page ≡ owner
unfolding common_checks
owner_with page n kind owner seq rest passes = passes.1.1.1.1.0

-- what a new first pointer page says itself
new_page_says : (size page : ℕ) → 1024 ≤ size → page < 2 ^ 32
    → (3 ≤ byte (new_pointer_page size page page 0) 0) × (owner_in (new_pointer_page size page page 0) ≡ page)
unfolding pointer_checks
new_page_says size page large small =
    let passes : PassesAll (pointer_checks (new_pointer_page size page page 0) page page 0) =
    new_page_passes size page page 0 (omega (arith, large)) small small (omega arith) in
    let kind : byte (new_pointer_page size page page 0) 0 ≡ 4 =
    kind_of (new_pointer_page size page page 0) page 4 page 0 _ passes in (
      omega (arith, kind),
      owner_with (new_pointer_page size page page 0) page 4 page 0 _ passes,
    )

module _ (form : Form) (one : RowsAreOne form.coding) (none : HasNoSequences form) (behind_keeps : BehindKeepsTips)
    {D L : Type 0} (m : Meaning D) (before after : Pool D L) (i j : Image) (batch : Changed) (asked : Asked)
    (session : Sessions) (o : Opening) (h : Entries) (t : TxNo) (state : ℕ → TxState) (name : List ℕ) (shape : Shape)
    (changes : ChangesFresh m before after i j batch)
    (fills : FillsTable before i (catalog_of (shown before.dirty i)) t.0 name shape fresh batch)
    (active : state t.0 ≡ Active)
    (rows_may : HoldsOfRows before.geometry.size (catalog_of (shown before.dirty i)) t.0 (rows_at name shape fills.page)
    (IsRowOf form before.geometry.size t.0 state (shown before.dirty i)))
    (every : KeptIn form before.geometry.size o h state asked session before i) where
  it : BatchIsChanged before after i j batch asked session
  it = changed_fresh m before after i j batch asked session changes

  filled : (made : Fills before i (catalog_of (shown before.dirty i)).pointer.0
      (IsRowOf form before.geometry.size t.0 state (shown before.dirty i)) fresh batch)
      × HasTaken before i (catalog_of (shown before.dirty i)).pointer.0
      (IsRowOf form before.geometry.size t.0 state (shown before.dirty i)) fresh batch made
      fills.page (new_pointer_page before.geometry.size fills.page fills.page 0)
  filled = tables_fill_catalogs form D L before i (catalog_of (shown before.dirty i)) t.0 name shape t.0 state
      (shown before.dirty i) fresh batch fills rows_may

  stay : ((k : ℕ) → IsOther before.geometry.size (shown before.dirty i) (catalog_of (shown before.dirty i)).pointer.0 k
      → IsLeft before.geometry.size (shown before.dirty i) (shown after.dirty j)
      (catalog_of (shown before.dirty i)).pointer.0 k)
      × ((n : ℕ) (bytes : List ℕ) → HasTaken before i (catalog_of (shown before.dirty i)).pointer.0
      (IsRowOf form before.geometry.size t.0 state (shown before.dirty i)) fresh batch filled.0 n bytes
      → 3 ≤ byte bytes 0 → owner_in bytes ≢ (catalog_of (shown before.dirty i)).pointer.0
      → (shown after.dirty j n ≡ bytes)
      × IsOther before.geometry.size (shown after.dirty j) (catalog_of (shown before.dirty i)).pointer.0 n)
  stay = filled_pages_stay form one none D L m before after i j batch asked session o h t.0 state changes filled.0 active
      every

  pub below : fills.page < 131072
  below = let a = fills.takes.takes.free.below in omega (arith, a)

  pub batch_leaves : (of_state dead : ℕ → TxState) (a : Layout) (r : Reading)
      → IsSoundBy form before.geometry.size of_state (shown before.dirty i) a r
      → ReadsBatch form before.geometry.size dead (shown before.dirty i) (viewed before i batch)
      → LeavesPages before.geometry.size (shown before.dirty i) (viewed before i batch) a.catalog.table.pointer.0
      fills.page
  batch_leaves of_state dead a r sound reads = record {
    header = reads.header;
    next = next_is;
    tips = behind_keeps before.geometry.size (shown before.dirty i) (viewed before i batch) reads.was reads.layout
        reads.behind next_is;
    used = reads.behind.used;
    left = λ k other. subst (λ (owner : ℕ). IsLeft before.geometry.size (shown before.dirty i) (viewed before i batch)
        owner k) (sym owner_is) (subst (λ (pages : Pages). IsLeft before.geometry.size (shown before.dirty i) pages
        (catalog_of (shown before.dirty i)).pointer.0 k) it.pool
        (stay.0 k (subst (λ (owner : ℕ). IsOther before.geometry.size (shown before.dirty i) owner k) owner_is other)));
    some = fills.takes.takes.free.no_header;
    below = below;
    was_free = fills.takes.takes.free.unused;
    made = ap (λ (pages : Pages). pages fills.page) (sym it.pool) ∙ taken.0;
    other = subst (λ (owner : ℕ). IsOther before.geometry.size (viewed before i batch) owner fills.page) (sym owner_is)
        (subst (λ (pages : Pages). IsOther before.geometry.size pages (catalog_of (shown before.dirty i)).pointer.0
        fills.page) it.pool taken.1);
  }
    where
      next_is : next_of (viewed before i batch) ≡ next_of (shown before.dirty i)
      next_is = ap (λ (bytes : List ℕ). (header_in bytes).next.0) reads.header

      owner_is : a.catalog.table.pointer.0 ≡ (catalog_of (shown before.dirty i)).pointer.0
      owner_is = ap (λ (x : Table). x.pointer.0) sound.catalog

      says : (3 ≤ byte (new_pointer_page before.geometry.size fills.page fills.page 0) 0)
          × (owner_in (new_pointer_page before.geometry.size fills.page fills.page 0) ≡ fills.page)
      says = new_page_says before.geometry.size fills.page (page_sizes before.geometry.size sound.header.lawful_size).0
          (let few = below in omega (arith, few))

      -- the catalog's first page is in use
      catalog_used : is_used before.geometry.size (shown before.dirty i) a.catalog.table.pointer.0 ≡ true
      catalog_used = (linked_is form before.geometry.size of_state (shown before.dirty i) a r none sound
          a.catalog.table.pointer.0 (stands_linked before.geometry.size (shown before.dirty i) a
          a.catalog.table.pointer.0 (has_front (pages_of a.catalog) (flat_map pages_of a.tables)
          a.catalog.table.pointer.0
          (has_first form.in_primary before.geometry.size (shown before.dirty i) a.catalog sound.tables.0)))).used

      apart : owner_in (new_pointer_page before.geometry.size fills.page fills.page 0)
          ≢ (catalog_of (shown before.dirty i)).pointer.0
      apart same =
          let here_ : fills.page ≡ a.catalog.table.pointer.0 = sym says.1 ∙ (same ∙ sym owner_is) in
          let both : true ≡ false = sym catalog_used ∙ (ap (is_used before.geometry.size (shown before.dirty i))
          (sym here_) ∙ fills.takes.takes.free.unused) in absurd cc

      taken : (shown after.dirty j fills.page ≡ new_pointer_page before.geometry.size fills.page fills.page 0)
          × IsOther before.geometry.size (shown after.dirty j) (catalog_of (shown before.dirty i)).pointer.0 fills.page
      taken = stay.1 fills.page (new_pointer_page before.geometry.size fills.page fills.page 0) filled.1 says.0 apart

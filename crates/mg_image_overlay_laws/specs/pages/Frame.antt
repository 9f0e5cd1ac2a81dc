-- Pages that nothing links change: a sound image stays sound.
use Rattle.mg_base.specs.Checks.{common_checks}
use Rattle.mg_base.specs.declared.transaction.TxState.{TxState}
use Rattle.mg_header.specs.declared.header.Header.{Header}
use Rattle.mg_image.specs.Catalog.{HasNames, HasOwnTables, catalog_table}
use Rattle.mg_image.specs.FactLaws.{records_on_same_cells}
use Rattle.mg_image.specs.Form.{Form, Pages}
use Rattle.mg_image.specs.Indexes.{AreTrees, EachPage}
use Rattle.mg_image.specs.Inventory.{header_of, is_used, last_sequence, tip_page}
use Rattle.mg_image.specs.KeptPageLaws.{each_from_has, entries_kept, link_chain_kept}
use Rattle.mg_image.specs.Reached.{linked_pages, tips_below, tips_of}
use Rattle.mg_image.specs.RecordRules.{AreRecords, Facts}
use Rattle.mg_image.specs.Records.{Reading, cells_of, slot_cell}
use Rattle.mg_image.specs.Sound.{HasInventory, HasTablePages, IsIndexed, IsSoundBy, IsTableData, IsTablePointer, facts_by}
use Rattle.mg_image.specs.Tables.{EachStand, Has, IsOnce, Layout, Stand, has, pages_of, stands_of, table_at, tree_pages}
use Rattle.mg_image_overlay_laws.specs.pages.DataSound.{KeepsTrees}
use Rattle.mg_image_overlay_laws.specs.pages.Grow.{header_grows, header_is, tips_are, transactions_grow}
use Rattle.mg_image_overlay_laws.specs.pages.Growth.{has_back, has_front, wanted_still}
use Rattle.mg_model.specs.declared.table.Table.{Table}
use Rattle.mg_pointer.specs.PointerPage.{next_in, pointer_checks}
use Rattle.mg_slots.specs.DataPage.{cell_of}
use Rattle.mg_slots.specs.declared.page.TheConstants.{DATA_KIND}
use Rattle.std.proofs.Common.{Bool, List, Some, [], ap, arith, false, inl, inr, length, refl, subst, suc, sym, true, zero, ℕ, ◌++◌, ◌+◌, ◌<◌, ◌==◌, ◌||◌, ◌∙◌, ◌∷◌, ◌≡◌, ◌≢◌, ◌≤◌, ◌⊎◌}
use Rattle.std.proofs.lemmas.Bool.{cases_eq, eqb-true}
use Rattle.std.specs.List.{flat_map}
use Rattle.std.specs.Prelude.{if◌then◌else◌, map}

has_it : (ns : List ℕ) (n : ℕ) → has ns n ≡ true → Has ns n
has_it [] n is = absurd cc
has_it (m ∷ ms) n is = at (n == m) refl is (has_it ms n)
  where
    at : (c : Bool) → (n == m) ≡ c → (c || has ms n) ≡ true → (has ms n ≡ true → Has ms n)
        → (n ≡ m) ⊎ Has ms n
    at true same is more = inl (eqb-true n m same)
    at false other is more = inr (more is)

-- Nothing that is linked changes, and what was used is used still.
pub record KeepsLinked (form : Form) (size : ℕ) (old new : Pages) (layout : Layout) : Type 0 where
  pub header_page : new 0 ≡ old 0
  pub linked : (m : ℕ) → Has (linked_pages size old layout) m → new m ≡ old m
  pub used : (m : ℕ) → is_used size old m ≡ true → is_used size new m ≡ true
  pub lengths : (m : ℕ) → length (new m) ≡ length (old m)
  pub inventory : HasInventory size new
  pub trees : KeepsTrees old new size layout
  pub sequences : EachPage (λ n. form.sequence_page (new n) n) layout.sequences

module _ (form : Form) (size : ℕ) (state : ℕ → TxState) (old new : Pages) (layout : Layout)
    (r : Reading) (sound : IsSoundBy form size state old layout r)
    (keeps : KeepsLinked form size old new layout) where
  tip_there : (n sequence : ℕ) → sequence < n → Has (tips_below size old n) (tip_page size old sequence)
  tip_there zero sequence below = absurd (omega (arith, below))
  tip_there (suc n) sequence below = at (cases_eq sequence n) (tip_there n sequence)
    where
      at : (sequence ≡ n) ⊎ (sequence ≢ n)
          → (sequence < n → Has (tips_below size old n) (tip_page size old sequence))
          → (tip_page size old sequence ≡ tip_page size old n)
          ⊎ Has (tips_below size old n) (tip_page size old sequence)
      at (inl e) more = inl (ap (tip_page size old) e)
      at (inr ne) more = inr (more (omega (arith, below, ne)))

  pub tip_kept : (sequence : ℕ) → sequence ≤ last_sequence size old
      → new (tip_page size old sequence) ≡ old (tip_page size old sequence)
  tip_kept sequence below = keeps.linked (tip_page size old sequence)
      (has_front (tips_of size old ++ flat_map pages_of (stands_of layout)) layout.sequences
      (tip_page size old sequence) (has_front (tips_of size old)
      (flat_map pages_of (stands_of layout)) (tip_page size old sequence)
      (tip_there (last_sequence size old + 1) sequence (omega (arith, below)))))

  pub header_as : header_of new ≡ header_of old
  header_as = header_is size old new keeps.header_page keeps.used keeps.lengths sound.header
      sound.transactions tip_kept

  -- a page of a stand is linked
  of_stands : (m : ℕ) → Has (flat_map pages_of (stands_of layout)) m → new m ≡ old m
  of_stands m is = keeps.linked m (has_front (tips_of size old
      ++ flat_map pages_of (stands_of layout)) layout.sequences m
      (has_back (tips_of size old) (flat_map pages_of (stands_of layout)) m is))

  stand_kept : (stand : Stand) → ((m : ℕ) → Has (pages_of stand) m → new m ≡ old m)
      → AreTrees size new stand.table.pointer.0 stand.table.indexes stand.trees
      → HasTablePages form.in_primary size old stand → HasTablePages form.in_primary size new stand
  stand_kept stand same trees has_ = record {
    first = has_.first;
    chain = link_chain_kept (λ n. next_in (old n)) (λ n. next_in (new n)) stand.table.pointer.0
        stand.pointers (λ n is. ap next_in (pointer_same n is)) has_.chain;
    entries = has_.entries ∙ sym (entries_kept old new stand.pointers pointer_same);
    pointers = each_from_has (IsTablePointer size old owner) (IsTablePointer size new owner) 0
        stand.pointers (λ j n is wanted. wanted_still size old new n (pointer_checks (old n) n owner j)
        (pointer_checks (new n) n owner j) (keeps.used n)
        (ap (λ (page : List ℕ). pointer_checks page n owner j) (pointer_same n is)) wanted)
        has_.pointers;
    data_pages = each_from_has (IsTableData form.in_primary size old owner)
        (IsTableData form.in_primary size new owner) 0 stand.data_pages data_kept has_.data_pages;
    trees = trees;
  }
    where
      owner : ℕ
      owner = stand.table.pointer.0

      pointer_same : (n : ℕ) → Has stand.pointers n → new n ≡ old n
      pointer_same n is = same n (has_front (stand.pointers ++ stand.data_pages)
          (tree_pages stand.trees) n (has_front stand.pointers stand.data_pages n is))

      data_same : (n : ℕ) → Has stand.data_pages n → new n ≡ old n
      data_same n is = same n (has_front (stand.pointers ++ stand.data_pages)
          (tree_pages stand.trees) n (has_back stand.pointers stand.data_pages n is))

      data_kept : (j n : ℕ) → Has stand.data_pages n
          → IsTableData form.in_primary size old owner j n
          → IsTableData form.in_primary size new owner j n
      data_kept j n is was = record {
        wanted = wanted_still size old new n (common_checks (old n) n DATA_KIND owner j)
            (common_checks (new n) n DATA_KIND owner j) (keeps.used n)
            (ap (λ (page : List ℕ). common_checks page n DATA_KIND owner j) (data_same n is))
            was.wanted;
        lawful = rw (data_same n is) was.lawful;
        cells = rw (data_same n is) was.cells;
      }

  stands_kept : (stands : List Stand) → ((m : ℕ) → Has (flat_map pages_of stands) m → new m ≡ old m)
      → EachStand (λ stand. AreTrees size new stand.table.pointer.0 stand.table.indexes stand.trees) stands
      → EachStand (HasTablePages form.in_primary size old) stands
      → EachStand (HasTablePages form.in_primary size new) stands
  stands_kept [] same trees has_ = tt
  stands_kept (stand ∷ stands) same trees has_ = (
    stand_kept stand (λ m is. same m (has_front (pages_of stand) (flat_map pages_of stands) m is))
        trees.0 has_.0,
    stands_kept stands (λ m is. same m (has_back (pages_of stand) (flat_map pages_of stands) m is))
        trees.1 has_.1,
  )

  page_there : (stands : List Stand) (n : ℕ) (table : Table) → table_at stands n ≡ Some table
      → Has (flat_map pages_of stands) n
  page_there [] n table is = absurd cc
  page_there (stand ∷ stands) n table is = at (has stand.data_pages n) refl is
      (page_there stands n table)
    where
      at : (c : Bool) → has stand.data_pages n ≡ c
          → (if c then Some stand.table else table_at stands n) ≡ Some table
          → (table_at stands n ≡ Some table → Has (flat_map pages_of stands) n)
          → Has (flat_map pages_of (stand ∷ stands)) n
      at true in_it is more = has_front (pages_of stand) (flat_map pages_of stands) n
          (has_front (stand.pointers ++ stand.data_pages) (tree_pages stand.trees) n
          (has_back stand.pointers stand.data_pages n (has_it stand.data_pages n in_it)))
      at false out is more = has_back (pages_of stand) (flat_map pages_of stands) n (more is)

  pub facts_same : facts_by state new layout ≡ facts_by state old layout
  facts_same =
      let F : Header → Facts = λ h. record {
        state = state;
        next = h.next.0;
        oldest = h.oit.0;
        table_of = table_at (stands_of layout);
      } in ap F header_as

  pub frame_sound : IsSoundBy form size state new layout r
  frame_sound = record {
    header = header_grows size old new keeps.header_page keeps.used keeps.lengths sound.header
        sound.transactions tip_kept;
    transactions = transactions_grow size old new keeps.header_page keeps.used keeps.lengths
        sound.header sound.transactions tip_kept;
    inventory = keeps.inventory;
    catalog = sound.catalog ∙ ap (λ (h : Header). catalog_table h.catalog.0) (sym header_as);
    tables = stands_kept (stands_of layout) of_stands keeps.trees.trees sound.tables;
    sequences = keeps.sequences;
    names = subst (λ (f : Facts). HasNames size f r layout.catalog.table
        (map (λ stand. stand.table) layout.tables)) (sym facts_same) sound.names;
    once = subst (λ (tips : List ℕ). IsOnce (tips ++ flat_map pages_of (stands_of layout)
        ++ layout.sequences)) (sym (tips_are size old new keeps.header_page keeps.used keeps.lengths
        sound.header sound.transactions tip_kept)) sound.once;
    records = subst (λ (f : Facts). AreRecords form.coding f (cells_of new) r) (sym facts_same)
        (records_on_same_cells form.coding (facts_by state old layout) (cells_of old) (cells_of new) r
        (λ p table of. ap (λ (page : List ℕ). slot_cell (cell_of page p.slot))
        (of_stands p.page.0 (page_there (stands_of layout) p.page.0 table of))) sound.records);
    own_tables = subst (λ (f : Facts). HasOwnTables f r layout.catalog.table) (sym facts_same)
        sound.own_tables;
    limbo = λ t below. sound.limbo t (subst (λ (h : Header). t < h.oat.0) header_as below);
    indexed = subst (λ (f : Facts). IsIndexed f new r) (sym facts_same) (record {
      committed = λ p table row shows. keeps.trees.found table p row shows.of_table
          (sound.indexed.committed p table row shows);
      limbo = λ p table e has_ alive. keeps.trees.found table p e.row has_.of_table
          (sound.indexed.limbo p table e has_ alive);
    });
  }

-- Index pages and pages of the page inventory change: a sound image is sound with its new trees.
use Rattle.mg_base.specs.Checks.{common_checks}
use Rattle.mg_base.specs.declared.transaction.TxState.{TxState}
use Rattle.mg_header.specs.declared.header.Header.{Header}
use Rattle.mg_image.specs.Catalog.{HasNames, HasOwnTables, catalog_table}
use Rattle.mg_image.specs.FactLaws.{records_on_same_cells}
use Rattle.mg_image.specs.Form.{Form, Pages, Row}
use Rattle.mg_image.specs.Indexes.{AreTrees, EachPage, IsFoundIn}
use Rattle.mg_image.specs.Inventory.{header_of, last_sequence, tip_page}
use Rattle.mg_image.specs.KeptPageLaws.{each_from_has, entries_kept, link_chain_kept}
use Rattle.mg_image.specs.Reached.{tips_below, tips_of}
use Rattle.mg_image.specs.RecordRules.{AreRecords, Facts}
use Rattle.mg_image.specs.Records.{Reading, cells_of, slot_cell}
use Rattle.mg_image.specs.Sound.{HasTablePages, IsIndexed, IsSoundBy, IsTableData, IsTablePointer, facts_by}
use Rattle.mg_image.specs.Tables.{EachStand, Has, IsOnce, Layout, Stand, has, pages_of, stands_of, table_at}
use Rattle.mg_image_overlay_laws.specs.pages.Reach.{has_it}
use Rattle.mg_image_overlay_laws.specs.pages.Grow.{header_grows, header_is, tips_are, transactions_grow}
use Rattle.mg_image_overlay_laws.specs.pages.Growth.{has_back, has_front, wanted_still}
use Rattle.mg_base.specs.declared.numbers.RecId.{RecId}
use Rattle.mg_model.specs.declared.table.Table.{Table}
use Rattle.mg_pointer.specs.PointerPage.{next_in, pointer_checks}
use Rattle.mg_slots.specs.DataPage.{cell_of}
use Rattle.mg_slots.specs.declared.page.TheConstants.{DATA_KIND}
use Rattle.std.proofs.Common.{Bool, List, Option, Some, [], ap, arith, false, inl, inr, refl, subst, suc, sym, true, zero, ℕ, ◌++◌, ◌+◌, ◌<◌, ◌∙◌, ◌∷◌, ◌≡◌, ◌≢◌, ◌≤◌, ◌⊎◌}
use Rattle.std.proofs.Math.Path.{fun_ext}
use Rattle.std.proofs.lemmas.Bool.{cases_eq}
use Rattle.std.specs.List.{flat_map}
use Rattle.std.specs.Prelude.{if◌then◌else◌, map}
use Rattle.mg_entry_overlay_laws.specs.Laws.{OtherTreesAreSound}
use Rattle.mg_entry_overlay_laws.specs.Retreed.{LeavesTables, Trees, held_pages, retree, retreed}
use Rattle.mg_entry_overlay_laws.specs.RetreedLaws.{owner_same, tables_same}

module _ (form : Form) (size : ℕ) (state : ℕ → TxState) (old new : Pages) (layout : Layout)
    (r : Reading) (sound : IsSoundBy form size state old layout r)
    (keeps : LeavesTables size old new layout) where
  tip_there : (n sequence : ℕ) → sequence < n → Has (tips_below size old n) (tip_page size old sequence)
  tip_there zero sequence below = absurd (omega (arith, below))
  tip_there (suc n) sequence below = at (cases_eq sequence n) (tip_there n sequence)
    where
      at : (sequence ≡ n) ⊎ (sequence ≢ n)
          → (sequence < n → Has (tips_below size old n) (tip_page size old sequence))
          → (tip_page size old sequence ≡ tip_page size old n)
          ⊎ Has (tips_below size old n) (tip_page size old sequence)
      at (inl e) more = inl (ap (tip_page size old) e)
      at (inr ne) more = inr (more (omega (arith, below, ne)))

  pub tip_kept : (sequence : ℕ) → sequence ≤ last_sequence size old
      → new (tip_page size old sequence) ≡ old (tip_page size old sequence)
  tip_kept sequence below = keeps.tips (tip_page size old sequence)
      (tip_there (last_sequence size old + 1) sequence (omega (arith, below)))

  pub header_as : header_of new ≡ header_of old
  header_as = header_is size old new keeps.header_page keeps.used keeps.lengths sound.header
      sound.transactions tip_kept

  stand_kept : (stand : Stand) (trees : Trees)
      → ((m : ℕ) → Has (stand.pointers ++ stand.data_pages) m → new m ≡ old m)
      → AreTrees size new stand.table.pointer.0 stand.table.indexes trees
      → HasTablePages form.in_primary size old stand
      → HasTablePages form.in_primary size new (record stand { trees = trees })
  stand_kept stand trees same are has_ = record {
    first = has_.first;
    chain = link_chain_kept (λ n. next_in (old n)) (λ n. next_in (new n)) stand.table.pointer.0
        stand.pointers (λ n is. ap next_in (pointer_same n is)) has_.chain;
    entries = has_.entries ∙ sym (entries_kept old new stand.pointers pointer_same);
    pointers = each_from_has (IsTablePointer size old owner) (IsTablePointer size new owner) 0
        stand.pointers (λ j n is wanted. wanted_still size old new n (pointer_checks (old n) n owner j)
        (pointer_checks (new n) n owner j) (keeps.used n)
        (ap (λ (page : List ℕ). pointer_checks page n owner j) (pointer_same n is)) wanted)
        has_.pointers;
    data_pages = each_from_has (IsTableData form.in_primary size old owner)
        (IsTableData form.in_primary size new owner) 0 stand.data_pages data_kept has_.data_pages;
    trees = are;
  }
    where
      owner : ℕ
      owner = stand.table.pointer.0

      pointer_same : (n : ℕ) → Has stand.pointers n → new n ≡ old n
      pointer_same n is = same n (has_front stand.pointers stand.data_pages n is)

      data_same : (n : ℕ) → Has stand.data_pages n → new n ≡ old n
      data_same n is = same n (has_back stand.pointers stand.data_pages n is)

      data_kept : (j n : ℕ) → Has stand.data_pages n
          → IsTableData form.in_primary size old owner j n
          → IsTableData form.in_primary size new owner j n
      data_kept j n is was = record {
        wanted = wanted_still size old new n (common_checks (old n) n DATA_KIND owner j)
            (common_checks (new n) n DATA_KIND owner j) (keeps.used n)
            (ap (λ (page : List ℕ). common_checks page n DATA_KIND owner j) (data_same n is))
            was.wanted;
        lawful = rw (data_same n is) was.lawful;
        cells = rw (data_same n is) was.cells;
      }

  stands_kept : (stands : List Stand) (all : List Trees)
      → ((m : ℕ) → Has (held_pages stands) m → new m ≡ old m)
      → EachStand (λ s. AreTrees size new s.table.pointer.0 s.table.indexes s.trees) (retree stands all)
      → EachStand (HasTablePages form.in_primary size old) stands
      → EachStand (HasTablePages form.in_primary size new) (retree stands all)
  stands_kept [] all same trees has_ = tt
  stands_kept (s ∷ ss) [] same trees has_ = (
    stand_kept s [] (λ m is. same m (has_front (s.pointers ++ s.data_pages) (held_pages ss) m is)) trees.0 has_.0,
    stands_kept ss [] (λ m is. same m (has_back (s.pointers ++ s.data_pages) (held_pages ss) m is)) trees.1 has_.1,
  )
  stands_kept (s ∷ ss) (t ∷ ts) same trees has_ = (
    stand_kept s t (λ m is. same m (has_front (s.pointers ++ s.data_pages) (held_pages ss) m is)) trees.0 has_.0,
    stands_kept ss ts (λ m is. same m (has_back (s.pointers ++ s.data_pages) (held_pages ss) m is)) trees.1 has_.1,
  )

  pub page_there : (stands : List Stand) (n : ℕ) (table : Table) → table_at stands n ≡ Some table
      → Has (held_pages stands) n
  page_there [] n table is = absurd cc
  page_there (s ∷ ss) n table is = at (has s.data_pages n) refl is (page_there ss n table)
    where
      at : (c : Bool) → has s.data_pages n ≡ c
          → (if c then Some s.table else table_at ss n) ≡ Some table
          → (table_at ss n ≡ Some table → Has (held_pages ss) n)
          → Has (held_pages (s ∷ ss)) n
      at true in_it is more = has_front (s.pointers ++ s.data_pages) (held_pages ss) n
          (has_back s.pointers s.data_pages n (has_it s.data_pages n in_it))
      at false out is more = has_back (s.pointers ++ s.data_pages) (held_pages ss) n (more is)

  module _ (first : Trees) (more : List Trees) where
    pub facts_same : facts_by state new (retreed layout first more) ≡ facts_by state old layout
    facts_same =
        let F : Header → (ℕ → Option Table) → Facts = λ h t. record {
          state = state;
          next = h.next.0;
          oldest = h.oit.0;
          table_of = t;
        } in
        ap (λ (h : Header). F h (table_at (stands_of (retreed layout first more)))) header_as
        ∙ ap (F (header_of old)) (fun_ext (λ n. owner_same (stands_of layout) (first ∷ more) n))

    module _ (trees : EachStand (λ s. AreTrees size new s.table.pointer.0 s.table.indexes s.trees)
        (stands_of (retreed layout first more)))
        (found : (table : Table) (p : RecId) (row : Row) → table_at (stands_of layout) p.page.0 ≡ Some table
        → IsFoundIn old table.indexes p row → IsFoundIn new table.indexes p row)
        (once : IsOnce (tips_of size old ++ flat_map pages_of (stands_of (retreed layout first more))
        ++ layout.sequences))
        (sequences : EachPage (λ n. form.sequence_page (new n) n) layout.sequences) where
      pub retreed_sound : IsSoundBy form size state new (retreed layout first more) r
      retreed_sound = record {
        header = header_grows size old new keeps.header_page keeps.used keeps.lengths sound.header
            sound.transactions tip_kept;
        transactions = transactions_grow size old new keeps.header_page keeps.used keeps.lengths
            sound.header sound.transactions tip_kept;
        inventory = keeps.inventory;
        catalog = sound.catalog ∙ ap (λ (h : Header). catalog_table h.catalog.0) (sym header_as);
        tables = stands_kept (stands_of layout) (first ∷ more) keeps.tables trees sound.tables;
        sequences = sequences;
        names = subst (λ (ts : List Table). HasNames size (facts_by state new (retreed layout first more)) r
            layout.catalog.table ts) (sym (tables_same layout.tables more))
            (subst (λ (f : Facts). HasNames size f r layout.catalog.table
            (map (λ stand. stand.table) layout.tables)) (sym facts_same) sound.names);
        once = subst (λ (tips : List ℕ). IsOnce (tips ++ flat_map pages_of (stands_of (retreed layout first more))
            ++ layout.sequences)) (sym (tips_are size old new keeps.header_page keeps.used keeps.lengths
            sound.header sound.transactions tip_kept)) once;
        records = subst (λ (f : Facts). AreRecords form.coding f (cells_of new) r) (sym facts_same)
            (records_on_same_cells form.coding (facts_by state old layout) (cells_of old) (cells_of new) r
            (λ p table of. ap (λ (page : List ℕ). slot_cell (cell_of page p.slot))
            (keeps.tables p.page.0 (page_there (stands_of layout) p.page.0 table of))) sound.records);
        own_tables = subst (λ (f : Facts). HasOwnTables f r layout.catalog.table) (sym facts_same)
            sound.own_tables;
        limbo = λ t below. sound.limbo t (subst (λ (h : Header). t < h.oat.0) header_as below);
        indexed = subst (λ (f : Facts). IsIndexed f new r) (sym facts_same) (record {
          committed = λ p table row shows. found table p row shows.of_table
              (sound.indexed.committed p table row shows);
          limbo = λ p table e has_ alive. found table p e.row has_.of_table
              (sound.indexed.limbo p table e has_ alive);
        });
      }

-- so
pub other_trees_are_sound : (form : Form) → OtherTreesAreSound form
other_trees_are_sound form size state old new layout r sound keeps first more trees found once sequences =
    retreed_sound form size state old new layout r sound keeps first more trees found once sequences

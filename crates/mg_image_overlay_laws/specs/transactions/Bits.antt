-- The bits of a drawn transaction change: a sound image stays sound under a given state.
use Rattle.mg_base.specs.Checks.{common_checks}
use Rattle.mg_base.specs.Fields.{byte}
use Rattle.mg_base.specs.declared.geometry.TheConstants.{GREATEST_LIMIT}
use Rattle.mg_base.specs.declared.transaction.TxState.{TxState}
use Rattle.mg_header.specs.HeaderPage.{header_in}
use Rattle.mg_header.specs.declared.header.Header.{Header}
use Rattle.mg_image.specs.Catalog.{HasNames, HasOwnTables, catalog_table}
use Rattle.mg_image.specs.FactLaws.{records_on_same_cells}
use Rattle.mg_image.specs.Form.{Form, Pages}
use Rattle.mg_image.specs.Indexes.{AreTrees, EachPage}
use Rattle.mg_image.specs.Inventory.{header_of, inventory_page, is_used, last_sequence, next_of, tip_before, tip_page}
use Rattle.mg_image.specs.KeptPageLaws.{table_pages_kept, wanted_kept}
use Rattle.mg_image.specs.Reached.{IsAsWanted, tips_below, tips_of}
use Rattle.mg_image.specs.RecordRules.{AreRecords, Facts}
use Rattle.mg_image.specs.Records.{Reading, cells_of, slot_cell}
use Rattle.mg_image.specs.Sound.{HasNoneUndrawn, HasRegion, HasTablePages, HasTips, HasTransactions, IsIndexed, IsSoundBy, IsTableData, IsTablePointer, IsUndrawn, facts_by}
use Rattle.mg_image.specs.Tables.{EachFrom, EachStand, Has, IsOnce, Layout, Stand, has, pages_of, stands_of, table_at}
use Rattle.mg_image_overlay_laws.specs.pages.DataPages.{all_passes, byte_blank, kind_of}
use Rattle.mg_image_overlay_laws.specs.pages.DataSound.{KeepsTrees}
use Rattle.mg_model.specs.declared.table.Table.{Table}
use Rattle.mg_pip.specs.PipPage.{bits, pip_checks, used_in}
use Rattle.mg_pointer.specs.PointerPage.{pointer_checks}
use Rattle.mg_slots.specs.DataPage.{cell_of}
use Rattle.mg_tip.specs.TipPage.{places, prev_in, state_in, tip_checks}
use Rattle.std.proofs.Common.{Bool, List, Some, [], ap, arith, false, inl, inr, length, refl, subst, suc, sym, true, zero, ℕ, ◌%◌, ◌++◌, ◌+◌, ◌-◌, ◌/◌, ◌<◌, ◌==◌, ◌||◌, ◌∙◌, ◌∷◌, ◌≡◌, ◌≢◌, ◌≤◌, ◌⊎◌}
use Rattle.std.proofs.lemmas.Bool.{cases_eq, eqb-true}
use Rattle.std.specs.List.{flat_map}
use Rattle.std.specs.Prelude.{if◌then◌else◌, map}

-- One page is changed, which is a transaction inventory page, at one place of it.
pub record ChangesTip (old new : Pages) (b k : ℕ) : Type 0 where
  pub others : (n : ℕ) → n ≢ b → new n ≡ old n
  pub below : b < GREATEST_LIMIT
  pub kind : byte (old b) 0 ≡ 3
  pub checks : (page sequence : ℕ) → tip_checks (new b) page sequence ≡ tip_checks (old b) page sequence
  pub prev : prev_in (new b) ≡ prev_in (old b)
  pub len : length (new b) ≡ length (old b)
  pub states : (i : ℕ) → i ≢ k → state_in (new b) i ≡ state_in (old b) i

module _ (form : Form) (size : ℕ) (state : ℕ → TxState) (old new : Pages) (b k : ℕ) (layout : Layout)
    (r : Reading) (sound : IsSoundBy form size state old layout r) (change : ChangesTip old new b k)
    -- the place is not that of a number that was not drawn
    (drawn : (t : ℕ) → next_of old ≤ t → t / places size ≡ last_sequence size old
    → tip_page size old (last_sequence size old) ≡ b → t % places size ≢ k) where
  other_kind : (n kind : ℕ) → byte (old n) 0 ≡ kind → kind ≢ 3 → new n ≡ old n
  other_kind n kind is differs = change.others n
      (λ same. differs (sym is ∙ (ap (λ (m : ℕ). byte (old m) 0) same ∙ change.kind)))

  header_page : new 0 ≡ old 0
  header_page = other_kind 0 1 (kind_of (old 0) 0 1 0 0 _ sound.header.fields) (λ e. omega (arith, e))

  pub header_same : header_of new ≡ header_of old
  header_same = ap header_in header_page

  region_page : (region : ℕ) → inventory_page size region < GREATEST_LIMIT
      → new (inventory_page size region) ≡ old (inventory_page size region)
  region_page region below = at (sound.inventory region below)
    where
      at : HasRegion size old (inventory_page size region) region
          → new (inventory_page size region) ≡ old (inventory_page size region)
      at (inl empty) = other_kind (inventory_page size region) 0
          (ap (λ (page : List ℕ). byte page 0) empty ∙ byte_blank size) (λ e. omega (arith, e))
      at (inr wanted) = other_kind (inventory_page size region) 2
          (kind_of (old (inventory_page size region)) (inventory_page size region) 2 0 region []
          (all_passes (common_checks (old (inventory_page size region))
          (inventory_page size region) 2 0 region) wanted.fields)) (λ e. omega (arith, e))

  pub used_same : (n : ℕ) → is_used size new n ≡ is_used size old n
  unfolding is_used
  used_same n = ap (λ (page : List ℕ). used_in page (n % bits size))
      (at (cases_eq (inventory_page size (n / bits size)) b))
    where
      at : (inventory_page size (n / bits size) ≡ b) ⊎ (inventory_page size (n / bits size) ≢ b)
          → new (inventory_page size (n / bits size)) ≡ old (inventory_page size (n / bits size))
      at (inl e) = region_page (n / bits size) (subst (λ (m : ℕ). m < GREATEST_LIMIT) (sym e) change.below)
      at (inr ne) = change.others (inventory_page size (n / bits size)) ne

  prev_same : (n : ℕ) → prev_in (new n) ≡ prev_in (old n)
  prev_same n = at (cases_eq n b)
    where
      at : (n ≡ b) ⊎ (n ≢ b) → prev_in (new n) ≡ prev_in (old n)
      at (inl e) = subst (λ (m : ℕ). prev_in (new m) ≡ prev_in (old m)) (sym e) change.prev
      at (inr ne) = ap prev_in (change.others n ne)

  checks_same : (n sequence : ℕ) → tip_checks (new n) n sequence ≡ tip_checks (old n) n sequence
  checks_same n sequence = at (cases_eq n b)
    where
      at : (n ≡ b) ⊎ (n ≢ b) → tip_checks (new n) n sequence ≡ tip_checks (old n) n sequence
      at (inl e) = subst (λ (m : ℕ). tip_checks (new m) n sequence ≡ tip_checks (old m) n sequence)
          (sym e) (change.checks n sequence)
      at (inr ne) = ap (λ (page : List ℕ). tip_checks page n sequence) (change.others n ne)

  before_same : (page j : ℕ) → tip_before new page j ≡ tip_before old page j
  before_same page zero = refl
  before_same page (suc j) = ap (λ (n : ℕ). prev_in (new n)) (before_same page j)
      ∙ prev_same (tip_before old page j)

  pub tip_same : (sequence : ℕ) → tip_page size new sequence ≡ tip_page size old sequence
  tip_same sequence =
      ap (λ (h : Header). tip_before new h.last_tip.0 ((h.next.0 - 1) / places size - sequence)) header_same
      ∙ before_same (header_of old).last_tip.0 (last_sequence size old - sequence)

  pub last_same : last_sequence size new ≡ last_sequence size old
  last_same = ap (λ (h : Header). (h.next.0 - 1) / places size) header_same

  tips_same : tips_of size new ≡ tips_of size old
  tips_same = ap (λ (n : ℕ). tips_below size new (n + 1)) last_same ∙ below (last_sequence size old + 1)
    where
      below : (n : ℕ) → tips_below size new n ≡ tips_below size old n
      below zero = refl
      below (suc n) = ap (λ (page : ℕ). page ∷ tips_below size new n) (tip_same n)
          ∙ ap (λ (pages : List ℕ). tip_page size old n ∷ pages) (below n)

  transactions_kept : HasTransactions size new
  transactions_kept = record { each = each; undrawn = undrawn }
    where
      each : HasTips size new
      each sequence below = subst (λ (n : ℕ). IsAsWanted size new n (tip_checks (new n) n sequence))
          (sym (tip_same sequence))
          (wanted_kept size old new (tip_page size old sequence)
          (tip_checks (old (tip_page size old sequence)) (tip_page size old sequence) sequence)
          (tip_checks (new (tip_page size old sequence)) (tip_page size old sequence) sequence)
          (λ is. used_same (tip_page size old sequence) ∙ is) (checks_same (tip_page size old sequence) sequence)
          (sound.transactions.each sequence (subst (λ (m : ℕ). sequence ≤ m) last_same below)))

      undrawn : HasNoneUndrawn size new
      undrawn t past on =
          let was_past : next_of old ≤ t = subst (λ (h : Header). h.next.0 ≤ t) header_same past in
          let was_on : t / places size ≡ last_sequence size old = on ∙ last_same in
          subst IsUndrawn (sym (state_as was_past was_on))
          (sound.transactions.undrawn t was_past was_on)
        where
          state_as : next_of old ≤ t → t / places size ≡ last_sequence size old
              → state_in (new (tip_page size new (t / places size))) (t % places size)
              ≡ state_in (old (tip_page size old (t / places size))) (t % places size)
          state_as was_past was_on = ap (λ (n : ℕ). state_in (new n) (t % places size)) (tip_same (t / places size))
              ∙ at (cases_eq (tip_page size old (t / places size)) b)
            where
              at : (tip_page size old (t / places size) ≡ b) ⊎ (tip_page size old (t / places size) ≢ b)
                  → state_in (new (tip_page size old (t / places size))) (t % places size)
                  ≡ state_in (old (tip_page size old (t / places size))) (t % places size)
              at (inr ne) = ap (λ (page : List ℕ). state_in page (t % places size))
                  (change.others (tip_page size old (t / places size)) ne)
              at (inl e) = subst (λ (m : ℕ). state_in (new m) (t % places size)
                  ≡ state_in (old m) (t % places size)) (sym e) (change.states (t % places size)
                  (drawn t was_past was_on (subst (λ (s : ℕ). tip_page size old s ≡ b) was_on e)))

  -- the pages of tables
  data_same : (owner j : ℕ) (ns : List ℕ) → EachFrom (IsTableData form.in_primary size old owner) j ns
      → (n : ℕ) → Has ns n → new n ≡ old n
  data_same owner j [] each n is = absurd is
  data_same owner j (m ∷ ms) each n (inl e) = rw e (other_kind m 5 (kind_of (old m) m 5 owner j []
      (all_passes (common_checks (old m) m 5 owner j) each.0.wanted.fields)) (λ e. omega (arith, e)))
  data_same owner j (m ∷ ms) each n (inr more) = data_same owner (suc j) ms each.1 n more

  pointer_same : (owner j : ℕ) (ns : List ℕ) → EachFrom (IsTablePointer size old owner) j ns
      → (n : ℕ) → Has ns n → new n ≡ old n
  unfolding pointer_checks
  pointer_same owner j [] each n is = absurd is
  pointer_same owner j (m ∷ ms) each n (inl e) =
      rw e (other_kind m 4 (kind_of (old m) m 4 owner j _ each.0.fields) (λ e. omega (arith, e)))
  pointer_same owner j (m ∷ ms) each n (inr more) = pointer_same owner (suc j) ms each.1 n more

  tables_kept : (stands : List Stand)
      → EachStand (λ stand. AreTrees size new stand.table.pointer.0 stand.table.indexes stand.trees) stands
      → EachStand (HasTablePages form.in_primary size old) stands
      → EachStand (HasTablePages form.in_primary size new) stands
  tables_kept [] trees has = tt
  tables_kept (stand ∷ stands) trees has = (
    table_pages_kept form.in_primary size old new stand (record {
      pointers = pointer_same stand.table.pointer.0 0 stand.pointers has.0.pointers;
      data_pages = data_same stand.table.pointer.0 0 stand.data_pages has.0.data_pages;
      used = λ n is. used_same n ∙ is;
      trees = trees.0;
    }) has.0,
    tables_kept stands trees.1 has.1,
  )

  has_it : (ns : List ℕ) (n : ℕ) → has ns n ≡ true → Has ns n
  has_it [] n is = absurd cc
  has_it (m ∷ ms) n is = at (n == m) refl is (has_it ms n)
    where
      at : (c : Bool) → (n == m) ≡ c → (c || has ms n) ≡ true → (has ms n ≡ true → Has ms n)
          → (n ≡ m) ⊎ Has ms n
      at true same is more = inl (eqb-true n m same)
      at false other is more = inr (more is)

  page_same : (stands : List Stand) → EachStand (HasTablePages form.in_primary size old) stands
      → (n : ℕ) (table : Table) → table_at stands n ≡ Some table → new n ≡ old n
  page_same [] has_ n table is = absurd cc
  page_same (stand ∷ stands) has_ n table is = at (has stand.data_pages n) refl is
      (page_same stands has_.1 n table)
    where
      at : (c : Bool) → has stand.data_pages n ≡ c
          → (if c then Some stand.table else table_at stands n) ≡ Some table
          → (table_at stands n ≡ Some table → new n ≡ old n) → new n ≡ old n
      at true in_it is more = data_same stand.table.pointer.0 0 stand.data_pages has_.0.data_pages n
          (has_it stand.data_pages n in_it)
      at false out is more = more is

  pub facts_same : facts_by state new layout ≡ facts_by state old layout
  facts_same =
      let F : Header → Facts = λ h. record {
        state = state;
        next = h.next.0;
        oldest = h.oit.0;
        table_of = table_at (stands_of layout);
      } in ap F header_same

  module _ (keeps : KeepsTrees old new size layout)
      (sequences : EachPage (λ n. form.sequence_page (new n) n) layout.sequences) where
    pub bits_sound : IsSoundBy form size state new layout r
    bits_sound = record {
      header = record {
        lawful_size = sound.header.lawful_size;
        whole = λ n. whole n (cases_eq n b);
        database = rw header_page sound.header.database;
        fields = rw header_page sound.header.fields;
        used = used_same 0 ∙ sound.header.used;
      };
      transactions = transactions_kept;
      inventory = λ region below. regions region below (sound.inventory region below);
      catalog = sound.catalog ∙ ap (λ (h : Header). catalog_table h.catalog.0) (sym header_same);
      tables = tables_kept (stands_of layout) keeps.trees sound.tables;
      sequences = sequences;
      names = subst (λ (f : Facts). HasNames size f r layout.catalog.table
          (map (λ stand. stand.table) layout.tables)) (sym facts_same) sound.names;
      once = subst (λ (tips : List ℕ). IsOnce (tips ++ flat_map pages_of (stands_of layout)
          ++ layout.sequences)) (sym tips_same) sound.once;
      records = subst (λ (f : Facts). AreRecords form.coding f (cells_of new) r) (sym facts_same)
          (records_on_same_cells form.coding (facts_by state old layout) (cells_of old) (cells_of new) r
          (λ p table of. ap (λ (page : List ℕ). slot_cell (cell_of page p.slot))
          (page_same (stands_of layout) sound.tables p.page.0 table of)) sound.records);
      own_tables = subst (λ (f : Facts). HasOwnTables f r layout.catalog.table) (sym facts_same)
          sound.own_tables;
      limbo = λ t below. sound.limbo t (subst (λ (h : Header). t < h.oat.0) header_same below);
      indexed = subst (λ (f : Facts). IsIndexed f new r) (sym facts_same) (record {
        committed = λ p table row shows. keeps.found table p row shows.of_table
            (sound.indexed.committed p table row shows);
        limbo = λ p table e has_ alive. keeps.found table p e.row has_.of_table
            (sound.indexed.limbo p table e has_ alive);
      });
    }
      where
        whole : (n : ℕ) → (n ≡ b) ⊎ (n ≢ b) → length (new n) ≡ size
        whole n (inl e) = ap (λ (m : ℕ). length (new m)) e ∙ (change.len ∙ sound.header.whole b)
        whole n (inr ne) = ap length (change.others n ne) ∙ sound.header.whole n

        regions : (region : ℕ) → inventory_page size region < GREATEST_LIMIT
            → HasRegion size old (inventory_page size region) region
            → HasRegion size new (inventory_page size region) region
        regions region below (inl empty) = inl (region_page region below ∙ empty)
        regions region below (inr wanted) = inr (wanted_kept size old new (inventory_page size region)
            (pip_checks (old (inventory_page size region)) (inventory_page size region) region)
            (pip_checks (new (inventory_page size region)) (inventory_page size region) region)
            (λ is. used_same (inventory_page size region) ∙ is)
            (ap (λ (page : List ℕ). pip_checks page (inventory_page size region) region)
            (region_page region below)) wanted)

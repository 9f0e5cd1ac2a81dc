-- Pages that nothing reaches are released from a sound image, which stays sound.
use Rattle.std.specs.Prelude.{◌≡◌, ◌≢◌, ◌⊎◌, ◌<◌, ◌≤◌, ◌+◌, ◌-◌, ◌*◌, ◌/◌, ◌%◌, ◌==◌, ◌||◌, ◌++◌, ℕ, zero, suc, Bool, true, false, List, [], ◌∷◌, Some, map, if◌then◌else◌}
use Rattle.std.proofs.Common.{refl, sym, ap, ◌∙◌, inl, inr, arith, subst}
use Rattle.std.proofs.Math.Nat.{mod-add-div'}
use Rattle.std.proofs.lemmas.Bool.{cases_eq, eqb-true}
use Rattle.std.proofs.lemmas.Option.{same_Some}
use Rattle.std.specs.List.{flat_map}
use Rattle.mg_base.specs.Checks.{PassesAll, common_checks}
use Rattle.mg_base.specs.Fields.{byte}
use Rattle.mg_base.specs.Image.{Image, blank, page_at}
use Rattle.mg_base.specs.declared.geometry.TheConstants.{GREATEST_LIMIT}
use Rattle.mg_base.specs.declared.numbers.RecId.{RecId}
use Rattle.mg_base.specs.declared.transaction.TxState.{TxState}
use Rattle.mg_header.specs.HeaderPage.{header_in}
use Rattle.mg_header.specs.declared.header.Header.{Header}
use Rattle.mg_image.specs.Catalog.{HasNames, HasOwnTables, catalog_table}
use Rattle.mg_image.specs.FactLaws.{records_on_same_cells}
use Rattle.mg_image.specs.Form.{Form, Pages, Row}
use Rattle.mg_image.specs.Indexes.{EachPage, IsFoundIn}
use Rattle.mg_image.specs.Inventory.{header_of, inventory_page, is_used, last_sequence, tip_before, tip_page}
use Rattle.mg_image.specs.KeptPageLaws.{each_from_has, entries_kept, link_chain_kept, wanted_kept}
use Rattle.mg_image.specs.Reached.{IsAsWanted, IsReached, linked_pages, tips_below, tips_of}
use Rattle.mg_image.specs.Reached as reached
use Rattle.mg_image.specs.RecordRules.{AreRecords, Facts}
use Rattle.mg_image.specs.Records.{Reading, cells_of, slot_cell}
use Rattle.mg_image.specs.Sound.{HasHeader, HasInventory, HasNoneUndrawn, HasRegion, HasTablePages, HasTips, HasTransactions, IsIndexed, IsSoundBy, IsTableData, IsTablePointer, IsUndrawn, facts_by}
use Rattle.mg_image.specs.Tables.{EachStand, Has, IsOnce, Layout, Stand, has, pages_of, stands_of, table_at, tree_pages}
use Rattle.mg_image_overlay_laws.specs.pages.DataPages.{all_passes, byte_blank, kind_of}
use Rattle.mg_image_overlay_laws.specs.pages.Growth.{has_back, has_front}
use Rattle.mg_image_overlay_laws.specs.pages.Kinds.{HasNoSequences, linked_is}
use Rattle.mg_model.specs.declared.table.Table.{Table}
use Rattle.mg_pip.specs.PipPage.{bits, pip_checks, used_in}
use Rattle.mg_pip.specs.PipPageLaws.{same_tests, zero_unused}
use Rattle.mg_pip.specs.declared.page.TheConstants.{BITS_AT, PIP_KIND}
use Rattle.mg_pointer.specs.PointerPage.{next_in, pointer_checks}
use Rattle.mg_release.specs.Releasing.{Releases, bit_page}
use Rattle.mg_release_laws.specs.Released.{MayGo}
use Rattle.mg_release_laws.specs.TreesStay.{found_still, trees_still}
use Rattle.mg_slots.specs.DataPage.{cell_of}
use Rattle.mg_slots.specs.declared.page.TheConstants.{DATA_KIND}
use Rattle.mg_tip.specs.TipPage.{places, prev_in, state_in, tip_checks}

-- ---- the page with the bit of a page

blank_byte : (size at : ℕ) → byte (blank size) at ≡ 0
blank_byte zero at = refl
blank_byte (suc size) zero = refl
blank_byte (suc size) (suc at) = blank_byte size at

-- a blank page marks nothing as used
blank_marks : (size : ℕ) (pages : Pages) (k : ℕ) → pages (bit_page size k) ≡ blank size
    → is_used size pages k ≡ true → ⊥
unfolding is_used
blank_marks size pages k is used =
    let unused = ap (λ (b : List ℕ). used_in b (k % bits size)) is
    ∙ zero_unused (blank size) (k % bits size) (blank_byte size (BITS_AT + k % bits size / 8)) in
    absurd (let both = sym used ∙ unused in cc)

-- it lies within the limit, if the page does: each such page has an odd number, and the limit is even
eight : (q s : ℕ) → q * (8 * s) ≡ 8 * (q * s)
eight q s = omega arith

bit_below : (size k : ℕ) → k < GREATEST_LIMIT → bit_page size k < GREATEST_LIMIT
bit_below size k below =
    let whole = mod-add-div' k (bits size) in
    let even = eight (k / bits size) (size - BITS_AT) in omega (arith, whole, even, below)

module _ (form : Form) (none : HasNoSequences form) (size : ℕ) (state : ℕ → TxState)
    (old new : Image) (gone : ℕ → Bool) (layout : Layout) (r : Reading)
    (sound : IsSoundBy form size state (page_at size old) layout r)
    (free : MayGo size (page_at size old) layout gone) (releases : Releases size old new gone) where
  abbrev O : Pages
  O = page_at size old

  abbrev N : Pages
  N = page_at size new

  -- ---- pages that are reached

  -- they are used still
  stays_used : (n : ℕ) → IsReached size O layout n → is_used size O n ≡ true
      → is_used size N n ≡ true
  stays_used n is_reached used = releases.used n ∙ at (gone n) refl
    where
      at : (c : Bool) → gone n ≡ c → (if c then false else is_used size O n) ≡ true
      at true is = absurd ((free n is).2 is_reached)
      at false is = used

  -- a page with the bit of a released page is one of the page inventory
  bit_kind : (k : ℕ) → gone k ≡ true → byte (O (bit_page size k)) 0 ≡ PIP_KIND
  bit_kind k is = at (sound.inventory (k / bits size) (bit_below size k (free k is).0))
    where
      at : HasRegion size O (bit_page size k) (k / bits size)
          → byte (O (bit_page size k)) 0 ≡ PIP_KIND
      at (inl empty) = absurd (blank_marks size O k empty (free k is).1)
      at (inr wanted) = kind_of (O (bit_page size k)) (bit_page size k) PIP_KIND 0 (k / bits size) []
          (all_passes (pip_checks (O (bit_page size k)) (bit_page size k) (k / bits size))
          wanted.fields)

  -- so no linked page is one
  linked_apart : (m : ℕ) → Has (linked_pages size O layout) m → (k : ℕ) → gone k ≡ true
      → m ≢ bit_page size k
  linked_apart m is k goes_ same =
      let least = (linked_is form size state O layout r none sound m is).kind in
      let two = bit_kind k goes_ in
      let here : byte (O m) 0 ≡ byte (O (bit_page size k)) 0 = ap (λ (n : ℕ). byte (O n) 0) same in
      omega (arith, least, two, here)

  pub linked_kept : (m : ℕ) → Has (linked_pages size O layout) m → N m ≡ O m
  linked_kept m is = releases.kept m (linked_apart m is)

  linked_used : (m : ℕ) → Has (linked_pages size O layout) m → is_used size O m ≡ true
      → is_used size N m ≡ true
  linked_used m is = stays_used m (reached.linked m is)

  pub header_page : N 0 ≡ O 0
  header_page = releases.kept 0 (λ k goes_ same. omega (arith, same))

  -- ---- the header and transactions

  pub header_is : header_of N ≡ header_of O
  header_is = ap header_in header_page

  header_stays : HasHeader size N
  header_stays = record {
    lawful_size = sound.header.lawful_size;
    whole = λ n. releases.lengths n ∙ sound.header.whole n;
    database = rw header_page sound.header.database;
    fields = rw header_page sound.header.fields;
    used = stays_used 0 reached.header sound.header.used;
  }

  pub last_is : last_sequence size N ≡ last_sequence size O
  last_is = ap (λ (h : Header). (h.next.0 - 1) / places size) header_is

  tip_below : (n sequence : ℕ) → sequence < n
      → Has (tips_below size O n) (tip_page size O sequence)
  tip_below zero sequence below = absurd (omega (arith, below))
  tip_below (suc n) sequence below = at (cases_eq sequence n) (tip_below n sequence)
    where
      at : (sequence ≡ n) ⊎ (sequence ≢ n)
          → (sequence < n → Has (tips_below size O n) (tip_page size O sequence))
          → (tip_page size O sequence ≡ tip_page size O n)
          ⊎ Has (tips_below size O n) (tip_page size O sequence)
      at (inl e) more = inl (ap (tip_page size O) e)
      at (inr ne) more = inr (more (omega (arith, below, ne)))

  tip_linked : (sequence : ℕ) → sequence ≤ last_sequence size O
      → Has (linked_pages size O layout) (tip_page size O sequence)
  tip_linked sequence below =
      has_front (tips_of size O ++ flat_map pages_of (stands_of layout)) layout.sequences
      (tip_page size O sequence) (has_front (tips_of size O) (flat_map pages_of (stands_of layout))
      (tip_page size O sequence) (tip_below (last_sequence size O + 1) sequence (omega (arith, below))))

  pub tip_kept : (sequence : ℕ) → sequence ≤ last_sequence size O
      → N (tip_page size O sequence) ≡ O (tip_page size O sequence)
  tip_kept sequence below = linked_kept (tip_page size O sequence) (tip_linked sequence below)

  before_is : (k : ℕ) → k ≤ last_sequence size O
      → tip_before N (header_of O).last_tip.0 k ≡ tip_before O (header_of O).last_tip.0 k
  before_is zero below = refl
  before_is (suc k) below =
      let so : last_sequence size O - (last_sequence size O - k) ≡ k = omega (arith, below) in
      let at_k : N (tip_before O (header_of O).last_tip.0 k)
      ≡ O (tip_before O (header_of O).last_tip.0 k) =
      subst (λ (j : ℕ). N (tip_before O (header_of O).last_tip.0 j)
      ≡ O (tip_before O (header_of O).last_tip.0 j)) so
      (tip_kept (last_sequence size O - k) (omega (arith, below))) in
      ap (λ (page : ℕ). prev_in (N page)) (before_is k (omega (arith, below)))
      ∙ ap prev_in at_k

  pub tip_is : (sequence : ℕ) → sequence ≤ last_sequence size O
      → tip_page size N sequence ≡ tip_page size O sequence
  tip_is sequence below =
      ap (λ (h : Header). tip_before N h.last_tip.0 (last_sequence size N - sequence)) header_is
      ∙ (ap (λ (last : ℕ). tip_before N (header_of O).last_tip.0 (last - sequence)) last_is
      ∙ before_is (last_sequence size O - sequence) (omega (arith, below)))

  transactions_stay : HasTransactions size N
  transactions_stay = record { each = each; undrawn = undrawn }
    where
      each : HasTips size N
      each sequence below =
          let within : sequence ≤ last_sequence size O =
          subst (λ (m : ℕ). sequence ≤ m) last_is below in
          subst (λ (n : ℕ). IsAsWanted size N n (tip_checks (N n) n sequence))
          (sym (tip_is sequence within))
          (wanted_kept size O N (tip_page size O sequence)
          (tip_checks (O (tip_page size O sequence)) (tip_page size O sequence) sequence)
          (tip_checks (N (tip_page size O sequence)) (tip_page size O sequence) sequence)
          (linked_used (tip_page size O sequence) (tip_linked sequence within))
          (ap (λ (page : List ℕ). tip_checks page (tip_page size O sequence) sequence)
          (tip_kept sequence within)) (sound.transactions.each sequence within))

      undrawn : HasNoneUndrawn size N
      undrawn t past on =
          let at_last : t / places size ≡ last_sequence size O = on ∙ last_is in
          let within : t / places size ≤ last_sequence size O = omega (arith, at_last) in
          subst (λ (page : List ℕ). IsUndrawn (state_in page (t % places size)))
          (sym (ap N (tip_is (t / places size) within) ∙ tip_kept (t / places size) within))
          (sound.transactions.undrawn t (subst (λ (h : Header). h.next.0 ≤ t) header_is past) at_last)

  tips_are : tips_of size N ≡ tips_of size O
  tips_are = ap (λ (n : ℕ). tips_below size N (n + 1)) last_is
      ∙ below (last_sequence size O + 1) (omega arith)
    where
      below : (n : ℕ) → n ≤ last_sequence size O + 1 → tips_below size N n ≡ tips_below size O n
      below zero within = refl
      below (suc n) within =
          ap (λ (page : ℕ). page ∷ tips_below size N n) (tip_is n (omega (arith, within)))
          ∙ ap (λ (pages : List ℕ). tip_page size O n ∷ pages) (below n (omega (arith, within)))

  -- ---- the page inventory

  inventory_stays : HasInventory size N
  inventory_stays region below = at (sound.inventory region below)
    where
      at : HasRegion size O (inventory_page size region) region
          → HasRegion size N (inventory_page size region) region
      at (inl empty) = inl (releases.kept (inventory_page size region) (λ k goes_ same. blank_marks size O k
          (ap O (sym same) ∙ empty) (free k goes_).1) ∙ empty)
      at (inr wanted) = inr (record {
        below = wanted.below;
        used = stays_used (inventory_page size region) (reached.inventory region below filled) wanted.used;
        fields = subst PassesAll (sym (same_tests (O (inventory_page size region))
            (N (inventory_page size region)) (inventory_page size region) region
            (releases.front (inventory_page size region)))) wanted.fields;
      })
        where
          kind : byte (O (inventory_page size region)) 0 ≡ PIP_KIND
          kind = kind_of (O (inventory_page size region)) (inventory_page size region) PIP_KIND 0 region []
              (all_passes (pip_checks (O (inventory_page size region)) (inventory_page size region) region)
              wanted.fields)

          filled : O (inventory_page size region) ≢ blank size
          filled empty =
              let nothing : byte (O (inventory_page size region)) 0 ≡ 0 =
              ap (λ (b : List ℕ). byte b 0) empty ∙ byte_blank size in
              omega (arith, kind, nothing)

  -- ---- tables

  of_stands : (m : ℕ) → Has (flat_map pages_of (stands_of layout)) m
      → Has (linked_pages size O layout) m
  of_stands m is = has_front (tips_of size O ++ flat_map pages_of (stands_of layout)) layout.sequences
      m (has_back (tips_of size O) (flat_map pages_of (stands_of layout)) m is)

  stand_stays : (stand : Stand)
      → ((m : ℕ) → Has (pages_of stand) m → Has (linked_pages size O layout) m)
      → HasTablePages form.in_primary size O stand → HasTablePages form.in_primary size N stand
  stand_stays stand linked has_ = record {
    first = has_.first;
    chain = link_chain_kept (λ n. next_in (O n)) (λ n. next_in (N n)) stand.table.pointer.0
        stand.pointers (λ n is. ap next_in (linked_kept n (pointer_linked n is))) has_.chain;
    entries = has_.entries
        ∙ sym (entries_kept O N stand.pointers (λ n is. linked_kept n (pointer_linked n is)));
    pointers = each_from_has (IsTablePointer size O owner) (IsTablePointer size N owner) 0
        stand.pointers pointer_stays has_.pointers;
    data_pages = each_from_has (IsTableData form.in_primary size O owner)
        (IsTableData form.in_primary size N owner) 0 stand.data_pages data_stays has_.data_pages;
    trees = trees_still size O N owner stand.table.indexes stand.trees
        (λ m is. linked_kept m (tree_linked m is)) (λ m is. linked_used m (tree_linked m is))
        has_.trees;
  }
    where
      owner : ℕ
      owner = stand.table.pointer.0

      pointer_linked : (n : ℕ) → Has stand.pointers n → Has (linked_pages size O layout) n
      pointer_linked n is = linked n (has_front (stand.pointers ++ stand.data_pages)
          (tree_pages stand.trees) n (has_front stand.pointers stand.data_pages n is))

      data_linked : (n : ℕ) → Has stand.data_pages n → Has (linked_pages size O layout) n
      data_linked n is = linked n (has_front (stand.pointers ++ stand.data_pages)
          (tree_pages stand.trees) n (has_back stand.pointers stand.data_pages n is))

      tree_linked : (n : ℕ) → Has (tree_pages stand.trees) n → Has (linked_pages size O layout) n
      tree_linked n is = linked n (has_back (stand.pointers ++ stand.data_pages)
          (tree_pages stand.trees) n is)

      pointer_stays : (j n : ℕ) → Has stand.pointers n → IsTablePointer size O owner j n
          → IsTablePointer size N owner j n
      pointer_stays j n is = wanted_kept size O N n (pointer_checks (O n) n owner j)
          (pointer_checks (N n) n owner j) (linked_used n (pointer_linked n is))
          (ap (λ (page : List ℕ). pointer_checks page n owner j)
          (linked_kept n (pointer_linked n is)))

      data_stays : (j n : ℕ) → Has stand.data_pages n → IsTableData form.in_primary size O owner j n
          → IsTableData form.in_primary size N owner j n
      data_stays j n is was =
          let same : N n ≡ O n = linked_kept n (data_linked n is) in record {
            wanted = wanted_kept size O N n (common_checks (O n) n DATA_KIND owner j)
                (common_checks (N n) n DATA_KIND owner j) (linked_used n (data_linked n is))
                (ap (λ (page : List ℕ). common_checks page n DATA_KIND owner j) same) was.wanted;
            lawful = rw same was.lawful;
            cells = rw same was.cells;
          }

  stands_stay : (stands : List Stand)
      → ((m : ℕ) → Has (flat_map pages_of stands) m → Has (linked_pages size O layout) m)
      → EachStand (HasTablePages form.in_primary size O) stands
      → EachStand (HasTablePages form.in_primary size N) stands
  stands_stay [] linked has_ = tt
  stands_stay (stand ∷ stands) linked has_ = (
    stand_stays stand (λ m is. linked m (has_front (pages_of stand) (flat_map pages_of stands) m is))
        has_.0,
    stands_stay stands (λ m is. linked m (has_back (pages_of stand) (flat_map pages_of stands) m is))
        has_.1,
  )

  -- ---- records, and what is found of them

  has_it : (ns : List ℕ) (n : ℕ) → has ns n ≡ true → Has ns n
  has_it [] n is = absurd cc
  has_it (m ∷ ms) n is = at (n == m) refl is (has_it ms n)
    where
      at : (c : Bool) → (n == m) ≡ c → (c || has ms n) ≡ true → (has ms n ≡ true → Has ms n)
          → (n ≡ m) ⊎ Has ms n
      at true same is more = inl (eqb-true n m same)
      at false other is more = inr (more is)

  page_there : (stands : List Stand) (n : ℕ) (table : Table) → table_at stands n ≡ Some table
      → Has (flat_map pages_of stands) n
  page_there [] n table is = absurd cc
  page_there (stand ∷ stands) n table is = at (has stand.data_pages n) refl is
      (page_there stands n table)
    where
      at : (c : Bool) → has stand.data_pages n ≡ c
          → (if c then Some stand.table else table_at stands n) ≡ Some table
          → (table_at stands n ≡ Some table → Has (flat_map pages_of stands) n)
          → Has (flat_map pages_of (stand ∷ stands)) n
      at true in_it is more = has_front (pages_of stand) (flat_map pages_of stands) n
          (has_front (stand.pointers ++ stand.data_pages) (tree_pages stand.trees) n
          (has_back stand.pointers stand.data_pages n (has_it stand.data_pages n in_it)))
      at false out is more = has_back (pages_of stand) (flat_map pages_of stands) n (more is)

  found_stays : (stands : List Stand)
      → ((m : ℕ) → Has (flat_map pages_of stands) m → Has (linked_pages size O layout) m)
      → EachStand (HasTablePages form.in_primary size O) stands → (n : ℕ) (table : Table)
      → table_at stands n ≡ Some table → (p : RecId) (row : Row) → IsFoundIn O table.indexes p row
      → IsFoundIn N table.indexes p row
  found_stays [] linked has_ n table of p row found = absurd cc
  found_stays (stand ∷ stands) linked has_ n table of p row found =
      at (has stand.data_pages n) of (found_stays stands (λ m is. linked m
      (has_back (pages_of stand) (flat_map pages_of stands) m is)) has_.1 n table)
    where
      in_tree : (m : ℕ) → Has (tree_pages stand.trees) m → Has (linked_pages size O layout) m
      in_tree m is = linked m (has_front (pages_of stand) (flat_map pages_of stands) m
          (has_back (stand.pointers ++ stand.data_pages) (tree_pages stand.trees) m is))

      here : IsFoundIn O stand.table.indexes p row → IsFoundIn N stand.table.indexes p row
      here = found_still size O N stand.table.pointer.0 stand.table.indexes stand.trees
          (λ m is. linked_kept m (in_tree m is)) (λ m is. linked_used m (in_tree m is)) has_.0.trees p row

      at : (c : Bool) → (if c then Some stand.table else table_at stands n) ≡ Some table
          → (table_at stands n ≡ Some table → (q : RecId) (others : Row)
          → IsFoundIn O table.indexes q others → IsFoundIn N table.indexes q others)
          → IsFoundIn N table.indexes p row
      at true same more = subst (λ (t : Table). IsFoundIn N t.indexes p row)
          (same_Some stand.table table same) (here (subst (λ (t : Table). IsFoundIn O t.indexes p row)
          (sym (same_Some stand.table table same)) found))
      at false same more = more same p row found

  -- ---- the whole

  pub facts_same : facts_by state N layout ≡ facts_by state O layout
  facts_same =
      let F : Header → Facts = λ h. record {
        state = state;
        next = h.next.0;
        oldest = h.oit.0;
        table_of = table_at (stands_of layout);
      } in ap F header_is

  sequences_none : (ns : List ℕ) → EachPage (λ n. form.sequence_page (O n) n) ns
      → EachPage (λ n. form.sequence_page (N n) n) ns
  sequences_none [] each = tt
  sequences_none (n ∷ ns) each = absurd (none (O n) n each.0)

  pub stays_sound : IsSoundBy form size state N layout r
  stays_sound = record {
    header = header_stays;
    transactions = transactions_stay;
    inventory = inventory_stays;
    catalog = sound.catalog ∙ ap (λ (h : Header). catalog_table h.catalog.0) (sym header_is);
    tables = stands_stay (stands_of layout) of_stands sound.tables;
    sequences = sequences_none layout.sequences sound.sequences;
    names = subst (λ (f : Facts). HasNames size f r layout.catalog.table
        (map (λ stand. stand.table) layout.tables)) (sym facts_same) sound.names;
    once = subst (λ (tips : List ℕ). IsOnce (tips ++ flat_map pages_of (stands_of layout)
        ++ layout.sequences)) (sym tips_are) sound.once;
    records = subst (λ (f : Facts). AreRecords form.coding f (cells_of N) r) (sym facts_same)
        (records_on_same_cells form.coding (facts_by state O layout) (cells_of O) (cells_of N) r
        (λ p table of. ap (λ (page : List ℕ). slot_cell (cell_of page p.slot))
        (linked_kept p.page.0 (of_stands p.page.0 (page_there (stands_of layout) p.page.0 table of))))
        sound.records);
    own_tables = subst (λ (f : Facts). HasOwnTables f r layout.catalog.table) (sym facts_same)
        sound.own_tables;
    limbo = λ t below. sound.limbo t (subst (λ (h : Header). t < h.oat.0) header_is below);
    indexed = subst (λ (f : Facts). IsIndexed f N r) (sym facts_same) (record {
      committed = λ p table row shows. found_stays (stands_of layout) of_stands sound.tables p.page.0
          table shows.of_table p row (sound.indexed.committed p table row shows);
      limbo = λ p table e has_ alive. found_stays (stands_of layout) of_stands sound.tables p.page.0
          table has_.of_table p e.row (sound.indexed.limbo p table e has_ alive);
    });
  }

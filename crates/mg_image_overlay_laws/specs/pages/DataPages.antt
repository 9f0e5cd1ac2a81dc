-- A data page is changed: all that other pages say of an image stays.
use Rattle.mg_base.specs.CheckLaws.{front_checks}
use Rattle.mg_base.specs.Checks.{Check, PassesAll, common_checks}
use Rattle.mg_base.specs.Fields.{byte}
use Rattle.mg_base.specs.Image.{blank}
use Rattle.mg_base.specs.declared.fields.TheConstants.{COMMON}
use Rattle.mg_base.specs.declared.geometry.TheConstants.{GREATEST_LIMIT}
use Rattle.mg_header.specs.HeaderPage.{header_in}
use Rattle.mg_header.specs.declared.header.Header.{Header}
use Rattle.mg_image.specs.Form.{Pages}
use Rattle.mg_image.specs.Indexes.{AreTrees}
use Rattle.mg_image.specs.Inventory.{header_of, inventory_page, is_used, last_sequence, next_of, tip_before, tip_page}
use Rattle.mg_image.specs.KeptPageLaws.{each_from_has, entries_kept, link_chain_kept, wanted_kept}
use Rattle.mg_image.specs.Reached.{IsAsWanted, tips_below, tips_of}
use Rattle.mg_image.specs.Sound.{HasHeader, HasInventory, HasNoneUndrawn, HasRegion, HasTablePages, HasTips, HasTransactions, IsCellOf, IsTableData, IsTablePointer, IsUndrawn}
use Rattle.mg_image.specs.Tables.{EachFrom, EachStand, Has, Stand}
use Rattle.mg_pip.specs.PipPage.{bits, pip_checks, used_in}
use Rattle.mg_pointer.specs.PointerPage.{next_in, pointer_checks}
use Rattle.mg_slots.specs.DataPage.{IsDataPage, cell_of}
use Rattle.mg_slots.specs.declared.page.TheConstants.{DATA_KIND}
use Rattle.mg_tip.specs.TipPage.{places, prev_in, state_in, tip_checks}
use Rattle.std.proofs.Common.{Bool, List, Some, [], ap, arith, inl, inr, length, refl, subst, suc, sym, take, zero, ℕ, ◌%◌, ◌++◌, ◌+◌, ◌-◌, ◌/◌, ◌<◌, ◌∙◌, ◌∷◌, ◌≡◌, ◌≢◌, ◌≤◌, ◌⊎◌}
use Rattle.std.proofs.lemmas.Bool.{cases_eq}

-- ---- a page is of one kind

pub kind_of : (page : List ℕ) (n kind owner seq : ℕ) (rest : List Check)
    → PassesAll (common_checks page n kind owner seq ++ rest) → byte page 0 ≡ kind
unfolding common_checks
kind_of page n kind owner seq rest passes = passes.0

pub all_passes : (checks : List Check) → PassesAll checks → PassesAll (checks ++ [])
all_passes [] passes = tt
all_passes (check ∷ checks) passes = (passes.0, all_passes checks passes.1)

pub byte_blank : (size : ℕ) → byte (blank size) 0 ≡ 0
byte_blank zero = refl
byte_blank (suc n) = refl

-- One page is changed, which is a data page: it begins as it did, is as long, and each of its cells
-- is lawful.
pub record ChangesData (in_primary : Bool) (old new : Pages) (b : ℕ) : Type 0 where
  pub others : (n : ℕ) → n ≢ b → new n ≡ old n
  pub below : b < GREATEST_LIMIT
  pub kind : byte (old b) 0 ≡ DATA_KIND
  pub common : take COMMON (new b) ≡ take COMMON (old b)
  pub len : length (new b) ≡ length (old b)
  pub lawful : IsDataPage (new b)
  pub cells : (slot : ℕ) (bytes : List ℕ) → cell_of (new b) slot ≡ Some bytes → IsCellOf in_primary bytes

module _ (in_primary : Bool) (size : ℕ) (old new : Pages) (b : ℕ)
    (change : ChangesData in_primary old new b) where
  other_kind : (n kind : ℕ) → byte (old n) 0 ≡ kind → kind ≢ DATA_KIND → new n ≡ old n
  other_kind n kind is differs = change.others n
      (λ same. differs (sym is ∙ (ap (λ (m : ℕ). byte (old m) 0) same ∙ change.kind)))

  -- what stands of the header, the inventories and the transactions
  module _ (header : HasHeader size old) (inventory : HasInventory size old)
      (transactions : HasTransactions size old) where
    header_page : new 0 ≡ old 0
    header_page = other_kind 0 1 (kind_of (old 0) 0 1 0 0 _ header.fields) (λ e. omega (arith, e))

    region_page : (region : ℕ) → inventory_page size region < GREATEST_LIMIT
        → new (inventory_page size region) ≡ old (inventory_page size region)
    region_page region below = at (inventory region below)
      where
        at : HasRegion size old (inventory_page size region) region
            → new (inventory_page size region) ≡ old (inventory_page size region)
        at (inl empty) = other_kind (inventory_page size region) 0
            (ap (λ (page : List ℕ). byte page 0) empty ∙ byte_blank size) (λ e. omega (arith, e))
        at (inr wanted) = other_kind (inventory_page size region) 2
            (kind_of (old (inventory_page size region)) (inventory_page size region) 2 0 region []
            (all_passes (common_checks (old (inventory_page size region))
            (inventory_page size region) 2 0 region) wanted.fields)) (λ e. omega (arith, e))

    pub used_kept : (n : ℕ) → is_used size new n ≡ is_used size old n
    unfolding is_used
    used_kept n = ap (λ (page : List ℕ). used_in page (n % bits size))
        (at (cases_eq (inventory_page size (n / bits size)) b))
      where
        at : (inventory_page size (n / bits size) ≡ b) ⊎ (inventory_page size (n / bits size) ≢ b)
            → new (inventory_page size (n / bits size)) ≡ old (inventory_page size (n / bits size))
        at (inl e) = region_page (n / bits size) (subst (λ (m : ℕ). m < GREATEST_LIMIT) (sym e) change.below)
        at (inr ne) = change.others (inventory_page size (n / bits size)) ne

    pub header_kept : HasHeader size new
    header_kept = record {
      lawful_size = header.lawful_size;
      whole = λ n. whole n (cases_eq n b);
      database = rw header_page header.database;
      fields = rw header_page header.fields;
      used = used_kept 0 ∙ header.used;
    }
      where
        whole : (n : ℕ) → (n ≡ b) ⊎ (n ≢ b) → length (new n) ≡ size
        whole n (inl e) = ap (λ (m : ℕ). length (new m)) e ∙ (change.len ∙ header.whole b)
        whole n (inr ne) = ap length (change.others n ne) ∙ header.whole n

    pub header_same : header_of new ≡ header_of old
    header_same = ap header_in header_page

    pub next_same : next_of new ≡ next_of old
    next_same = ap (λ (h : Header). h.next.0) header_same

    pub last_same : last_sequence size new ≡ last_sequence size old
    last_same = ap (λ (n : ℕ). (n - 1) / places size) next_same

    pub inventory_kept : HasInventory size new
    inventory_kept region below = at (inventory region below)
      where
        n : ℕ
        n = inventory_page size region

        at : HasRegion size old (inventory_page size region) region
            → HasRegion size new (inventory_page size region) region
        at (inl empty) = inl (region_page region below ∙ empty)
        at (inr wanted) = inr (wanted_kept size old new (inventory_page size region)
            (pip_checks (old (inventory_page size region)) (inventory_page size region) region)
            (pip_checks (new (inventory_page size region)) (inventory_page size region) region)
            (λ is. used_kept (inventory_page size region) ∙ is)
            (ap (λ (page : List ℕ). pip_checks page (inventory_page size region) region)
            (region_page region below)) wanted)

    -- the pages of transactions
    tip_kind : (sequence : ℕ) → sequence ≤ last_sequence size old
        → new (tip_page size old sequence) ≡ old (tip_page size old sequence)
    unfolding tip_checks
    tip_kind sequence below = other_kind (tip_page size old sequence) 3
        (kind_of (old (tip_page size old sequence)) (tip_page size old sequence) 3 0 sequence _
        ((transactions.each sequence below).fields)) (λ e. omega (arith, e))

    before_same : (k : ℕ) → k ≤ last_sequence size old
        → tip_before new (header_of old).last_tip.0 k ≡ tip_before old (header_of old).last_tip.0 k
    before_same zero below = refl
    before_same (suc k) below =
        let so : last_sequence size old - (last_sequence size old - k) ≡ k = omega (arith, below) in
        let at_k : new (tip_before old (header_of old).last_tip.0 k)
        ≡ old (tip_before old (header_of old).last_tip.0 k) =
        subst (λ (j : ℕ). new (tip_before old (header_of old).last_tip.0 j)
        ≡ old (tip_before old (header_of old).last_tip.0 j)) so
        (tip_kind (last_sequence size old - k) (omega (arith, below))) in
        ap (λ (page : ℕ). prev_in (new page)) (before_same k (omega (arith, below)))
        ∙ ap prev_in at_k

    pub tip_same : (sequence : ℕ) → sequence ≤ last_sequence size old
        → tip_page size new sequence ≡ tip_page size old sequence
    tip_same sequence below =
        ap (λ (h : Header). tip_before new h.last_tip.0 (last_sequence size new - sequence)) header_same
        ∙ (ap (λ (last : ℕ). tip_before new (header_of old).last_tip.0 (last - sequence)) last_same
        ∙ before_same (last_sequence size old - sequence) (omega (arith, below)))

    pub tip_content : (sequence : ℕ) → sequence ≤ last_sequence size old
        → new (tip_page size new sequence) ≡ old (tip_page size old sequence)
    tip_content sequence below = ap new (tip_same sequence below) ∙ tip_kind sequence below

    pub transactions_kept : HasTransactions size new
    transactions_kept = record { each = each; undrawn = undrawn }
      where
        each : HasTips size new
        each sequence below =
            let within : sequence ≤ last_sequence size old =
            subst (λ (m : ℕ). sequence ≤ m) last_same below in
            subst (λ (n : ℕ). IsAsWanted size new n (tip_checks (new n) n sequence))
            (sym (tip_same sequence within))
            (wanted_kept size old new (tip_page size old sequence)
            (tip_checks (old (tip_page size old sequence)) (tip_page size old sequence) sequence)
            (tip_checks (new (tip_page size old sequence)) (tip_page size old sequence) sequence)
            (λ is. used_kept (tip_page size old sequence) ∙ is)
            (ap (λ (page : List ℕ). tip_checks page (tip_page size old sequence) sequence)
            (tip_kind sequence within)) (transactions.each sequence within))

        undrawn : HasNoneUndrawn size new
        undrawn t past on =
            let last_is : t / places size ≡ last_sequence size old = on ∙ last_same in
            let within : t / places size ≤ last_sequence size old = omega (arith, last_is) in
            subst (λ (page : List ℕ). IsUndrawn (state_in page (t % places size)))
            (sym (tip_content (t / places size) within))
            (transactions.undrawn t (subst (λ (n : ℕ). n ≤ t) next_same past) last_is)

    pub tips_same : tips_of size new ≡ tips_of size old
    tips_same = ap (λ (n : ℕ). tips_below size new (n + 1)) last_same
        ∙ below (last_sequence size old + 1) (omega arith)
      where
        below : (n : ℕ) → n ≤ last_sequence size old + 1
            → tips_below size new n ≡ tips_below size old n
        below zero within = refl
        below (suc n) within =
            ap (λ (page : ℕ). page ∷ tips_below size new n) (tip_same n (omega (arith, within)))
            ∙ ap (λ (pages : List ℕ). tip_page size old n ∷ pages) (below n (omega (arith, within)))

    -- the pages of a table
    stand_kept : (stand : Stand)
        → AreTrees size new stand.table.pointer.0 stand.table.indexes stand.trees
        → HasTablePages in_primary size old stand → HasTablePages in_primary size new stand
    unfolding pointer_checks
    stand_kept stand trees has = record {
      first = has.first;
      chain = link_chain_kept (λ n. next_in (old n)) (λ n. next_in (new n)) stand.table.pointer.0
          stand.pointers (λ n is. ap next_in (pointer_same 0 stand.pointers has.pointers n is)) has.chain;
      entries = has.entries ∙ sym (entries_kept old new stand.pointers
          (pointer_same 0 stand.pointers has.pointers));
      pointers = each_from_has (IsTablePointer size old owner) (IsTablePointer size new owner) 0
          stand.pointers (λ k n is wanted. wanted_kept size old new n (pointer_checks (old n) n owner k)
          (pointer_checks (new n) n owner k) (λ is. used_kept n ∙ is)
          (ap (λ (page : List ℕ). pointer_checks page n owner k)
          (pointer_same 0 stand.pointers has.pointers n is)) wanted) has.pointers;
      data_pages = each_from_has (IsTableData in_primary size old owner)
          (IsTableData in_primary size new owner) 0 stand.data_pages data_kept has.data_pages;
      trees = trees;
    }
      where
        owner : ℕ
        owner = stand.table.pointer.0

        pointer_same : (k : ℕ) (ns : List ℕ) → EachFrom (IsTablePointer size old owner) k ns
            → (n : ℕ) → Has ns n → new n ≡ old n
        pointer_same k [] each n is = absurd is
        pointer_same k (m ∷ ms) each n (inl e) = rw e (other_kind m 4
            (kind_of (old m) m 4 owner k _ (each.0.fields)) (λ e. omega (arith, e)))
        pointer_same k (m ∷ ms) each n (inr more) = pointer_same (suc k) ms each.1 n more

        data_kept : (k n : ℕ) → Has stand.data_pages n → IsTableData in_primary size old owner k n
            → IsTableData in_primary size new owner k n
        data_kept k n is was = at (cases_eq n b)
          where
            wanted_on : common_checks (new n) n DATA_KIND owner k ≡ common_checks (old n) n DATA_KIND owner k
                → IsAsWanted size new n (common_checks (new n) n DATA_KIND owner k)
            wanted_on same = wanted_kept size old new n (common_checks (old n) n DATA_KIND owner k)
                (common_checks (new n) n DATA_KIND owner k) (λ is. used_kept n ∙ is) same was.wanted

            at : (n ≡ b) ⊎ (n ≢ b) → IsTableData in_primary size new owner k n
            at (inl e) = record {
              wanted = wanted_on (front_checks (new n) (old n) n DATA_KIND owner k
                  (subst (λ (m : ℕ). take COMMON (new m) ≡ take COMMON (old m)) (sym e) change.common));
              lawful = subst (λ (m : ℕ). IsDataPage (new m)) (sym e) change.lawful;
              cells = subst (λ (m : ℕ). (slot : ℕ) (bytes : List ℕ) → cell_of (new m) slot ≡ Some bytes
                  → IsCellOf in_primary bytes) (sym e) change.cells;
            }
            at (inr ne) =
                let same : new n ≡ old n = change.others n ne in
                record {
                  wanted = wanted_on (ap (λ (page : List ℕ). common_checks page n DATA_KIND owner k) same);
                  lawful = rw same was.lawful;
                  cells = rw same was.cells;
                }

    pub stands_kept : (stands : List Stand)
        → EachStand (λ stand. AreTrees size new stand.table.pointer.0 stand.table.indexes stand.trees) stands
        → EachStand (HasTablePages in_primary size old) stands
        → EachStand (HasTablePages in_primary size new) stands
    stands_kept [] trees has = tt
    stands_kept (stand ∷ stands) trees has =
        (stand_kept stand trees.0 has.0, stands_kept stands trees.1 has.1)

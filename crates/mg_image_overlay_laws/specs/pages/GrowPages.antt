-- A table gets a data page, told by the pages alone.
use Rattle.mg_base.specs.Checks.{PassesAll, common_checks}
use Rattle.mg_base.specs.Fields.{byte}
use Rattle.mg_base.specs.declared.geometry.TheConstants.{GREATEST_LIMIT}
use Rattle.mg_base.specs.declared.numbers.RecId.{RecId}
use Rattle.mg_base.specs.declared.transaction.TxState.{TxState}
use Rattle.mg_image.specs.Form.{Form, Pages}
use Rattle.mg_image.specs.Indexes.{AreTrees, EachPage}
use Rattle.mg_image.specs.Inventory.{inventory_page, is_used, last_sequence, tip_page}
use Rattle.mg_image.specs.KeptPageLaws.{each_from_has, entries_kept, link_chain_kept}
use Rattle.mg_image.specs.Reached.{linked_pages, tips_below, tips_of}
use Rattle.mg_image.specs.Records.{Reading, cells_of, newest_of, slot_cell}
use Rattle.mg_image.specs.Sound.{HasInventory, HasRegion, HasTablePages, IsSoundBy, IsTableData, IsTablePointer}
use Rattle.mg_image.specs.Tables.{EachFrom, EachStand, Has, IsOnce, Layout, Stand, has, pages_of, stands_of, table_at, tree_pages}
use Rattle.mg_image_overlay_laws.specs.pages.DataPages.{all_passes, byte_blank, kind_of}
use Rattle.mg_image_overlay_laws.specs.pages.DataSound.{KeepsTrees}
use Rattle.mg_image_overlay_laws.specs.pages.Frame.{KeepsLinked}
use Rattle.mg_image_overlay_laws.specs.pages.Grow.{GrowsImage}
use Rattle.mg_image_overlay_laws.specs.pages.Growth.{has_back, has_either, has_front, wanted_still}
use Rattle.mg_image_overlay_laws.specs.pages.Kinds.{HasNoSequences, IsLinked, linked_is, pointers_of}
use Rattle.mg_image_overlay_laws.specs.pages.Reach.{data_there, has_it, once_apart, once_back, once_front, page_there}
use Rattle.mg_model.specs.declared.table.Table.{Table}
use Rattle.mg_pip.specs.PipPage.{bits, pip_checks, used_in}
use Rattle.mg_pointer.specs.PointerPage.{AddsEntry, next_in, pointer_checks}
use Rattle.mg_slots.specs.DataPage.{IsDataPage, cell_of}
use Rattle.mg_slots.specs.declared.page.TheConstants.{DATA_KIND}
use Rattle.std.proofs.Common.{Bool, List, None, Option, Some, [], ap, arith, false, inl, inr, length, refl, subst, suc, sym, true, zero, ℕ, ◌%◌, ◌++◌, ◌+◌, ◌/◌, ◌<◌, ◌∙◌, ◌∷◌, ◌≡◌, ◌≢◌, ◌≤◌, ◌⊎◌}
use Rattle.std.proofs.lemmas.Bool.{cases_eq, cases_lt}
use Rattle.std.specs.List.{flat_map}
use Rattle.std.specs.Prelude.{if◌then◌else◌}

-- What the batch does to the pool's pages: the bit of a page n that was free is set in the inventory
-- page i, an empty data page of an owner is made there, and the pointer page q has the entry.
pub record GrowsPages (in_primary : Bool) (size : ℕ) (pool changed : Pages) (owner place i q n : ℕ)
    : Type 0 where
  pub others : (m : ℕ) → m ≢ i → m ≢ n → m ≢ q → changed m ≡ pool m
  pub off_header : (0 ≢ i) × (0 ≢ n) × (0 ≢ q)
  pub whole : (m : ℕ) → length (changed m) ≡ size
  -- the bit
  pub of_bit : inventory_page size (n / bits size) ≡ i
  pub own_bit : inventory_page size (i / bits size) ≡ i
  pub region : (k : ℕ) → inventory_page size k ≡ i → HasRegion size changed i k
  pub was_region : byte (pool i) 0 < 3
  pub used : (m : ℕ) → is_used size pool m ≡ true → is_used size changed m ≡ true
  pub fresh : is_used size pool n ≡ false
  pub bit : is_used size changed n ≡ true
  pub below : n < GREATEST_LIMIT
  pub no_region : (k : ℕ) → inventory_page size k ≢ n
  -- the data page
  pub made : PassesAll (common_checks (changed n) n DATA_KIND owner place)
  pub lawful : IsDataPage (changed n)
  pub empty : (slot : ℕ) → cell_of (changed n) slot ≡ None
  -- the entry
  pub below_pointer : q < GREATEST_LIMIT
  pub was_pointer : byte (pool q) 0 ≡ 4
  pub entry : AddsEntry (pool q) (changed q) n
  pub pointer : (seq : ℕ) → PassesAll (pointer_checks (pool q) q owner seq)
      → PassesAll (pointer_checks (changed q) q owner seq)

-- An image has some of these pages as the pool, and then as the pool has them, and the others stay.
pub record IsBetween (pool changed image laid : Pages) (i q n : ℕ) : Type 0 where
  pub others : (m : ℕ) → m ≢ i → m ≢ n → m ≢ q → laid m ≡ image m
  pub inventory : ((image i ≡ pool i) × (laid i ≡ changed i)) ⊎ (laid i ≡ image i)
  pub page : (laid n ≡ changed n) ⊎ (laid n ≡ image n)
  pub pointer : ((image q ≡ pool q) × (laid q ≡ changed q)) ⊎ (laid q ≡ image q)

-- It has all three.
pub record HasGrowth (pool changed image laid : Pages) (i q n : ℕ) : Type 0 where
  pub was_bits : image i ≡ pool i
  pub bits_are : laid i ≡ changed i
  pub page_is : laid n ≡ changed n
  pub was_pointer : image q ≡ pool q
  pub pointer_is : laid q ≡ changed q

pub each_last : (P : ℕ → ℕ → Type 0) (k : ℕ) (ms : List ℕ) (q : ℕ) → EachFrom P k (ms ++ (q ∷ []))
    → P (k + length ms) q
each_last P k [] q each = let same : k ≡ k + 0 = omega arith in subst (λ (j : ℕ). P j q) same each.0
each_last P k (m ∷ ms) q each =
    let same : suc k + length ms ≡ k + suc (length ms) = omega arith in
    subst (λ (j : ℕ). P j q) same (each_last P (suc k) ms q each.1)

pub in_mid : (before after : List Stand) (stand : Stand) (m : ℕ) → Has (pages_of stand) m
    → Has (flat_map pages_of (before ++ (stand ∷ after))) m
in_mid [] after stand m is = has_front (pages_of stand) (flat_map pages_of after) m is
in_mid (other ∷ before) after stand m is = has_back (pages_of other)
    (flat_map pages_of (before ++ (stand ∷ after))) m (in_mid before after stand m is)

pub once_mid : (before after : List Stand) (stand : Stand)
    → IsOnce (flat_map pages_of (before ++ (stand ∷ after))) → IsOnce (pages_of stand)
once_mid [] after stand once = once_front (pages_of stand) (flat_map pages_of after) once
once_mid (other ∷ before) after stand once = once_mid before after stand
    (once_back (pages_of other) (flat_map pages_of (before ++ (stand ∷ after))) once)

pub trees_mid : (P : Stand → Type 0) (before after : List Stand) (stand : Stand)
    → EachStand P (before ++ (stand ∷ after)) → EachStand P before × P stand × EachStand P after
trees_mid P [] after stand each = (tt, each.0, each.1)
trees_mid P (other ∷ before) after stand each = at (trees_mid P before after stand each.1)
  where
    at : EachStand P before × P stand × EachStand P after
        → EachStand P (other ∷ before) × P stand × EachStand P after
    at (first, mid, last) = ((each.0, first), mid, last)

-- a page of another stand is none of this one
pub off_first : (before after : List Stand) (stand : Stand) (q m : ℕ)
    → IsOnce (flat_map pages_of (before ++ (stand ∷ after))) → Has (pages_of stand) q
    → Has (flat_map pages_of before) m → m ≢ q
off_first [] after stand q m once of is same = is
off_first (other ∷ before) after stand q m once of is same =
    at (has_either (pages_of other) (flat_map pages_of before) m is)
    (λ more. off_first before after stand q m
    (once_back (pages_of other) (flat_map pages_of (before ++ (stand ∷ after))) once) of more same)
  where
    at : Has (pages_of other) m ⊎ Has (flat_map pages_of before) m
        → (Has (flat_map pages_of before) m → ⊥) → ⊥
    at (inl here) others = once_apart (pages_of other) (flat_map pages_of (before ++ (stand ∷ after))) m
        once here (subst (Has (flat_map pages_of (before ++ (stand ∷ after)))) (sym same)
        (in_mid before after stand q of))
    at (inr more) others = others more

pub off_last : (before after : List Stand) (stand : Stand) (q m : ℕ)
    → IsOnce (flat_map pages_of (before ++ (stand ∷ after))) → Has (pages_of stand) q
    → Has (flat_map pages_of after) m → m ≢ q
off_last [] after stand q m once of is same =
    once_apart (pages_of stand) (flat_map pages_of after) m once
    (subst (Has (pages_of stand)) (sym same) of) is
off_last (other ∷ before) after stand q m once of is same = off_last before after stand q m
    (once_back (pages_of other) (flat_map pages_of (before ++ (stand ∷ after))) once) of is same

pub in_first : (before after : List Stand) (stand : Stand) (m : ℕ) → Has (flat_map pages_of before) m
    → Has (flat_map pages_of (before ++ (stand ∷ after))) m
in_first [] after stand m is = absurd is
in_first (other ∷ before) after stand m is =
    at (pages_of other) (flat_map pages_of before) (flat_map pages_of (before ++ (stand ∷ after)))
    (in_first before after stand m) is
  where
    at : (ms ns ks : List ℕ) → (Has ns m → Has ks m) → Has (ms ++ ns) m → Has (ms ++ ks) m
    at [] ns ks gives is = gives is
    at (j ∷ ms) ns ks gives (inl e) = inl e
    at (j ∷ ms) ns ks gives (inr more) = inr (at ms ns ks gives more)

pub in_last : (before after : List Stand) (stand : Stand) (m : ℕ) → Has (flat_map pages_of after) m
    → Has (flat_map pages_of (before ++ (stand ∷ after))) m
in_last [] after stand m is = has_back (pages_of stand) (flat_map pages_of after) m is
in_last (other ∷ before) after stand m is = has_back (pages_of other)
    (flat_map pages_of (before ++ (stand ∷ after))) m (in_last before after stand m is)

-- a table whose pages stay, where more pages may be used
module _ (in_primary : Bool) (size : ℕ) (old new : Pages)
    (used : (m : ℕ) → is_used size old m ≡ true → is_used size new m ≡ true) where
  stand_still : (stand : Stand) → ((m : ℕ) → Has (pages_of stand) m → new m ≡ old m)
      → AreTrees size new stand.table.pointer.0 stand.table.indexes stand.trees
      → HasTablePages in_primary size old stand → HasTablePages in_primary size new stand
  stand_still stand same trees has_ = record {
    first = has_.first;
    chain = link_chain_kept (λ n. next_in (old n)) (λ n. next_in (new n)) stand.table.pointer.0
        stand.pointers (λ n is. ap next_in (pointer_same n is)) has_.chain;
    entries = has_.entries ∙ sym (entries_kept old new stand.pointers pointer_same);
    pointers = each_from_has (IsTablePointer size old owner) (IsTablePointer size new owner) 0
        stand.pointers (λ j n is wanted. wanted_still size old new n (pointer_checks (old n) n owner j)
        (pointer_checks (new n) n owner j) (used n)
        (ap (λ (page : List ℕ). pointer_checks page n owner j) (pointer_same n is)) wanted)
        has_.pointers;
    data_pages = each_from_has (IsTableData in_primary size old owner)
        (IsTableData in_primary size new owner) 0 stand.data_pages data_kept has_.data_pages;
    trees = trees;
  }
    where
      owner : ℕ
      owner = stand.table.pointer.0

      pointer_same : (n : ℕ) → Has stand.pointers n → new n ≡ old n
      pointer_same n is = same n (has_front (stand.pointers ++ stand.data_pages)
          (tree_pages stand.trees) n (has_front stand.pointers stand.data_pages n is))

      data_kept : (j n : ℕ) → Has stand.data_pages n
          → IsTableData in_primary size old owner j n
          → IsTableData in_primary size new owner j n
      data_kept j n is was = record {
        wanted = wanted_still size old new n (common_checks (old n) n DATA_KIND owner j)
            (common_checks (new n) n DATA_KIND owner j) (used n)
            (ap (λ (page : List ℕ). common_checks page n DATA_KIND owner j)
            (same n (data_there stand n is))) was.wanted;
        lawful = rw (same n (data_there stand n is)) was.lawful;
        cells = rw (same n (data_there stand n is)) was.cells;
      }

  pub stands_still : (stands : List Stand) → ((m : ℕ) → Has (flat_map pages_of stands) m → new m ≡ old m)
      → EachStand (λ stand. AreTrees size new stand.table.pointer.0 stand.table.indexes stand.trees) stands
      → EachStand (HasTablePages in_primary size old) stands
      → EachStand (HasTablePages in_primary size new) stands
  stands_still [] same trees has_ = tt
  stands_still (stand ∷ stands) same trees has_ = (
    stand_still stand (λ m is. same m (has_front (pages_of stand) (flat_map pages_of stands) m is))
        trees.0 has_.0,
    stands_still stands (λ m is. same m (has_back (pages_of stand) (flat_map pages_of stands) m is))
        trees.1 has_.1,
  )

-- a data page of a table is one by its kind
pub data_kind : (in_primary : Bool) (size : ℕ) (pages : Pages) (stands : List Stand)
    → EachStand (HasTablePages in_primary size pages) stands → (m : ℕ)
    → Has (flat_map (λ s. s.data_pages) stands) m → byte (pages m) 0 ≡ 5
data_kind in_primary size pages [] has_ m is = absurd is
data_kind in_primary size pages (s ∷ stands) has_ m is =
    at (has_either s.data_pages (flat_map (λ s. s.data_pages) stands) m is)
    (data_kind in_primary size pages stands has_.1 m)
  where
    each : (owner k : ℕ) (ns : List ℕ) → EachFrom (IsTableData in_primary size pages owner) k ns
        → Has ns m → byte (pages m) 0 ≡ 5
    each owner k [] are is = absurd is
    each owner k (j ∷ js) are (inl e) = rw e (kind_of (pages j) j 5 owner k []
        (all_passes (common_checks (pages j) j 5 owner k) are.0.wanted.fields))
    each owner k (j ∷ js) are (inr more) = each owner (suc k) js are.1 more

    at : Has s.data_pages m ⊎ Has (flat_map (λ s. s.data_pages) stands) m
        → (Has (flat_map (λ s. s.data_pages) stands) m → byte (pages m) 0 ≡ 5) → byte (pages m) 0 ≡ 5
    at (inl here) others = each s.table.pointer.0 0 s.data_pages has_.0.data_pages here
    at (inr more) others = others more

module _ (form : Form) (size : ℕ) (state : ℕ → TxState) (pool changed image laid : Pages)
    (owner place i q n : ℕ) (none : HasNoSequences form)
    (pages : GrowsPages form.in_primary size pool changed owner place i q n)
    (catalog : Stand) (before after : List Stand) (stand : Stand) (sequences : List ℕ) (r : Reading)
    (sound : IsSoundBy form size state image (record {
      catalog = catalog;
      tables = before ++ (stand ∷ after);
      sequences = sequences;
    }) r)
    (used_in_pool : (m : ℕ) → is_used size image m ≡ true → is_used size pool m ≡ true) where
  abbrev layout : Layout
  layout = record { catalog = catalog; tables = before ++ (stand ∷ after); sequences = sequences }

  pub not_fresh : is_used size image n ≡ true → ⊥
  not_fresh is = let both : true ≡ false = sym (used_in_pool n is) ∙ pages.fresh in absurd cc

  pub linked : (m : ℕ) → Has (linked_pages size image layout) m
      → IsLinked size image (pointers_of (stands_of layout)) m
  linked = linked_is form size state image layout r none sound

  -- a linked page but the pointer page stays
  module _ (between : IsBetween pool changed image laid i q n) where
    pub stays : (m : ℕ) → Has (linked_pages size image layout) m → m ≢ q → laid m ≡ image m
    stays m is ne = at (cases_eq m i) between.inventory
      where
        off_page : m ≢ n
        off_page e = not_fresh (subst (λ (k : ℕ). is_used size image k ≡ true) e (linked m is).used)

        at : (m ≡ i) ⊎ (m ≢ i) → ((image i ≡ pool i) × (laid i ≡ changed i)) ⊎ (laid i ≡ image i)
            → laid m ≡ image m
        at (inr off) bits_ = between.others m off off_page ne
        at (inl e) (inr same) = ap laid e ∙ (same ∙ ap image (sym e))
        at (inl e) (inl (was, now)) =
            let kind : 3 ≤ byte (image i) 0 = subst (λ (k : ℕ). 3 ≤ byte (image k) 0) e (linked m is).kind in
            let few : byte (image i) 0 < 3 =
            subst (λ (page : List ℕ). byte page 0 < 3) (sym was) pages.was_region in
            absurd (omega (arith, kind, few))

    -- the inventory's pages but the one of the bit stay
    region_stays : (k : ℕ) → (inventory_page size k < GREATEST_LIMIT) ⊎ (GREATEST_LIMIT ≤ inventory_page size k)
        → inventory_page size k ≢ i → laid (inventory_page size k) ≡ image (inventory_page size k)
    region_stays k where_ ne = at (cases_eq (inventory_page size k) q) between.pointer where_
      where
        wrong : HasRegion size image (inventory_page size k) k
            → byte (image (inventory_page size k)) 0 ≡ 4 → ⊥
        wrong (inl empty) four =
            let zero_ : byte (image (inventory_page size k)) 0 ≡ 0 =
            ap (λ (page : List ℕ). byte page 0) empty ∙ byte_blank size in
            omega (arith, zero_, four)
        wrong (inr wanted) four =
            let two : byte (image (inventory_page size k)) 0 ≡ 2 =
            kind_of (image (inventory_page size k)) (inventory_page size k) 2 0 k []
            (all_passes (common_checks (image (inventory_page size k)) (inventory_page size k) 2 0 k)
            wanted.fields) in
            omega (arith, two, four)

        at : (inventory_page size k ≡ q) ⊎ (inventory_page size k ≢ q)
            → ((image q ≡ pool q) × (laid q ≡ changed q)) ⊎ (laid q ≡ image q)
            → (inventory_page size k < GREATEST_LIMIT) ⊎ (GREATEST_LIMIT ≤ inventory_page size k)
            → laid (inventory_page size k) ≡ image (inventory_page size k)
        at (inr off) pointer past = between.others (inventory_page size k) ne (pages.no_region k) off
        at (inl e) (inr same) past = ap laid e ∙ (same ∙ ap image (sym e))
        at (inl e) (inl (was, now)) (inl below) = absurd (wrong (sound.inventory k below)
            (ap (λ (m : ℕ). byte (image m) 0) e
            ∙ (ap (λ (page : List ℕ). byte page 0) was ∙ pages.was_pointer)))
        at (inl e) (inl (was, now)) (inr past) =
            let least : q < GREATEST_LIMIT = pages.below_pointer in absurd (omega (arith, past, e, least))

    bits_alike : (one other : Pages) (m : ℕ)
        → one (inventory_page size (m / bits size)) ≡ other (inventory_page size (m / bits size))
        → is_used size one m ≡ is_used size other m
    unfolding is_used
    bits_alike one other m same = ap (λ (page : List ℕ). used_in page (m % bits size)) same

    on_page : (one other : Pages) (m : ℕ) → inventory_page size (m / bits size) ≡ i → one i ≡ other i
        → is_used size one m ≡ is_used size other m
    on_page one other m on same = bits_alike one other m (ap one on ∙ (same ∙ ap other (sym on)))

    off_it : (m : ℕ) → inventory_page size (m / bits size) ≢ i
        → is_used size laid m ≡ is_used size image m
    off_it m ne = bits_alike laid image m (region_stays (m / bits size)
        (cases_lt (inventory_page size (m / bits size)) GREATEST_LIMIT) ne)

    pub used_still : (m : ℕ) → is_used size image m ≡ true → is_used size laid m ≡ true
    used_still m is = at (cases_eq (inventory_page size (m / bits size)) i) between.inventory
      where
        at : (inventory_page size (m / bits size) ≡ i) ⊎ (inventory_page size (m / bits size) ≢ i)
            → ((image i ≡ pool i) × (laid i ≡ changed i)) ⊎ (laid i ≡ image i)
            → is_used size laid m ≡ true
        at (inl on) (inl (was, now)) = on_page laid changed m on now
            ∙ pages.used m (sym (on_page image pool m on was) ∙ is)
        at (inl on) (inr same) = on_page laid image m on same ∙ is
        at (inr ne) bits_ = off_it m ne ∙ is

    -- the overlay uses no page that the grown pool does not
    pub used_within : (m : ℕ) → is_used size laid m ≡ true → is_used size changed m ≡ true
    used_within m is = at (cases_eq (inventory_page size (m / bits size)) i) between.inventory
      where
        at : (inventory_page size (m / bits size) ≡ i) ⊎ (inventory_page size (m / bits size) ≢ i)
            → ((image i ≡ pool i) × (laid i ≡ changed i)) ⊎ (laid i ≡ image i)
            → is_used size changed m ≡ true
        at (inl on) (inl (was, now)) = sym (on_page laid changed m on now) ∙ is
        at (inl on) (inr same) = pages.used m (used_in_pool m (sym (on_page laid image m on same) ∙ is))
        at (inr ne) bits_ = pages.used m (used_in_pool m (sym (off_it m ne) ∙ is))

    pub inventory_still : HasInventory size laid
    inventory_still k below = at (cases_eq (inventory_page size k) i) between.inventory
      where
        moved : HasRegion size changed i k → inventory_page size k ≡ i → laid i ≡ changed i
            → HasRegion size laid (inventory_page size k) k
        moved (inl empty) on now = inl (ap laid on ∙ (now ∙ empty))
        moved (inr wanted) on now = subst (λ (m : ℕ). HasRegion size laid m k) (sym on) (inr (record {
          below = wanted.below;
          used = on_page laid changed i pages.own_bit now ∙ wanted.used;
          fields = subst (λ (page : List ℕ). PassesAll (pip_checks page i k)) (sym now) wanted.fields;
        }))

        stayed : laid (inventory_page size k) ≡ image (inventory_page size k)
            → HasRegion size image (inventory_page size k) k
            → HasRegion size laid (inventory_page size k) k
        stayed same (inl empty) = inl (same ∙ empty)
        stayed same (inr wanted) = inr (wanted_still size image laid (inventory_page size k)
            (pip_checks (image (inventory_page size k)) (inventory_page size k) k)
            (pip_checks (laid (inventory_page size k)) (inventory_page size k) k)
            (used_still (inventory_page size k))
            (ap (λ (page : List ℕ). pip_checks page (inventory_page size k) k) same) wanted)

        at : (inventory_page size k ≡ i) ⊎ (inventory_page size k ≢ i)
            → ((image i ≡ pool i) × (laid i ≡ changed i)) ⊎ (laid i ≡ image i)
            → HasRegion size laid (inventory_page size k) k
        at (inl on) (inl (was, now)) = moved (pages.region k on) on now
        at (inl on) (inr same) = stayed (ap laid on ∙ (same ∙ ap image (sym on)))
            (sound.inventory k below)
        at (inr ne) bits_ = stayed (region_stays k (inl below) ne) (sound.inventory k below)

    pub header_stays : laid 0 ≡ image 0
    header_stays = between.others 0 pages.off_header.0 pages.off_header.1 pages.off_header.2

    pub lengths_stay : (m : ℕ) → length (laid m) ≡ length (image m)
    lengths_stay m = at (cases_eq m i) (cases_eq m n) (cases_eq m q) between.inventory between.page
        between.pointer
      where
        as_pool : (k : ℕ) → m ≡ k → laid k ≡ changed k → length (laid m) ≡ length (image m)
        as_pool k e now = ap (λ (j : ℕ). length (laid j)) e
            ∙ (ap length now ∙ (pages.whole k ∙ sym (sound.header.whole m)))

        as_was : (k : ℕ) → m ≡ k → laid k ≡ image k → length (laid m) ≡ length (image m)
        as_was k e same = ap (λ (j : ℕ). length (laid j)) e
            ∙ (ap length same ∙ ap (λ (j : ℕ). length (image j)) (sym e))

        at : (m ≡ i) ⊎ (m ≢ i) → (m ≡ n) ⊎ (m ≢ n) → (m ≡ q) ⊎ (m ≢ q)
            → ((image i ≡ pool i) × (laid i ≡ changed i)) ⊎ (laid i ≡ image i)
            → (laid n ≡ changed n) ⊎ (laid n ≡ image n)
            → ((image q ≡ pool q) × (laid q ≡ changed q)) ⊎ (laid q ≡ image q)
            → length (laid m) ≡ length (image m)
        at (inl e) on_n on_q (inl (was, now)) page pointer = as_pool i e now
        at (inl e) on_n on_q (inr same) page pointer = as_was i e same
        at (inr off) (inl e) on_q bits_ (inl now) pointer = as_pool n e now
        at (inr off) (inl e) on_q bits_ (inr same) pointer = as_was n e same
        at (inr off) (inr off_n) (inl e) bits_ page (inl (was, now)) = as_pool q e now
        at (inr off) (inr off_n) (inl e) bits_ page (inr same) = as_was q e same
        at (inr off) (inr off_n) (inr off_q) bits_ page pointer =
            ap length (between.others m off off_n off_q)

    no_sequences : (ns : List ℕ) → EachPage (λ m. form.sequence_page (image m) m) ns
        → EachPage (λ m. form.sequence_page (laid m) m) ns
    no_sequences [] each = tt
    no_sequences (m ∷ ms) each = absurd (none (image m) m each.0)

    -- pages of trees stay
    pub node_stays : (m : ℕ) → Has (linked_pages size image layout) m → byte (image m) 0 ≡ 7
        → laid m ≡ image m
    node_stays m is seven = at (cases_eq m q) between.pointer
      where
        at : (m ≡ q) ⊎ (m ≢ q) → ((image q ≡ pool q) × (laid q ≡ changed q)) ⊎ (laid q ≡ image q)
            → laid m ≡ image m
        at (inr ne) pointer = stays m is ne
        at (inl e) (inr same) = ap laid e ∙ (same ∙ ap image (sym e))
        at (inl e) (inl (was, now)) =
            let four : byte (image m) 0 ≡ 4 = ap (λ (k : ℕ). byte (image k) 0) e
            ∙ (ap (λ (page : List ℕ). byte page 0) was ∙ pages.was_pointer) in
            absurd (omega (arith, four, seven))

    -- an image that has not the pointer page, or doesn't reach it
    pub grows_unreached : (laid q ≡ image q) ⊎ (Has (linked_pages size image layout) q → ⊥)
        → KeepsTrees image laid size layout → KeepsLinked form size image laid layout
    grows_unreached apart trees = record {
      header_page = header_stays;
      linked = λ m is. at apart m is (cases_eq m q);
      used = used_still;
      lengths = lengths_stay;
      inventory = inventory_still;
      trees = trees;
      sequences = no_sequences sequences sound.sequences;
    }
      where
        at : (laid q ≡ image q) ⊎ (Has (linked_pages size image layout) q → ⊥) → (m : ℕ)
            → Has (linked_pages size image layout) m → (m ≡ q) ⊎ (m ≢ q) → laid m ≡ image m
        at apart m is (inr ne) = stays m is ne
        at (inl same) m is (inl e) = ap laid e ∙ (same ∙ ap image (sym e))
        at (inr out) m is (inl e) = absurd (out (subst (Has (linked_pages size image layout)) e is))

    module _ (has_growth : HasGrowth pool changed image laid i q n) (front : List ℕ) (pointers : stand.pointers ≡ front ++ (q ∷ []))
        (place_is : length stand.data_pages ≡ place) (owner_is : stand.table.pointer.0 ≡ owner)
        (trees : KeepsTrees image laid size layout) where
      all_once : IsOnce (tips_of size image ++ flat_map pages_of (stands_of layout))
      all_once = once_front (tips_of size image ++ flat_map pages_of (stands_of layout)) sequences
          sound.once

      stands_once : IsOnce (flat_map pages_of (stands_of layout))
      stands_once = once_back (tips_of size image) (flat_map pages_of (stands_of layout)) all_once

      of_stand : (m : ℕ) → Has (flat_map pages_of (stands_of layout)) m
          → Has (linked_pages size image layout) m
      of_stand m is = has_front (tips_of size image ++ flat_map pages_of (stands_of layout)) sequences m
          (has_back (tips_of size image) (flat_map pages_of (stands_of layout)) m is)

      of_tip : (m : ℕ) → Has (tips_of size image) m → Has (linked_pages size image layout) m
      of_tip m is = has_front (tips_of size image ++ flat_map pages_of (stands_of layout)) sequences m
          (has_front (tips_of size image) (flat_map pages_of (stands_of layout)) m is)

      its_pointer : (m : ℕ) → Has stand.pointers m → Has (pages_of stand) m
      its_pointer m is = has_front (stand.pointers ++ stand.data_pages) (tree_pages stand.trees) m
          (has_front stand.pointers stand.data_pages m is)

      q_there : Has stand.pointers q
      q_there = subst (λ (ns : List ℕ). Has ns q) (sym pointers) (has_back front (q ∷ []) q (inl refl))

      mid_once : IsOnce (pages_of stand)
      mid_once = once_mid (catalog ∷ before) after stand stands_once

      pointers_once : IsOnce (front ++ (q ∷ []))
      pointers_once = subst IsOnce pointers (once_front stand.pointers stand.data_pages
          (once_front (stand.pointers ++ stand.data_pages) (tree_pages stand.trees) mid_once))

      front_stays : (m : ℕ) → Has front m → laid m ≡ image m
      front_stays m is = stays m (of_stand m (in_mid (catalog ∷ before) after stand m (its_pointer m
          (subst (λ (ns : List ℕ). Has ns m) (sym pointers) (has_front front (q ∷ []) m is)))))
          (λ e. once_apart front (q ∷ []) m pointers_once is (inl e))

      data_stays : (m : ℕ) → Has stand.data_pages m → laid m ≡ image m
      data_stays m is = stays m (of_stand m (in_mid (catalog ∷ before) after stand m (data_there stand m is)))
          (λ e. once_apart stand.pointers stand.data_pages q
          (once_front (stand.pointers ++ stand.data_pages) (tree_pages stand.trees) mid_once)
          q_there (subst (Has stand.data_pages) e is))

      q_place : Has (flat_map pages_of (stands_of layout)) q
      q_place = in_mid (catalog ∷ before) after stand q (its_pointer q q_there)

      tip_stays : (sequence : ℕ) → sequence ≤ last_sequence size image
          → laid (tip_page size image sequence) ≡ image (tip_page size image sequence)
      tip_stays sequence below = stays (tip_page size image sequence)
          (of_tip (tip_page size image sequence) there)
          (λ e. once_apart (tips_of size image) (flat_map pages_of (stands_of layout)) q all_once
          (subst (Has (tips_of size image)) e there) q_place)
        where
          tip_there : (k : ℕ) → sequence < k → Has (tips_below size image k) (tip_page size image sequence)
          tip_there zero less = absurd (omega (arith, less))
          tip_there (suc k) less = at (cases_eq sequence k) (tip_there k)
            where
              at : (sequence ≡ k) ⊎ (sequence ≢ k)
                  → (sequence < k → Has (tips_below size image k) (tip_page size image sequence))
                  → (tip_page size image sequence ≡ tip_page size image k)
                  ⊎ Has (tips_below size image k) (tip_page size image sequence)
              at (inl e) more = inl (ap (tip_page size image) e)
              at (inr ne) more = inr (more (omega (arith, less, ne)))

          there : Has (tips_of size image) (tip_page size image sequence)
          there = tip_there (last_sequence size image + 1) (omega (arith, below))

      parts : EachStand (HasTablePages form.in_primary size image) (catalog ∷ before)
          × HasTablePages form.in_primary size image stand
          × EachStand (HasTablePages form.in_primary size image) after
      parts = trees_mid (HasTablePages form.in_primary size image) (catalog ∷ before) after stand
          sound.tables

      tree_parts : EachStand (λ s. AreTrees size laid s.table.pointer.0 s.table.indexes s.trees) (catalog ∷ before)
          × AreTrees size laid stand.table.pointer.0 stand.table.indexes stand.trees
          × EachStand (λ s. AreTrees size laid s.table.pointer.0 s.table.indexes s.trees) after
      tree_parts = trees_mid (λ s. AreTrees size laid s.table.pointer.0 s.table.indexes s.trees)
          (catalog ∷ before) after stand trees.trees

      its_pages : HasTablePages form.in_primary size image stand
      its_pages = parts.1

      last_pointer : IsTablePointer size image stand.table.pointer.0 (0 + length front) q
      last_pointer = each_last (IsTablePointer size image stand.table.pointer.0) 0 front q
          (subst (EachFrom (IsTablePointer size image stand.table.pointer.0) 0) pointers
          its_pages.pointers)

      is_pointer : IsTablePointer size laid stand.table.pointer.0 (0 + length front) q
      is_pointer = record {
        below = last_pointer.below;
        used = used_still q last_pointer.used;
        fields = subst (λ (k : ℕ). PassesAll (pointer_checks (laid q) q k (0 + length front))) (sym owner_is)
            (subst (λ (page : List ℕ). PassesAll (pointer_checks page q owner (0 + length front)))
            (sym has_growth.pointer_is) (pages.pointer (0 + length front)
            (subst (λ (page : List ℕ). PassesAll (pointer_checks page q owner (0 + length front)))
            has_growth.was_pointer
            (subst (λ (k : ℕ). PassesAll (pointer_checks (image q) q k (0 + length front))) owner_is
            last_pointer.fields))));
      }

      no_cell : (slot : ℕ) → cell_of (laid n) slot ≡ None
      no_cell slot = ap (λ (page : List ℕ). cell_of page slot) has_growth.page_is ∙ pages.empty slot

      made : IsTableData form.in_primary size laid stand.table.pointer.0 (0 + length stand.data_pages) n
      made = record {
        wanted = record {
          below = pages.below;
          used = on_page laid changed n pages.of_bit has_growth.bits_are ∙ pages.bit;
          fields = subst (λ (page : List ℕ). PassesAll (common_checks page n DATA_KIND
              stand.table.pointer.0 (0 + length stand.data_pages))) (sym has_growth.page_is)
              (subst (λ (k : ℕ). PassesAll (common_checks (changed n) n DATA_KIND k
              (0 + length stand.data_pages))) (sym owner_is)
              (subst (λ (k : ℕ). PassesAll (common_checks (changed n) n DATA_KIND owner k))
              at_place pages.made));
        };
        lawful = subst IsDataPage (sym has_growth.page_is) pages.lawful;
        cells = λ slot bytes is.
            let both : None ≡ Some bytes = sym (no_cell slot) ∙ is in absurd (absent bytes both);
      }
        where
          at_place : place ≡ 0 + length stand.data_pages
          at_place = let is = place_is in omega (arith, is)

          absent : (bytes : List ℕ) → None ≡ Some bytes → ⊥
          absent bytes both = cc

      pub grows_image : GrowsImage form size image laid (catalog ∷ before) after stand front q n sequences
      grows_image = record {
        stand_grows = record {
          pointers = pointers;
          entry = subst (λ (page : List ℕ). AddsEntry page (laid q) n) (sym has_growth.was_pointer)
              (subst (λ (page : List ℕ). AddsEntry (pool q) page n) (sym has_growth.pointer_is) pages.entry);
          is_pointer = is_pointer;
          made = made;
          front_kept = front_stays;
          data_kept = data_stays;
          used = used_still;
          trees = tree_parts.1;
        };
        header_page = header_stays;
        tips = tip_stays;
        lengths = lengths_stay;
        inventory = inventory_still;
        before_kept = stands_still form.in_primary size image laid used_still (catalog ∷ before)
            (λ m is. stays m (of_stand m (in_first (catalog ∷ before) after stand m is))
            (off_first (catalog ∷ before) after stand q m stands_once (its_pointer q q_there) is))
            tree_parts.0 parts.0;
        after_kept = stands_still form.in_primary size image laid used_still after
            (λ m is. stays m (of_stand m (in_last (catalog ∷ before) after stand m is))
            (off_last (catalog ∷ before) after stand q m stands_once (its_pointer q q_there) is))
            tree_parts.2 parts.2;
        sequence_pages = no_sequences sequences sound.sequences;
        fresh = not_used (is_used size image n) refl;
        not_linked = λ is. not_fresh (linked n is).used;
        no_table = no_table (table_at (stands_of layout) n) refl;
        cells = cells;
        no_record = λ x on. ap (newest_of x) (ap (λ (m : ℕ). slot_cell (cell_of (laid m) x.slot)) on
            ∙ ap slot_cell (no_cell x.slot));
        found = trees.found;
      }
        where
          not_used : (c : Bool) → is_used size image n ≡ c → is_used size image n ≡ false
          not_used true is = absurd (not_fresh is)
          not_used false is = is

          no_table : (t : Option Table) → table_at (stands_of layout) n ≡ t
              → table_at (stands_of layout) n ≡ None
          no_table None is = is
          no_table (Some table) is = absurd (not_fresh
              (linked n (of_stand n (page_there (stands_of layout) n table is))).used)

          data_of : (stands : List Stand) (m : ℕ) (table : Table) → table_at stands m ≡ Some table
              → Has (flat_map (λ s. s.data_pages) stands) m
          data_of [] m table is = absurd cc
          data_of (s ∷ stands) m table is = at (has s.data_pages m) refl is (data_of stands m table)
            where
              at : (c : Bool) → has s.data_pages m ≡ c
                  → (if c then Some s.table else table_at stands m) ≡ Some table
                  → (table_at stands m ≡ Some table → Has (flat_map (λ s. s.data_pages) stands) m)
                  → Has (flat_map (λ s. s.data_pages) (s ∷ stands)) m
              at true in_it is more = has_front s.data_pages (flat_map (λ s. s.data_pages) stands) m
                  (has_it s.data_pages m in_it)
              at false out is more = has_back s.data_pages (flat_map (λ s. s.data_pages) stands) m (more is)

          -- a data page of a table is not the pointer page, by its kind
          cells : (x : RecId) (table : Table) → table_at (stands_of layout) x.page.0 ≡ Some table
              → cells_of laid x ≡ cells_of image x
          cells x table of = ap (λ (page : List ℕ). slot_cell (cell_of page x.slot))
              (stays x.page.0 (of_stand x.page.0 (page_there (stands_of layout) x.page.0 table of)) off)
            where
              five : (stands : List Stand) → EachStand (HasTablePages form.in_primary size image) stands
                  → (m : ℕ) → Has (flat_map (λ s. s.data_pages) stands) m → byte (image m) 0 ≡ 5
              five stands has_ m is = data_kind form.in_primary size image stands has_ m is

              off : x.page.0 ≢ q
              off e =
                  let is_five : byte (image x.page.0) 0 ≡ 5 = five (stands_of layout) sound.tables x.page.0
                  (data_of (stands_of layout) x.page.0 table of) in
                  let is_four : byte (image x.page.0) 0 ≡ 4 = ap (λ (m : ℕ). byte (image m) 0) e
                  ∙ (ap (λ (page : List ℕ). byte page 0) has_growth.was_pointer ∙ pages.was_pointer) in
                  omega (arith, is_five, is_four)

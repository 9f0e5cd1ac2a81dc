-- A page with room is given to a table: the table has grown as the laws on overlays take it, or its pages
-- are as they were.
use Rattle.std.proofs.Common.{◌≡◌, ◌≢◌, inl, inr, ap, sym, subst, ◌∙◌, refl, arith, suc, ℕ, Bool, ◌+◌, ◌-◌, ◌<◌, ◌≤◌, ◌^◌, List, [], ◌∷◌, ◌++◌, length, Option}
use Rattle.std.specs.Prelude.{get_or, slice_index}
use Rattle.mg_base.specs.Fields.{byte}
use Rattle.mg_base.specs.Image.{Image}
use Rattle.mg_base.specs.declared.geometry.TheConstants.{GREATEST_LIMIT}
use Rattle.mg_base.specs.declared.numbers.PageNo.{PageNo}
use Rattle.mg_base.specs.declared.transaction.TxState.{TxState}
use Rattle.mg_careful.specs.Precedence.{Orders}
use Rattle.mg_image.specs.Form.{Form, Pages}
use Rattle.mg_image.specs.Inventory.{inventory_page}
use Rattle.mg_image.specs.Records.{Reading}
use Rattle.mg_image.specs.Sound.{HasRegion, HasTablePages, IsSoundBy, IsTableData, IsTablePointer}
use Rattle.mg_image.specs.Tables.{EachFrom, Has, IsOnce, Layout, LinkChain, PointerChain, ended, entries_in, goes, tree_pages}
use Rattle.mg_image_overlay_laws.specs.pages.DataPages.{all_passes, byte_blank, kind_of}
use Rattle.mg_image_overlay_laws.specs.pages.Growth.{has_back}
use Rattle.mg_image_overlay_laws.specs.pages.Reach.{once_back, once_front}
use Rattle.mg_model.specs.declared.table.Table.{Table}
use Rattle.mg_image_overlay_laws.specs.tables.OneChain.{link_once}
use Rattle.mg_image_overlay_laws.specs.pages.GrowPages.{once_mid}
use Rattle.mg_pip.specs.PipPage.{pip_checks}
use Rattle.mg_pointer.specs.PointerPage.{next_in, pointer_checks}
use Rattle.mg_pool.specs.Batch.{Changed}
use Rattle.mg_pool.specs.declared.pool.Pool.{Pool}
use Rattle.mg_space.specs.Taking.{IsGeometry}
use Rattle.mg_space.specs.TakingLaws.{page_sizes}
use Rattle.mg_space.specs.View.{viewed}
use Rattle.mg_image_overlay_laws.specs.pages.LinkPage.{length_last}
use Rattle.mg_heap.specs.Room.{FindsOrGrows, GivesRoom}
use Rattle.mg_heap.specs.Table.{IsTable}
use Rattle.mg_heap.specs.TableLaws.{once_short}
use Rattle.mg_image_overlay_laws.specs.tables.Growing.{EndsAt, Grows, IsTableOf, TableEnd, stays}
use Rattle.mg_image_overlay_laws.specs.kept.Knowing.{its_once, its_pages}
use Rattle.mg_tie_laws.specs.Batches.{IsWithin}
use Rattle.mg_tie_laws.specs.GrowthTies.{MayBeLast, last_grows}
use Rattle.mg_tie_laws.specs.LinkTies.{new_grows}

-- where a table's pages end, by their lists
abbrev pub end_of : List ℕ → List ℕ → TableEnd
end_of pointers data_pages = record {
  place = length data_pages;
  pointers = length pointers - 1;
  last = slice_index pointers (length pointers - 1);
}

-- ---- the last of a list

-- A list ends with its last number.
record EndsWith (ns : List ℕ) : Type 0 where
  front : List ℕ
  last : ℕ
  are : ns ≡ front ++ (last ∷ [])

ends_with : (n : ℕ) (ns : List ℕ) → EndsWith (n ∷ ns)
ends_with n [] = record { front = []; last = n; are = refl }
ends_with n (m ∷ ms) =
    let rest = ends_with m ms in
    record { front = n ∷ rest.front; last = rest.last; are = ap (λ (ks : List ℕ). n ∷ ks) rest.are }

at_end : (front : List ℕ) (q : ℕ) → get_or (front ++ (q ∷ [])) (length front) 0 ≡ q
at_end [] q = refl
at_end (f ∷ front) q = at_end front q

one_less : (front : List ℕ) (q : ℕ) → length (front ++ (q ∷ [])) - 1 ≡ length front
one_less front q = let long : length (front ++ (q ∷ [])) ≡ length front + 1 = length_last front q in
    omega (arith, long)

last_is : (ns front : List ℕ) (q : ℕ) → ns ≡ front ++ (q ∷ []) → slice_index ns (length ns - 1) ≡ q
last_is ns front q are = ap (λ (ks : List ℕ). get_or ks (length ks - 1) 0) are
    ∙ (ap (λ (k : ℕ). get_or (front ++ (q ∷ [])) k 0) (one_less front q) ∙ at_end front q)

-- ---- a table of a sound view

module _ (form : Form) (size : ℕ) (state : ℕ → TxState) (view : Pages) (layout : Layout) (r : Reading)
    (sound : IsSoundBy form size state view layout r) (table : Table) (its : IsTableOf layout table)
    (pointers data_pages : List ℕ) (is : IsTable view table.pointer.0 pointers data_pages) where
  has_ : HasTablePages form.in_primary size view its.stand
  has_ = its_pages form size state view layout r sound table its

  same_pointers : its.stand.pointers ≡ pointers
  same_pointers = link_once (λ n. next_in (view n)) table.pointer.0 its.stand.pointers pointers
      (subst (λ (t : Table). PointerChain view t.pointer.0 its.stand.pointers) its.table_is has_.chain)
      is.chain

  same_data : its.stand.data_pages ≡ data_pages
  same_data = has_.entries ∙ (ap (entries_in view) same_pointers ∙ sym is.entries)

  stand_once : IsOnce ((its.stand.pointers ++ its.stand.data_pages) ++ tree_pages its.stand.trees)
  stand_once = once_mid its.before its.after its.stand
      (its_once form size state view layout r sound table its)

  pointer_of : (at : ℕ) (ns : List ℕ)
      → EachFrom (IsTablePointer size view its.stand.table.pointer.0) at ns → (n : ℕ) → Has ns n
      → (k : ℕ) × IsTablePointer size view its.stand.table.pointer.0 k n
  pointer_of at [] each n there = absurd there
  pointer_of at (m ∷ ms) each n (inl e) =
      (at, subst (IsTablePointer size view its.stand.table.pointer.0 at) (sym e) each.0)
  pointer_of at (m ∷ ms) each n (inr more) = pointer_of (suc at) ms each.1 n more

  data_below : (at : ℕ) (ns : List ℕ)
      → EachFrom (IsTableData form.in_primary size view its.stand.table.pointer.0) at ns → (n : ℕ)
      → Has ns n → n < GREATEST_LIMIT
  data_below at [] each n there = absurd there
  data_below at (m ∷ ms) each n (inl e) = subst (λ (k : ℕ). k < GREATEST_LIMIT) (sym e) each.0.wanted.below
  data_below at (m ∷ ms) each n (inr more) = data_below (suc at) ms each.1 n more

  pointer_at : (n : ℕ) → Has pointers n
      → (k : ℕ) × IsTablePointer size view its.stand.table.pointer.0 k n
  pointer_at n there = pointer_of 0 its.stand.pointers has_.pointers n
      (subst (λ (ns : List ℕ). Has ns n) (sym same_pointers) there)

  -- the table has a first pointer page, which is its owner
  first_there : (ns : List ℕ) → PointerChain view table.pointer.0 ns → Has ns table.pointer.0
  first_there ns chain = opened table.pointer.0 ns chain some
    where
      some : table.pointer.0 ≢ 0
      some = subst (λ (t : Table). t.pointer.0 ≢ 0) its.table_is has_.first

      opened : (n : ℕ) (ms : List ℕ) → LinkChain (λ m. next_in (view m)) n ms → n ≢ 0 → Has ms n
      opened n ms ended ne = absurd (ne refl)
      opened n ms (goes k ks ne more) also = inl refl

  pub small_owner : table.pointer.0 < 2 ^ 32
  small_owner =
      let below = (pointer_at table.pointer.0 (first_there pointers is.chain)).1.below in
      omega (arith, below)

  pub few_data : length data_pages < 2 ^ 32
  few_data =
      let most : length data_pages ≤ GREATEST_LIMIT = once_short data_pages GREATEST_LIMIT
      (subst IsOnce same_data (once_back its.stand.pointers its.stand.data_pages
      (once_front (its.stand.pointers ++ its.stand.data_pages) (tree_pages its.stand.trees) stand_once)))
      (λ n there. data_below 0 its.stand.data_pages has_.data_pages n
      (subst (λ (ns : List ℕ). Has ns n) (sym same_data) there)) in omega (arith, most)

  pub few_pointers : length pointers - 1 + 1 < 2 ^ 32
  few_pointers =
      let most : length pointers ≤ GREATEST_LIMIT = once_short pointers GREATEST_LIMIT
      (subst IsOnce same_pointers (once_front its.stand.pointers its.stand.data_pages
      (once_front (its.stand.pointers ++ its.stand.data_pages) (tree_pages its.stand.trees) stand_once)))
      (λ n there. (pointer_at n there).1.below) in omega (arith, most)

  split : EndsWith pointers
  split = at pointers (first_there pointers is.chain)
    where
      at : (ns : List ℕ) → Has ns table.pointer.0 → EndsWith ns
      at [] there = absurd there
      at (n ∷ ns) there = ends_with n ns

  last_same : slice_index pointers (length pointers - 1) ≡ split.last
  last_same = last_is pointers split.front split.last split.are

  pub ends_there : EndsAt layout table (end_of pointers data_pages)
  ends_there = record {
    before = its.before;
    stand = its.stand;
    after = its.after;
    front = split.front;
    is_ = its.is_;
    table_is = its.table_is;
    pointers_are = same_pointers ∙ (split.are ∙ ap (λ (q : ℕ). split.front ++ (q ∷ [])) (sym last_same));
    count_is = sym (ap (λ (ns : List ℕ). length ns - 1) split.are ∙ one_less split.front split.last);
    place_is = ap length same_data;
  }

  pointer_four : (n k : ℕ) → IsTablePointer size view its.stand.table.pointer.0 k n
      → byte (view n) 0 ≡ 4
  unfolding pointer_checks
  pointer_four n k wanted = kind_of (view n) n 4 its.stand.table.pointer.0 k _ wanted.fields

  pub pointer_may : (n : ℕ) → Has pointers n → MayBeLast size view n
  pointer_may n there = record {
    below = found.1.below;
    used = found.1.used;
    kind = four;
    no_inventory = λ region same. at region same (sound.inventory region
        (subst (λ (k : ℕ). k < GREATEST_LIMIT) (sym same) found.1.below));
  }
    where
      found : (k : ℕ) × IsTablePointer size view its.stand.table.pointer.0 k n
      found = pointer_at n there

      four : byte (view n) 0 ≡ 4
      four = pointer_four n found.0 found.1

      at : (region : ℕ) → inventory_page size region ≡ n
          → HasRegion size view (inventory_page size region) region → ⊥
      at region same (inl empty) =
          let zero_ : byte (view (inventory_page size region)) 0 ≡ 0 =
          ap (λ (page : List ℕ). byte page 0) empty ∙ byte_blank size in
          let also : byte (view (inventory_page size region)) 0 ≡ 4 =
          ap (λ (k : ℕ). byte (view k) 0) same ∙ four in omega (arith, zero_, also)
      at region same (inr wanted) =
          let two : byte (view (inventory_page size region)) 0 ≡ 2 =
          kind_of (view (inventory_page size region)) (inventory_page size region) 2 0 region []
          (all_passes (pip_checks (view (inventory_page size region)) (inventory_page size region) region)
          wanted.fields) in
          let also : byte (view (inventory_page size region)) 0 ≡ 4 =
          ap (λ (k : ℕ). byte (view k) 0) same ∙ four in omega (arith, two, also)

  -- the last of them, with those before it
  pub last_front : List ℕ
  last_front = split.front

  pub last_are : pointers ≡ last_front ++ (slice_index pointers (length pointers - 1) ∷ [])
  unfolding last_front split
  last_are = split.are ∙ ap (λ (q : ℕ). split.front ++ (q ∷ [])) (sym last_same)

  pub last_there : Has pointers (slice_index pointers (length pointers - 1))
  last_there = subst (λ (ns : List ℕ). Has ns (slice_index pointers (length pointers - 1))) (sym last_are)
      (has_back last_front (slice_index pointers (length pointers - 1) ∷ [])
      (slice_index pointers (length pointers - 1)) (inl refl))

  pub pointers_once : IsOnce pointers
  pointers_once = subst IsOnce same_pointers (once_front its.stand.pointers its.stand.data_pages
      (once_front (its.stand.pointers ++ its.stand.data_pages) (tree_pages its.stand.trees) stand_once))

  pub last_may : MayBeLast size view (slice_index pointers (length pointers - 1))
  last_may = pointer_may (slice_index pointers (length pointers - 1)) last_there

-- ---- the growth

-- A table has grown in some way, or not at all.
pub record GrowsSome (in_primary : Bool) (size owner : ℕ) (orders : Orders)
    (batch : ℕ → Option (List ℕ)) (view : Pages) (end : TableEnd) (next : Pages) : Type 0 where
  pub final : TableEnd
  pub grows : Grows in_primary size owner orders batch view end next final

pub room_grows : {D L : Type 0} (form : Form) (store : Pool D L) (image : Image) (state : ℕ → TxState)
    (layout : Layout) (r : Reading) (old new : Changed) (table : Table) (need : ℕ) (n : PageNo)
    (orders : Orders) (batch : ℕ → Option (List ℕ)) → IsGeometry store.geometry
    → IsSoundBy form store.geometry.size state (viewed store image old) layout r → IsTableOf layout table
    → IsWithin batch orders new → (gives : GivesRoom store image old new table.pointer.0 need n)
    → GrowsSome form.in_primary store.geometry.size table.pointer.0 orders batch (viewed store image old)
    (end_of gives.pointers gives.data_pages) (viewed store image new)
room_grows form store image state layout r old new table need n orders batch lawful sound its within gives =
    at gives.found
  where
    long : 24 ≤ store.geometry.size
    long = let least = (page_sizes store.geometry.size lawful.size).0 in omega (arith, least)

    at : FindsOrGrows store image old new table.pointer.0 gives.pointers gives.data_pages need gives.it
        → GrowsSome form.in_primary store.geometry.size table.pointer.0 orders batch
        (viewed store image old) (end_of gives.pointers gives.data_pages) (viewed store image new)
    at (inl (same, first)) = record {
      final = end_of gives.pointers gives.data_pages;
      grows = subst (λ (b : Changed). Grows form.in_primary store.geometry.size table.pointer.0 orders batch
          (viewed store image old) (end_of gives.pointers gives.data_pages) (viewed store image b)
          (end_of gives.pointers gives.data_pages)) (sym same)
          (stays (viewed store image old) (end_of gives.pointers gives.data_pages));
    }
    at (inr (none_, inl (room, lists_))) = record {
      final = record {
        place = length gives.data_pages + 1;
        pointers = length gives.pointers - 1;
        last = slice_index gives.pointers (length gives.pointers - 1);
      };
      grows = last_grows form.in_primary store.geometry lawful store image table.pointer.0 orders batch old
          new (length gives.data_pages) (length gives.pointers - 1)
          (slice_index gives.pointers (length gives.pointers - 1)) gives.it.page.0
          (viewed store image old (slice_index gives.pointers (length gives.pointers - 1)))
          gives.it.bytes lists_ refl
          (last_may form store.geometry.size state (viewed store image old) layout r sound table its
          gives.pointers gives.data_pages gives.table) sound.header.whole (omega (arith, long))
          (small_owner form store.geometry.size state (viewed store image old) layout r sound table its
          gives.pointers gives.data_pages gives.table)
          (few_data form store.geometry.size state (viewed store image old) layout r sound table its
          gives.pointers gives.data_pages gives.table) within;
    }
    at (inr (none_, inr (full, (p, lists_)))) = record {
      final = record {
        place = length gives.data_pages + 1;
        pointers = length gives.pointers - 1 + 1;
        last = p;
      };
      grows = new_grows form.in_primary store.geometry lawful store image table.pointer.0 orders batch old
          new (length gives.data_pages) (length gives.pointers - 1)
          (slice_index gives.pointers (length gives.pointers - 1)) p gives.it.page.0
          (viewed store image old (slice_index gives.pointers (length gives.pointers - 1)))
          gives.it.bytes lists_ refl
          (last_may form store.geometry.size state (viewed store image old) layout r sound table its
          gives.pointers gives.data_pages gives.table) sound.header.whole long
          (small_owner form store.geometry.size state (viewed store image old) layout r sound table its
          gives.pointers gives.data_pages gives.table)
          (few_data form store.geometry.size state (viewed store image old) layout r sound table its
          gives.pointers gives.data_pages gives.table)
          (few_pointers form store.geometry.size state (viewed store image old) layout r sound table its
          gives.pointers gives.data_pages gives.table) within;
    }

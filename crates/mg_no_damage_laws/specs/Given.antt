-- A batch in which a page is given to a table has few pages, each whole, and orders that lead upward.
use Rattle.std.proofs.Common.{◌≡◌, ◌≢◌, ◌⊎◌, inl, inr, ◌∙◌, ◌≤◌, ◌<◌, ◌+◌, ◌-◌, ◌*◌, ◌++◌, [], ℕ, true, false, List, length, refl, sym, ap, subst, arith}
use Rattle.std.specs.Prelude.{slice_index}
use Rattle.mg_base.specs.Disk.{Meaning}
use Rattle.mg_base.specs.Fields.{byte}
use Rattle.mg_base.specs.Image.{Image}
use Rattle.mg_base.specs.declared.geometry.TheConstants.{GREATEST_LIMIT}
use Rattle.mg_base.specs.declared.numbers.PageNo.{PageNo}
use Rattle.mg_base.specs.declared.transaction.TxState.{TxState}
use Rattle.mg_heap.specs.Growth.{ListsInLast, ListsInNew, orders_to}
use Rattle.mg_heap.specs.Room.{FindsOrGrows, GivesRoom}
use Rattle.mg_tie_laws.specs.GrowthTies.{MayBeLast}
use Rattle.mg_tie_laws.specs.RoomTies.{last_may}
use Rattle.mg_image.specs.Form.{Pages, packed_form}
use Rattle.mg_image.specs.Inventory.{inventory_page, is_used}
use Rattle.mg_image.specs.Records.{Reading}
use Rattle.mg_image.specs.Sound.{HasRegion, IsSoundBy}
use Rattle.mg_image.specs.Tables.{Has, Layout}
use Rattle.mg_image_overlay_laws.specs.pages.DataPages.{all_passes, byte_blank, kind_of}
use Rattle.mg_model.specs.declared.table.Table.{Table}
use Rattle.mg_no_damage_laws.specs.Sees.{no_batch}
use Rattle.mg_pip.specs.PipPage.{bits, pip_checks}
use Rattle.mg_pointer.specs.PointerPageLaws.{length-new_pointer_page}
use Rattle.mg_pool.specs.Batch.{Changed, is_in}
use Rattle.mg_pool.specs.declared.batch.BatchPage.{BatchPage}
use Rattle.mg_pool.specs.declared.pool.Pool.{Pool}
use Rattle.mg_slots.specs.Room.{room_of}
use Rattle.mg_space.specs.Taking.{IsGeometry, region_of}
use Rattle.mg_space.specs.TakingLaws.{takes_bit, takes_keeps}
use Rattle.mg_space.specs.View.{viewed}
use Rattle.mg_space.specs.declared.links.FireLinks.{FireLinks}
use Rattle.mg_image_overlay_laws.specs.tables.Growing.{IsTableOf}
use Rattle.mg_no_damage_laws.specs.Lawful.{IsGood, good_both, good_more, good_none, good_orders, good_puts, good_to, in_here, in_still}
use Rattle.mg_no_damage_laws.specs.RankLaws.{rank_a, rank_none, rank_of, rank_p, rank_q}
use Rattle.mg_no_damage_laws.specs.WriteStanding.{IsStanding, cells_there, data_there, sound_standing}

-- A page of pages: it is used, no inventory page, and no pointer page by its kind.
pub record IsApart (size : ℕ) (view : Pages) (k : ℕ) : Type 0 where
  pub used : is_used size view k ≡ true
  pub no_inventory : (region : ℕ) → inventory_page size region ≢ k
  pub kind : byte (view k) 0 ≢ 4

-- ---- pages of a sound image

module _ (size : ℕ) (state : ℕ → TxState) (view : Pages) (layout : Layout) (r : Reading)
    (sound : IsSoundBy packed_form size state view layout r) where
  off_inventory : (k kind : ℕ) → k < GREATEST_LIMIT → byte (view k) 0 ≡ kind → kind ≢ 0 → kind ≢ 2
      → (region : ℕ) → inventory_page size region ≢ k
  off_inventory k kind below is not_blank not_two region same = at (sound.inventory region
      (subst (λ (j : ℕ). j < GREATEST_LIMIT) (sym same) below))
    where
      also : byte (view (inventory_page size region)) 0 ≡ kind
      also = ap (λ (j : ℕ). byte (view j) 0) same ∙ is

      at : HasRegion size view (inventory_page size region) region → ⊥
      at (inl empty) = not_blank (sym also ∙ (ap (λ (page : List ℕ). byte page 0) empty ∙ byte_blank size))
      at (inr wanted) = not_two (sym also ∙ kind_of (view (inventory_page size region)) (inventory_page size region) 2 0
          region [] (all_passes (pip_checks (view (inventory_page size region)) (inventory_page size region) region)
          wanted.fields))

  pub header_kind : byte (view 0) 0 ≡ 1
  header_kind = kind_of (view 0) 0 1 0 0 _ sound.header.fields

  no_zero : (n : ℕ) → n + 1 ≢ 0
  no_zero n same = omega (arith, same)

  pub header_apart : IsApart size view 0
  header_apart = record {
    used = sound.header.used;
    no_inventory = λ region same. no_zero (region * bits size) same;
    kind = λ four. let one = header_kind in omega (arith, one, four);
  }

  module _ (table : Table) (its : IsTableOf layout table) where
    standing : IsStanding size view its.stand
    standing = sound_standing size state view layout r sound table its

    pub data_kind : (k : ℕ) → Has its.stand.data_pages k → byte (view k) 0 ≡ 5
    data_kind k listed = (cells_there size view its.stand standing k listed).kind

    -- a data page of a table
    pub data_apart : (k : ℕ) → Has its.stand.data_pages k → IsApart size view k
    data_apart k listed = record {
      used = (data_there size view its.stand standing k listed).1.wanted.used;
      no_inventory = off_inventory k 5 (cells_there size view its.stand standing k listed).below
          (data_kind k listed) (λ e. omega (arith, e)) (λ e. omega (arith, e));
      kind = λ four. let five = data_kind k listed in omega (arith, five, four);
    }

    pub data_some : (k : ℕ) → Has its.stand.data_pages k → k ≢ 0
    data_some k listed same =
        let five : byte (view 0) 0 ≡ 5 = ap (λ (j : ℕ). byte (view j) 0) (sym same) ∙ data_kind k listed in
        let one = header_kind in omega (arith, one, five)

-- ---- a page is given

-- What the orders of a batch lead up to in which a page n was given: the last pointer page q, and a new one p
-- behind it; both are n where the table has not grown, and both the last one where no new one came.
pub record IsGiven (size f s n : ℕ) (given : Changed) : Type 0 where
  pub q : ℕ
  pub p : ℕ
  pub good : IsGood size (rank_of f s q p n) 5 given
  pub q_in : (q ≡ n) ⊎ ((is_in given.pages q ≡ true) × (q ≢ 0))
  pub p_in : (p ≡ n) ⊎ ((is_in given.pages p ≡ true) × (p ≢ 0))

module _ {D : Type 0} (m : Meaning D) (a : Pool D FireLinks) (image : Image) (geometry : IsGeometry a.geometry)
    (state : ℕ → TxState) (layout : Layout) (r : Reading)
    (sound : IsSoundBy packed_form a.geometry.size state (viewed a image no_batch) layout r) (table : Table)
    (its : IsTableOf layout table) (f s : ℕ) (f_apart : IsApart a.geometry.size (viewed a image no_batch) f)
    (s_apart : IsApart a.geometry.size (viewed a image no_batch) s) (given : Changed) (need : ℕ) (page : PageNo)
    (gives : GivesRoom a image no_batch given table.pointer.0 need page) where
  abbrev size : ℕ
  size = a.geometry.size

  abbrev view : Changed → Pages
  view b = viewed a image b

  abbrev q : ℕ
  q = slice_index gives.pointers (length gives.pointers - 1)

  abbrev n : ℕ
  n = gives.it.page.0

  last : MayBeLast size (view no_batch) q
  last = last_may packed_form size state (view no_batch) layout r sound table its gives.pointers gives.data_pages
      gives.table

  apart : (ps : Pages) (k j : ℕ) → is_used size ps k ≡ true → is_used size ps j ≡ false → j ≢ k
  apart ps k j used unused same =
      let both : true ≡ false = sym used ∙ (ap (is_used size ps) (sym same) ∙ unused) in absurd cc

  off_last : (k : ℕ) → IsApart size (view no_batch) k → q ≢ k
  off_last k k_apart same = k_apart.kind (ap (λ (j : ℕ). byte (view no_batch j) 0) (sym same) ∙ last.kind)

  last_some : q ≢ 0
  last_some same =
      let four : byte (view no_batch 0) 0 ≡ 4 = ap (λ (j : ℕ). byte (view no_batch j) 0) (sym same) ∙ last.kind in
      let one = header_kind size state (view no_batch) layout r sound in omega (arith, one, four)

  -- the table has not grown
  as_it_was : given ≡ no_batch → IsGiven size f s n given
  as_it_was same = record {
    q = n;
    p = n;
    good = subst (IsGood size (rank_of f s n n n) 5) (sym same)
        (good_more size (rank_of f s n n n) 0 5 no_batch (good_none size (rank_of f s n n n)) (omega arith));
    q_in = inl refl;
    p_in = inl refl;
  }

  -- it has a data page more
  module _ (it : ListsInLast a.geometry a image no_batch given table.pointer.0 (length gives.data_pages) q n
      (view no_batch q) gives.it.bytes) where
    abbrev bit : ℕ
    bit = inventory_page size (region_of size n)

    new_off : (k : ℕ) → is_used size (view no_batch) k ≡ true → n ≢ k
    new_off k used = apart (view no_batch) k n used it.takes.free.unused

    rank_bit : rank_of f s q q n bit ≡ 0
    rank_bit = rank_none f s q q n bit (f_apart.no_inventory (region_of size n))
        (s_apart.no_inventory (region_of size n)) (last.no_inventory (region_of size n))
        (last.no_inventory (region_of size n)) (it.takes.free.no_inventory (region_of size n))

    rank_new : rank_of f s q q n n ≡ 1
    rank_new = rank_a f s q q n (new_off f f_apart.used) (new_off s s_apart.used) (new_off q last.used)
        (new_off q last.used)

    rank_last : rank_of f s q q n q ≡ 3
    rank_last = rank_q f s q q n (off_last f f_apart) (off_last s s_apart)

    listed : IsGood size (rank_of f s q q n) 3 it.listed
    listed = good_puts it.made it.listed q it.page it.puts size (rank_of f s q q n) 2
        (good_puts it.taken it.made n gives.it.bytes it.makes.puts size (rank_of f s q q n) 1
        (good_puts no_batch it.taken bit it.bit.bytes it.bit.puts size (rank_of f s q q n) 0
        (good_none size (rank_of f s q q n)) it.bit.len) it.makes.made.len)
        (it.adds.len ∙ sound.header.whole q)

    last_in : is_in it.listed.pages q ≡ true
    last_in = in_here it.made it.listed q it.page it.puts

    in_last : IsGiven size f s n given
    in_last = record {
      q = q;
      p = q;
      good = good_more size (rank_of f s q q n) 3 5 given (good_orders size (rank_of f s q q n) 3 it.listed given
          (orders_to size n q) listed it.orders (good_to (rank_of f s q q n) it.listed size n q last_in
          (omega (arith, rank_bit, rank_last)) (omega (arith, rank_new, rank_last)))) (omega arith);
      q_in = inr (now_in, last_some);
      p_in = inr (now_in, last_some);
    }
      where
        now_in : is_in given.pages q ≡ true
        now_in = ap (λ (ps : List BatchPage). is_in ps q) it.orders.same_pages ∙ last_in

  -- it has a data page more, and a pointer page
  module _ (p at : ℕ) (it : ListsInNew a.geometry a image no_batch given table.pointer.0 (length gives.data_pages) at q
      p n (view no_batch q) gives.it.bytes) where
    abbrev bit_p : ℕ
    bit_p = inventory_page size (region_of size p)

    abbrev bit_n : ℕ
    bit_n = inventory_page size (region_of size n)

    pointer_off : (k : ℕ) → is_used size (view no_batch) k ≡ true → p ≢ k
    pointer_off k used = apart (view no_batch) k p used it.takes_pointer.free.unused

    data_off : (k : ℕ) → is_used size (view no_batch) k ≡ true → n ≢ k
    data_off k used = apart (view it.with_bit) k n (takes_keeps a.geometry (view no_batch) (view it.with_bit) p
        geometry it.takes_pointer k used) it.takes.free.unused

    two_off : n ≢ p
    two_off = apart (view it.with_bit) p n (takes_bit a.geometry (view no_batch) (view it.with_bit) p geometry
        it.takes_pointer) it.takes.free.unused

    abbrev rank : ℕ → ℕ
    rank = rank_of f s q p n

    rank_bit_of : (region : ℕ) → rank (inventory_page size region) ≡ 0
    rank_bit_of region = rank_none f s q p n (inventory_page size region) (f_apart.no_inventory region)
        (s_apart.no_inventory region) (last.no_inventory region) (it.takes_pointer.free.no_inventory region)
        (it.takes.free.no_inventory region)

    rank_data : rank n ≡ 1
    rank_data = rank_a f s q p n (data_off f f_apart.used) (data_off s s_apart.used) (data_off q last.used) two_off

    rank_pointer : rank p ≡ 2
    rank_pointer = rank_p f s q p n (pointer_off f f_apart.used) (pointer_off s s_apart.used)
        (pointer_off q last.used)

    rank_end : rank q ≡ 3
    rank_end = rank_q f s q p n (off_last f f_apart) (off_last s s_apart)

    linked : IsGood size rank 5 it.linked
    linked = good_puts it.begun it.linked q it.link it.puts_link size rank 4
        (good_puts it.made it.begun p it.page it.puts size rank 3
        (good_puts it.taken it.made n gives.it.bytes it.makes.puts size rank 2
        (good_puts it.with_bit it.taken bit_n it.bit.bytes it.bit.puts size rank 1
        (good_puts no_batch it.with_bit bit_p it.bit_pointer.bytes it.bit_pointer.puts size rank 0
        (good_none size rank) it.bit_pointer.len) it.bit.len) it.makes.made.len)
        (it.adds.len ∙ length-new_pointer_page size p table.pointer.0 at))
        (it.links.len ∙ sound.header.whole q)

    end_in : is_in it.linked.pages q ≡ true
    end_in = in_here it.begun it.linked q it.link it.puts_link

    pointer_in : is_in it.linked.pages p ≡ true
    pointer_in = in_still it.begun it.linked q it.link it.puts_link p (in_here it.made it.begun p it.page it.puts)

    in_new : IsGiven size f s n given
    in_new = record {
      q = q;
      p = p;
      good = good_orders size rank 5 it.linked given (orders_to size n p ++ orders_to size p q) linked it.orders
          (good_both rank it.linked (orders_to size n p) (orders_to size p q)
          (good_to rank it.linked size n p pointer_in
          (let low = rank_bit_of (region_of size n) in omega (arith, low, rank_pointer))
          (omega (arith, rank_data, rank_pointer)))
          (good_to rank it.linked size p q end_in
          (let low = rank_bit_of (region_of size p) in omega (arith, low, rank_end))
          (omega (arith, rank_pointer, rank_end))));
      q_in = inr (still q end_in, last_some);
      p_in = inr (still p pointer_in, it.takes_pointer.free.no_header);
    }
      where
        still : (k : ℕ) → is_in it.linked.pages k ≡ true → is_in given.pages k ≡ true
        still k there = ap (λ (ps : List BatchPage). is_in ps k) it.orders.same_pages ∙ there

  pub is_given : IsGiven size f s n given
  is_given = by gives.found
    where
      by : FindsOrGrows a image no_batch given table.pointer.0 gives.pointers gives.data_pages need gives.it
          → IsGiven size f s n given
      by (inl (same, first)) = as_it_was same
      by (inr (none, inl (room, it))) = in_last it
      by (inr (none, inr (full, (p, it)))) = in_new p (length gives.pointers - 1 + 1) it

  -- a page that was given is a new one, or it was found with room
  pub found_or_new : (k : ℕ) → is_used size (view no_batch) k ≡ true → n ≡ k
      → need ≤ room_of (view no_batch k)
  found_or_new k used same = by gives.found
    where
      by : FindsOrGrows a image no_batch given table.pointer.0 gives.pointers gives.data_pages need gives.it
          → need ≤ room_of (view no_batch k)
      by (inl (was, first)) = subst (λ (j : ℕ). need ≤ room_of (view no_batch j)) same first.room
      by (inr (none, inl (room, it))) = absurd (new_off it k used same)
      by (inr (none, inr (full, (p, it)))) = absurd (data_off p (length gives.pointers - 1 + 1) it k used same)

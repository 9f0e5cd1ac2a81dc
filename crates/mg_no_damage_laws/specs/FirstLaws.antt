-- A record is made at a place: the cell of its version is put apart from the place, and then the slot leads to it.
use Rattle.std.proofs.Common.{◌≡◌, ◌≢◌, ◌⊎◌, inl, inr, ◌∙◌, ◌≤◌, ◌<◌, ◌+◌, ◌-◌, ◌*◌, max, ℕ, Bool, true, false, List, None, Some, length, refl, sym, ap, subst, arith, is_some}
use Rattle.std.specs.Prelude.{◌==◌, nat_lt, if◌then◌else◌}
use Rattle.std.proofs.lemmas.Bool.{cases_eq, cases_lt, eqb-true, le-ltb, lt-ltb}
use Rattle.mg_base.specs.Disk.{Meaning}
use Rattle.mg_base.specs.Image.{Image}
use Rattle.mg_base.specs.declared.damage.Damaged.{Damaged}
use Rattle.mg_base.specs.declared.numbers.RecId.{RecId}
use Rattle.mg_base.specs.declared.transaction.TxState.{TxState}
use Rattle.mg_chain.specs.Writing.{GivesSpot, leading_to}
use Rattle.mg_chain.specs.WritingRefusals.{RefusesFirst, RefusesFirstCell, RefusesPutFirst, RefusesTurn, first_adds, first_memory, first_puts, first_reaches, first_turns, made_cell, made_memory, made_offline}
use Rattle.mg_heap.specs.Apart.{AddsApart, HasNoRoomBeside, HasNoRoomWith, HasPlace, HoldsSlot, RefusesAddApart, RefusesApartThere, RefusesPutApart, kept_on, need_with_anchor}
use Rattle.mg_heap.specs.Changing.{MayHave}
use Rattle.mg_heap.specs.Reach.{RefusesReach}
use Rattle.mg_image.specs.Form.{Pages, packed_form}
use Rattle.mg_image.specs.Records.{Reading}
use Rattle.mg_image.specs.Sound.{IsCellOf, IsSoundBy}
use Rattle.mg_image.specs.Tables.{Has, Layout, stands_of, table_at}
use Rattle.mg_model.specs.declared.table.Table.{Table}
use Rattle.mg_pool.specs.Batch.{Changed}
use Rattle.mg_pool.specs.declared.pool.Pool.{Pool}
use Rattle.mg_slots.specs.DataPage.{IsDataPage, all_taken, cell_of, slot_count, taken_by}
use Rattle.mg_slots.specs.Room.{least_free, need_of, rest_of, room_for, room_of}
use Rattle.mg_slots.specs.RoomLaws.{first_without_le, least_free_is_free, rest_is}
use Rattle.mg_slots.specs.declared.change.NoRoom.{NoRoom}
use Rattle.mg_space.specs.Taking.{IsGeometry}
use Rattle.mg_space.specs.TakingLaws.{page_sizes}
use Rattle.mg_space.specs.View.{Tells, viewed}
use Rattle.mg_space.specs.declared.fault.SpaceFault.TheVariants as faults
use Rattle.mg_space.specs.declared.links.FireLinks.{FireLinks}
use Rattle.mg_image_overlay_laws.specs.tables.Growing.{IsTableOf}
use Rattle.mg_image_overlay_laws.specs.tables.OneTable.{its_data}
use Rattle.mg_version.specs.declared.cell.Cell.TheVariants as cells
use Rattle.mg_version.specs.declared.cell.TheConstants.{ANCHOR_LEN}
use Rattle.mg_version.specs.declared.cell.Version.{Version}
use Rattle.mg_no_damage_laws.specs.Given.{data_apart}
use Rattle.mg_no_damage_laws.specs.PushLaws.{version_fits}
use Rattle.mg_no_damage_laws.specs.Reading.{Reads, page_there, place_known}
use Rattle.mg_no_damage_laws.specs.RoomLaws.{given_begins, given_listed, given_or_new, given_room, given_standing, given_there, room_found, still_listed, then_, to}
use Rattle.mg_no_damage_laws.specs.WriteStanding.{IsStanding, set_standing}

-- ---- rooms of a page

-- a slot may have a cell for which there is room on the page
room_or_more : (b : List ℕ) (slot : ℕ) → room_of b ≤ room_for b slot
room_or_more b slot = by (is_some (cell_of b slot))
  where
    less : (inside : Bool) → (if inside then rest_of b else rest_of b - 4) ≤ rest_of b
    less true = omega arith
    less false = omega arith

    rest : room_of b ≤ rest_of b
    rest = less (nat_lt (least_free b) (slot_count b))

    by : (some : Bool) → room_of b ≤ (if some then rest_of b + taken_by (cell_of b slot) else room_of b)
    by true = let most = rest in omega (arith, most)
    by false = omega arith

-- the least free slot of a page with room for an anchor may have one
pub anchor_may : (b : List ℕ) (slot : ℕ) (bytes : List ℕ) → length bytes ≡ ANCHOR_LEN → HasPlace b slot
    → MayHave b slot bytes
anchor_may b slot bytes len place = record {
  slot_is = λ none. place.least;
  fits = let more = room_or_more b slot in let room = place.room in omega (arith, len, room, more);
}

-- where an anchor holds the least free slot, the room is less by fifteen bytes at most
held_room : (b held : List ℕ) (slot : ℕ) → IsDataPage b → HoldsSlot b held slot → room_of b ≤ room_of held + 15
held_room b held slot lawful holds = by (cases_lt (least_free b) (slot_count b))
  where
    whole : 20 + 4 * slot_count b + all_taken b + rest_of b ≡ length b
    whole = rest_is b lawful

    now : 20 + 4 * slot_count held + all_taken held + rest_of held ≡ length held
    now = rest_is held holds.puts.sets.lawful

    len : length held ≡ length b
    len = holds.puts.sets.len

    free : taken_by (cell_of b slot) ≡ 0
    free = ap taken_by (ap (cell_of b) holds.least ∙ least_free_is_free b)

    taken : all_taken held ≡ all_taken b + 11
    taken =
        let sum : all_taken held + taken_by (cell_of b slot) ≡ all_taken b + taken_by (Some holds.anchor) =
        holds.puts.sets.taken in
        let none = free in let long = holds.len in omega (arith, sum, none, long)

    count : slot_count held ≡ max (slot_count b) (slot + 1)
    count = holds.puts.count

    lowest : least_free b ≤ slot_count b
    lowest = first_without_le (cell_of b) (slot_count b)

    room_held : rest_of held ≤ room_of held + 4
    room_held = at (nat_lt (least_free held) (slot_count held))
      where
        at : (inside : Bool) → rest_of held ≤ (if inside then rest_of held else rest_of held - 4) + 4
        at true = omega arith
        at false = omega arith

    by : (least_free b < slot_count b) ⊎ (slot_count b ≤ least_free b) → room_of b ≤ room_of held + 15
    by (inl inside) =
        let same : slot_count held ≡ slot_count b =
        (let c = count in let l = holds.least in omega (arith, c, l, inside)) in
        let e : nat_lt (least_free b) (slot_count b) ≡ true = lt-ltb (least_free b) (slot_count b) inside in
        let old : room_of b ≡ rest_of b = rw e refl in
        let w = whole in let n = now in let l = len in let t = taken in let r = room_held in
        omega (arith, same, old, w, n, l, t, r)
    by (inr past) =
        let more : slot_count held ≡ slot_count b + 1 =
        (let c = count in let l = holds.least in let f = lowest in omega (arith, c, l, past, f)) in
        let e : nat_lt (least_free b) (slot_count b) ≡ false = le-ltb (least_free b) (slot_count b) past in
        let old : room_of b ≡ rest_of b - 4 = rw e refl in
        let w = whole in let n = now in let l = len in let t = taken in let r = room_held in
        omega (arith, more, old, w, n, l, t, r)

-- a cell that has room beside an anchor has it
room_beside : (b : List ℕ) (slot : ℕ) (cell : List ℕ) (lack : NoRoom) → IsDataPage b
    → need_with_anchor cell ≤ room_of b → HasNoRoomWith b (Some slot) cell lack → ⊥
room_beside b slot cell lack lawful room (inl lacks) =
    let more = room_or_more b slot in
    let small = lacks.less in omega (arith, room, small, more)
room_beside b slot cell lack lawful room (inr held) =
    let less = held_room b held.held slot lawful held.holds in
    let small = held.lacks.less in omega (arith, room, less, small)

module _ {D : Type 0} (m : Meaning D) (laws : Reads m) (a n : Pool D FireLinks) (image : Image)
    (like : n.dirty ≡ a.dirty) (tells : Tells m n.disk image)
    (geometry : IsGeometry a.geometry) (old : Changed) (state : ℕ → TxState) (layout : Layout) (r : Reading)
    (sound : IsSoundBy packed_form a.geometry.size state (viewed a image old) layout r) (table : Table)
    (its : IsTableOf layout table) where
  abbrev size : ℕ
  size = a.geometry.size

  abbrev view : Changed → Pages
  view b = viewed a image b

  -- ---- a place that was given

  pub spot_room : (batch : Changed) (at : RecId) → GivesSpot a image old batch table.pointer.0 at
      → HasPlace (view batch at.page.0) at.slot
  spot_room batch at spot = record {
    least = spot.least.is_least;
    room = given_room m laws a n image like tells geometry old state layout r sound table its batch ANCHOR_LEN
        at.page spot.gives (let least = (page_sizes size geometry.size).0 in omega (arith, least));
  }

  module _ (rec : RecId) (of : table_at (stands_of layout) rec.page.0 ≡ Some table)
      (place : HasPlace (view old rec.page.0) rec.slot) (bytes : List ℕ) (fits : need_of bytes + 24 ≤ size)
      (may : IsCellOf false bytes) where
    abbrev need : ℕ
    need = need_with_anchor bytes

    -- ---- the cell is put

    cell_there : (it : Damaged) → RefusesApartThere m a n image old table.pointer.0 rec bytes (faults.Damaged it)
        → ⊥
    cell_there it there = by there.refused
      where
        given_listed_so : (lack : NoRoom) → IsDataPage (view there.given there.page.0)
            → HasNoRoomBeside (view there.given there.page.0) (kept_on there.page rec) bytes lack → ⊥
        given_listed_so lack lawful none = at (given_or_new m laws a n image like tells geometry old state layout r
            sound table its there.given need there.page there.gives rec.page.0
            (data_apart size state (view old) layout r sound table its rec.page.0
            ((its_data packed_form size state (view old) layout r sound table its rec.page.0).0 of)).used)
          where
            found : need ≤ room_of (view there.given there.page.0)
                → HasNoRoomBeside (view there.given there.page.0) (kept_on there.page rec) bytes lack → ⊥
            found room (inl lacks) = let small = lacks.less in omega (arith, room, small)
            found room (inr with_) = on (there.page.0 == rec.page.0) with_
              where
                on : (b : Bool)
                    → HasNoRoomWith (view there.given there.page.0) (if b then Some rec.slot else None) bytes lack
                    → ⊥
                on true beside = room_beside (view there.given there.page.0) rec.slot bytes lack lawful room beside
                on false beside = beside

            new : there.page.0 ≢ rec.page.0 → size ≤ room_of (view there.given there.page.0) + 24
                → HasNoRoomBeside (view there.given there.page.0) (kept_on there.page rec) bytes lack → ⊥
            new other room (inl lacks) = let f = fits in let small = lacks.less in omega (arith, room, small, f)
            new other room (inr with_) = on (there.page.0 == rec.page.0) refl with_
              where
                on : (b : Bool) → (there.page.0 == rec.page.0) ≡ b
                    → HasNoRoomWith (view there.given there.page.0) (if b then Some rec.slot else None) bytes lack
                    → ⊥
                on true is beside = other (eqb-true there.page.0 rec.page.0 is)
                on false is beside = beside

            at : (need ≤ room_of (view there.given there.page.0))
                ⊎ ((there.page.0 ≢ rec.page.0) × (size ≤ room_of (view there.given there.page.0) + 24)) → ⊥
            at (inl room) = found room none
            at (inr (other, room)) = new other room none

        by : RefusesPutApart m n there.given (view there.given there.page.0) there.page rec bytes (faults.Damaged it)
            → ⊥
        by (inl refused) = given_there m laws a n image like tells geometry old state layout r sound table its
            there.given need there.page there.gives it refused
        by (inr none) = given_listed_so none.lacks.0 none.data_page.lawful none.lacks.1

    added : (it : Damaged) → RefusesAddApart m a n image old table.pointer.0 rec bytes (faults.Damaged it) → ⊥
    added it (inl refused) = room_found m laws a n image like tells geometry old state layout r sound table its it
        refused
    added it (inr there) = cell_there it there

    -- ---- it was put

    module _ (at : RecId) (put : Changed) (adds : AddsApart a image old put table.pointer.0 rec bytes at) where
      abbrev then_so : IsTableOf
          (to m laws a n image like tells geometry old state layout r sound table its adds.given need at.page
          adds.gives).layout table
      then_so = then_ m laws a n image like tells geometry old state layout r sound table its adds.given need at.page
          adds.gives

      put_standing_so : IsStanding size (view put) then_so.stand
      put_standing_so = set_standing size (view adds.given) then_so.stand
          (given_standing m laws a n image like tells geometry old state layout r sound table its adds.given need
          at.page adds.gives) (view put) at (Some bytes)
          (given_listed m laws a n image like tells geometry old state layout r sound table its adds.given need
          at.page adds.gives) adds.puts.sets adds.puts.others (λ other is. by other is)
        where
          by : (other : List ℕ) → Some bytes ≡ Some other → IsCellOf false other
          by other is = let same : bytes ≡ other = cc in subst (IsCellOf false) same may

      begins : then_so.stand.table.pointer.0 ≡ table.pointer.0
      begins = given_begins m laws a n image like tells geometry old state layout r sound table its adds.given need
          at.page adds.gives

      reached : (it : Damaged) → RefusesReach m n put.pages (view put) table.pointer.0 at.page (faults.Damaged it)
          ⊎ RefusesReach m n put.pages (view put) table.pointer.0 rec.page (faults.Damaged it) → ⊥
      reached it (inl refused) = place_known m laws a n image like tells size put then_so.stand put_standing_so
          table.pointer.0 begins at.page
          (given_listed m laws a n image like tells geometry old state layout r sound table its adds.given need
          at.page adds.gives) it refused
      reached it (inr refused) = place_known m laws a n image like tells size put then_so.stand put_standing_so
          table.pointer.0 begins rec.page rec_listed it refused
        where
          rec_listed : Has then_so.stand.data_pages rec.page.0
          rec_listed = still_listed m laws a n image like tells geometry old state layout r sound table its
              adds.given need at.page adds.gives rec.page.0 of

      -- the place is as it was
      given_place : HasPlace (view adds.given rec.page.0) rec.slot
      given_place = subst (λ (b : List ℕ). HasPlace b rec.slot)
          (sym ((to m laws a n image like tells geometry old state layout r sound table its adds.given need at.page
          adds.gives).data_same rec.page.0 table of)) place

      place_still : HasPlace (view put rec.page.0) rec.slot
      place_still = by (cases_eq at.page.0 rec.page.0)
        where
          by : (at.page.0 ≡ rec.page.0) ⊎ (at.page.0 ≢ rec.page.0) → HasPlace (view put rec.page.0) rec.slot
          by (inl same) = subst (λ (k : ℕ). HasPlace (view put k) rec.slot) same (adds.puts.stays same
              (given_place.least ∙ ap (λ (k : ℕ). least_free (view adds.given k)) (sym same)))
          by (inr other) = subst (λ (b : List ℕ). HasPlace b rec.slot)
              (sym (adds.puts.others rec.page.0 (λ e. other (sym e)))) given_place

      turned : (it : Damaged) → RefusesTurn m n put.pages (view put) rec (faults.Damaged it) → ⊥
      turned it (inl refused) = page_there m laws a n image like tells size put then_so.stand put_standing_so rec.page
          (still_listed m laws a n image like tells geometry old state layout r sound table its adds.given need
          at.page adds.gives rec.page.0 of) it refused
      turned it (inr none) = none.none (anchor_may (view put rec.page.0) rec.slot none.bytes none.len place_still)

    put_first : (it : Damaged) → RefusesPutFirst m a n image old table.pointer.0 rec bytes (faults.Damaged it) → ⊥
    put_first it (first_adds refused) = added it refused
    put_first it (first_reaches at put adds refused) = reached at put adds it refused

    cell_made : (it : Damaged) → RefusesFirstCell m a n image old table.pointer.0 rec bytes (faults.Damaged it) → ⊥
    cell_made it (first_memory is) = absurd cc
    cell_made it (first_puts refused) = put_first it refused
    cell_made it (first_turns at put adds refused) = turned at put adds it refused

  pub record_made : (rec : RecId) → table_at (stands_of layout) rec.page.0 ≡ Some table
      → HasPlace (view old rec.page.0) rec.slot → (v : Version) → length v.body + 42 ≤ size → (it : Damaged)
      → RefusesFirst m a n image old table.pointer.0 rec v (faults.Damaged it) → ⊥
  record_made rec of place v short it (made_offline k is) = absurd cc
  record_made rec of place v short it (made_memory is) = absurd cc
  record_made rec of place v short it (made_cell bytes spells refused) = cell_made rec of place bytes
      (version_fits size (leading_to v None) short (let least = (page_sizes size geometry.size).0 in omega (arith, least))
      bytes spells) (inl (cells.Version (leading_to v None), spells)) it refused

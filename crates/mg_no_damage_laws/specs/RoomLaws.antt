-- A page with room is found in a table, or made; the table stands then, and has the page.
use Rattle.std.proofs.Common.{◌≡◌, ◌≢◌, ◌∙◌, ◌⊎◌, inl, inr, ◌≤◌, ◌+◌, ◌-◌, ◌++◌, ◌∷◌, [], ℕ, true, false, List, Option, Some, length, length-append, refl, sym, ap, subst, arith, is_some}
use Rattle.std.proofs.lemmas.Bool.{cases_eq}
use Rattle.std.specs.Prelude.{slice_index}
use Rattle.mg_base.specs.Disk.{Meaning}
use Rattle.mg_base.specs.Image.{Image}
use Rattle.mg_base.specs.declared.damage.Damaged.{Damaged}
use Rattle.mg_base.specs.declared.numbers.PageNo.{PageNo}
use Rattle.mg_base.specs.declared.numbers.RecId.{RecId}
use Rattle.mg_base.specs.declared.transaction.TxState.{TxState}
use Rattle.mg_chain.specs.WritingRefusals.{RefusesPutVersion, RefusesSpot, put_adds, put_reaches, spot_page, spot_room}
use Rattle.mg_heap.specs.Growth.{ListsInLast, ListsInNew, RefusesGrowth}
use Rattle.mg_heap.specs.Reach.{RefusesReach}
use Rattle.mg_heap.specs.Reading.{RefusesData}
use Rattle.mg_heap.specs.Room.{AddsCell, FindsOrGrows, GivesRoom, RefusesPut, RefusesPutIn, RefusesRoom, RefusesRoomIn}
use Rattle.mg_heap.specs.Table.{IsTable, RefusesPointerPage}
use Rattle.mg_tie_laws.specs.Batches.{viewed_same, within_self}
use Rattle.mg_tie_laws.specs.GivenTies.{given_entered}
use Rattle.mg_tie_laws.specs.GrowthTies.{MayBeLast}
use Rattle.mg_tie_laws.specs.RoomTies.{GrowsSome, end_of, ends_there, last_are, last_front, last_may, room_grows}
use Rattle.mg_image.specs.Form.{Pages, packed_form}
use Rattle.mg_image.specs.Inventory.{is_used}
use Rattle.mg_image.specs.Records.{Reading}
use Rattle.mg_image.specs.Sound.{IsCellOf, IsSoundBy}
use Rattle.mg_image.specs.Tables.{Has, Layout, stands_of, table_at}
use Rattle.mg_image_overlay_laws.specs.pages.Trees.{trees_stay}
use Rattle.mg_model.specs.declared.table.Table.{Table}
use Rattle.mg_space.specs.FreePages.{HasRegions}
use Rattle.mg_space.specs.RegionLaws.{sound_regions}
use Rattle.mg_pool.specs.Batch.{Changed, content_in, lists}
use Rattle.mg_pool.specs.declared.pool.Pool.{Pool}
use Rattle.mg_slots.specs.DataPage.{IsNewPage, cell_of}
use Rattle.mg_slots.specs.DataPageLaws.{new_page_room}
use Rattle.mg_slots.specs.Room.{need_of, room_of}
use Rattle.mg_slots.specs.RoomLaws.{least_free_is_free}
use Rattle.mg_space.specs.Taking.{IsGeometry}
use Rattle.mg_space.specs.TakingLaws.{takes_bit, takes_keeps}
use Rattle.mg_space.specs.View.{Tells, viewed}
use Rattle.mg_space.specs.ViewLaws.{viewed_else, viewed_here}
use Rattle.mg_space.specs.declared.fault.SpaceFault.TheVariants as faults
use Rattle.mg_space.specs.declared.links.FireLinks.{FireLinks}
use Rattle.mg_version.specs.declared.cell.TheConstants.{ANCHOR_LEN}
use Rattle.mg_image_overlay_laws.specs.tables.Growing.{IsTableOf}
use Rattle.mg_image_overlay_laws.specs.tables.GrowingLaws.{StandsTo, grows_pool, table_of_end}
use Rattle.mg_image_overlay_laws.specs.kept.Knowing.{entered_of}
use Rattle.mg_image_overlay_laws.specs.tables.OneLayout.{sound_once}
use Rattle.mg_image_overlay_laws.specs.tables.OneTable.{its_data}
use Rattle.mg_no_damage_laws.specs.Reading.{Reads, page_there, place_known, sees, views, walk_whole}
use Rattle.mg_no_damage_laws.specs.WriteStanding.{IsStanding, bare, put_standing, sound_standing}

module _ {D : Type 0} (m : Meaning D) (laws : Reads m) (a n : Pool D FireLinks) (image : Image)
    (like : n.dirty ≡ a.dirty) (tells : Tells m n.disk image) (geometry : IsGeometry a.geometry)
    (old : Changed) (state : ℕ → TxState) (layout : Layout) (r : Reading)
    (sound : IsSoundBy packed_form a.geometry.size state (viewed a image old) layout r) (table : Table)
    (its : IsTableOf layout table) where
  abbrev size : ℕ
  size = a.geometry.size

  abbrev view : Changed → Pages
  view b = viewed a image b

  standing : IsStanding size (view old) its.stand
  standing = sound_standing size state (view old) layout r sound table its

  begins : its.stand.table.pointer.0 ≡ table.pointer.0
  begins = ap (λ (t : Table). t.pointer.0) its.table_is

  regions : HasRegions a.geometry (view old)
  regions = sound_regions a.geometry (view old) geometry sound.header.whole sound.inventory

  -- ---- no damage is met on the way to a page with room

  last_there : (pointers data_pages : List ℕ) → IsTable (view old) table.pointer.0 pointers data_pages
      → (it : Damaged)
      → RefusesPointerPage m n old.pages (view old (slice_index pointers (length pointers - 1))) table.pointer.0
      (length pointers - 1) (record { 0 = slice_index pointers (length pointers - 1) }) (faults.Damaged it) → ⊥
  last_there pointers data_pages is it refused = laws.lasts n image old size (bare its.stand)
      (sees m laws a n image like tells size old its.stand standing) front data_pages
      (record { 0 = q })
      (subst (λ (ps : Pages). IsTable ps its.stand.table.pointer.0 (front ++ q ∷ []) data_pages)
      (sym (views m laws a n image like tells size old))
      (subst (λ (k : ℕ). IsTable (view old) k (front ++ q ∷ []) data_pages) (sym begins)
      (subst (λ (ps : List ℕ). IsTable (view old) table.pointer.0 ps data_pages) are is))) it
      (subst (λ (ps : Pages). RefusesPointerPage m n old.pages (ps q) its.stand.table.pointer.0 (length front)
      (record { 0 = q }) (faults.Damaged it)) (sym (views m laws a n image like tells size old))
      (subst (λ (k : ℕ). RefusesPointerPage m n old.pages (view old q) k (length front)
      (record { 0 = q }) (faults.Damaged it)) (sym begins)
      (subst (λ (k : ℕ). RefusesPointerPage m n old.pages (view old q) table.pointer.0 k
      (record { 0 = q }) (faults.Damaged it)) count refused)))
    where
      q : ℕ
      q = slice_index pointers (length pointers - 1)

      front : List ℕ
      front = last_front packed_form size state (view old) layout r sound table its pointers data_pages is

      are : pointers ≡ front ++ q ∷ []
      are = last_are packed_form size state (view old) layout r sound table its pointers data_pages is

      count : length pointers - 1 ≡ length front
      count = let long : length pointers ≡ length (front ++ q ∷ []) = ap (length {A = ℕ}) are in
          omega (arith, long, length-append front (q ∷ []))

  grown : (pointers data_pages : List ℕ) → IsTable (view old) table.pointer.0 pointers data_pages
      → (it : Damaged)
      → RefusesGrowth m a n image old table.pointer.0 (length pointers - 1)
      (record { 0 = slice_index pointers (length pointers - 1) }) (faults.Damaged it) → ⊥
  grown pointers data_pages is it (inl refused) = last_there pointers data_pages is it refused
  grown pointers data_pages is it (inr (inl refused)) = laws.taken a.geometry (view old) regions it refused
  grown pointers data_pages is it (inr (inr (inl refused))) =
      laws.taken a.geometry (view old) regions it refused
  grown pointers data_pages is it (inr (inr (inr second))) = laws.taken a.geometry (view second.with_bit)
      (laws.kept a.geometry (view old) (view second.with_bit) second.first geometry regions second.takes_first)
      it second.refused

  pub room_found : (it : Damaged)
      → RefusesRoom m a n image old table.pointer.0 (faults.Damaged it) → ⊥
  room_found it (inl refused) =
      walk_whole m laws a n image like tells size old its.stand standing table.pointer.0 begins it (inl refused)
  room_found it (inr of) = by of.refused
    where
      by : RefusesRoomIn m a n image old table.pointer.0 of.pointers of.data_pages (faults.Damaged it) → ⊥
      by (inl broken) = walk_whole m laws a n image like tells size old its.stand standing table.pointer.0 begins
          it (inr (record {
            pointers = of.pointers;
            data_pages = of.data_pages;
            table = of.table;
            broken = broken;
          }))
      by (inr refused) = grown of.pointers of.data_pages of.table it refused

  -- ---- the page that was given

  module _ (given : Changed) (need : ℕ) (page : PageNo)
      (gives : GivesRoom a image old given table.pointer.0 need page) where
    pub grows : GrowsSome false size table.pointer.0 (lists given.orders) (content_in given.pages) (view old)
        (end_of gives.pointers gives.data_pages) (view given)
    grows = room_grows packed_form a image state layout r old given table need page (lists given.orders)
        (content_in given.pages) geometry sound its (within_self given) gives

    pub to : StandsTo packed_form size state (view old) (view given) layout r table grows.final
    to = grows_pool packed_form (sound_once packed_form laws.one (λ b k is. is)) (λ b k is. is) size
        (trees_stay packed_form size) state table (lists given.orders) (content_in given.pages) (view old)
        (view given) (end_of gives.pointers gives.data_pages) grows.final grows.grows layout r sound
        (ends_there packed_form size state (view old) layout r sound table its gives.pointers gives.data_pages
        gives.table)

    pub then_ : IsTableOf to.layout table
    then_ = table_of_end to.layout table grows.final to.ends

    pub given_standing : IsStanding size (view given) then_.stand
    given_standing = sound_standing size state (view given) to.layout r to.sound table then_

    pub given_begins : then_.stand.table.pointer.0 ≡ table.pointer.0
    given_begins = ap (λ (t : Table). t.pointer.0) then_.table_is

    pub given_listed : Has then_.stand.data_pages page.0
    given_listed = (its_data packed_form size state (view given) to.layout r to.sound table then_ page.0).0
        (entered_of packed_form size state (view given) to.layout r to.sound table then_ (λ k. Unit {0})
        (view given) (λ k is. refl) page.0
        (given_entered packed_form a image state layout r old given table need page geometry sound its gives))

    -- a data page of the table is listed still, and as it was
    pub still_listed : (k : ℕ) → table_at (stands_of layout) k ≡ Some table → Has then_.stand.data_pages k
    still_listed k of = (its_data packed_form size state (view given) to.layout r to.sound table then_ k).0
        (to.grown.stays k table of)

    pub given_there : (it : Damaged)
        → RefusesData m n given.pages page (view given page.0) (faults.Damaged it) → ⊥
    given_there it refused = page_there m laws a n image like tells size given then_.stand given_standing page
        given_listed it refused

    -- ---- it has room

    last : MayBeLast size (view old) (slice_index gives.pointers (length gives.pointers - 1))
    last = last_may packed_form size state (view old) layout r sound table its gives.pointers gives.data_pages
        gives.table

    off : (p : Pages) (k j : ℕ) → is_used size p k ≡ true → is_used size p j ≡ false → j ≢ k
    off p k j used unused same =
        let both : true ≡ false = sym used ∙ (ap (is_used size p) (sym same) ∙ unused) in absurd cc

    abbrev q : ℕ
    q = slice_index gives.pointers (length gives.pointers - 1)

    abbrev fresh : ℕ
    fresh = gives.it.page.0

    in_last : (pointer : List ℕ)
        → ListsInLast a.geometry a image old given table.pointer.0 (length gives.data_pages) q fresh pointer
        gives.it.bytes → view given fresh ≡ gives.it.bytes
    in_last pointer it = ap (λ (ps : Pages). ps fresh) (viewed_same a image it.listed given it.orders.same_pages)
        ∙ (viewed_else a image it.made it.listed q it.page it.puts fresh
        (off (view old) q fresh last.used it.takes.free.unused)
        ∙ viewed_here a image it.taken it.made fresh gives.it.bytes it.makes.puts)

    in_new : (pointer : List ℕ) (p at : ℕ)
        → ListsInNew a.geometry a image old given table.pointer.0 (length gives.data_pages) at q p fresh pointer
        gives.it.bytes → view given fresh ≡ gives.it.bytes
    in_new pointer p at it = ap (λ (ps : Pages). ps fresh) (viewed_same a image it.linked given it.orders.same_pages)
        ∙ (viewed_else a image it.begun it.linked q it.link it.puts_link fresh
        (off (view it.with_bit) q fresh (takes_keeps a.geometry (view old) (view it.with_bit) p geometry
        it.takes_pointer q last.used) it.takes.free.unused)
        ∙ (viewed_else a image it.made it.begun p it.page it.puts fresh
        (off (view it.with_bit) p fresh (takes_bit a.geometry (view old) (view it.with_bit) p geometry
        it.takes_pointer) it.takes.free.unused)
        ∙ viewed_here a image it.taken it.made fresh gives.it.bytes it.makes.puts))

    new_room : (b : List ℕ) (owner place : ℕ) → view given fresh ≡ b → IsNewPage b size fresh owner place
        → need + 24 ≤ size → need ≤ room_of (view given fresh)
    new_room b owner place is made fits =
        let room : room_of (view given fresh) ≡ size - 20 - 4 =
        ap room_of is ∙ new_page_room b size fresh owner place made in omega (arith, room, fits)

    pub given_room : need + 24 ≤ size → need ≤ room_of (view given page.0)
    given_room fits = subst (λ (k : PageNo). need ≤ room_of (view given k.0)) gives.page_is (by gives.found)
      where
        by : FindsOrGrows a image old given table.pointer.0 gives.pointers gives.data_pages need gives.it
            → need ≤ room_of (view given fresh)
        by (inl (same, first)) = subst (λ (b : Changed). need ≤ room_of (view b fresh)) (sym same) first.room
        by (inr (none, inl (room, it))) = new_room gives.it.bytes table.pointer.0 (length gives.data_pages)
            (in_last (view old q) it) it.makes.made fits
        by (inr (none, inr (full, (p, it)))) = new_room gives.it.bytes table.pointer.0
            (length gives.data_pages) (in_new (view old q) p (length gives.pointers - 1 + 1) it) it.makes.made fits

    -- a page that was found has the room, and a new one is none that was used, and has all the room of its kind
    pub given_or_new : (k : ℕ) → is_used size (view old) k ≡ true
        → (need ≤ room_of (view given page.0)) ⊎ ((page.0 ≢ k) × (size ≤ room_of (view given page.0) + 24))
    given_or_new k used = subst (λ (j : PageNo). (need ≤ room_of (view given j.0))
        ⊎ ((j.0 ≢ k) × (size ≤ room_of (view given j.0) + 24))) gives.page_is (by gives.found)
      where
        whole : (b : List ℕ) (owner place : ℕ) → view given fresh ≡ b → IsNewPage b size fresh owner place
            → size ≤ room_of (view given fresh) + 24
        whole b owner place is made =
            let room : room_of (view given fresh) ≡ size - 20 - 4 =
            ap room_of is ∙ new_page_room b size fresh owner place made in omega (arith, room)

        by : FindsOrGrows a image old given table.pointer.0 gives.pointers gives.data_pages need gives.it
            → (need ≤ room_of (view given fresh)) ⊎ ((fresh ≢ k) × (size ≤ room_of (view given fresh) + 24))
        by (inl (same, first)) = inl (subst (λ (b : Changed). need ≤ room_of (view b fresh)) (sym same) first.room)
        by (inr (none, inl (room, it))) = inr (
          off (view old) k fresh used it.takes.free.unused,
          whole gives.it.bytes table.pointer.0 (length gives.data_pages) (in_last (view old q) it)
              it.makes.made,
        )
        by (inr (none, inr (full, (p, it)))) = inr (
          off (view it.with_bit) k fresh
              (takes_keeps a.geometry (view old) (view it.with_bit) p geometry it.takes_pointer k used)
              it.takes.free.unused,
          whole gives.it.bytes table.pointer.0 (length gives.data_pages)
              (in_new (view old q) p (length gives.pointers - 1 + 1) it) it.makes.made,
        )

  -- ---- a place, and a cell

  pub spot_given : (it : Damaged) → RefusesSpot m a n image old table.pointer.0 (faults.Damaged it) → ⊥
  spot_given it (spot_room refused) = room_found it refused
  spot_given it (spot_page given page gives refused) = given_there given ANCHOR_LEN page gives it refused

  cell_put : (bytes : List ℕ) → need_of bytes + 24 ≤ size → (it : Damaged)
      → RefusesPut m a n image old table.pointer.0 bytes (faults.Damaged it) → ⊥
  cell_put bytes fits it put = by put.refused
    where
      by : RefusesPutIn m n put.given (view put.given put.page.0) put.page bytes (faults.Damaged it) → ⊥
      by (inl refused) = given_there put.given (need_of bytes) put.page put.gives it refused
      by (inr none) =
          let room = given_room put.given (need_of bytes) put.page put.gives fits in
          let small = none.small in omega (arith, room, small)

  module _ (put : Changed) (bytes : List ℕ) (at : RecId)
      (adds : AddsCell a image old put table.pointer.0 bytes at) (may : IsCellOf false bytes) where
    abbrev its_then : IsTableOf (to adds.given (need_of bytes) at.page adds.gives).layout table
    its_then = then_ adds.given (need_of bytes) at.page adds.gives

    -- the table stands with the cell
    pub put_stands : IsStanding size (view put) its_then.stand
    put_stands = put_standing size (view adds.given) its_then.stand
        (given_standing adds.given (need_of bytes) at.page adds.gives) (view put) at bytes
        (given_listed adds.given (need_of bytes) at.page adds.gives) adds.puts.puts may

    pub put_reached : (it : Damaged)
        → RefusesReach m n put.pages (view put) table.pointer.0 at.page (faults.Damaged it) → ⊥
    put_reached it refused = place_known m laws a n image like tells size put its_then.stand put_stands
        table.pointer.0 (given_begins adds.given (need_of bytes) at.page adds.gives) at.page
        (given_listed adds.given (need_of bytes) at.page adds.gives) it refused

    -- another slot of the table has its cell still
    pub other_cell : (rec : RecId) → table_at (stands_of layout) rec.page.0 ≡ Some table
        → is_some (cell_of (view old rec.page.0) rec.slot) ≡ true
        → is_some (cell_of (view put rec.page.0) rec.slot) ≡ true
    other_cell rec of some = by (cases_eq rec.page.0 at.page.0) (cases_eq rec.slot at.slot)
      where
        there : is_some (cell_of (view adds.given rec.page.0) rec.slot) ≡ true
        there = ap (λ (b : List ℕ). is_some (cell_of b rec.slot))
            ((to adds.given (need_of bytes) at.page adds.gives).data_same rec.page.0 table of) ∙ some

        by : (rec.page.0 ≡ at.page.0) ⊎ (rec.page.0 ≢ at.page.0) → (rec.slot ≡ at.slot) ⊎ (rec.slot ≢ at.slot)
            → is_some (cell_of (view put rec.page.0) rec.slot) ≡ true
        by (inr other) slot = ap (λ (b : List ℕ). is_some (cell_of b rec.slot))
            (adds.puts.puts.others rec.page.0 other) ∙ there
        by (inl same) (inr other) = ap (λ (k : ℕ). is_some (cell_of (view put k) rec.slot)) same
            ∙ (ap (λ (c : Option (List ℕ)). is_some c) (adds.puts.puts.puts.sets.others rec.slot other)
            ∙ (ap (λ (k : ℕ). is_some (cell_of (view adds.given k) rec.slot)) (sym same) ∙ there))
        by (inl same) (inl also) =
            let free : is_some (cell_of (view adds.given at.page.0) at.slot) ≡ false =
            ap (λ (s : ℕ). is_some (cell_of (view adds.given at.page.0) s)) adds.puts.least
            ∙ ap (λ (c : Option (List ℕ)). is_some c) (least_free_is_free (view adds.given at.page.0)) in
            let used : is_some (cell_of (view adds.given at.page.0) at.slot) ≡ true =
            ap (λ (k : ℕ). is_some (cell_of (view adds.given k) at.slot)) (sym same)
            ∙ (ap (λ (s : ℕ). is_some (cell_of (view adds.given rec.page.0) s)) (sym also) ∙ there) in
            absurd cc

  pub version_put : (bytes : List ℕ) → IsCellOf false bytes → need_of bytes + 24 ≤ size → (it : Damaged)
      → RefusesPutVersion m a n image old table.pointer.0 bytes (faults.Damaged it) → ⊥
  version_put bytes may fits it (put_adds (inl refused)) = room_found it refused
  version_put bytes may fits it (put_adds (inr refused)) = cell_put bytes fits it refused
  version_put bytes may fits it (put_reaches at put adds refused) = put_reached put bytes at adds may it refused

-- A batch that is filled with rows of the catalog, on an image in which their writer counts as dead: what an
-- image has to be that has a set of the batch's pages is kept, step by step.
use Rattle.mg_base.specs.Fields.{byte}
use Rattle.mg_base.specs.Image.{Image}
use Rattle.mg_base.specs.declared.numbers.RecId.{RecId}
use Rattle.mg_base.specs.declared.transaction.TxState.{TxState}
use Rattle.mg_base.specs.declared.transaction.TxState.TheVariants.{Dead}
use Rattle.mg_careful.specs.CarefulWrite.{PageSet}
use Rattle.mg_careful.specs.Precedence.{Orders}
use Rattle.mg_careful.specs.declared.graph.Order.{Order}
use Rattle.mg_tie_laws.specs.Filling.{Fills, HasTaken, NewRow, TakesAndMakes, filled, makes, orders_more, takes}
use Rattle.mg_tie_laws.specs.Others.{IsLeft, IsOther, data_leaves_it, growth_leaves, left_then, occupied_leaves}
use Rattle.mg_tie_laws.specs.Within.{fills_within, made_within}
use Rattle.mg_tie_laws.specs.Within.{made_within}
use Rattle.mg_chain.specs.Writing.{GivesSpot, MakesRecord, link_to}
use Rattle.mg_tie_laws.specs.FirstPages.{MakesPages, left_within, made_pages}
use Rattle.mg_tie_laws.specs.PushTies.{written}
use Rattle.mg_tie_laws.specs.Rows.{off_header}
use Rattle.mg_image_overlay_laws.specs.tables.Growing.{EndsAt, HasGrown, IsTableOf, MayBeWritten}
use Rattle.mg_image_overlay_laws.specs.tables.GrowingLaws.{StandsTo, grown_more, grows_part, grows_pool, table_of_end, taken_sound}
use Rattle.mg_image_overlay_laws.specs.kept.Knowing.{entered_of, lawful_there, pointers_keep, put_still}
use Rattle.mg_header.specs.HeaderPage.{header_in}
use Rattle.mg_heap.specs.Growth.{AddsOrders}
use Rattle.mg_heap.specs.Reading.{owner_in}
use Rattle.mg_tie_laws.specs.Batches.{IsWithin, viewed_same}
use Rattle.mg_tie_laws.specs.CellTies.{owner_told}
use Rattle.mg_tie_laws.specs.GivenTies.{given_entered}
use Rattle.mg_tie_laws.specs.RoomTies.{GrowsSome, end_of, ends_there, room_grows}
use Rattle.mg_image.specs.Catalog.{catalog_table}
use Rattle.mg_image.specs.Form.{Coding, Form, Pages, Row}
use Rattle.mg_image.specs.Inventory.{inventory_page}
use Rattle.mg_image.specs.ReadingLaws.{RowsAreOne}
use Rattle.mg_image.specs.RecordRules.{AreRecords, Facts}
use Rattle.mg_image.specs.StepLaws.{put_reading}
use Rattle.mg_image_overlay_laws.specs.pages.DataSound.{data_sound, facts_same}
use Rattle.mg_image_overlay_laws.specs.records.Push.{free_empty, free_unread}
use Rattle.mg_image_overlay_laws.specs.records.QuietVersions.{AreQuiet, indexed_still, owns_still, shows_with}
use Rattle.mg_image_overlay_laws.specs.kept.Rest.{LeavesRest}
use Rattle.mg_image.specs.Records.{Reading, cells_of, key_of, slot_cell}
use Rattle.mg_image.specs.Sound.{IsSoundBy, facts_by}
use Rattle.mg_image.specs.Tables.{Layout, stands_of, table_at}
use Rattle.mg_image.specs.declared.entry.Entry.{Entry}
use Rattle.mg_image_overlay_laws.specs.pages.Kinds.{HasNoSequences}
use Rattle.mg_image_overlay_laws.specs.pages.Trees.{data_leaves, trees_stay}
use Rattle.mg_image_overlay_laws.specs.kept.KeptImages.{IsKept}
use Rattle.mg_model.specs.History.{Entries}
use Rattle.mg_model.specs.declared.opening.Opening.{Opening}
use Rattle.mg_model.specs.declared.table.Table.{Table}
use Rattle.mg_image_overlay_laws.specs.tables.OneLayout.{sound_once}
use Rattle.mg_overlay_laws.specs.Overlays.{LaysBatch}
use Rattle.mg_overlay_laws.specs.Views.{ordered_same, partly}
use Rattle.mg_image_overlay_laws.specs.tables.OutSteps.{everywhere}
use Rattle.mg_pool.specs.Batch.{Changed}
use Rattle.mg_pool.specs.Pool.{shown}
use Rattle.mg_pool.specs.declared.pool.Pool.{Pool}
use Rattle.mg_image_overlay_laws.specs.records.AddPart.{AddsOver, FindsPlace, add_living, add_sound, add_views}
use Rattle.mg_slots.specs.DataPage.{cell_of}
use Rattle.mg_slots.specs.RoomLaws.{least_free_is_free}
use Rattle.mg_space.specs.Taking.{IsGeometry, region_of}
use Rattle.mg_space.specs.View.{viewed}
use Rattle.mg_space.specs.ViewLaws.{viewed_else, viewed_here}
use Rattle.mg_tie_laws.specs.Occupied.{taken_are_occupied}
use Rattle.mg_image_overlay_laws.specs.pages.PointerPage.{data_five}
use Rattle.mg_image_overlay_laws.specs.pages.TakePart.{OccupiesPage, take_views}
use Rattle.mg_value.specs.declared.value.Value.{Value}
use Rattle.mg_version.specs.declared.cell.TheConstants.{ANCHOR_LEN}
use Rattle.mg_version.specs.declared.cell.Version.{Version}
use Rattle.std.proofs.Common.{List, None, Option, Some, [], ap, inl, inr, length, refl, subst, sym, true, ℕ, ◌∙◌, ◌≡◌, ◌≢◌, ◌≤◌, ◌⊎◌, ◌∷◌}
use Rattle.std.proofs.lemmas.Bool.{cases_eq}

-- where a version may be written does not depend on the place of its cell
may_anywhere : (coding : Coding) (f : Facts) (table : Table) (key : Value) (v : Version) (row : Row)
    (a b : RecId) → MayBeWritten coding f table key (written a v None row)
    → MayBeWritten coding f table key (written b v None row)
may_anywhere coding f table key v row a b may = record {
  drawn = may.drawn;
  dead = may.dead;
  format = may.format;
  spelled = may.spelled;
  storable = may.storable;
  erased = may.erased;
  keyed = may.keyed;
}

-- A record of the catalog was made: the catalog may have got pages, and the record, which had no version, reads as its
-- first one; all others read as they did.
pub record ReadsRow (a c : Layout) (r s : Reading) (catalog : Table) (p : RecId) (e : Entry) : Type 0 where
  pub grown : HasGrown a c r
  pub read : s ≡ put_reading r p (e ∷ [])
  pub placed : table_at (stands_of c) p.page.0 ≡ Some catalog
  pub empty : r p ≡ []

-- the catalog of an image, as a table
abbrev pub catalog_of : Pages → Table
catalog_of pages = catalog_table (header_in (pages 0)).catalog.0

module _ (form : Form) (one : RowsAreOne form.coding) (none : HasNoSequences form) {D L : Type 0}
    (store : Pool D L) (image : Image) (lawful : IsGeometry store.geometry) (state : ℕ → TxState)
    (o : Opening) (h : Entries) (contents : ℕ → Option (List ℕ)) (orders : Orders) (changed : Pages)
    (set_ : PageSet) (img : Pages)
    (lays : LaysBatch (shown store.dirty image) changed contents orders set_ img)
    (left : (m : ℕ) → contents m ≡ None → shown store.dirty image m ≡ changed m) where
  abbrev size : ℕ
  size = store.geometry.size

  abbrev pool : Pages
  pool = shown store.dirty image

  abbrev view : Changed → Pages
  view b = viewed store image b

  abbrev catalog : Table
  catalog = catalog_of pool

  abbrev owner : ℕ
  owner = catalog.pointer.0

  -- A step of the batch: an image with a set of its pages is what it has to be, and the header is as it was.
  pub record IsFilled (b : Changed) : Type 0 where
    pub kept : IsKept form size o h state (view b) (partly set_ (view b) img)
    pub header : view b 0 ≡ pool 0

  -- the catalog stands in each layout
  its : (b : Changed) (at : IsFilled b) → IsTableOf at.kept.of_pool catalog
  its b at = record {
    before = [];
    stand = at.kept.of_pool.catalog;
    after = at.kept.of_pool.tables;
    is_ = refl;
    table_is = at.kept.pool_sound.catalog
        ∙ ap (λ (bytes : List ℕ). catalog_table (header_in bytes).catalog.0) at.header;
  }

  -- ---- a free page is taken and made

  module _ (old made : Changed) (n : ℕ) (bytes : List ℕ)
      (taking : TakesAndMakes store image old made n bytes) (at : IsFilled old) where
    made_else : (m : ℕ) → m ≢ n → view made m ≡ view taking.taken m
    made_else m ne = viewed_else store image taking.taken made n bytes taking.puts m ne

    made_others : (m : ℕ) → m ≢ inventory_page size (region_of size n) → m ≢ n → view made m ≡ view old m
    made_others m off_i off_n = made_else m off_n ∙ taking.takes.others m off_i

    made_whole : (m : ℕ) → length (view made m) ≡ size
    made_whole m = by (cases_eq m n) (cases_eq m (inventory_page size (region_of size n)))
      where
        by : (m ≡ n) ⊎ (m ≢ n)
            → (m ≡ inventory_page size (region_of size n)) ⊎ (m ≢ inventory_page size (region_of size n))
            → length (view made m) ≡ size
        by (inl e) on_i = ap (λ (k : ℕ). length (view made k)) e
            ∙ (ap length (viewed_here store image taking.taken made n bytes taking.puts) ∙ taking.len)
        by (inr off_n) (inl e) = ap length (made_else m off_n)
            ∙ (ap (λ (k : ℕ). length (view taking.taken k)) e ∙ taking.takes.len)
        by (inr off_n) (inr off_i) = ap length (made_others m off_i off_n)
            ∙ at.kept.pool_sound.header.whole m

    occupies : OccupiesPage size (view old) (view made) (inventory_page size (region_of size n)) n
    occupies = taken_are_occupied store.geometry (view old) (view taking.taken) (view old) (view made) n
        lawful taking.takes (record {
          before = λ k. refl;
          after = λ k. made_else (inventory_page size k) (λ e. taking.takes.free.no_inventory k e);
          others = made_others;
          whole = made_whole;
        })

    pub take_step : IsFilled made
    take_step = record {
      kept = (take_views form size o h state (view old) (view made) set_ img
          (inventory_page size (region_of size n)) n none (trees_stay form size) occupies at.kept).kept;
      header = made_others 0 occupies.off_header.0 occupies.off_header.1 ∙ at.header;
    }

    -- all reads as it did
    pub take_reads : (c : Layout) (s : Reading) → IsSoundBy form size state (view made) c s
        → (at.kept.of_pool ≡ c) × (at.kept.in_pool ≡ s)
    take_reads c s second = sound_once form one none size state (view made) at.kept.of_pool c at.kept.in_pool s
        (taken_sound form (sound_once form one none) none size (trees_stay form size) state catalog (view old)
        (view made) (inventory_page size (region_of size n)) n occupies at.kept.of_pool at.kept.in_pool
        at.kept.pool_sound) second

    take_leaves : (m : ℕ) → IsOther size (view old) owner m → IsLeft size (view old) (view made) owner m
    take_leaves m other = occupied_leaves size (view old) (view made)
        (inventory_page size (region_of size n)) n owner m occupies other

    -- and it has these bytes then
    take_makes : 3 ≤ byte bytes 0 → owner_in bytes ≢ owner
        → (view made n ≡ bytes) × IsOther size (view made) owner n
    take_makes kind owned = (
      is,
      record {
        used = occupies.bit;
        kind = subst (λ (page : List ℕ). 3 ≤ byte page 0) (sym is) kind;
        owned = subst (λ (page : List ℕ). owner_in page ≢ owner) (sym is) owned;
      },
    )
      where
        is : view made n ≡ bytes
        is = viewed_here store image taking.taken made n bytes taking.puts

  -- ---- orders come to the batch

  order_view : (old mid : Changed) (os : List Order) → AddsOrders old mid os → view mid ≡ view old
  order_view old mid os adds = viewed_same store image old mid adds.same_pages

  pub order_step : (old mid : Changed) (os : List Order) → AddsOrders old mid os → IsFilled old → IsFilled mid
  order_step old mid os adds at = record {
    kept = subst (λ (v : Pages). IsKept form size o h state v (partly set_ v img))
        (sym (order_view old mid os adds)) at.kept;
    header = ap (λ (v : Pages). v 0) (order_view old mid os adds) ∙ at.header;
  }

  pub order_reads : (old mid : Changed) (os : List Order) → AddsOrders old mid os → (at : IsFilled old) → (c : Layout)
      (s : Reading) → IsSoundBy form size state (view mid) c s → (at.kept.of_pool ≡ c) × (at.kept.in_pool ≡ s)
  order_reads old mid os adds at c s second = sound_once form one none size state (view mid) at.kept.of_pool c
      at.kept.in_pool s (subst (λ (v : Pages). IsSoundBy form size state v at.kept.of_pool at.kept.in_pool)
      (sym (order_view old mid os adds)) at.kept.pool_sound) second

  order_leaves : (old mid : Changed) (os : List Order) → AddsOrders old mid os → (m : ℕ)
      → IsOther size (view old) owner m → IsLeft size (view old) (view mid) owner m
  order_leaves old mid os adds m other = record {
    same = ap (λ (v : Pages). v m) (order_view old mid os adds);
    other = subst (λ (v : Pages). IsOther size v owner m) (sym (order_view old mid os adds)) other;
  }

  -- ---- a record is made

  module _ (old given made : Changed) (row : NewRow) (spot : GivesSpot store image old given owner row.at)
      (record_ : MakesRecord store image given made owner row.at row.version)
      (within : IsWithin contents orders made) (dead : state row.version.tx.0 ≡ Dead) (first : Layout)
      (may : MayBeWritten form.coding (facts_by state pool first) catalog (key_of catalog row.row)
      (written row.at row.version None row.row)) (at : IsFilled old) where
    abbrev sound : IsSoundBy form size state (view old) at.kept.of_pool at.kept.in_pool
    sound = at.kept.pool_sound

    abbrev r : Reading
    r = at.kept.in_pool

    abbrev n : Entry
    n = written record_.makes.at row.version None row.row

    abbrev grown_again : Changed
    grown_again = record_.makes.adds.given

    abbrev put : Changed
    put = record_.makes.put

    -- the place is given
    spot_grows : GrowsSome form.in_primary size owner orders contents (view old)
        (end_of spot.gives.pointers spot.gives.data_pages) (view given)
    spot_grows = room_grows form store image state at.kept.of_pool r old given catalog ANCHOR_LEN row.at.page
        orders contents lawful sound (its old at)
        (made_within store image contents orders owner given made row.at row.version record_ within)
        spot.gives

    spot_ends : EndsAt at.kept.of_pool catalog (end_of spot.gives.pointers spot.gives.data_pages)
    spot_ends = ends_there form size state (view old) at.kept.of_pool r sound catalog (its old at)
        spot.gives.pointers spot.gives.data_pages spot.gives.table

    spot_to : StandsTo form size state (view old) (view given) at.kept.of_pool r catalog spot_grows.final
    spot_to = grows_pool form (sound_once form one none) none size (trees_stay form size) state catalog orders
        contents (view old) (view given) (end_of spot.gives.pointers spot.gives.data_pages) spot_grows.final
        spot_grows.grows at.kept.of_pool r sound spot_ends

    spot_kept : IsKept form size o h state (view given) (partly set_ (view given) img)
    spot_kept = grows_part form (sound_once form one none) none size (trees_stay form size) state catalog o h
        orders contents set_ img lays.together (view old) (view given)
        (end_of spot.gives.pointers spot.gives.data_pages) spot_grows.final spot_grows.grows at.kept.of_pool r
        sound spot_ends at.kept

    spot_its : IsTableOf spot_to.layout catalog
    spot_its = table_of_end spot_to.layout catalog spot_grows.final spot_to.ends

    placed : table_at (stands_of spot_to.layout) row.at.page.0 ≡ Some catalog
    placed = entered_of form size state (view given) spot_to.layout r spot_to.sound catalog spot_its
        (λ k. Unit {0}) (view given) (λ k is. refl) row.at.page.0
        (given_entered form store image state at.kept.of_pool r old given catalog ANCHOR_LEN row.at.page lawful
        sound (its old at) spot.gives)

    blank : cells_of (view given) row.at ≡ None
    blank = ap slot_cell (ap (cell_of (view given row.at.page.0)) spot.least.is_least
        ∙ least_free_is_free (view given row.at.page.0))

    -- the record is made there
    pages : MakesPages form store image given made row.at row.version catalog contents orders record_
    pages = made_pages form one none store image lawful given made state spot_to.layout r spot_to.sound row.at
        row.version catalog placed blank record_ contents orders within

    room_ends : EndsAt spot_to.layout catalog
        (end_of record_.makes.adds.gives.pointers record_.makes.adds.gives.data_pages)
    room_ends = ends_there form size state (view given) spot_to.layout r spot_to.sound catalog spot_its
        record_.makes.adds.gives.pointers record_.makes.adds.gives.data_pages record_.makes.adds.gives.table

    room_to : StandsTo form size state (view given) (view grown_again) spot_to.layout r catalog pages.final
    room_to = grows_pool form (sound_once form one none) none size (trees_stay form size) state catalog orders
        contents (view given) (view grown_again)
        (end_of record_.makes.adds.gives.pointers record_.makes.adds.gives.data_pages) pages.final pages.grows
        spot_to.layout r spot_to.sound room_ends

    room_kept : IsKept form size o h state (view grown_again) (partly set_ (view grown_again) img)
    room_kept = grows_part form (sound_once form one none) none size (trees_stay form size) state catalog o h
        orders contents set_ img lays.together (view given) (view grown_again)
        (end_of record_.makes.adds.gives.pointers record_.makes.adds.gives.data_pages) pages.final pages.grows
        spot_to.layout r spot_to.sound room_ends spot_kept

    room_its : IsTableOf room_to.layout catalog
    room_its = table_of_end room_to.layout catalog pages.final room_to.ends

    room_header : view grown_again 0 ≡ pool 0
    room_header = room_to.header ∙ (spot_to.header ∙ at.header)

    cell_placed : table_at (stands_of room_to.layout) n.at.page.0 ≡ Some catalog
    cell_placed = entered_of form size state (view grown_again) room_to.layout r room_to.sound catalog room_its
        (λ k. orders k row.at.page.0 ≡ true) (view put)
        (pointers_keep form size state (view grown_again) room_to.layout r room_to.sound catalog room_its
        (view put) n.at.page.0 pages.adds.put_page.others pages.adds.put_page.kind) n.at.page.0
        pages.ordered.pointers

    slot_placed : table_at (stands_of room_to.layout) row.at.page.0 ≡ Some catalog
    slot_placed = room_to.grown.stays row.at.page.0 catalog placed

    found : FindsPlace form.coding (facts_by state (view grown_again) room_to.layout) row.at catalog n
    found = record {
      of = slot_placed;
      lawful = lawful_there form.coding state pool (view grown_again) first room_to.layout catalog
          (key_of catalog row.row) n room_header
          (may_anywhere form.coding (facts_by state pool first) catalog (key_of catalog row.row) row.version
          row.row row.at record_.makes.at may) cell_placed;
    }

    slot_off : 0 ≢ row.at.page.0
    slot_off = off_header form size state (view grown_again) room_to.layout r room_to.sound row.at.page.0
        (data_five form.in_primary size (view grown_again) (stands_of room_to.layout) room_to.sound.tables
        row.at.page.0 catalog slot_placed)

    cell_off : 0 ≢ n.at.page.0
    cell_off = off_header form size state (view grown_again) room_to.layout r room_to.sound n.at.page.0
        pages.adds.put_page.kind

    with_cell : (n.at.page.0 ≡ row.at.page.0) ⊎ (n.at.page.0 ≢ row.at.page.0)
        → set_ row.at.page.0 ≡ true → set_ n.at.page.0 ≡ true
    with_cell (inl same) in_set = ap set_ same ∙ in_set
    with_cell (inr two) in_set =
        lays.together n.at.page.0 row.at.page.0 (pages.ordered.cell two) pages.has_cell in_set

    left_put : (q : ℕ) → contents q ≡ None → view put q ≡ changed q
    left_put q none_ = left_within store image contents orders put pages.put_within q none_ ∙ left q none_

    pub row_step : IsFilled made
    row_step = record {
      kept = add_views form size o h state (view grown_again) (view put) (view made) row.at catalog n
          (link_to record_.makes.at row.version.tx) pages.adds
          (everywhere form one none size state (view grown_again)
          (λ y s. FindsPlace form.coding (facts_by state (view grown_again) y) row.at catalog n)
          room_to.layout r room_to.sound found)
          (data_leaves form size n.at.page.0 none (trees_stay form size))
          (data_leaves form size row.at.page.0 none (trees_stay form size)) dead orders set_ img
          (with_cell (cases_eq n.at.page.0 row.at.page.0))
          (λ m before in_set. ordered_same pool changed contents orders set_ img (view put) lays left_put m
          row.at.page.0 before in_set) pages.ordered room_kept;
      header = pages.adds.slot_page.others 0 slot_off
          ∙ (pages.adds.put_page.others 0 cell_off ∙ room_header);
    }

    -- ---- the pages of others stay

    put_sound_there : IsSoundBy form size state (view put) room_to.layout r
    put_sound_there = put_still form size state (view grown_again) room_to.layout r room_to.sound catalog
        room_its (view put) n.at n.version (data_leaves form size n.at.page.0 none (trees_stay form size))
        pages.adds.put_page pages.adds.put pages.adds.free pages.adds.apart

    spot_leaves : (m : ℕ) → IsOther size (view old) owner m → IsLeft size (view old) (view given) owner m
    spot_leaves m other = growth_leaves form one none size state catalog m orders contents (view old)
        (view given) (end_of spot.gives.pointers spot.gives.data_pages) spot_grows.final spot_grows.grows
        at.kept.of_pool r sound spot_ends other

    room_leaves : (m : ℕ) → IsOther size (view given) owner m
        → IsLeft size (view given) (view grown_again) owner m
    room_leaves m other = growth_leaves form one none size state catalog m orders contents (view given)
        (view grown_again) (end_of record_.makes.adds.gives.pointers record_.makes.adds.gives.data_pages)
        pages.final pages.grows spot_to.layout r spot_to.sound room_ends other

    cell_leaves : (m : ℕ) → IsOther size (view grown_again) owner m
        → IsLeft size (view grown_again) (view put) owner m
    cell_leaves m other = data_leaves_it form none size state (view grown_again) (view put) room_to.layout r
        room_to.sound owner m n.at.page.0 (owner_told form size state (view grown_again) room_to.layout r
        room_to.sound n.at.page.0 catalog cell_placed) other pages.adds.put_page

    slot_leaves : (m : ℕ) → IsOther size (view put) owner m → IsLeft size (view put) (view made) owner m
    slot_leaves m other = data_leaves_it form none size state (view put) (view made) room_to.layout r
        put_sound_there owner m row.at.page.0 (owner_told form size state (view put) room_to.layout r
        put_sound_there row.at.page.0 catalog slot_placed) other pages.adds.slot_page

    row_leaves : (m : ℕ) → IsOther size (view old) owner m → IsLeft size (view old) (view made) owner m
    row_leaves m other =
        let a = spot_leaves m other in
        let b = left_then size (view old) (view given) (view grown_again) owner m a (room_leaves m a.other) in
        let c = left_then size (view old) (view grown_again) (view put) owner m b (cell_leaves m b.other) in
        left_then size (view old) (view put) (view made) owner m c (slot_leaves m c.other)

    -- ---- what is read then

    rest_put : LeavesRest form size (view grown_again) (view put) room_to.layout
    rest_put = data_leaves form size n.at.page.0 none (trees_stay form size) state (view grown_again) (view put)
        room_to.layout r room_to.sound pages.adds.put_page

    rest_slot : LeavesRest form size (view put) (view made) room_to.layout
    rest_slot = data_leaves form size row.at.page.0 none (trees_stay form size) state (view put) (view made)
        room_to.layout r put_sound_there pages.adds.slot_page

    abbrev put_facts : Facts
    put_facts = facts_by state (view put) room_to.layout

    found_put : FindsPlace form.coding put_facts row.at catalog n
    found_put = subst (λ (e : Facts). FindsPlace form.coding e row.at catalog n)
        (sym (facts_same form size state (view grown_again) (view put) n.at.page.0 room_to.layout r r room_to.sound
        pages.adds.put_page rest_put.trees)) found

    over : AddsOver form.coding put_facts (cells_of (view put)) (cells_of (view made)) r row.at catalog n
        (link_to record_.makes.at row.version.tx)
    over = record {
      of = slot_placed;
      dead = dead;
      blank = pages.adds.blank;
      change = pages.adds.turn;
      cell = pages.adds.put.here;
      leads = pages.adds.leads;
      back = pages.adds.back;
      unread = free_unread form.coding (facts_by state (view grown_again) room_to.layout)
          (cells_of (view grown_again)) r n.at room_to.sound.records pages.adds.free;
      lawful = found_put.lawful;
    }

    records_now : AreRecords form.coding put_facts (cells_of (view made)) (put_reading r row.at (n ∷ []))
    records_now = add_sound form.coding put_facts (cells_of (view put)) (cells_of (view made)) r row.at catalog n
        (link_to record_.makes.at row.version.tx) put_sound_there.records over

    quiet_now : AreQuiet put_facts r (put_reading r row.at (n ∷ []))
    quiet_now q = inl (add_living form.coding put_facts (cells_of (view put)) (cells_of (view made)) r row.at catalog n
        (link_to record_.makes.at row.version.tx) put_sound_there.records over q)

    row_sound : IsSoundBy form size state (view made) room_to.layout (put_reading r row.at (n ∷ []))
    row_sound = data_sound form size state (view put) (view made) row.at.page.0 room_to.layout r
        (put_reading r row.at (n ∷ [])) put_sound_there pages.adds.slot_page rest_slot.trees records_now
        (shows_with form.coding put_facts (cells_of (view put)) (cells_of (view made)) r
        (put_reading r row.at (n ∷ [])) put_sound_there.records records_now quiet_now)
        (owns_still form.coding put_facts (cells_of (view put)) (cells_of (view made)) r
        (put_reading r row.at (n ∷ [])) put_sound_there.records records_now quiet_now room_to.layout.catalog.table
        put_sound_there.own_tables)
        (indexed_still form.coding put_facts (cells_of (view put)) (cells_of (view made)) r
        (put_reading r row.at (n ∷ [])) put_sound_there.records records_now quiet_now (view put) (view made)
        rest_slot.trees.found put_sound_there.indexed) rest_slot.sequences

    pub row_reads : (c : Layout) (s : Reading) → IsSoundBy form size state (view made) c s
        → ReadsRow at.kept.of_pool c at.kept.in_pool s catalog row.at (written record_.makes.at row.version None row.row)
    row_reads c s second =
        let same : (room_to.layout ≡ c) × (put_reading r row.at (n ∷ []) ≡ s) = sound_once form one none size state
        (view made) room_to.layout c (put_reading r row.at (n ∷ [])) s row_sound second in record {
          grown = subst (λ (x : Layout). HasGrown at.kept.of_pool x r) same.0
              (grown_more at.kept.of_pool spot_to.layout room_to.layout r spot_to.grown room_to.grown);
          read = sym same.1;
          placed = subst (λ (x : Layout). table_at (stands_of x) row.at.page.0 ≡ Some catalog) same.0 slot_placed;
          empty = free_empty form.coding put_facts (cells_of (view put)) r row.at put_sound_there.records
              pages.adds.blank;
        }

  -- ---- the batch

  -- the writer of a row counts as dead, and the row may be written
  abbrev pub MayFill : Layout → NewRow → Type 0
  MayFill first row = (state row.version.tx.0 ≡ Dead)
      × MayBeWritten form.coding (facts_by state pool first) catalog (key_of catalog row.row)
      (written row.at row.version None row.row)

  pub fills_to : (first : Layout) (old new : Changed)
      → Fills store image owner (MayFill first) old new → IsWithin contents orders new → IsFilled old
      → IsFilled new
  fills_to first old new (filled b) within at = at
  fills_to first old new (takes a b c n bytes taking more) within at =
      fills_to first b new more within (take_step old b n bytes taking at)
  fills_to first old new (orders_more a b c os adds more) within at =
      fills_to first b new more within (order_step old b os adds at)
  fills_to first old new (makes a b c d row is spot record_ more) within at =
      fills_to first c new more within (row_step old b c row spot record_
      (fills_within store image contents orders owner (MayFill first) c new more within) is.0 first is.1 at)

  -- a page in use of another owner than the catalog is as it was
  pub fills_leave : (first : Layout) (old new : Changed)
      → Fills store image owner (MayFill first) old new → IsWithin contents orders new → IsFilled old
      → (m : ℕ) → IsOther size (view old) owner m → IsLeft size (view old) (view new) owner m
  fills_leave first old new (filled b) within at m other = record { same = refl; other = other }
  fills_leave first old new (takes a b c n bytes taking more) within at m other =
      let here_ = take_leaves old b n bytes taking at m other in
      left_then size (view old) (view b) (view new) owner m here_
      (fills_leave first b new more within (take_step old b n bytes taking at) m here_.other)
  fills_leave first old new (orders_more a b c os adds more) within at m other =
      let here_ = order_leaves old b os adds m other in
      left_then size (view old) (view b) (view new) owner m here_
      (fills_leave first b new more within (order_step old b os adds at) m here_.other)
  fills_leave first old new (makes a b c d row is spot record_ more) within at m other =
      let to = fills_within store image contents orders owner (MayFill first) c new more within in
      let here_ = row_leaves old b c row spot record_ to is.0 first is.1 at m other in
      left_then size (view old) (view c) (view new) owner m here_
      (fills_leave first c new more within (row_step old b c row spot record_ to is.0 first is.1 at) m
      here_.other)

  -- and one that was taken has the bytes with which it was made
  pub fills_take : (first : Layout) (old new : Changed)
      (fills : Fills store image owner (MayFill first) old new) → IsWithin contents orders new
      → IsFilled old → (n : ℕ) (bytes : List ℕ)
      → HasTaken store image owner (MayFill first) old new fills n bytes → 3 ≤ byte bytes 0
      → owner_in bytes ≢ owner → (view new n ≡ bytes) × IsOther size (view new) owner n
  fills_take first old new (filled b) within at n bytes has_ kind owned = absurd has_
  fills_take first old new (takes a b c k content taking more) within at n bytes (inl (same, are)) kind owned =
      let made_ = take_makes old b k content taking at
      (subst (λ (page : List ℕ). 3 ≤ byte page 0) are kind)
      (subst (λ (page : List ℕ). owner_in page ≢ owner) are owned) in
      let stays_ = fills_leave first b new more within (take_step old b k content taking at) k made_.1 in (
        ap (view new) same ∙ (stays_.same ∙ (made_.0 ∙ sym are)),
        subst (IsOther size (view new) owner) (sym same) stays_.other,
      )
  fills_take first old new (takes a b c k content taking more) within at n bytes (inr later_) kind owned =
      fills_take first b new more within (take_step old b k content taking at) n bytes later_ kind owned
  fills_take first old new (orders_more a b c os adds more) within at n bytes has_ kind owned =
      fills_take first b new more within (order_step old b os adds at) n bytes has_ kind owned
  fills_take first old new (makes a b c d row is spot record_ more) within at n bytes has_ kind owned =
      let to = fills_within store image contents orders owner (MayFill first) c new more within in
      fills_take first c new more within (row_step old b c row spot record_ to is.0 first is.1 at) n bytes has_
      kind owned

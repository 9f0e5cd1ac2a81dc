-- A batch that is filled with rows of the catalog shows a sound image midway, in which the writer of the rows counts
-- as dead.
use Rattle.std.proofs.Common.{◌≡◌, ◌≢◌, ◌∙◌, ◌⊎◌, inl, inr, ◌<◌, ◌^◌, ◌∷◌, [], ℕ, true, false, List, None, Some, length, refl, sym, ap, subst, arith}
use Rattle.std.proofs.lemmas.Bool.{cases_eq}
use Rattle.mg_base.specs.Checks.{PassesAll}
use Rattle.mg_base.specs.Disk.{Meaning}
use Rattle.mg_base.specs.Fields.{byte}
use Rattle.mg_base.specs.Image.{Image}
use Rattle.mg_base.specs.declared.numbers.PageNo.{PageNo}
use Rattle.mg_base.specs.declared.numbers.RecId.{RecId}
use Rattle.mg_base.specs.declared.transaction.TxState.{TxState}
use Rattle.mg_base.specs.declared.transaction.TxState.TheVariants.{Dead}
use Rattle.mg_careful.specs.declared.graph.Order.{Order}
use Rattle.mg_chain.specs.Writing.{link_to}
use Rattle.mg_tie_laws.specs.FirstPages.{MakesPages, made_pages}
use Rattle.mg_tie_laws.specs.PushTies.{written}
use Rattle.mg_heap.specs.Apart.{need_with_anchor}
use Rattle.mg_heap.specs.Growth.{AddsOrders}
use Rattle.mg_heap.specs.Room.{GivesRoom}
use Rattle.mg_tie_laws.specs.Batches.{viewed_same, within_self}
use Rattle.mg_image.specs.Form.{Coding, Pages, Row, packed_coding, packed_form}
use Rattle.mg_image.specs.Inventory.{inventory_page, is_used}
use Rattle.mg_image.specs.RecordRules.{AreRecords, Facts}
use Rattle.mg_image.specs.Records.{Reading, cells_of, key_of, slot_cell}
use Rattle.mg_image.specs.Sound.{IsSoundBy, facts_by}
use Rattle.mg_image.specs.StepLaws.{put_reading}
use Rattle.mg_image.specs.Tables.{Layout, stands_of, table_at}
use Rattle.mg_image.specs.declared.entry.Entry.{Entry}
use Rattle.mg_image_overlay_laws.specs.pages.DataPages.{all_passes, kind_of}
use Rattle.mg_image_overlay_laws.specs.pages.DataSound.{data_sound, facts_same}
use Rattle.mg_image_overlay_laws.specs.pages.Kinds.{HasNoSequences}
use Rattle.mg_image_overlay_laws.specs.records.Push.{free_unread}
use Rattle.mg_image_overlay_laws.specs.records.QuietVersions.{AreQuiet, indexed_still, owns_still, shows_with}
use Rattle.mg_image_overlay_laws.specs.kept.Rest.{LeavesRest}
use Rattle.mg_image_overlay_laws.specs.pages.Trees.{data_leaves, trees_stay}
use Rattle.mg_model.specs.declared.table.Table.{Table}
use Rattle.mg_image_overlay_laws.specs.pages.TakePart.{OccupiesPage}
use Rattle.mg_pip.specs.PipPage.{pip_checks}
use Rattle.mg_pointer.specs.PointerPage.{new_pointer_page, pointer_checks}
use Rattle.mg_pointer.specs.PointerPageLaws.{length-new_pointer_page, new_page_passes}
use Rattle.mg_pool.specs.Batch.{Changed, content_in, lists}
use Rattle.mg_pool.specs.declared.pool.Pool.{Pool}
use Rattle.mg_image_overlay_laws.specs.records.AddPart.{AddsOver, FindsPlace, add_living, add_sound}
use Rattle.mg_slots.specs.DataPage.{cell_of}
use Rattle.mg_slots.specs.RoomLaws.{least_free_is_free}
use Rattle.mg_space.specs.Taking.{IsGeometry, region_of}
use Rattle.mg_space.specs.TakingLaws.{page_sizes}
use Rattle.mg_space.specs.View.{Tells, viewed}
use Rattle.mg_space.specs.ViewLaws.{viewed_else, viewed_here}
use Rattle.mg_space.specs.declared.links.FireLinks.{FireLinks}
use Rattle.mg_tie_laws.specs.Occupied.{taken_are_occupied}
use Rattle.mg_table_batch.specs.Filling.{PutsRow, TakesFirst}
use Rattle.mg_image_overlay_laws.specs.tables.Growing.{IsTableOf, MayBeWritten}
use Rattle.mg_image_overlay_laws.specs.tables.GrowingLaws.{taken_sound}
use Rattle.mg_image_overlay_laws.specs.kept.Knowing.{lawful_there, put_still}
use Rattle.mg_image_overlay_laws.specs.tables.OneLayout.{sound_once}
use Rattle.mg_image_overlay_laws.specs.tables.OneTable.{its_data}
use Rattle.mg_value.specs.declared.value.Value.{Value}
use Rattle.mg_version.specs.declared.cell.TheConstants.{ANCHOR_LEN}
use Rattle.mg_version.specs.declared.cell.Version.{Version}
use Rattle.mg_no_damage_laws.specs.Given.{IsApart, data_apart, data_some}
use Rattle.mg_no_damage_laws.specs.Reading.{Reads}
use Rattle.mg_no_damage_laws.specs.RoomLaws.{given_listed, then_, to}

-- Pages show a sound image with a catalog, whose header page has these bytes.
pub record IsMidway (size : ℕ) (state : ℕ → TxState) (catalog : Table) (head : List ℕ) (pages : Pages) : Type 0 where
  pub layout : Layout
  pub reading : Reading
  pub sound : IsSoundBy packed_form size state pages layout reading
  pub header : pages 0 ≡ head
  pub catalog_is : layout.catalog.table ≡ catalog

-- the catalog stands there
pub its_catalog : (size : ℕ) (state : ℕ → TxState) (catalog : Table) (head : List ℕ) (pages : Pages)
    (it : IsMidway size state catalog head pages) → IsTableOf it.layout catalog
its_catalog size state catalog head pages it = record {
  before = [];
  stand = it.layout.catalog;
  after = it.layout.tables;
  is_ = refl;
  table_is = it.catalog_is;
}

none_in : HasNoSequences packed_form
none_in page n is = is

-- where a version may be written does not depend on the place of its cell
may_anywhere : (coding : Coding) (f : Facts) (table : Table) (key : Value) (v : Version) (row : Row)
    (a b : RecId) → MayBeWritten coding f table key (written a v None row)
    → MayBeWritten coding f table key (written b v None row)
may_anywhere coding f table key v row a b may = record {
  drawn = may.drawn;
  dead = may.dead;
  format = may.format;
  spelled = may.spelled;
  storable = may.storable;
  erased = may.erased;
  keyed = may.keyed;
}

module _ {D : Type 0} (m : Meaning D) (laws : Reads m) (store : Pool D FireLinks) (image : Image)
    (tells : Tells m store.disk image) (geometry : IsGeometry store.geometry) (state : ℕ → TxState) (catalog : Table)
    (head : List ℕ) where
  abbrev size : ℕ
  size = store.geometry.size

  abbrev view : Changed → Pages
  view b = viewed store image b

  -- ---- a free page is taken and made a pointer page

  module _ (old made : Changed) (n : ℕ) (takes : TakesFirst store image old made n)
      (at : IsMidway size state catalog head (view old)) where
    abbrev bit : ℕ
    bit = inventory_page size (region_of size n)

    made_else : (k : ℕ) → k ≢ n → view made k ≡ view takes.taken k
    made_else k ne =
        viewed_else store image takes.taken made n (new_pointer_page size n n 0) takes.puts k ne

    made_others : (k : ℕ) → k ≢ bit → k ≢ n → view made k ≡ view old k
    made_others k off_bit off_page = made_else k off_page ∙ takes.takes.others k off_bit

    made_whole : (k : ℕ) → length (view made k) ≡ size
    made_whole k = by (cases_eq k n) (cases_eq k bit)
      where
        by : (k ≡ n) ⊎ (k ≢ n) → (k ≡ bit) ⊎ (k ≢ bit) → length (view made k) ≡ size
        by (inl same) on_bit = ap (λ (j : ℕ). length (view made j)) same
            ∙ (ap length (viewed_here store image takes.taken made n (new_pointer_page size n n 0) takes.puts)
            ∙ length-new_pointer_page size n n 0)
        by (inr off_page) (inl same) = ap length (made_else k off_page)
            ∙ (ap (λ (j : ℕ). length (view takes.taken j)) same ∙ takes.takes.len)
        by (inr off_page) (inr off_bit) =
            ap length (made_others k off_bit off_page) ∙ at.sound.header.whole k

    occupies : OccupiesPage size (view old) (view made) bit n
    occupies = taken_are_occupied store.geometry (view old) (view takes.taken) (view old) (view made) n geometry
        takes.takes (record {
          before = λ k. refl;
          after = λ k. made_else (inventory_page size k) (λ e. takes.takes.free.no_inventory k e);
          others = made_others;
          whole = made_whole;
        })

    pub take_step : IsMidway size state catalog head (view made)
    take_step = record {
      layout = at.layout;
      reading = at.reading;
      sound = taken_sound packed_form (sound_once packed_form laws.one none_in) none_in size
          (trees_stay packed_form size) state catalog (view old) (view made) bit n occupies at.layout at.reading
          at.sound;
      header = made_others 0 occupies.off_header.0 occupies.off_header.1 ∙ at.header;
      catalog_is = at.catalog_is;
    }

    -- the catalog has its data pages as before
    pub take_stays : (k : ℕ) → table_at (stands_of at.layout) k ≡ Some catalog
        → table_at (stands_of take_step.layout) k ≡ Some catalog
    unfolding take_step
    take_stays k of = of

    pub take_same : (k : ℕ) → table_at (stands_of at.layout) k ≡ Some catalog → view made k ≡ view old k
    take_same k of = made_others k (λ same. apart.no_inventory (region_of size n) (sym same)) (λ same.
        let both : true ≡ false = sym apart.used ∙ (ap (is_used size (view old)) same ∙ takes.takes.free.unused) in
        absurd cc)
      where
        its : IsTableOf at.layout catalog
        its = its_catalog size state catalog head (view old) at

        apart : IsApart size (view old) k
        apart = data_apart size state (view old) at.layout at.reading at.sound catalog its k
            ((its_data packed_form size state (view old) at.layout at.reading at.sound catalog its k).0 of)

    -- kinds of the two
    pub page_kind : byte (view made n) 0 ≡ 4
    unfolding pointer_checks
    page_kind = ap (λ (b : List ℕ). byte b 0)
        (viewed_here store image takes.taken made n (new_pointer_page size n n 0) takes.puts)
        ∙ kind_of (new_pointer_page size n n 0) n 4 n 0 _ passes
      where
        small : n < 2 ^ 32
        small = let below = takes.takes.free.below in omega (arith, below)

        passes : PassesAll (pointer_checks (new_pointer_page size n n 0) n n 0)
        passes = new_page_passes size n n 0 (let large = (page_sizes size geometry.size).0 in omega (arith, large)) small
            small (omega arith)

    pub bit_kind : byte (view made bit) 0 ≡ 2
    bit_kind = ap (λ (b : List ℕ). byte b 0)
        (made_else bit (λ same. takes.takes.free.no_inventory (region_of size n) same))
        ∙ kind_of (view takes.taken bit) bit 2 0 (region_of size n) []
        (all_passes (pip_checks (view takes.taken bit) bit (region_of size n)) takes.takes.tests)

  -- ---- orders come to the batch

  pub order_step : (old new : Changed) (os : List Order) → AddsOrders old new os
      → IsMidway size state catalog head (view old) → IsMidway size state catalog head (view new)
  order_step old new os adds at = subst (IsMidway size state catalog head)
      (sym (viewed_same store image old new adds.same_pages)) at

  -- ---- a page is given to the catalog

  module _ (old given : Changed) (need : ℕ) (page : PageNo)
      (gives : GivesRoom store image old given catalog.pointer.0 need page)
      (at : IsMidway size state catalog head (view old)) where
    abbrev its : IsTableOf at.layout catalog
    its = its_catalog size state catalog head (view old) at

    pub room_step : IsMidway size state catalog head (view given)
    room_step =
        let stands = to m laws store store image refl tells geometry old state at.layout at.reading at.sound catalog its
        given need page gives in record {
          layout = stands.layout;
          reading = at.reading;
          sound = stands.sound;
          header = stands.header ∙ at.header;
          catalog_is = stands.grown.catalog ∙ at.catalog_is;
        }

    -- it is the catalog's then
    pub room_placed : table_at (stands_of room_step.layout) page.0 ≡ Some catalog
    unfolding room_step
    room_placed = (its_data packed_form size state (view given)
        (to m laws store store image refl tells geometry old state at.layout at.reading at.sound catalog its given need
        page gives).layout at.reading
        (to m laws store store image refl tells geometry old state at.layout at.reading at.sound catalog its given need
        page gives).sound catalog
        (then_ m laws store store image refl tells geometry old state at.layout at.reading at.sound catalog its given need
        page gives) page.0).1
        (given_listed m laws store store image refl tells geometry old state at.layout at.reading at.sound catalog its
        given need page gives)

    -- and so is each page that was
    pub room_stays : (k : ℕ) → table_at (stands_of at.layout) k ≡ Some catalog
        → table_at (stands_of room_step.layout) k ≡ Some catalog
    unfolding room_step
    room_stays k of = (to m laws store store image refl tells geometry old state at.layout at.reading at.sound catalog its
        given need page gives).grown.stays k catalog of

  -- ---- a row is put

  module _ (old new : Changed) (t : ℕ) (row : Row) (rec : RecId)
      (put_row : PutsRow store image catalog t old new row rec) (first : Pages) (first_layout : Layout)
      (first_head : first 0 ≡ head) (dead : state put_row.version.tx.0 ≡ Dead)
      (may : MayBeWritten packed_coding (facts_by state first first_layout) catalog (key_of catalog row)
      (written rec put_row.version None row)) (at : IsMidway size state catalog head (view old)) where
    abbrev given : Changed
    given = put_row.given

    abbrev v : Version
    v = put_row.version

    abbrev n : Entry
    n = written put_row.makes.makes.at v None row

    abbrev again : Changed
    again = put_row.makes.makes.adds.given

    abbrev put : Changed
    put = put_row.makes.makes.put

    abbrev spot_at : IsMidway size state catalog head (view given)
    spot_at = room_step old given ANCHOR_LEN rec.page put_row.spot.gives at

    abbrev spot_its : IsTableOf spot_at.layout catalog
    spot_its = its_catalog size state catalog head (view given) spot_at

    placed : table_at (stands_of spot_at.layout) rec.page.0 ≡ Some catalog
    placed = room_placed old given ANCHOR_LEN rec.page put_row.spot.gives at

    blank : cells_of (view given) rec ≡ None
    blank = ap slot_cell (ap (cell_of (view given rec.page.0)) put_row.spot.least.is_least
        ∙ least_free_is_free (view given rec.page.0))

    pages : MakesPages packed_form store image given new rec v catalog (content_in new.pages) (lists new.orders)
        put_row.makes
    pages = made_pages packed_form laws.one none_in store image geometry given new state spot_at.layout spot_at.reading
        spot_at.sound
        rec v catalog placed blank put_row.makes (content_in new.pages) (lists new.orders) (within_self new)

    abbrev need : ℕ
    need = need_with_anchor put_row.makes.bytes

    abbrev room_at : IsMidway size state catalog head (view again)
    room_at = room_step given again need put_row.makes.makes.at.page put_row.makes.makes.adds.gives spot_at

    abbrev room_its : IsTableOf room_at.layout catalog
    room_its = its_catalog size state catalog head (view again) room_at

    abbrev layout : Layout
    layout = room_at.layout

    abbrev r : Reading
    r = room_at.reading

    cell_placed : table_at (stands_of layout) n.at.page.0 ≡ Some catalog
    cell_placed = room_placed given again need put_row.makes.makes.at.page put_row.makes.makes.adds.gives spot_at

    slot_placed : table_at (stands_of layout) rec.page.0 ≡ Some catalog
    slot_placed = room_stays given again need put_row.makes.makes.at.page put_row.makes.makes.adds.gives spot_at
        rec.page.0 placed

    found : FindsPlace packed_coding (facts_by state (view again) layout) rec catalog n
    found = record {
      of = slot_placed;
      lawful = lawful_there packed_coding state first (view again) first_layout layout catalog (key_of catalog row) n
          (room_at.header ∙ sym first_head)
          (may_anywhere packed_coding (facts_by state first first_layout) catalog (key_of catalog row) v row rec
          put_row.makes.makes.at may) cell_placed;
    }

    put_sound_there : IsSoundBy packed_form size state (view put) layout r
    put_sound_there = put_still packed_form size state (view again) layout r room_at.sound catalog room_its (view put)
        n.at n.version (data_leaves packed_form size n.at.page.0 none_in (trees_stay packed_form size))
        pages.adds.put_page pages.adds.put pages.adds.free pages.adds.apart

    rest_put : LeavesRest packed_form size (view again) (view put) layout
    rest_put = data_leaves packed_form size n.at.page.0 none_in (trees_stay packed_form size) state (view again)
        (view put) layout r room_at.sound pages.adds.put_page

    rest_slot : LeavesRest packed_form size (view put) (view new) layout
    rest_slot = data_leaves packed_form size rec.page.0 none_in (trees_stay packed_form size) state (view put)
        (view new) layout r put_sound_there pages.adds.slot_page

    abbrev put_facts : Facts
    put_facts = facts_by state (view put) layout

    found_put : FindsPlace packed_coding put_facts rec catalog n
    found_put = subst (λ (e : Facts). FindsPlace packed_coding e rec catalog n)
        (sym (facts_same packed_form size state (view again) (view put) n.at.page.0 layout r r room_at.sound
        pages.adds.put_page rest_put.trees)) found

    over : AddsOver packed_coding put_facts (cells_of (view put)) (cells_of (view new)) r rec catalog n
        (link_to put_row.makes.makes.at v.tx)
    over = record {
      of = slot_placed;
      dead = dead;
      blank = pages.adds.blank;
      change = pages.adds.turn;
      cell = pages.adds.put.here;
      leads = pages.adds.leads;
      back = pages.adds.back;
      unread = free_unread packed_coding (facts_by state (view again) layout) (cells_of (view again)) r n.at
          room_at.sound.records pages.adds.free;
      lawful = found_put.lawful;
    }

    records_now : AreRecords packed_coding put_facts (cells_of (view new)) (put_reading r rec (n ∷ []))
    records_now = add_sound packed_coding put_facts (cells_of (view put)) (cells_of (view new)) r rec catalog n
        (link_to put_row.makes.makes.at v.tx) put_sound_there.records over

    quiet_now : AreQuiet put_facts r (put_reading r rec (n ∷ []))
    quiet_now q = inl (add_living packed_coding put_facts (cells_of (view put)) (cells_of (view new)) r rec catalog n
        (link_to put_row.makes.makes.at v.tx) put_sound_there.records over q)

    row_sound : IsSoundBy packed_form size state (view new) layout (put_reading r rec (n ∷ []))
    row_sound = data_sound packed_form size state (view put) (view new) rec.page.0 layout r
        (put_reading r rec (n ∷ [])) put_sound_there pages.adds.slot_page rest_slot.trees records_now
        (shows_with packed_coding put_facts (cells_of (view put)) (cells_of (view new)) r
        (put_reading r rec (n ∷ [])) put_sound_there.records records_now quiet_now)
        (owns_still packed_coding put_facts (cells_of (view put)) (cells_of (view new)) r
        (put_reading r rec (n ∷ [])) put_sound_there.records records_now quiet_now layout.catalog.table
        put_sound_there.own_tables)
        (indexed_still packed_coding put_facts (cells_of (view put)) (cells_of (view new)) r
        (put_reading r rec (n ∷ [])) put_sound_there.records records_now quiet_now (view put) (view new)
        rest_slot.trees.found put_sound_there.indexed) rest_slot.sequences

    -- the header page is none of those that are changed
    off_zero : (k : ℕ) → table_at (stands_of layout) k ≡ Some catalog → 0 ≢ k
    off_zero k of same = data_some size state (view again) layout r room_at.sound catalog room_its k
        ((its_data packed_form size state (view again) layout r room_at.sound catalog room_its k).0 of) (sym same)

    pub row_step : IsMidway size state catalog head (view new)
    row_step = record {
      layout = layout;
      reading = put_reading r rec (n ∷ []);
      sound = row_sound;
      header = pages.adds.slot_page.others 0 (off_zero rec.page.0 slot_placed)
          ∙ (pages.adds.put_page.others 0 (off_zero n.at.page.0 cell_placed) ∙ room_at.header);
      catalog_is = room_at.catalog_is;
    }

    -- the record's page is the catalog's
    pub row_placed : table_at (stands_of row_step.layout) rec.page.0 ≡ Some catalog
    unfolding row_step
    row_placed = slot_placed

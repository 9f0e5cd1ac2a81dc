-- Rows of the catalog are put into a batch, where enough of its data pages are empty: it gets no page, and the orders of
-- the batch lead upward.
use Rattle.std.proofs.Common.{◌≡◌, ◌≢◌, ◌∙◌, ◌⊎◌, inl, inr, ◌≤◌, ◌<◌, ◌+◌, ◌-◌, ◌*◌, ◌∷◌, [], ℕ, suc, true, false, List, Option, None, Some, length, sym, ap, subst, arith}
use Rattle.std.specs.Prelude.{slice_index}
use Rattle.std.proofs.lemmas.Bool.{cases_eq, cases_lt}
use Rattle.mg_base.specs.CheckLaws.{byte_front}
use Rattle.mg_base.specs.Fields.{byte}
use Rattle.mg_base.specs.Image.{Image}
use Rattle.mg_base.specs.declared.fields.TheConstants.{COMMON}
use Rattle.mg_base.specs.declared.numbers.PageNo.{PageNo}
use Rattle.mg_base.specs.declared.numbers.RecId.{RecId}
use Rattle.mg_chain.specs.Chains.{newest_link}
use Rattle.mg_chain.specs.Orders.{before_page, first_orders, push_orders, slot_orders, version_orders}
use Rattle.mg_chain.specs.Writing.{MakesRecord, leading_to, link_to}
use Rattle.mg_heap.specs.Apart.{PutsApart, need_with_anchor}
use Rattle.mg_heap.specs.Changing.{ChangesOne}
use Rattle.mg_heap.specs.Growth.{AddsOrders, orders_to}
use Rattle.mg_heap.specs.Room.{FindsOrGrows, GivesRoom, IsFirstWithRoom, NoneHasRoom, looked_at}
use Rattle.mg_heap.specs.Table.{IsPointerAt, IsTable}
use Rattle.mg_heap.specs.TableLaws.{table_once}
use Rattle.mg_tie_laws.specs.Batches.{viewed_same}
use Rattle.mg_tie_laws.specs.CellTies.{spelled_is}
use Rattle.mg_image.specs.Form.{Pages, Row}
use Rattle.mg_image.specs.Inventory.{inventory_page}
use Rattle.mg_image.specs.Records.{newest_of, slot_cell}
use Rattle.mg_image.specs.Sound.{IsCellOf, IsTablePointer}
use Rattle.mg_image.specs.Tables.{EachFrom, Has, IsOnce, Stand}
use Rattle.mg_image_overlay_laws.specs.pages.DataPages.{kind_of}
use Rattle.mg_model.specs.Catalog.{catalog_shape}
use Rattle.mg_model.specs.declared.table.Table.{Table}
use Rattle.mg_pool.specs.Batch.{Changed, is_in}
use Rattle.mg_pool.specs.declared.batch.BatchPage.{BatchPage}
use Rattle.mg_pool.specs.declared.pool.Pool.{Pool}
use Rattle.mg_slots.specs.Changes.{SetsCell}
use Rattle.mg_slots.specs.Room.{room_of}
use Rattle.mg_space.specs.Taking.{region_of}
use Rattle.mg_space.specs.View.{viewed}
use Rattle.mg_space.specs.declared.links.FireLinks.{FireLinks}
use Rattle.mg_table_batch.specs.Filling.{PutsRow, PutsRows, PutsTable, page_of_version, puts_more, puts_none}
use Rattle.mg_version.specs.declared.cell.Cell.TheVariants as cells
use Rattle.mg_version.specs.declared.cell.Link.{Link}
use Rattle.mg_version.specs.declared.cell.TheConstants.{ANCHOR_LEN}
use Rattle.mg_version.specs.declared.cell.Version.{Version}
use Rattle.mg_no_damage_laws.specs.NewTables.{EachRow}
use Rattle.mg_no_damage_laws.proofs.CatalogRowLemmas.{IsShortRow, body_short}
use Rattle.mg_no_damage_laws.proofs.HeightLemmas.{first_of, has_index, index_has, looked_inside, rank, rank_looked, rank_low, rank_some, without, without_count, without_has, without_once}
use Rattle.mg_no_damage_laws.specs.LaidLaws.{reached_kind}
use Rattle.mg_no_damage_laws.specs.Lawful.{AreGood, IsGood, good_before, good_both, good_orders, good_puts, good_to, in_here, in_still}
use Rattle.mg_no_damage_laws.specs.PushLaws.{version_fits}
use Rattle.mg_no_damage_laws.specs.WriteStanding.{IsStanding, put_standing, set_standing}

-- the pointer pages of a table are such at their places
each_fields : (size : ℕ) (pages : Pages) (owner at : ℕ) (ns : List ℕ) → EachFrom (IsTablePointer size pages owner) at ns
    → EachFrom (IsPointerAt pages owner) at ns
each_fields size pages owner at [] each = tt
each_fields size pages owner at (n ∷ ns) each = (each.0.fields, each_fields size pages owner (suc at) ns each.1)

module _ (size : ℕ) {D : Type 0} (store : Pool D FireLinks) (image : Image) (sized : store.geometry.size ≡ size)
    (least : 1024 ≤ size) (catalog : Table) (shaped : catalog.shape ≡ catalog_shape) (t : ℕ) (stand : Stand)
    (begins : stand.table.pointer.0 ≡ catalog.pointer.0) (base : Pages) (base_is : IsStanding size base stand) where
  abbrev view : Changed → Pages
  view b = viewed store image b

  abbrev pages : List ℕ
  pages = stand.data_pages

  abbrev high : ℕ → ℕ
  high n = rank size base stand base_is n

  -- So far the table stands with the pages that it had, pages have their kinds, and so many data pages are empty still;
  -- the orders of the batch lead upward.
  pub record IsFilling (batch : Changed) (most left : ℕ) : Type 0 where
    pub standing : IsStanding size (view batch) stand
    pub kinds : (n : ℕ) → byte (view batch n) 0 ≡ byte (base n) 0
    pub free : List ℕ
    pub many : left ≤ length free
    pub once : IsOnce free
    pub listed : (k : ℕ) → Has free k → Has pages k
    pub empty : (k : ℕ) → Has free k → size ≤ room_of (view batch k) + 24
    pub good : IsGood size high most batch

  -- A page was found by looking at the table's pages in their order.
  pub record IsFound (seen : Pages) (need n : ℕ) : Type 0 where
    pub after : ℕ
    pub inside : after < length pages
    pub page_is : n ≡ slice_index pages (looked_at after (length pages))
    pub room : need ≤ room_of (seen n)
    pub earlier : (k : ℕ) → k < after → room_of (seen (slice_index pages (looked_at k (length pages)))) < need

  found_has : (seen : Pages) (need n : ℕ) → IsFound seen need n → Has pages n
  found_has seen need n it = subst (Has pages) (sym it.page_is) (index_has pages (looked_at it.after (length pages))
      (looked_inside (length pages) it.after it.inside))

  -- one that wants more room is the same, or stands lower
  lower : (seen : Pages) (less more s a : ℕ) → less ≤ more → IsFound seen less s → IsFound seen more a → a ≢ s
      → high a < high s
  lower seen less more s a fewer first other off = by (cases_lt first.after other.after)
    where
      rank_s : high s ≡ length pages + 1 - first.after
      rank_s = ap (λ (n : ℕ). high n) first.page_is ∙ rank_looked size base stand base_is first.after first.inside

      rank_a : high a ≡ length pages + 1 - other.after
      rank_a = ap (λ (n : ℕ). high n) other.page_is ∙ rank_looked size base stand base_is other.after other.inside

      further : (first.after ≡ other.after) ⊎ (first.after ≢ other.after) → other.after ≤ first.after → high a < high s
      further (inl same) past = absurd (off (other.page_is
          ∙ (ap (λ (k : ℕ). slice_index pages (looked_at k (length pages))) (sym same) ∙ sym first.page_is)))
      further (inr apart) past = absurd (by_room (cases_lt other.after first.after))
        where
          by_room : (other.after < first.after) ⊎ (first.after ≤ other.after) → ⊥
          by_room (inr also) = apart (omega (arith, past, also))
          by_room (inl before) =
              let small = first.earlier other.after before in
              let room : more ≤ room_of (seen (slice_index pages (looked_at other.after (length pages)))) =
              subst (λ (n : ℕ). more ≤ room_of (seen n)) other.page_is other.room in
              omega (arith, small, room, fewer)

      by : (first.after < other.after) ⊎ (other.after ≤ first.after) → high a < high s
      by (inl before) =
          let one = rank_s in let two = rank_a in let inside = other.inside in
          omega (arith, one, two, before, inside)
      by (inr past) = further (cases_eq first.after other.after) past

  module _ (batch : Changed) (most left : ℕ) (it : IsFilling batch most left) (some : 1 ≤ left) where
    -- ---- a page with room is there

    stand_table : IsTable (view batch) catalog.pointer.0 stand.pointers pages
    stand_table = subst (λ (k : ℕ). IsTable (view batch) k stand.pointers pages) begins (record {
      chain = it.standing.has.chain;
      tested = each_fields size (view batch) stand.table.pointer.0 0 stand.pointers it.standing.has.pointers;
      entries = it.standing.has.entries;
    })

    none_without : (need : ℕ) → need + 24 ≤ size → NoneHasRoom (view batch) pages need → ⊥
    none_without need fits none =
        let k = first_of it.free (let many = it.many in omega (arith, many, some)) in
        let at = has_index pages k.0 (it.listed k.0 k.1) in
        let small : room_of (view batch k.0) < need =
        subst (λ (n : ℕ). room_of (view batch n) < need) at.2 (none at.0 at.1) in
        let room = it.empty k.0 k.1 in omega (arith, small, room, fits)

    pub found : (given : Changed) (need : ℕ) (page : PageNo)
        → GivesRoom store image batch given catalog.pointer.0 need page → need + 24 ≤ size
        → (given ≡ batch) × IsFound (view batch) need page.0
    found given need page gives fits = by gives.found
      where
        same : gives.data_pages ≡ pages
        same = table_once (view batch) catalog.pointer.0 gives.pointers gives.data_pages stand.pointers pages gives.table
            stand_table

        by : FindsOrGrows store image batch given catalog.pointer.0 gives.pointers gives.data_pages need gives.it
            → (given ≡ batch) × IsFound (view batch) need page.0
        by (inr (none, grows)) =
            absurd (none_without need fits (subst (λ (ns : List ℕ). NoneHasRoom (view batch) ns need) same none))
        by (inl (was, first)) = (
          was,
          subst (λ (n : PageNo). IsFound (view batch) need n.0) gives.page_is
              (at gives.data_pages same first),
        )
          where
            at : (ns : List ℕ) → ns ≡ pages → IsFirstWithRoom (view batch) ns need gives.it
                → IsFound (view batch) need gives.it.page.0
            at ns is looked = record {
              after = looked.after;
              inside = subst (λ (ms : List ℕ). looked.after < length ms) is looked.inside;
              page_is = subst (λ (ms : List ℕ). gives.it.page.0
                  ≡ slice_index ms (looked_at looked.after (length ms))) is looked.page_is;
              room = looked.room;
              earlier = λ k before. subst (λ (ms : List ℕ).
                  room_of (view batch (slice_index ms (looked_at k (length ms)))) < need) is (looked.earlier k before);
            }

    -- ---- a record is made

    module _ (new : Changed) (rec : RecId) (v : Version) (body : length v.body ≤ 216)
        (spot : IsFound (view batch) ANCHOR_LEN rec.page.0)
        (makes : MakesRecord store image batch new catalog.pointer.0 rec v) where
      abbrev at : RecId
      at = makes.makes.at

      abbrev bytes : List ℕ
      bytes = makes.bytes

      abbrev put : Changed
      put = makes.makes.put

      abbrev turned : Changed
      turned = makes.makes.turned

      abbrev link : Link
      link = link_to at v.tx

      cell_found : (makes.makes.adds.given ≡ batch) × IsFound (view batch) (need_with_anchor bytes) at.page.0
      cell_found = found makes.makes.adds.given (need_with_anchor bytes) at.page makes.makes.adds.gives
          (let fits = version_fits 258 (leading_to v None) (omega (arith, body)) (omega arith) bytes makes.spells in
          omega (arith, fits, least))

      one : ChangesOne size batch put at.page.0
      one = subst (λ (k : ℕ). ChangesOne k batch put at.page.0) sized
          (subst (λ (b : Changed). ChangesOne store.geometry.size b put at.page.0) cell_found.0 makes.makes.adds.one)

      puts : PutsApart (view batch) (view put) rec at bytes
      puts = subst (λ (b : Changed). PutsApart (view b) (view put) rec at bytes) cell_found.0 makes.makes.adds.puts

      turn : ChangesOne size put turned rec.page.0
      turn = subst (λ (k : ℕ). ChangesOne k put turned rec.page.0) sized makes.makes.turns.puts.one

      cell_has : Has pages at.page.0
      cell_has = found_has (view batch) (need_with_anchor bytes) at.page.0 cell_found.1

      slot_has : Has pages rec.page.0
      slot_has = found_has (view batch) ANCHOR_LEN rec.page.0 spot

      -- ---- the table stands

      put_stands : IsStanding size (view put) stand
      put_stands = set_standing size (view batch) stand it.standing (view put) at (Some bytes) cell_has puts.sets
          puts.others (λ other is. by other is)
        where
          by : (other : List ℕ) → Some bytes ≡ Some other → IsCellOf false other
          by other is =
              let same : bytes ≡ other = cc in
              subst (IsCellOf false) same (inl (cells.Version (leading_to v None), makes.spells))

      turned_stands : IsStanding size (view turned) stand
      turned_stands = put_standing size (view put) stand put_stands (view turned) rec makes.makes.turns.bytes slot_has
          makes.makes.turns.puts.puts (inl (cells.Anchor link, makes.makes.turns.spells))

      view_is : view new ≡ view turned
      view_is = viewed_same store image turned new makes.makes.ordered.same_pages

      -- ---- kinds

      kind_set : (old next : Pages) (p slot : ℕ) (cell : Option (List ℕ)) → SetsCell (old p) (next p) slot cell
          → ((n : ℕ) → n ≢ p → next n ≡ old n) → (n : ℕ) → byte (next n) 0 ≡ byte (old n) 0
      kind_set old next p slot cell sets others n = by (cases_eq n p)
        where
          by : (n ≡ p) ⊎ (n ≢ p) → byte (next n) 0 ≡ byte (old n) 0
          by (inl same) = subst (λ (k : ℕ). byte (next k) 0 ≡ byte (old k) 0) (sym same)
              (byte_front (next p) (old p) COMMON 0 sets.common (omega arith))
          by (inr other) = ap (λ (b : List ℕ). byte b 0) (others n other)

      put_kinds : (n : ℕ) → byte (view put n) 0 ≡ byte (base n) 0
      put_kinds n = kind_set (view batch) (view put) at.page.0 at.slot (Some bytes) puts.sets puts.others n ∙ it.kinds n

      new_kinds : (n : ℕ) → byte (view new n) 0 ≡ byte (base n) 0
      new_kinds n = ap (λ (ps : Pages). byte (ps n) 0) view_is
          ∙ (kind_set (view put) (view turned) rec.page.0 rec.slot (Some makes.makes.turns.bytes)
          makes.makes.turns.puts.puts.puts.sets makes.makes.turns.puts.puts.others n ∙ put_kinds n)

      -- ---- the orders

      turned_good : IsGood size high (most + 1 + 1) turned
      turned_good = good_puts put turned rec.page.0 turn.bytes turn.puts size high (most + 1)
          (good_puts batch put at.page.0 one.bytes one.puts size high most it.good one.len) turn.len

      slot_in : is_in turned.pages rec.page.0 ≡ true
      slot_in = in_here put turned rec.page.0 turn.bytes turn.puts

      cell_in : is_in turned.pages at.page.0 ≡ true
      cell_in = in_still put turned rec.page.0 turn.bytes turn.puts at.page.0
          (in_here batch put at.page.0 one.bytes one.puts)

      slot_high : 1 ≤ high rec.page.0
      slot_high = rank_some size base stand base_is rec.page.0 slot_has

      pub cell_high : 1 ≤ high at.page.0
      cell_high = rank_some size base stand base_is at.page.0 cell_has

      head_low : high 0 ≡ 0
      head_low = rank_low size base stand base_is 0 (λ five.
          let one_ : byte (base 0) 0 ≡ 1 = kind_of (base 0) 0 1 0 0 _ base_is.header.fields in
          omega (arith, one_, five))

      pointer_low : (owner n : ℕ) (ns : List ℕ) → ((x : ℕ) → Has ns x → byte (view put x) 0 ≡ 4) → (x : ℕ) → Has ns x
          → high x ≡ 0
      pointer_low owner n ns four x there = rank_low size base stand base_is x (λ five.
          let same = put_kinds x in let is = four x there in omega (arith, same, is, five))

      cell_lower : at.page.0 ≢ rec.page.0 → high at.page.0 < high rec.page.0
      cell_lower off = lower (view batch) ANCHOR_LEN (need_with_anchor bytes) rec.page.0 at.page.0 (omega arith) spot
          cell_found.1 off

      header_before : (n : ℕ) → is_in turned.pages n ≡ true → 1 ≤ high n → AreGood high turned (before_page (0 ∷ []) n)
      header_before n there tall = good_before high turned (0 ∷ []) n there (λ x has off. by x has)
        where
          by : (x : ℕ) → Has (0 ∷ []) x → high x < high n
          by x (inl same) = subst (λ (k : ℕ). high k < high n) (sym same)
              (let none = head_low in omega (arith, none, tall))
          by x (inr none) = absurd none

      slot_before : AreGood high turned (before_page (0 ∷ at.page.0 ∷ []) rec.page.0)
      slot_before = good_before high turned (0 ∷ at.page.0 ∷ []) rec.page.0 slot_in (λ x has off. by x has off)
        where
          by : (x : ℕ) → Has (0 ∷ at.page.0 ∷ []) x → x ≢ rec.page.0 → high x < high rec.page.0
          by x (inl same) off = subst (λ (k : ℕ). high k < high rec.page.0) (sym same)
              (let none = head_low in let tall = slot_high in omega (arith, none, tall))
          by x (inr (inl same)) off = subst (λ (k : ℕ). high k < high rec.page.0) (sym same)
              (cell_lower (λ e. off (same ∙ e)))
          by x (inr (inr none)) off = absurd none

      pointers_before : (ns : List ℕ) → ((x : ℕ) → Has ns x → byte (view put x) 0 ≡ 4)
          → AreGood high turned (before_page ns rec.page.0)
      pointers_before ns four = good_before high turned ns rec.page.0 slot_in (λ x has off.
          let none = pointer_low 0 0 ns four x has in let tall = slot_high in omega (arith, none, tall))

      none_before : AreGood high turned (before_page [] at.page.0)
      none_before = good_before high turned [] at.page.0 cell_in (λ x has off. absurd has)

      orders_good : AreGood high turned
          (first_orders turned.pages at.page.0 rec.page.0 makes.makes.pointers makes.makes.slot_pointers)
      orders_good = good_both high turned (push_orders turned.pages at.page.0 rec.page.0 None makes.makes.pointers)
          (before_page makes.makes.slot_pointers rec.page.0)
          (good_both high turned (version_orders turned.pages at.page.0 None)
          (slot_orders at.page.0 rec.page.0 makes.makes.pointers)
          (good_both high turned (before_page (0 ∷ []) at.page.0) (before_page [] at.page.0)
          (header_before at.page.0 cell_in cell_high) none_before)
          (good_both high turned (before_page (0 ∷ at.page.0 ∷ []) rec.page.0)
          (before_page makes.makes.pointers rec.page.0) slot_before
          (pointers_before makes.makes.pointers (reached_kind (view put) catalog.pointer.0 at.page.0
          makes.makes.pointers makes.makes.reached))))
          (pointers_before makes.makes.slot_pointers (reached_kind (view put) catalog.pointer.0 rec.page.0
          makes.makes.slot_pointers makes.makes.slot_reached))

      -- ---- so it is filled further

      still_empty : (k : ℕ) → Has it.free k → k ≢ at.page.0 → k ≢ rec.page.0 → size ≤ room_of (view new k) + 24
      still_empty k there off_cell off_slot = subst (λ (b : List ℕ). size ≤ room_of b + 24)
          (sym (ap (λ (ps : Pages). ps k) view_is ∙ (makes.makes.turns.puts.puts.others k off_slot
          ∙ puts.others k off_cell))) (it.empty k there)

      abbrev free_now : List ℕ
      free_now = without rec.page.0 (without at.page.0 it.free)

      was_free : (k : ℕ) → Has free_now k → Has it.free k × (k ≢ at.page.0) × (k ≢ rec.page.0)
      was_free k there =
          let outer = without_has rec.page.0 (without at.page.0 it.free) k there in
          let inner = without_has at.page.0 it.free k outer.0 in (inner.0, inner.1, outer.1)

      pub filled_on : IsFilling new (most + 1 + 1) (left - 2)
      filled_on = record {
        standing = subst (λ (ps : Pages). IsStanding size ps stand) (sym view_is) turned_stands;
        kinds = new_kinds;
        free = free_now;
        many =
            let one_less = without_count at.page.0 it.free it.once in
            let two_less = without_count rec.page.0 (without at.page.0 it.free)
            (without_once at.page.0 it.free it.once) in
            let many = it.many in omega (arith, one_less, two_less, many);
        once = without_once rec.page.0 (without at.page.0 it.free) (without_once at.page.0 it.free it.once);
        listed = λ k there. it.listed k (was_free k there).0;
        empty = λ k there.
            let was = was_free k there in still_empty k was.0 was.1 was.2;
        good = good_orders size high (most + 1 + 1) turned new
            (first_orders turned.pages at.page.0 rec.page.0 makes.makes.pointers makes.makes.slot_pointers) turned_good
            makes.makes.ordered orders_good;
      }

      -- the slot leads to the cell
      pub leads : newest_link (view new) rec ≡ Some link
      leads = ap (λ (ps : Pages). newest_link ps rec) view_is
          ∙ ap (newest_of rec) (ap slot_cell makes.makes.turns.puts.puts.puts.sets.here
          ∙ ap Some (spelled_is makes.makes.turns.bytes (cells.Anchor link) makes.makes.turns.spells))

      pub new_in : is_in new.pages at.page.0 ≡ true
      new_in = ap (λ (ps : List BatchPage). is_in ps at.page.0) makes.makes.ordered.same_pages ∙ cell_in

    -- ---- a row is put

    module _ (new : Changed) (row : Row) (rec : RecId) (put : PutsRow store image catalog t batch new row rec)
        (short : IsShortRow row) where
      spot_found : (put.given ≡ batch) × IsFound (view batch) ANCHOR_LEN rec.page.0
      spot_found = found put.given ANCHOR_LEN rec.page put.spot.gives (omega (arith, least))

      its_makes : MakesRecord store image batch new catalog.pointer.0 rec put.version
      its_makes = subst (λ (b : Changed). MakesRecord store image b new catalog.pointer.0 rec put.version) spot_found.0
          put.makes

      its_body : length put.version.body ≤ 216
      its_body = body_short size catalog t row short shaped put.version put.stores.stored

      pub row_filled : IsFilling new (most + 1 + 1) (left - 2)
      row_filled = filled_on new rec put.version its_body spot_found.1 its_makes

      -- and orders lead to the page of its version
      pub row_named : (next : Changed) (page : ℕ) → high page ≡ 0
          → high (inventory_page size (region_of size page)) ≡ 0
          → AddsOrders new next (orders_to size page (page_of_version rec (newest_link (view new) rec)))
          → IsFilling next (most + 1 + 1) (left - 2)
      row_named next page page_low bit_low adds = record {
        standing = subst (λ (ps : Pages). IsStanding size ps stand) (sym same_view) row_filled.standing;
        kinds = λ n. ap (λ (ps : Pages). byte (ps n) 0) same_view ∙ row_filled.kinds n;
        free = row_filled.free;
        many = row_filled.many;
        once = row_filled.once;
        listed = row_filled.listed;
        empty = λ k there. subst (λ (ps : Pages). size ≤ room_of (ps k) + 24) (sym same_view)
            (row_filled.empty k there);
        good = good_orders size high (most + 1 + 1) new next (orders_to size page its_makes.makes.at.page.0) row_filled.good
            (subst (λ (l : Option Link). AddsOrders new next (orders_to size page (page_of_version rec l)))
            (leads new rec put.version its_body spot_found.1 its_makes) adds)
            (good_to high new size page its_makes.makes.at.page.0 (new_in new rec put.version its_body spot_found.1 its_makes)
            (let tall = later_high in omega (arith, bit_low, tall)) (let tall = later_high in omega (arith, page_low, tall)));
      }
        where
          later_high : 1 ≤ high its_makes.makes.at.page.0
          later_high = cell_high new rec put.version its_body spot_found.1 its_makes

          same_view : view next ≡ view new
          same_view = viewed_same store image new next adds.same_pages

  -- ---- rows

  pub rows_filled : (rows : List Row) (old new : Changed) → PutsRows store image catalog t rows old new
      → EachRow IsShortRow rows → (most left : ℕ) → IsFilling old most left → 2 * length rows ≤ left + 1
      → IsGood size high (most + 2 * length rows) new
  rows_filled rows old new (puts_none b) short most left it enough =
      let same : most ≡ most + 2 * 0 = omega arith in subst (λ (k : ℕ). IsGood size high k b) same it.good
  rows_filled rows old new (puts_more row later before mid after rec put more) short most left it enough =
      let same : most + 1 + 1 + 2 * length later ≡ most + 2 * (suc (length later)) = omega arith in
      subst (λ (k : ℕ). IsGood size high k after) same
      (rows_filled later mid after more short.1 (most + 1 + 1) (left - 2)
      (row_filled before most left it (omega (arith, enough)) mid row rec put short.0) (omega (arith, enough)))

  pub table_filled : (rows : List Row) (page : ℕ) (old new : Changed) → PutsTable store image catalog t rows page old new
      → EachRow IsShortRow rows → high page ≡ 0 → high (inventory_page size (region_of size page)) ≡ 0 → (most left : ℕ)
      → IsFilling old most left → 2 * length rows ≤ left + 1 → IsGood size high (most + 2 * length rows) new
  table_filled [] page old new same short page_low bit_low most left it enough =
      let more : most ≡ most + 2 * 0 = omega arith in
      subst (λ (k : ℕ). IsGood size high k new) more (subst (λ (b : Changed). IsGood size high most b) (sym same) it.good)
  table_filled (own ∷ columns) page old new (named, puts, more) short page_low bit_low most left it enough =
      let same : most + 1 + 1 + 2 * length columns ≡ most + 2 * (suc (length columns)) = omega arith in
      subst (λ (k : ℕ). IsGood size high k new) same
      (rows_filled columns named new more short.1 (most + 1 + 1) (left - 2)
      (row_named old most left it (omega (arith, enough)) puts.put own puts.at puts.puts short.0 named page page_low bit_low
      (subst (λ (k : ℕ). AddsOrders puts.put named (orders_to k page
      (page_of_version puts.at (newest_link (view puts.put) puts.at)))) sized puts.ordered)) (omega (arith, enough)))

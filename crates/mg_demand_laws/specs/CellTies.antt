-- A version that version chains write: what its batch pays.
use Rattle.std.specs.Prelude.{◌≡◌, ◌≢◌, ◌⊎◌, ◌++◌, ℕ, Bool, true, false, List, [], ◌∷◌, Option, None, Some, if◌then◌else◌}
use Rattle.std.proofs.Common.{inl, inr, refl, sym, subst, ap, ◌∙◌, arith}
use Rattle.std.proofs.lemmas.Bool.{cases_eq, cases_lt}
use Rattle.mg_base.specs.Fields.{byte}
use Rattle.mg_base.specs.Image.{Image}
use Rattle.mg_base.specs.CheckLaws.{byte_front}
use Rattle.mg_base.specs.declared.numbers.PageNo.{PageNo}
use Rattle.mg_base.specs.declared.numbers.RecId.{RecId}
use Rattle.mg_base.specs.declared.numbers.TxNo.{TxNo}
use Rattle.mg_careful.specs.Precedence.{Orders}
use Rattle.mg_careful.specs.declared.graph.Order.{Order}
use Rattle.mg_careful.specs.declared.links.Demand.{Demand}
use Rattle.mg_careful.specs.CarefulWrite.{DemandSet, Has, IsIn, either, listed}
use Rattle.mg_chain.specs.Orders.{before_page, first_orders, push_orders, slot_orders, unchanged_page, version_orders}
use Rattle.mg_chain.specs.Writing.{MakesRecord, Pushes, TurnsTo, leading_to, link_to}
use Rattle.mg_demand_laws.specs.CellDemands.{BackIsBehind, MayLeave, anchor_to, versions_pay, want_by}
use Rattle.mg_heap.specs.Apart.{need_with_anchor}
use Rattle.mg_heap.specs.Room.{GivesRoom}
use Rattle.mg_heap.specs.Table.{IsTable}
use Rattle.mg_image.specs.Form.{Pages}
use Rattle.mg_image.specs.Records.{cells_of, cell_spelled, slot_cell}
use Rattle.mg_image.specs.Tables.{Has as HasPage}
use Rattle.mg_pool.specs.Batch.{Changed, is_in, lists}
use Rattle.mg_pool.specs.declared.batch.BatchPage.{BatchPage}
use Rattle.mg_pool.specs.declared.pool.Pool.{Pool}
use Rattle.mg_slots.specs.Changes.{SetsCell}
use Rattle.mg_slots.specs.DataPage.{cell_of, slot_count}
use Rattle.mg_slots.specs.Room.{least_free, need_of}
use Rattle.mg_slots.specs.RoomLaws.{first_without_at}
use Rattle.mg_slots.specs.declared.page.TheConstants.{DATA_KIND}
use Rattle.mg_space.specs.Demands.{cell_demands, link_demand}
use Rattle.mg_space.specs.Taking.{IsGeometry}
use Rattle.mg_space.specs.View.{viewed}
use Rattle.mg_space.specs.declared.links.TheConstants.{DATA, HEADER, NEXT, POINTER, VERSION}
use Rattle.mg_version.specs.CellLaws.{cell_again}
use Rattle.mg_version.specs.Cells.{IsCell, IsSpelling, cell_bytes}
use Rattle.mg_version.specs.declared.cell.Cell.{Cell}
use Rattle.mg_version.specs.declared.cell.Cell.TheVariants as cells
use Rattle.mg_version.specs.declared.cell.Link.{Link}
use Rattle.mg_version.specs.declared.cell.Version.{Version}
use Rattle.mg_demand_laws.specs.CellLaws.{any_slot, past_none}
use Rattle.mg_demand_laws.specs.KindLaws.{from_want, kind_of}
use Rattle.mg_demand_laws.specs.Met.{is_demand, of_listed}
use Rattle.mg_demand_laws.specs.TakeLaws.{used_same}
use Rattle.mg_demand_laws.specs.Wanting.{IsWanting, Pays, want_of}
use Rattle.mg_demand_laws.specs.WantingLaws.{in_one, two_listed}
use Rattle.mg_demand_laws.specs.GrowthTies.{room_data, room_else, room_pays, room_wants}
use Rattle.mg_demand_laws.specs.Lists.{HaveOrders, before_in, have_added, have_same, have_sooner, lists_later, lists_sooner, viewed_same}
use Rattle.mg_demand_laws.specs.OrderlyTies.{data_else, in_parts, orderly_else, orderly_less, room_orderly}
use Rattle.mg_demand_laws.specs.Wants.{AreOrderly, IsDataOf, IsTaken, WantsTable, data_passes, data_taken, still_data}

-- bytes that spell a cell are read as it
pub spelled_is : (b : List ℕ) (cell : Cell) → IsSpelling b cell → cell_spelled b ≡ cell
unfolding cell_bytes
spelled_is b cell spells = ap cell_spelled spells.spelled ∙ at cell spells.is_cell
  where
    at : (c : Cell) → IsCell c → cell_spelled (cell_bytes c) ≡ c
    at (cells.Anchor link) lawful = cell_again (cells.Anchor link) lawful
    at (cells.Version v) lawful = cell_again (cells.Version v) lawful

-- the least free slot of a page has no cell
pub free_slot : (page : List ℕ) → cell_of page (least_free page) ≡ None
free_slot page = elim (cases_lt (least_free page) (slot_count page)) [
  | inl inside ↦ first_without_at (cell_of page) (slot_count page) inside
  | inr past ↦ past_none page (least_free page) past
]

-- What is known where a transaction writes a version: it has drawn its number, its page and those of the
-- table are wanted, and the disk has the versions of settled transactions.
pub record KnowsWrite {D L : Type 0} (store : Pool D L) (image : Image) (old : Changed) (rec : RecId)
    (owner : ℕ) (tx : TxNo) (settled : ℕ → Bool) (on_disk wanted : DemandSet) : Type 0 where
  pub lawful : IsGeometry store.geometry
  pub wants : IsWanting store.geometry.size (viewed store image old) wanted
  pub header : IsIn wanted (want_of 0 HEADER 0 0)
  pub number : IsIn wanted (want_of 0 NEXT tx.0 0)
  pub record_ : IsDataOf store.geometry.size wanted rec.page.0
  pub table : (pointers data_pages : List ℕ) → IsTable (viewed store image old) owner pointers data_pages
      → WantsTable store.geometry.size (viewed store image old) wanted owner pointers data_pages
  pub lasting : (d : Demand) → IsIn wanted d → d.what ≡ VERSION → settled d.b ≡ true → IsIn on_disk d

-- what is newly wanted: the table's new pages, if it got any, and the version
abbrev pub write_wants : {D L : Type 0} (store : Pool D L) (image : Image) (old given : Changed) (owner need : ℕ)
    (at : RecId) (tx : TxNo) → GivesRoom store image old given owner need at.page → List Demand
write_wants store image old given owner need at tx gives =
    room_wants store image old given owner need at.page gives gives.found
    ++ (want_of at.page.0 VERSION at.slot tx.0 ∷ [])

-- ---- what a slot leads to

module _ {D L : Type 0} (store : Pool D L) (image : Image) (old : Changed) (rec : RecId) (owner : ℕ) (tx : TxNo) (orders : Orders) (settled : ℕ → Bool) (on_disk wanted : DemandSet) (knows : KnowsWrite store image old rec owner tx settled on_disk wanted) where
  -- a version of a settled transaction that is wanted comes before a page, or the disk has it
  pub settled_behind : (link : Link) (page : ℕ) → ((e : Demand) → Has (link_demand link) e → IsIn wanted e)
      → settled link.tx.0 ≡ true
      → (link.rec.page.0 ≡ page) ⊎ ((orders link.rec.page.0 page ≡ true) ⊎ Unit {0})
      → BackIsBehind orders on_disk wanted page (Some link)
  settled_behind link page is_wanted done first e h = record {
    is_wanted = is_wanted e h;
    is_first = elim first [
      | inl same ↦ inl (ap (λ (x : Demand). x.target) one ∙ same)
      | inr other ↦ elim other [
        | inl order ↦ inr (inl (subst (λ (x : Demand). orders x.target page ≡ true) (sym one) order))
        | inr none ↦ inr (inr (knows.lasting e (is_wanted e h) (ap (λ (x : Demand). x.what) one)
            (subst (λ (x : Demand). settled x.b ≡ true) (sym one) done)))
      ]
    ];
  }
    where
      one : e ≡ want_by link
      one = is_demand link.rec.page.0 VERSION link.rec.slot link.tx.0 e h

  -- the version that a record's slot leads to is wanted
  pub led_wanted : (link : Link) → cells_of (viewed store image old) rec ≡ Some (cells.Anchor link)
      → (e : Demand) → Has (link_demand link) e → IsIn wanted e
  led_wanted link cell e h =
      let of = knows.record_ in
      knows.wants.keeps.in_turn (want_of rec.page.0 DATA of.owner of.place) e of.wants.page
      (from_want store.geometry.size (viewed store image old) wanted knows.wants (viewed store image old rec.page.0)
      (knows.wants.whole rec.page.0)
      (want_of rec.page.0 DATA of.owner of.place) (want_of rec.page.0 DATA of.owner of.place) e refl
      (any_slot (viewed store image old rec.page.0) rec.slot e
      (subst (λ (c : Option Cell). Has (cell_demands c) e) (sym cell) h)))

-- ---- a version is written

module _ {D L : Type 0} (store : Pool D L) (image : Image) (old given put turned : Changed) (rec at : RecId) (owner need : ℕ) (bytes : List ℕ) (v : Version) (from : Option Link) (orders : Orders) (settled : ℕ → Bool) (on_disk wanted : DemandSet) (knows : KnowsWrite store image old rec owner v.tx settled on_disk wanted) (gives : GivesRoom store image old given owner need at.page) (have : HaveOrders orders given)
    -- the cell comes into a free slot of the given page, and then the record's slot is turned to it
    (sets : SetsCell (viewed store image given at.page.0) (viewed store image put at.page.0) at.slot (Some bytes))
    (others : (n : ℕ) → n ≢ at.page.0 → viewed store image put n ≡ viewed store image given n)
    (was_free : cell_of (viewed store image given at.page.0) at.slot ≡ None)
    (spells : IsSpelling bytes (cells.Version v))
    (turns : TurnsTo store image put turned rec (link_to at v.tx))
    (slot_is : cells_of (viewed store image old) rec ≡ anchor_to from)
    (apart : (at.page.0 ≡ rec.page.0 → at.slot ≢ rec.slot) ⊎ ((link : Link) × (from ≡ Some link)))
    -- the orders; and what the slot led to, it may leave
    (header_first : (0 ≡ at.page.0) ⊎ (orders 0 at.page.0 ≡ true))
    (back_first : BackIsBehind orders on_disk wanted at.page.0 v.back)
    (page_first : (at.page.0 ≡ rec.page.0) ⊎ (orders at.page.0 rec.page.0 ≡ true))
    (may_leave : MayLeave settled orders rec.page.0 from) where
  abbrev size : ℕ
  size = store.geometry.size

  abbrev view : Pages
  view = viewed store image old

  abbrev given_view : Pages
  given_view = viewed store image given

  abbrev put_view : Pages
  put_view = viewed store image put

  abbrev turned_view : Pages
  turned_view = viewed store image turned

  its : WantsTable size view wanted owner gives.pointers gives.data_pages
  its = knows.table gives.pointers gives.data_pages gives.table

  abbrev room : List Demand
  room = room_wants store image old given owner need at.page gives gives.found

  abbrev wanted_room : DemandSet
  wanted_room = either wanted (listed room)

  room_step : Pays size view given_view orders settled on_disk wanted (listed room)
  room_step = room_pays store image old given owner need at.page gives orders settled
      on_disk wanted knows.lawful knows.wants knows.header its have gives.found

  in_room : (d : Demand) → IsIn wanted d → IsIn wanted_room d
  in_room d h = in_one wanted (listed room) d h

  at_data : IsDataOf size wanted_room at.page.0
  at_data = subst (λ (n : ℕ). IsDataOf size wanted_room n) (ap (λ (p : PageNo). p.0) gives.page_is)
      (room_data store image old given owner need at.page gives orders settled
      on_disk wanted knows.lawful knows.wants knows.header its have gives.found)

  rec_data : IsDataOf size wanted_room rec.page.0
  rec_data = still_data size wanted (listed room) rec.page.0 knows.record_

  data_kind_of : (n : ℕ) → IsDataOf size wanted_room n → byte (given_view n) 0 ≡ DATA_KIND
  data_kind_of n of = kind_of (given_view n) n DATA_KIND of.owner of.place
      (data_passes size given_view wanted_room room_step.wants n of.owner of.place of.wants.page)

  at_taken : IsTaken size given_view at.page.0
  at_taken = data_taken size given_view wanted_room room_step.wants at.page.0 (in_room (want_of 0 HEADER 0 0) knows.header) at_data

  rec_taken : IsTaken size given_view rec.page.0
  rec_taken = data_taken size given_view wanted_room room_step.wants rec.page.0 (in_room (want_of 0 HEADER 0 0) knows.header) rec_data

  -- the slot is as it was
  rec_same : given_view rec.page.0 ≡ view rec.page.0
  rec_same = room_else store image old given owner need at.page gives orders settled
      on_disk wanted knows.lawful knows.wants knows.header its have gives.found rec.page.0 knows.record_

  -- the version's slot is another one than the record's: that is in use, or was kept free
  slots_apart : at.page.0 ≡ rec.page.0 → at.slot ≢ rec.slot
  slots_apart on = elim apart [
    | inl said ↦ said on
    | inr of ↦ λ same.
        let used : slot_cell (cell_of (given_view rec.page.0) rec.slot) ≡ Some (cells.Anchor of.0) =
        ap (λ (page : List ℕ). slot_cell (cell_of page rec.slot)) rec_same ∙ (slot_is ∙ ap anchor_to of.1) in
        let free : slot_cell (cell_of (given_view rec.page.0) rec.slot) ≡ None =
        ap (λ (s : ℕ). slot_cell (cell_of (given_view rec.page.0) s)) (sym same)
        ∙ (ap (λ (n : ℕ). slot_cell (cell_of (given_view n) at.slot)) (sym on) ∙ ap slot_cell was_free) in
        let both : Some (cells.Anchor of.0) ≡ None = sym used ∙ free in absurd cc
  ]

  slot_still : slot_cell (cell_of (put_view rec.page.0) rec.slot) ≡ anchor_to from
  slot_still = elim (cases_eq rec.page.0 at.page.0) [
    | inl same ↦ ap slot_cell (ap (λ (n : ℕ). cell_of (put_view n) rec.slot) same
        ∙ (sets.others rec.slot (λ e. slots_apart (sym same) (sym e))
        ∙ (ap (λ (n : ℕ). cell_of (given_view n) rec.slot) (sym same)
        ∙ ap (λ (page : List ℕ). cell_of page rec.slot) rec_same))) ∙ slot_is
    | inr ne ↦ ap (λ (page : List ℕ). slot_cell (cell_of page rec.slot)) (others rec.page.0 ne ∙ rec_same) ∙ slot_is
  ]

  -- what comes before the page, and was wanted before, is wanted still
  behind : (o : Option Link) → BackIsBehind orders on_disk wanted at.page.0 o
      → BackIsBehind orders on_disk wanted_room at.page.0 o
  behind None first = tt
  behind (Some link) first = λ e h. let it = first e h in record {
    is_wanted = in_room e it.is_wanted;
    is_first = it.is_first;
  }

  abbrev link : Link
  link = link_to at v.tx

  written : Pays size given_view turned_view orders settled on_disk wanted_room
      (listed (want_of at.page.0 VERSION at.slot v.tx.0 ∷ []))
  written = versions_pay size given_view put_view turned_view at.page.0 rec.page.0 at.slot rec.slot bytes turns.bytes
      v from link orders settled on_disk wanted_room (record {
        puts = record {
          sets = record {
            others = others;
            sets = sets;
            data_ = data_kind_of at.page.0 at_data;
            off_header = at_taken.off_header;
            off_inventory = at_taken.off_inventory;
            used = at_taken.used;
          };
          was_free = was_free;
          is_version = ap Some (spelled_is bytes (cells.Version v) spells);
          moved = spells.is_cell.moved;
        };
        turns = record {
          sets = record {
            others = turns.puts.puts.others;
            sets = turns.puts.puts.puts.sets;
            data_ = rec_kind;
            off_header = rec_taken.off_header;
            off_inventory = rec_taken.off_inventory;
            used = used_same size given_view put_view at.page.0 others at_taken.off_inventory rec.page.0 ∙ rec_taken.used;
          };
          led = slot_still;
          leads = ap Some (spelled_is turns.bytes (cells.Anchor link) turns.spells);
        };
        leads = refl;
      }) room_step.wants (record {
        is_wanted = in_room (want_of 0 NEXT v.tx.0 0) knows.number;
        is_first = elim header_first [
          | inl same ↦ inl same
          | inr order ↦ inr (inl order)
        ];
      }) (behind v.back back_first) page_first may_leave
    where
      rec_kind : byte (put_view rec.page.0) 0 ≡ DATA_KIND
      rec_kind = elim (cases_eq rec.page.0 at.page.0) [
        | inl same ↦ subst (λ (n : ℕ). byte (put_view n) 0 ≡ DATA_KIND) (sym same)
            (byte_front (put_view at.page.0) (given_view at.page.0) 16 0 sets.common (omega arith) ∙ data_kind_of at.page.0 at_data)
        | inr ne ↦ ap (λ (page : List ℕ). byte page 0) (others rec.page.0 ne) ∙ data_kind_of rec.page.0 rec_data
      ]

  pub write_pays : Pays size view turned_view orders settled on_disk wanted
      (listed (write_wants store image old given owner need at v.tx gives))
  write_pays = two_listed size view given_view turned_view orders settled on_disk wanted room
      (want_of at.page.0 VERSION at.slot v.tx.0 ∷ []) room_step written

  -- pointer pages stay orderly: two data pages alone have changed since the room was given
  pub write_orderly : AreOrderly size view wanted → AreOrderly size turned_view
      (either wanted (listed (write_wants store image old given owner need at v.tx gives)))
  write_orderly orderly = orderly_less size turned_view (either wanted_room (listed (want_of at.page.0 VERSION at.slot v.tx.0 ∷ [])))
      (either wanted (listed (write_wants store image old given owner need at v.tx gives)))
      (orderly_else size given_view turned_view wanted_room (listed (want_of at.page.0 VERSION at.slot v.tx.0 ∷ []))
      (room_orderly store image old given owner need at.page gives orders settled on_disk wanted knows.lawful knows.wants
      its orderly gives.found) same_then none_newly)
      (in_parts wanted room (want_of at.page.0 VERSION at.slot v.tx.0 ∷ []))
    where
      same_then : (n who k : ℕ) → IsIn wanted_room (want_of n POINTER who k) → turned_view n ≡ given_view n
      same_then n who k h =
          turns.puts.puts.others n (data_else size given_view wanted_room room_step.wants rec.page.0
          (data_kind_of rec.page.0 rec_data) n who k h)
          ∙ others n (data_else size given_view wanted_room room_step.wants at.page.0 (data_kind_of at.page.0 at_data) n who k h)

      none_newly : (d : Demand) → IsIn (listed (want_of at.page.0 VERSION at.slot v.tx.0 ∷ [])) d → d.what ≢ POINTER
      none_newly d h is = elim (of_listed (want_of at.page.0 VERSION at.slot v.tx.0 ∷ []) d h) [
        | inl same ↦ let six : d.what ≡ VERSION = ap (λ (x : Demand). x.what) same in absurd (omega (arith, six, is))
        | inr none ↦ none
      ]

-- ---- what the orders of a push say

module _ (orders : Orders) (pages : List BatchPage) (page slot_page : ℕ) (back : Option Link) (pointers : List ℕ) (all : (a c : ℕ) → lists (push_orders pages page slot_page back pointers) a c ≡ true → orders a c ≡ true) where
  of_version_ : (a c : ℕ) → lists (version_orders pages page back) a c ≡ true → orders a c ≡ true
  of_version_ a c is = all a c (lists_sooner (version_orders pages page back) (slot_orders page slot_page pointers) a c is)

  pub push_header : (0 ≡ page) ⊎ (orders 0 page ≡ true)
  push_header = elim (before_in (0 ∷ []) 0 page (inl refl)) [
    | inl same ↦ inl same
    | inr order ↦ inr (of_version_ 0 page
        (lists_sooner (before_page (0 ∷ []) page) (before_page (unchanged_page pages back) page) 0 page order))
  ]

  pub push_back : (link : Link) → back ≡ Some link
      → (link.rec.page.0 ≡ page) ⊎ ((orders link.rec.page.0 page ≡ true) ⊎ Unit {0})
  push_back link is = at (is_in pages link.rec.page.0) refl
    where
      at : (b : Bool) → is_in pages link.rec.page.0 ≡ b
          → (link.rec.page.0 ≡ page) ⊎ ((orders link.rec.page.0 page ≡ true) ⊎ Unit {0})
      at true there = inr (inr tt)
      at false out =
          let same : unchanged_page pages back ≡ link.rec.page.0 ∷ [] = ap (unchanged_page pages) is
          ∙ ap (λ (b : Bool). if b then [] else link.rec.page.0 ∷ []) out in
          elim (before_in (unchanged_page pages back) link.rec.page.0 page
          (subst (λ (ns : List ℕ). HasPage ns link.rec.page.0) (sym same) (inl refl))) [
            | inl one ↦ inl one
            | inr order ↦ inr (inl (of_version_ link.rec.page.0 page
                (lists_later (before_page (0 ∷ []) page) (before_page (unchanged_page pages back) page) link.rec.page.0 page order)))
          ]

  pub push_page : (page ≡ slot_page) ⊎ (orders page slot_page ≡ true)
  push_page = elim (before_in (0 ∷ page ∷ []) page slot_page (inr (inl refl))) [
    | inl same ↦ inl same
    | inr order ↦ inr (all page slot_page (lists_later (version_orders pages page back) (slot_orders page slot_page pointers)
        page slot_page (lists_sooner (before_page (0 ∷ page ∷ []) slot_page) (before_page pointers slot_page) page slot_page order)))
  ]

-- ---- a push, and a first version

-- a version is pushed over one of a settled transaction
abbrev pub PushPays : (D L : Type 0) → Type 0
PushPays D L = (store : Pool D L) (image : Image) (old new : Changed) (rec : RecId) (v : Version)
    (pushes : Pushes store image old new rec v) (orders : Orders) (settled : ℕ → Bool)
    (on_disk wanted : DemandSet) → KnowsWrite store image old rec pushes.owner v.tx settled on_disk wanted
    → settled pushes.newest.tx.0 ≡ true → HaveOrders orders new
    → Pays store.geometry.size (viewed store image old) (viewed store image new) orders settled on_disk wanted
    (listed (write_wants store image old pushes.pushes.puts.adds.given pushes.owner
    (need_of pushes.bytes) pushes.pushes.at v.tx pushes.pushes.puts.adds.gives))

module _ {D L : Type 0} (store : Pool D L) (image : Image) (old new : Changed) (rec : RecId) (v : Version) (pushes : Pushes store image old new rec v) (orders : Orders) (settled : ℕ → Bool) (on_disk wanted : DemandSet) (knows : KnowsWrite store image old rec pushes.owner v.tx settled on_disk wanted) (done : settled pushes.newest.tx.0 ≡ true) (have : HaveOrders orders new) where
  abbrev pushed : Changed
  pushed = pushes.pushes.turned

  abbrev at : ℕ
  at = pushes.pushes.at.page.0

  abbrev pub push_wants : List Demand
  push_wants = write_wants store image old pushes.pushes.puts.adds.given pushes.owner (need_of pushes.bytes) pushes.pushes.at
      v.tx pushes.pushes.puts.adds.gives

  push_added : (a c : ℕ) → lists (push_orders pushed.pages at rec.page.0 (Some pushes.newest) pushes.pushes.pointers) a c ≡ true
      → orders a c ≡ true
  push_added = have_added orders pushed new (push_orders pushed.pages at rec.page.0 (Some pushes.newest)
      pushes.pushes.pointers) pushes.pushes.ordered have

  push_given : HaveOrders orders pushes.pushes.puts.adds.given
  push_given = have_same orders pushes.pushes.puts.adds.given pushes.pushes.put pushes.pushes.puts.adds.one.puts.same_orders
      (have_same orders pushes.pushes.put pushed pushes.pushes.turns.puts.one.puts.same_orders
      (have_sooner orders pushed new (push_orders pushed.pages at rec.page.0 (Some pushes.newest) pushes.pushes.pointers)
      pushes.pushes.ordered have))

  free : cell_of (viewed store image pushes.pushes.puts.adds.given at) pushes.pushes.at.slot ≡ None
  free = ap (cell_of (viewed store image pushes.pushes.puts.adds.given at)) pushes.pushes.puts.adds.puts.least
      ∙ free_slot (viewed store image pushes.pushes.puts.adds.given at)

  behind_it : BackIsBehind orders on_disk wanted at (Some pushes.newest)
  behind_it = settled_behind store image old rec pushes.owner v.tx orders settled on_disk wanted knows pushes.newest at
      (led_wanted store image old rec pushes.owner v.tx orders settled on_disk wanted knows pushes.newest pushes.head.slot)
      done (push_back orders pushed.pages at rec.page.0 (Some pushes.newest) pushes.pushes.pointers push_added pushes.newest refl)

  pub push_pay : Pays store.geometry.size (viewed store image old) (viewed store image new) orders settled on_disk wanted
      (listed push_wants)
  push_pay = subst (λ (pages : Pages). Pays store.geometry.size (viewed store image old) pages orders settled on_disk wanted
      (listed push_wants)) (sym (viewed_same store image pushed new pushes.pushes.ordered.same_pages))
      (write_pays store image old pushes.pushes.puts.adds.given pushes.pushes.put pushed rec pushes.pushes.at
      pushes.owner (need_of pushes.bytes) pushes.bytes (leading_to v (Some pushes.newest)) (Some pushes.newest) orders settled
      on_disk wanted knows pushes.pushes.puts.adds.gives push_given pushes.pushes.puts.adds.puts.puts.puts.sets
      pushes.pushes.puts.adds.puts.puts.others free pushes.spells pushes.pushes.turns pushes.head.slot
      (inr (pushes.newest, refl))
      (push_header orders pushed.pages at rec.page.0 (Some pushes.newest) pushes.pushes.pointers push_added) behind_it
      (push_page orders pushed.pages at rec.page.0 (Some pushes.newest) pushes.pushes.pointers push_added) (inl done))

  -- and the pointer pages stay orderly
  pub push_orderly : AreOrderly store.geometry.size (viewed store image old) wanted
      → AreOrderly store.geometry.size (viewed store image new) (either wanted (listed push_wants))
  push_orderly orderly = subst (λ (pages : Pages). AreOrderly store.geometry.size pages (either wanted (listed push_wants)))
      (sym (viewed_same store image pushed new pushes.pushes.ordered.same_pages))
      (write_orderly store image old pushes.pushes.puts.adds.given pushes.pushes.put pushed rec pushes.pushes.at
      pushes.owner (need_of pushes.bytes) pushes.bytes (leading_to v (Some pushes.newest)) (Some pushes.newest) orders settled
      on_disk wanted knows pushes.pushes.puts.adds.gives push_given pushes.pushes.puts.adds.puts.puts.puts.sets
      pushes.pushes.puts.adds.puts.puts.others free pushes.spells pushes.pushes.turns pushes.head.slot
      (inr (pushes.newest, refl))
      (push_header orders pushed.pages at rec.page.0 (Some pushes.newest) pushes.pushes.pointers push_added) behind_it
      (push_page orders pushed.pages at rec.page.0 (Some pushes.newest) pushes.pushes.pointers push_added) (inl done) orderly)

pub push_pays : (D L : Type 0) → PushPays D L
push_pays D L store image old new rec v pushes orders settled on_disk wanted knows done have =
    push_pay store image old new rec v pushes orders settled on_disk wanted knows done have

-- a record is made in a free slot, with one version
abbrev pub FirstPays : (D L : Type 0) → Type 0
FirstPays D L = (store : Pool D L) (image : Image) (old new : Changed) (owner : ℕ) (rec : RecId) (v : Version)
    (makes : MakesRecord store image old new owner rec v) (orders : Orders) (settled : ℕ → Bool)
    (on_disk wanted : DemandSet) → KnowsWrite store image old rec owner v.tx settled on_disk wanted
    → cells_of (viewed store image old) rec ≡ None → HaveOrders orders new
    → Pays store.geometry.size (viewed store image old) (viewed store image new) orders settled on_disk wanted
    (listed (write_wants store image old makes.makes.adds.given owner
    (need_with_anchor makes.bytes) makes.makes.at v.tx makes.makes.adds.gives))

module _ {D L : Type 0} (store : Pool D L) (image : Image) (old new : Changed) (owner : ℕ) (rec : RecId) (v : Version) (makes : MakesRecord store image old new owner rec v) (orders : Orders) (settled : ℕ → Bool) (on_disk wanted : DemandSet) (knows : KnowsWrite store image old rec owner v.tx settled on_disk wanted) (none : cells_of (viewed store image old) rec ≡ None) (have : HaveOrders orders new) where
  abbrev made : Changed
  made = makes.makes.turned

  abbrev place : RecId
  place = makes.makes.at

  abbrev wants : List Demand
  wants = write_wants store image old makes.makes.adds.given owner (need_with_anchor makes.bytes) place v.tx
      makes.makes.adds.gives

  abbrev os : List Order
  os = first_orders made.pages place.page.0 rec.page.0 makes.makes.pointers makes.makes.slot_pointers

  first_added : (a c : ℕ) → lists (push_orders made.pages place.page.0 rec.page.0 None makes.makes.pointers) a c ≡ true
      → orders a c ≡ true
  first_added a c is = have_added orders made new os makes.makes.ordered have a c
      (lists_sooner (push_orders made.pages place.page.0 rec.page.0 None makes.makes.pointers)
      (before_page makes.makes.slot_pointers rec.page.0) a c is)

  in_given : HaveOrders orders makes.makes.adds.given
  in_given = have_same orders makes.makes.adds.given makes.makes.put makes.makes.adds.one.puts.same_orders
      (have_same orders makes.makes.put made makes.makes.turns.puts.one.puts.same_orders
      (have_sooner orders made new os makes.makes.ordered have))

  pub first_pay : Pays store.geometry.size (viewed store image old) (viewed store image new) orders settled on_disk wanted
      (listed wants)
  first_pay = subst (λ (pages : Pages). Pays store.geometry.size (viewed store image old) pages orders settled on_disk wanted
      (listed wants)) (sym (viewed_same store image made new makes.makes.ordered.same_pages))
      (write_pays store image old makes.makes.adds.given makes.makes.put made rec place
      owner (need_with_anchor makes.bytes) makes.bytes (leading_to v None) None orders settled
      on_disk wanted knows makes.makes.adds.gives in_given makes.makes.adds.puts.sets
      makes.makes.adds.puts.others makes.makes.adds.puts.was_free makes.spells makes.makes.turns none
      (inl makes.makes.adds.puts.apart)
      (push_header orders made.pages place.page.0 rec.page.0 None makes.makes.pointers first_added) tt
      (push_page orders made.pages place.page.0 rec.page.0 None makes.makes.pointers first_added) tt)

  -- and the pointer pages stay orderly
  pub first_orderly : AreOrderly store.geometry.size (viewed store image old) wanted
      → AreOrderly store.geometry.size (viewed store image new) (either wanted (listed wants))
  first_orderly orderly = subst (λ (pages : Pages). AreOrderly store.geometry.size pages (either wanted (listed wants)))
      (sym (viewed_same store image made new makes.makes.ordered.same_pages))
      (write_orderly store image old makes.makes.adds.given makes.makes.put made rec place
      owner (need_with_anchor makes.bytes) makes.bytes (leading_to v None) None orders settled
      on_disk wanted knows makes.makes.adds.gives in_given makes.makes.adds.puts.sets
      makes.makes.adds.puts.others makes.makes.adds.puts.was_free makes.spells makes.makes.turns none
      (inl makes.makes.adds.puts.apart)
      (push_header orders made.pages place.page.0 rec.page.0 None makes.makes.pointers first_added) tt
      (push_page orders made.pages place.page.0 rec.page.0 None makes.makes.pointers first_added) tt orderly)

pub first_pays : (D L : Type 0) → FirstPays D L
first_pays D L store image old new owner rec v makes orders settled on_disk wanted knows none have =
    first_pay store image old new owner rec v makes orders settled on_disk wanted knows none have

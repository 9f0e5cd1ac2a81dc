-- A table's page with room: what the batch pays that found it, or made it.
use Rattle.std.specs.Prelude.{◌≡◌, ◌≢◌, ◌<◌, ◌≤◌, ◌+◌, ◌-◌, ◌*◌, ◌^◌, ◌++◌, ◌==◌, ℕ, zero, suc, Bool, true, false, slice_index, take, if◌then◌else◌, List, [], ◌∷◌, length, None}
use Rattle.std.proofs.Common.{inl, inr, refl, sym, subst, ap, ◌∙◌, arith}
use Rattle.std.proofs.lemmas.Bool.{both_ways, cases_lt}
use Rattle.mg_base.specs.CheckLaws.{front_checks, new_passes}
use Rattle.mg_base.specs.Checks.{PassesAll, common_checks}
use Rattle.mg_base.specs.Image.{Image}
use Rattle.mg_base.specs.Fields.{byte, new_page, take-with_u16}
use Rattle.mg_base.specs.declared.fields.TheConstants.{COMMON}
use Rattle.mg_base.specs.declared.geometry.Geometry.{Geometry}
use Rattle.mg_base.specs.declared.numbers.PageNo.{PageNo}
use Rattle.mg_careful.specs.Precedence.{Orders}
use Rattle.mg_careful.specs.declared.links.Demand.{Demand}
use Rattle.mg_careful.specs.CarefulWrite.{DemandSet, Has, IsIn, either, listed}
use Rattle.mg_demand_laws.specs.GrowDemands.{chain_pays, chain_wants, count_in_fits, entry_passes, grow_wants, growth_pays}
use Rattle.mg_heap.specs.Room.{FindsOrGrows, GivesRoom, looked_at}
use Rattle.mg_heap.specs.Growth.{GrowsTable, HasEntryRoom, ListsInLast, ListsInNew, orders_to}
use Rattle.mg_image.specs.Form.{Pages}
use Rattle.mg_image.specs.Inventory.{inventory_page, is_used}
use Rattle.mg_image.specs.Records.{slot_cell}
use Rattle.mg_image.specs.Tables.{Has as HasPage}
use Rattle.mg_pointer.specs.PointerPage.{AddsEntry, SetsNext, capacity, count_in, entries_of, new_pointer_page, next_in, pointer_checks}
use Rattle.mg_pointer.specs.PointerPageLaws.{length-new_pointer_page, new_page_empty, new_page_next, new_page_passes}
use Rattle.mg_pool.specs.Batch.{Changed, lists}
use Rattle.mg_pool.specs.declared.pool.Pool.{Pool}
use Rattle.mg_slots.specs.DataPage.{IsNewPage, cell_of, slot_count}
use Rattle.mg_slots.specs.declared.page.TheConstants.{DATA_KIND, LOW_AT}
use Rattle.mg_space.specs.Taking.{IsGeometry, region_of, taking_limit}
use Rattle.mg_space.specs.Demands.{bit_demand, cell_demands, demands_of, slot_demands}
use Rattle.mg_space.specs.TakingLaws.{page_sizes, takes_bit, takes_keeps}
use Rattle.mg_space.specs.View.{viewed}
use Rattle.mg_space.specs.ViewLaws.{viewed_else, viewed_here}
use Rattle.mg_space.specs.declared.links.TheConstants.{BIT, DATA, HEADER, POINTER, VERSION}
use Rattle.mg_demand_laws.specs.KindLaws.{as_want, kind_of, pointer_kind}
use Rattle.mg_demand_laws.specs.Met.{has_back, has_either, has_front, in_listed, is_demand, of_listed}
use Rattle.mg_demand_laws.specs.PointerLaws.{length-first}
use Rattle.mg_demand_laws.specs.TakeLaws.{bit_demands}
use Rattle.mg_demand_laws.specs.VersionLaws.{NoVersion, leads_from_data, none_both, none_demand, none_empty}
use Rattle.mg_demand_laws.specs.Wanting.{IsWanting, Pays, want_of}
use Rattle.mg_demand_laws.specs.WantingLaws.{either_cases, in_one, in_other}
use Rattle.mg_demand_laws.specs.Lists.{HaveOrders, bit_before, have_added, have_same, have_sooner, lists_later, lists_sooner, page_before, viewed_same}
use Rattle.mg_demand_laws.specs.Wants.{IsDataOf, IsTaken, WantsTable, bit_there, data_passes, data_taken, pointer_passes, pointer_taken, still_data}

-- a new data page passes its tests
new_data_passes : (b : List ℕ) (size page owner place : ℕ) → IsNewPage b size page owner place
    → 16 ≤ size → page < 2 ^ 32 → owner < 2 ^ 32 → place < 2 ^ 32
    → PassesAll (common_checks b page DATA_KIND owner place)
new_data_passes b size page owner place new long small_page small_owner small_place =
    subst PassesAll (sym (front_checks b (new_page size page DATA_KIND owner place) page DATA_KIND owner
    place front)) (new_passes size page DATA_KIND owner place long small_page small_owner small_place)
  where
    front : take COMMON b ≡ take COMMON (new_page size page DATA_KIND owner place)
    front = ap (take COMMON) new.bytes
        ∙ take-with_u16 (new_page size page DATA_KIND owner place) LOW_AT size COMMON (omega arith)

-- a page without room for an entry has as many as it can have
pub full_count : (page : List ℕ) (n owner at : ℕ) → PassesAll (pointer_checks page n owner at)
    → (HasEntryRoom page → ⊥) → count_in page ≡ capacity (length page)
unfolding entries_of
full_count page n owner at passes none =
    let long = length-first page (count_in page) in
    let fits = count_in_fits page n owner at passes in
    omega (arith, fits, past long)
  where
    past : length (entries_of page) ≡ count_in page → capacity (length page) ≤ count_in page
    past long = at_least (length (entries_of page)) (capacity (length page)) none long
      where
        at_least : (k c : ℕ) → (k < c → ⊥) → k ≡ count_in page → c ≤ count_in page
        at_least k c not_less is = elim (cases_lt k c) [
          | inl less ↦ absurd (not_less less)
          | inr more ↦ omega (arith, more, is)
        ]

module _ {D L : Type 0} (store : Pool D L) (image : Image) (old new : Changed) (owner : ℕ) (pointers data_pages : List ℕ) (orders : Orders) (settled : ℕ → Bool) (on_disk wanted : DemandSet) (lawful : IsGeometry store.geometry) (was : IsWanting store.geometry.size (viewed store image old) wanted) (head : IsIn wanted (want_of 0 HEADER 0 0)) (its : WantsTable store.geometry.size (viewed store image old) wanted owner pointers data_pages) (have : HaveOrders orders new) where
  abbrev g : Geometry
  g = store.geometry

  abbrev view : Pages
  view = viewed store image old

  abbrev at : ℕ
  at = length pointers - 1

  abbrev q : ℕ
  q = slice_index pointers at

  abbrev place : ℕ
  place = length data_pages

  sized : 24 ≤ g.size
  sized = let sizes = page_sizes g.size lawful.size in let least = sizes.0 in omega (arith, least)

  last_passes : PassesAll (pointer_checks (view q) q owner at)
  last_passes = pointer_passes g.size view wanted was q owner at its.last.page

  last_taken : IsTaken g.size view q
  last_taken = pointer_taken g.size view wanted was q owner at head its.last

  small_n : (n : ℕ) → n < taking_limit g → n < 2 ^ 32
  small_n n below = omega (arith, below)

  module _ (n : ℕ) (bytes : List ℕ) (lists_ : ListsInLast g store image old new owner place q n (view q) bytes) where
    here : viewed store image lists_.made n ≡ bytes
    here = viewed_here store image lists_.taken lists_.made n bytes lists_.makes.puts

    made_new : IsNewPage (viewed store image lists_.made n) g.size n owner place
    made_new = subst (λ (b : List ℕ). IsNewPage b g.size n owner place) (sym here) lists_.makes.made

    in_last : Pays g.size view (viewed store image lists_.listed) orders settled on_disk wanted
        (listed (grow_wants g.size n owner (at * capacity g.size + count_in (view q))))
    in_last = growth_pays g view (viewed store image lists_.taken) (viewed store image lists_.made)
        (viewed store image lists_.listed) q n owner at orders settled on_disk wanted lawful (record {
          takes = lists_.takes;
          made_else = viewed_else store image lists_.taken lists_.made n bytes lists_.makes.puts;
          made_here = subst (IsNewPage (viewed store image lists_.made n) g.size n owner) its.placed made_new;
          made_passes = subst (λ (k : ℕ). PassesAll (common_checks (viewed store image lists_.made n) n DATA_KIND owner k))
              its.placed (new_data_passes (viewed store image lists_.made n) g.size n owner place made_new
              (let long = sized in omega (arith, long)) (small_n n lists_.takes.free.below) its.small.0 its.small.1);
          listed_else = viewed_else store image lists_.made lists_.listed q lists_.page lists_.puts;
          adds = subst (λ (b : List ℕ). AddsEntry (view q) b n)
              (sym (viewed_here store image lists_.made lists_.listed q lists_.page lists_.puts)) lists_.adds;
          passes = last_passes;
          off_header = last_taken.off_header;
          off_inventory = last_taken.off_inventory;
          used = last_taken.used;
        }) was (added n q (page_before g.size n q))
        (added (inventory_page g.size (region_of g.size n)) q (bit_before g.size n q))
      where
        added : (a c : ℕ) → lists (orders_to g.size n q) a c ≡ true → orders a c ≡ true
        added = have_added orders lists_.listed new (orders_to g.size n q) lists_.orders have

    pub listed_pays : Pays g.size view (viewed store image new) orders settled on_disk wanted
        (listed (grow_wants g.size n owner place))
    listed_pays = subst (λ (k : ℕ). Pays g.size view (viewed store image new) orders settled on_disk wanted
        (listed (grow_wants g.size n owner k))) (sym its.placed)
        (subst (λ (pages : Pages). Pays g.size view pages orders settled on_disk wanted
        (listed (grow_wants g.size n owner (at * capacity g.size + count_in (view q)))))
        (sym (viewed_same store image lists_.listed new lists_.orders.same_pages)) in_last)

  module _ (p n : ℕ) (bytes : List ℕ) (full : HasEntryRoom (view q) → ⊥) (lists_ : ListsInNew g store image old new owner place (at + 1) q p n (view q) bytes) where
    first_place : place ≡ (at + 1) * capacity g.size
    first_place =
        let count : count_in (view q) ≡ capacity (length (view q)) = full_count (view q) q owner at last_passes full in
        let placed = its.placed in
        let wide : capacity (length (view q)) ≡ capacity g.size = ap capacity (was.whole q) in
        let more : (at + 1) * capacity g.size ≡ at * capacity g.size + capacity g.size = omega arith in
        omega (arith, placed, count, wide, more)

    begun_page : viewed store image lists_.begun p ≡ lists_.page
    begun_page = viewed_here store image lists_.made lists_.begun p lists_.page lists_.puts

    made_page : viewed store image lists_.made n ≡ bytes
    made_page = viewed_here store image lists_.taken lists_.made n bytes lists_.makes.puts

    data_new : IsNewPage (viewed store image lists_.made n) g.size n owner place
    data_new = subst (λ (b : List ℕ). IsNewPage b g.size n owner place) (sym made_page) lists_.makes.made

    abbrev blank_page : List ℕ
    blank_page = new_pointer_page g.size p owner (at + 1)

    small_at : at + 1 < 2 ^ 32
    small_at = let small = its.small.2 in omega (arith, small)

    pointer_new : PassesAll (pointer_checks lists_.page p owner (at + 1))
    pointer_new = entry_passes blank_page lists_.page n p owner (at + 1) lists_.adds
        (new_page_passes g.size p owner (at + 1) (let long = sized in omega (arith, long))
        (small_n p lists_.takes_pointer.free.below) its.small.0 small_at)

    in_new : Pays g.size view (viewed store image lists_.linked) orders settled on_disk wanted
        (listed (chain_wants g.size p n owner (at + 1)))
    in_new = chain_pays g view (viewed store image lists_.with_bit) (viewed store image lists_.taken)
        (viewed store image lists_.made) (viewed store image lists_.begun) (viewed store image lists_.linked) q p n owner
        at orders settled on_disk wanted lawful (record {
          takes_pointer = lists_.takes_pointer;
          takes = lists_.takes;
          made_else = viewed_else store image lists_.taken lists_.made n bytes lists_.makes.puts;
          made_here = subst (IsNewPage (viewed store image lists_.made n) g.size n owner) first_place data_new;
          made_passes = subst (λ (k : ℕ). PassesAll (common_checks (viewed store image lists_.made n) n DATA_KIND owner k))
              first_place (new_data_passes (viewed store image lists_.made n) g.size n owner place data_new
              (let long = sized in omega (arith, long)) (small_n n lists_.takes.free.below) its.small.0 its.small.1);
          begun_else = viewed_else store image lists_.made lists_.begun p lists_.page lists_.puts;
          begun_len = ap (λ (b : List ℕ). length b) begun_page
              ∙ (lists_.adds.len ∙ length-new_pointer_page g.size p owner (at + 1));
          begun_passes = subst (λ (b : List ℕ). PassesAll (pointer_checks b p owner (at + 1))) (sym begun_page) pointer_new;
          entries = ap entries_of begun_page ∙ (lists_.adds.entries
              ∙ ap (λ (ns : List ℕ). ns ++ n ∷ []) (new_page_empty g.size p owner (at + 1)));
          last = ap next_in begun_page ∙ (lists_.adds.next ∙ new_page_next g.size p owner (at + 1));
          linked_else = viewed_else store image lists_.begun lists_.linked q lists_.link lists_.puts_link;
          links = subst (λ (b : List ℕ). SetsNext (view q) b p)
              (sym (viewed_here store image lists_.begun lists_.linked q lists_.link lists_.puts_link)) lists_.links;
          passes = last_passes;
          off_header = last_taken.off_header;
          off_inventory = last_taken.off_inventory;
          used = last_taken.used;
        }) was (record {
          page = added n p (lists_sooner (orders_to g.size n p) (orders_to g.size p q) n p (page_before g.size n p));
          bit = added (inventory_page g.size (region_of g.size n)) p
              (lists_sooner (orders_to g.size n p) (orders_to g.size p q) (inventory_page g.size (region_of g.size n)) p
              (bit_before g.size n p));
        }) (record {
          page = added p q (lists_later (orders_to g.size n p) (orders_to g.size p q) p q (page_before g.size p q));
          bit = added (inventory_page g.size (region_of g.size p)) q
              (lists_later (orders_to g.size n p) (orders_to g.size p q) (inventory_page g.size (region_of g.size p)) q
              (bit_before g.size p q));
        })
      where
        added : (a c : ℕ) → lists (orders_to g.size n p ++ orders_to g.size p q) a c ≡ true → orders a c ≡ true
        added = have_added orders lists_.linked new (orders_to g.size n p ++ orders_to g.size p q) lists_.orders have

    pub chained_pays : Pays g.size view (viewed store image new) orders settled on_disk wanted
        (listed (chain_wants g.size p n owner (at + 1)))
    chained_pays = subst (λ (pages : Pages). Pays g.size view pages orders settled on_disk wanted
        (listed (chain_wants g.size p n owner (at + 1))))
        (sym (viewed_same store image lists_.linked new lists_.orders.same_pages)) in_new

-- ---- a page with room

-- pages that do not change pay nothing
pub same_pays : (size : ℕ) (pages : Pages) (orders : Orders) (settled : ℕ → Bool) (on_disk wanted : DemandSet)
    → IsWanting size pages wanted → Pays size pages pages orders settled on_disk wanted (listed [])
same_pays size pages orders settled on_disk wanted was = record {
  pays = record {
    still = was.keeps.met;
    met = λ d h. absurd (of_listed [] d h);
    links = λ d e h made. inl made;
    new_links = λ d e h made. absurd (of_listed [] d h);
  };
  wants = record {
    lawful = was.lawful;
    whole = was.whole;
    keeps = record {
      met = λ d h. was.keeps.met d (back d h);
      in_turn = λ d e h made. in_one wanted (listed []) e (was.keeps.in_turn d e (back d h) made);
    };
    used = λ d h. was.used d (back d h);
    on_data = λ d h is. was.on_data d (back d h) is;
  };
  leaves = λ d e h made may apart. inl (made, refl);
}
  where
    back : (d : Demand) → IsIn (either wanted (listed [])) d → IsIn wanted d
    back d h = elim (either_cases wanted (listed []) d h) [
      | inl x ↦ x
      | inr y ↦ absurd (of_listed [] d y)
    ]

has_at : (ns : List ℕ) (i : ℕ) → i < length ns → HasPage ns (slice_index ns i)
has_at [] i less = absurd (omega (arith, less))
has_at (n ∷ ns) zero less = inl refl
has_at (n ∷ ns) (suc i) less = inr (has_at ns i (omega (arith, less)))

looked_inside : (k len : ℕ) → k < len → looked_at k len < len
looked_inside k len less = at (k == 0) refl
  where
    at : (b : Bool) → (k == 0) ≡ b → (if b then len - 1 else k - 1) < len
    at true is = omega (arith, less)
    at false is = omega (arith, less)

-- what is newly wanted where a page with room was found, or a table has grown by one
abbrev pub room_wants : {D L : Type 0} (store : Pool D L) (image : Image) (old new : Changed) (owner need : ℕ)
    (n : PageNo) (gives : GivesRoom store image old new owner need n)
    → FindsOrGrows store image old new owner gives.pointers gives.data_pages need gives.it → List Demand
room_wants store image old new owner need n gives (inl found) = []
room_wants store image old new owner need n gives (inr (none, inl (room, last))) =
    grow_wants store.geometry.size gives.it.page.0 owner (length gives.data_pages)
room_wants store image old new owner need n gives (inr (none, inr (full, (p, made)))) =
    chain_wants store.geometry.size p gives.it.page.0 owner (length gives.pointers - 1 + 1)

-- what has the orders of the batch behind it has those before it
pub have_room : {D L : Type 0} (store : Pool D L) (image : Image) (old new : Changed) (owner need : ℕ) (n : PageNo)
    (gives : GivesRoom store image old new owner need n) (orders : Orders)
    → FindsOrGrows store image old new owner gives.pointers gives.data_pages need gives.it
    → HaveOrders orders new → HaveOrders orders old
have_room store image old new owner need n gives orders (inl (same, first)) have = subst (HaveOrders orders) same have
have_room store image old new owner need n gives orders (inr (none, inl (room, last))) have =
    have_same orders old last.taken last.bit.puts.same_orders
    (have_same orders last.taken last.made last.makes.puts.same_orders
    (have_same orders last.made last.listed last.puts.same_orders
    (have_sooner orders last.listed new (orders_to store.geometry.size gives.it.page.0
    (slice_index gives.pointers (length gives.pointers - 1))) last.orders have)))
have_room store image old new owner need n gives orders (inr (none, inr (full, (p, made)))) have =
    have_same orders old made.with_bit made.bit_pointer.puts.same_orders
    (have_same orders made.with_bit made.taken made.bit.puts.same_orders
    (have_same orders made.taken made.made made.makes.puts.same_orders
    (have_same orders made.made made.begun made.puts.same_orders
    (have_same orders made.begun made.linked made.puts_link.same_orders
    (have_sooner orders made.linked new (orders_to store.geometry.size gives.it.page.0 p
    ++ orders_to store.geometry.size p (slice_index gives.pointers (length gives.pointers - 1))) made.orders have)))))

-- none of it is a version
none_bit : (size n : ℕ) → NoVersion (bit_demand size n)
none_bit size n = none_demand (inventory_page size (region_of size n)) BIT n 0 (λ is. omega (arith, is))

none_then : (target what a b : ℕ) (ds : List Demand) → what ≢ VERSION → NoVersion ds
    → NoVersion (want_of target what a b ∷ ds)
none_then target what a b ds other rest e (inl same) is = other (sym (ap (λ (x : Demand). x.what) same) ∙ is)
none_then target what a b ds other rest e (inr more) is = rest e more is

pub room_versions : {D L : Type 0} (store : Pool D L) (image : Image) (old new : Changed) (owner need : ℕ)
    (n : PageNo) (gives : GivesRoom store image old new owner need n)
    (found : FindsOrGrows store image old new owner gives.pointers gives.data_pages need gives.it)
    → NoVersion (room_wants store image old new owner need n gives found)
room_versions store image old new owner need n gives (inl found) = none_empty
room_versions store image old new owner need n gives (inr (none, inl (room, last))) =
    none_both (bit_demand store.geometry.size gives.it.page.0) _ (none_bit store.geometry.size gives.it.page.0)
    (none_then gives.it.page.0 DATA owner (length gives.data_pages) [] (λ is. omega (arith, is)) none_empty)
room_versions store image old new owner need n gives (inr (none, inr (full, (p, made)))) =
    none_both (bit_demand store.geometry.size p) _ (none_bit store.geometry.size p)
    (none_both (bit_demand store.geometry.size gives.it.page.0) _ (none_bit store.geometry.size gives.it.page.0)
    (none_then gives.it.page.0 DATA owner ((length gives.pointers - 1 + 1) * capacity store.geometry.size)
    (want_of p POINTER owner (length gives.pointers - 1 + 1) ∷ []) (λ is. omega (arith, is))
    (none_then p POINTER owner (length gives.pointers - 1 + 1) [] (λ is. omega (arith, is)) none_empty)))

-- a page none of whose cells leads to a thing does not
no_cells : (page : List ℕ) (e : Demand) → ((s : ℕ) → Has (cell_demands (slot_cell (cell_of page s))) e → ⊥)
    → (k : ℕ) → Has (slot_demands page k) e → ⊥
no_cells page e none zero h = h
no_cells page e none (suc k) h = elim (has_either (slot_demands page k) _ e h) [
  | inl there ↦ no_cells page e none k there
  | inr here ↦ none k here
]

module _ {D L : Type 0} (store : Pool D L) (image : Image) (old new : Changed) (owner need : ℕ) (n : PageNo) (gives : GivesRoom store image old new owner need n) (orders : Orders) (settled : ℕ → Bool) (on_disk wanted : DemandSet) (lawful : IsGeometry store.geometry) (was : IsWanting store.geometry.size (viewed store image old) wanted) (head : IsIn wanted (want_of 0 HEADER 0 0)) (its : WantsTable store.geometry.size (viewed store image old) wanted owner gives.pointers gives.data_pages) (have : HaveOrders orders new) where
  abbrev width : ℕ
  width = store.geometry.size

  abbrev before_view : Pages
  before_view = viewed store image old

  abbrev after_view : Pages
  after_view = viewed store image new

  pub room_pays : (found : FindsOrGrows store image old new owner gives.pointers gives.data_pages need gives.it)
      → Pays width before_view after_view orders settled on_disk wanted
      (listed (room_wants store image old new owner need n gives found))
  room_pays (inl (same, first)) = subst (λ (b : Changed). Pays width before_view (viewed store image b) orders settled
      on_disk wanted (listed [])) (sym same) (same_pays width before_view orders settled on_disk wanted was)
  room_pays (inr (none, inl (room, last))) = listed_pays store image old new owner gives.pointers gives.data_pages orders settled
      on_disk wanted lawful was head its have gives.it.page.0 gives.it.bytes last
  room_pays (inr (none, inr (full, (p, made)))) = chained_pays store image old new owner gives.pointers gives.data_pages orders
      settled on_disk wanted lawful was head its have p gives.it.page.0 gives.it.bytes full made

  -- the page that is given is wanted as a data page then
  pub room_data : (found : FindsOrGrows store image old new owner gives.pointers gives.data_pages need gives.it)
      → IsDataOf width (either wanted (listed (room_wants store image old new owner need n gives found)))
      gives.it.page.0
  room_data (inl (same, first)) = still_data width wanted (listed []) gives.it.page.0 (its.data_ gives.it.page.0
      (subst (HasPage gives.data_pages) (sym first.page_is) (has_at gives.data_pages (looked_at first.after (length gives.data_pages))
      (looked_inside first.after (length gives.data_pages) first.inside))))
  room_data (inr (none, inl (room, last))) = newly (grow_wants width gives.it.page.0 owner (length gives.data_pages)) owner (length gives.data_pages)
      (has_back (bit_demand width gives.it.page.0) _ (want_of gives.it.page.0 DATA owner (length gives.data_pages)) (inl refl))
      (has_front (bit_demand width gives.it.page.0) _ _ (bit_there store.geometry before_view (viewed store image last.taken)
      gives.it.page.0 lawful last.takes))
    where
      newly : (ds : List Demand) (who place : ℕ) → Has ds (want_of gives.it.page.0 DATA who place)
          → Has ds (want_of (inventory_page width (region_of width gives.it.page.0)) BIT gives.it.page.0 0)
          → IsDataOf width (either wanted (listed ds)) gives.it.page.0
      newly ds who place page bit = record {
        owner = who;
        place = place;
        wants = record {
          page = in_other wanted (listed ds) (want_of gives.it.page.0 DATA who place)
              (in_listed ds (want_of gives.it.page.0 DATA who place) page);
          bit = in_other wanted (listed ds) (want_of (inventory_page width (region_of width gives.it.page.0)) BIT gives.it.page.0 0)
              (in_listed ds (want_of (inventory_page width (region_of width gives.it.page.0)) BIT gives.it.page.0 0) bit);
        };
      }
  room_data (inr (none, inr (full, (p, made)))) =
      let place : ℕ = (length gives.pointers - 1 + 1) * capacity width in
      let ds : List Demand = chain_wants width p gives.it.page.0 owner (length gives.pointers - 1 + 1) in
      let page : Has ds (want_of gives.it.page.0 DATA owner place) = has_back (bit_demand width p) _ _
      (has_back (bit_demand width gives.it.page.0) _ (want_of gives.it.page.0 DATA owner place) (inl refl)) in
      let bit : Has ds (want_of (inventory_page width (region_of width gives.it.page.0)) BIT gives.it.page.0 0) =
      has_back (bit_demand width p) _ _ (has_front (bit_demand width gives.it.page.0) _ _
      (bit_there store.geometry (viewed store image made.with_bit) (viewed store image made.taken) gives.it.page.0 lawful made.takes)) in
      record {
        owner = owner;
        place = place;
        wants = record {
          page = in_other wanted (listed ds) (want_of gives.it.page.0 DATA owner place)
              (in_listed ds (want_of gives.it.page.0 DATA owner place) page);
          bit = in_other wanted (listed ds) (want_of (inventory_page width (region_of width gives.it.page.0)) BIT gives.it.page.0 0)
              (in_listed ds (want_of (inventory_page width (region_of width gives.it.page.0)) BIT gives.it.page.0 0) bit);
        };
      }

  -- a data page is not the last pointer page
  off_last : (m : ℕ) → IsDataOf width wanted m → m ≢ slice_index gives.pointers (length gives.pointers - 1)
  off_last m of same =
      let five = kind_of (before_view m) m DATA_KIND of.owner of.place
      (data_passes width before_view wanted was m of.owner of.place of.wants.page) in
      let four = pointer_kind (before_view (slice_index gives.pointers (length gives.pointers - 1)))
      (slice_index gives.pointers (length gives.pointers - 1)) owner (length gives.pointers - 1)
      (pointer_passes width before_view wanted was (slice_index gives.pointers (length gives.pointers - 1)) owner
      (length gives.pointers - 1) its.last.page) in
      let there : byte (before_view m) 0 ≡ byte (before_view (slice_index gives.pointers (length gives.pointers - 1))) 0 =
      ap (λ (k : ℕ). byte (before_view k) 0) same in absurd (omega (arith, five, four, there))

  -- a data page that was wanted before is as it was
  pub room_else : FindsOrGrows store image old new owner gives.pointers gives.data_pages need gives.it → (m : ℕ)
      → IsDataOf width wanted m → after_view m ≡ before_view m
  room_else (inl (same, first)) m of = ap (λ (b : Changed). viewed store image b m) same
  room_else (inr (none, inl (room, last))) m of =
      let mine = data_taken width before_view wanted was m head of in
      ap (λ (pages : Pages). pages m) (viewed_same store image last.listed new last.orders.same_pages)
      ∙ (viewed_else store image last.made last.listed (slice_index gives.pointers (length gives.pointers - 1)) last.page last.puts m
      (off_last m of)
      ∙ (viewed_else store image last.taken last.made gives.it.page.0 gives.it.bytes last.makes.puts m
      (λ same. both_ways _ last.takes.free.unused (subst (λ (k : ℕ). is_used width before_view k ≡ true) same mine.used))
      ∙ last.takes.others m (λ same. mine.off_inventory (region_of width gives.it.page.0) (sym same))))
  room_else (inr (none, inr (full, (p, made)))) m of =
      let mine = data_taken width before_view wanted was m head of in
      let used : is_used width (viewed store image made.with_bit) m ≡ true =
      takes_keeps store.geometry before_view (viewed store image made.with_bit) p lawful made.takes_pointer m mine.used in
      ap (λ (pages : Pages). pages m) (viewed_same store image made.linked new made.orders.same_pages)
      ∙ (viewed_else store image made.begun made.linked (slice_index gives.pointers (length gives.pointers - 1)) made.link made.puts_link m
      (off_last m of)
      ∙ (viewed_else store image made.made made.begun p made.page made.puts m
      (λ same. both_ways _ made.takes_pointer.free.unused (subst (λ (k : ℕ). is_used width before_view k ≡ true) same mine.used))
      ∙ (viewed_else store image made.taken made.made gives.it.page.0 gives.it.bytes made.makes.puts m
      (λ same. both_ways _ made.takes.free.unused
      (subst (λ (k : ℕ). is_used width (viewed store image made.with_bit) k ≡ true) same used))
      ∙ (made.takes.others m (λ same. mine.off_inventory (region_of width gives.it.page.0) (sym same))
      ∙ made.takes_pointer.others m (λ same. mine.off_inventory (region_of width p) (sym same))))))

  -- ---- the page that a table has got

  abbrev got : ℕ
  got = gives.it.page.0

  abbrev last_pointer : ℕ
  last_pointer = slice_index gives.pointers (length gives.pointers - 1)

  abbrev Grown : Type 0
  Grown = GrowsTable store.geometry store image old new owner (length gives.data_pages) (length gives.pointers - 1)
      last_pointer (before_view last_pointer) got gives.it.bytes

  last_used : is_used width before_view last_pointer ≡ true
  last_used = (pointer_taken width before_view wanted was last_pointer owner (length gives.pointers - 1) head its.last).used

  -- it is as it was made
  got_here : Grown → after_view got ≡ gives.it.bytes
  got_here (inl (room, last)) = ap (λ (pages : Pages). pages got)
      (viewed_same store image last.listed new last.orders.same_pages)
      ∙ (viewed_else store image last.made last.listed last_pointer last.page last.puts got
      (λ same. both_ways _ last.takes.free.unused (subst (λ (k : ℕ). is_used width before_view k ≡ true) (sym same) last_used))
      ∙ viewed_here store image last.taken last.made got gives.it.bytes last.makes.puts)
  got_here (inr (full, (p, made))) = ap (λ (pages : Pages). pages got)
      (viewed_same store image made.linked new made.orders.same_pages)
      ∙ (viewed_else store image made.begun made.linked last_pointer made.link made.puts_link got
      (λ same. unused p made (subst (λ (k : ℕ). is_used width (viewed store image made.with_bit) k ≡ true) (sym same)
      (takes_keeps store.geometry before_view (viewed store image made.with_bit) p lawful made.takes_pointer last_pointer last_used)))
      ∙ (viewed_else store image made.made made.begun p made.page made.puts got
      (λ same. unused p made (subst (λ (k : ℕ). is_used width (viewed store image made.with_bit) k ≡ true) (sym same)
      (takes_bit store.geometry before_view (viewed store image made.with_bit) p lawful made.takes_pointer)))
      ∙ viewed_here store image made.taken made.made got gives.it.bytes made.makes.puts))
    where
      unused : (p : ℕ) (made : ListsInNew store.geometry store image old new owner (length gives.data_pages)
          (length gives.pointers - 1 + 1) last_pointer p got (before_view last_pointer) gives.it.bytes)
          → is_used width (viewed store image made.with_bit) got ≡ true → ⊥
      unused p made is = both_ways _ made.takes.free.unused is

  got_none : (grown : Grown) (s : ℕ) → cell_of (after_view got) s ≡ None
  got_none grown s = ap (λ (page : List ℕ). cell_of page s) (got_here grown) ∙ none grown
    where
      none : Grown → cell_of gives.it.bytes s ≡ None
      none (inl (room, last)) = last.makes.made.none s
      none (inr (full, (p, made))) = made.makes.made.none s

  -- and it was no data page before
  got_other : Grown → (m : ℕ) → IsDataOf width wanted m → got ≢ m
  got_other (inl (room, last)) m of same = both_ways _ last.takes.free.unused
      (subst (λ (k : ℕ). is_used width before_view k ≡ true) (sym same) (data_taken width before_view wanted was m head of).used)
  got_other (inr (full, (p, made))) m of same = both_ways _ made.takes.free.unused
      (subst (λ (k : ℕ). is_used width (viewed store image made.with_bit) k ≡ true) (sym same)
      (takes_keeps store.geometry before_view (viewed store image made.with_bit) p lawful made.takes_pointer m
      (data_taken width before_view wanted was m head of).used))

  -- So what is newly wanted leads to no version, as long as no cell does that is put on the new page.
  module _ (mid : Pages) (all : DemandSet) (wants : IsWanting width mid all) (other : ℕ) (of : IsDataOf width wanted other)
      (cells : (s : ℕ) (e : Demand) → cell_of (after_view n.0) s ≡ None → (n.0 ≡ other → ⊥)
      → Has (cell_demands (slot_cell (cell_of (mid n.0) s))) e → ⊥) where
    bit_leads : (k : ℕ) (d e : Demand) → Has (bit_demand width k) d → Has (demands_of (mid d.target) d) e → ⊥
    bit_leads k d e h made = bit_demands width mid all wants (mid d.target) (wants.whole d.target) d e
        (subst (λ (x : Demand). x ≡ want_of x.target BIT x.a x.b)
        (sym (is_demand (inventory_page width (region_of width k)) BIT k 0 d h)) refl) made

    data_leads : Grown → (place : ℕ) (d e : Demand) → d ≡ want_of got DATA owner place
        → Has (demands_of (mid d.target) d) e → ⊥
    data_leads grown place d e is made = no_cells (mid n.0) e
        (λ s there. cells s e (subst (λ (k : ℕ). cell_of (after_view k) s ≡ None) here (got_none grown s))
        (λ same. got_other grown other of (here ∙ same)) there) (slot_count (mid n.0))
        (subst (λ (k : ℕ). Has (slot_demands (mid k) (slot_count (mid k))) e) here
        (as_want width mid all wants (mid got) (wants.whole got) (want_of got DATA owner place) d e is
        (subst (λ (k : ℕ). Has (demands_of (mid k) d) e) (ap (λ (x : Demand). x.target) is) made)))
      where
        here : got ≡ n.0
        here = ap (λ (p : PageNo). p.0) gives.page_is

    pointer_leads : (p at : ℕ) (d e : Demand) → d ≡ want_of p POINTER owner at → IsIn all d
        → Has (demands_of (mid d.target) d) e → e.what ≡ VERSION → ⊥
    pointer_leads p at d e is h made what =
        let five = leads_from_data width mid all wants d e h made what in
        let four = pointer_kind (mid p) p owner at (pointer_passes width mid all wants p owner at
        (subst (IsIn all) is h)) in
        let there : byte (mid d.target) 0 ≡ byte (mid p) 0 = ap (λ (x : Demand). byte (mid x.target) 0) is in
        absurd (omega (arith, five, four, there))

    pub room_leads : (found : FindsOrGrows store image old new owner gives.pointers gives.data_pages need gives.it)
        (d e : Demand) → Has (room_wants store image old new owner need n gives found) d → IsIn all d
        → Has (demands_of (mid d.target) d) e → e.what ≡ VERSION → ⊥
    room_leads (inl found) d e h among made what = absurd h
    room_leads (inr (none, inl (room, last))) d e h among made what = elim (has_either (bit_demand width got) _ d h) [
      | inl bit ↦ bit_leads got d e bit made
      | inr one ↦ elim one [
        | inl is ↦ data_leads (inl (room, last)) (length gives.data_pages) d e is made
        | inr nothing ↦ nothing
      ]
    ]
    room_leads (inr (none, inr (full, (p, made_)))) d e h among made what = elim (has_either (bit_demand width p) _ d h) [
      | inl bit ↦ bit_leads p d e bit made
      | inr further ↦ elim (has_either (bit_demand width got) _ d further) [
        | inl bit ↦ bit_leads got d e bit made
        | inr one ↦ elim one [
          | inl is ↦ data_leads (inr (full, (p, made_))) ((length gives.pointers - 1 + 1) * capacity width) d e is made
          | inr two ↦ elim two [
            | inl is ↦ pointer_leads p (length gives.pointers - 1 + 1) d e is among made what
            | inr nothing ↦ nothing
          ]
        ]
      ]
    ]

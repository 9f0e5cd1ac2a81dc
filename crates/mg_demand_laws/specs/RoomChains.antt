-- A table's page with room is found, or the table grows: versions stay chained.
use Rattle.std.specs.Prelude.{◌≡◌, ◌≢◌, ◌⊎◌, ◌<◌, ◌+◌, ◌-◌, ◌*◌, ◌++◌, ℕ, Bool, true, slice_index, List, [], ◌∷◌, length, None}
use Rattle.std.proofs.Common.{inl, inr, refl, sym, subst, ap, ◌∙◌, arith}
use Rattle.std.proofs.lemmas.Bool.{both_ways}
use Rattle.mg_base.specs.Image.{Image}
use Rattle.mg_base.specs.declared.numbers.PageNo.{PageNo}
use Rattle.mg_careful.specs.Precedence.{Orders}
use Rattle.mg_careful.specs.declared.links.Demand.{Demand}
use Rattle.mg_careful.specs.CarefulWrite.{DemandSet, Has, IsIn, either, listed}
use Rattle.mg_heap.specs.Growth.{GrowsTable, ListsInNew}
use Rattle.mg_heap.specs.Room.{FindsOrGrows, GivesRoom}
use Rattle.mg_image.specs.Form.{Pages}
use Rattle.mg_image.specs.Inventory.{inventory_page, is_used}
use Rattle.mg_pointer.specs.PointerPage.{capacity}
use Rattle.mg_pool.specs.Batch.{Changed}
use Rattle.mg_pool.specs.declared.pool.Pool.{Pool}
use Rattle.mg_slots.specs.DataPage.{cell_of}
use Rattle.mg_space.specs.Demands.{bit_demand}
use Rattle.mg_space.specs.Taking.{IsGeometry, region_of}
use Rattle.mg_space.specs.TakingLaws.{takes_bit, takes_keeps}
use Rattle.mg_space.specs.View.{viewed}
use Rattle.mg_space.specs.ViewLaws.{viewed_else, viewed_here}
use Rattle.mg_space.specs.declared.links.TheConstants.{BIT, DATA, HEADER, POINTER}
use Rattle.mg_demand_laws.specs.Met.{has_either, is_demand, of_listed}
use Rattle.mg_demand_laws.specs.Wanting.{IsWanting, want_of}
use Rattle.mg_demand_laws.specs.GrowthTies.{room_data, room_else, room_versions, room_wants}
use Rattle.mg_demand_laws.specs.Lists.{HaveOrders, viewed_same}
use Rattle.mg_demand_laws.specs.Wants.{IsDataOf, WantsTable, pointer_taken}
use Rattle.mg_demand_laws.specs.Chained.{IsChained}
use Rattle.mg_demand_laws.specs.ChainedLaws.{IsEmptyData, chained_more}

-- the law: where a page with room is given
abbrev pub RoomStaysChained : (D L : Type 0) → Type 0
RoomStaysChained D L = (store : Pool D L) (image : Image) (old new : Changed) (owner need : ℕ) (n : PageNo)
    (gives : GivesRoom store image old new owner need n) (orders : Orders) (wanted : DemandSet)
    → IsGeometry store.geometry → IsWanting store.geometry.size (viewed store image old) wanted
    → IsIn wanted (want_of 0 HEADER 0 0)
    → WantsTable store.geometry.size (viewed store image old) wanted owner gives.pointers gives.data_pages
    → HaveOrders orders new → IsChained store.geometry.size (viewed store image old) wanted
    → IsChained store.geometry.size (viewed store image new)
    (either wanted (listed (room_wants store image old new owner need n gives gives.found)))

bit_is_none : (size n : ℕ) (d : Demand) → Has (bit_demand size n) d → d.what ≢ DATA
bit_is_none size n d h is =
    let nine : d.what ≡ BIT = ap (λ (x : Demand). x.what)
    (is_demand (inventory_page size (region_of size n)) BIT n 0 d h) in omega (arith, nine, is)

module _ {D L : Type 0} (store : Pool D L) (image : Image) (old new : Changed) (owner need : ℕ) (n : PageNo) (gives : GivesRoom store image old new owner need n) (orders : Orders) (settled : ℕ → Bool) (on_disk wanted : DemandSet) (lawful : IsGeometry store.geometry) (was : IsWanting store.geometry.size (viewed store image old) wanted) (head : IsIn wanted (want_of 0 HEADER 0 0)) (its : WantsTable store.geometry.size (viewed store image old) wanted owner gives.pointers gives.data_pages) (have : HaveOrders orders new) (chained : IsChained store.geometry.size (viewed store image old) wanted) where
  abbrev size : ℕ
  size = store.geometry.size

  abbrev view : Pages
  view = viewed store image old

  abbrev after : Pages
  after = viewed store image new

  abbrev got : ℕ
  got = gives.it.page.0

  abbrev bytes : List ℕ
  bytes = gives.it.bytes

  abbrev at : ℕ
  at = length gives.pointers - 1

  abbrev q : ℕ
  q = slice_index gives.pointers at

  abbrev Found : Type 0
  Found = FindsOrGrows store image old new owner gives.pointers gives.data_pages need gives.it

  abbrev Grown : Type 0
  Grown = GrowsTable store.geometry store image old new owner (length gives.data_pages) at q (view q) got bytes

  q_used : is_used size view q ≡ true
  q_used = (pointer_taken size view wanted was q owner at head its.last).used

  -- the page that a table has got is as it was made
  got_here : Grown → after got ≡ bytes
  got_here (inl (room, last)) = ap (λ (pages : Pages). pages got)
      (viewed_same store image last.listed new last.orders.same_pages)
      ∙ (viewed_else store image last.made last.listed q last.page last.puts got
      (λ same. both_ways _ last.takes.free.unused (subst (λ (k : ℕ). is_used size view k ≡ true) (sym same) q_used))
      ∙ viewed_here store image last.taken last.made got bytes last.makes.puts)
  got_here (inr (full, (p, made))) = ap (λ (pages : Pages). pages got)
      (viewed_same store image made.linked new made.orders.same_pages)
      ∙ (viewed_else store image made.begun made.linked q made.link made.puts_link got
      (λ same. unused p made (subst (λ (k : ℕ). is_used size (viewed store image made.with_bit) k ≡ true) (sym same)
      (takes_keeps store.geometry view (viewed store image made.with_bit) p lawful made.takes_pointer q q_used)))
      ∙ (viewed_else store image made.made made.begun p made.page made.puts got
      (λ same. unused p made (subst (λ (k : ℕ). is_used size (viewed store image made.with_bit) k ≡ true) (sym same)
      (takes_bit store.geometry view (viewed store image made.with_bit) p lawful made.takes_pointer)))
      ∙ viewed_here store image made.taken made.made got bytes made.makes.puts))
    where
      unused : (p : ℕ) (made : ListsInNew store.geometry store image old new owner (length gives.data_pages) (at + 1) q p got
          (view q) bytes) → is_used size (viewed store image made.with_bit) got ≡ true → ⊥
      unused p made is = both_ways _ made.takes.free.unused is

  -- so it has no cell
  got_none : (grown : Grown) (slot : ℕ) → cell_of (after got) slot ≡ None
  got_none grown slot = ap (λ (page : List ℕ). cell_of page slot) (got_here grown) ∙ none grown
    where
      none : Grown → cell_of bytes slot ≡ None
      none (inl (room, last)) = last.makes.made.none slot
      none (inr (full, (p, made))) = made.makes.made.none slot

  abbrev all : Found → DemandSet
  all found = either wanted (listed (room_wants store image old new owner need n gives found))

  empty : (found : Found) (k : ℕ) → Grown → k ≡ got → IsEmptyData size after (all found) k
  empty found k grown same = record {
    is_data = subst (IsDataOf size (all found)) (sym same)
        (room_data store image old new owner need n gives orders settled on_disk wanted lawful was head its have found);
    none = λ slot. ap (λ (m : ℕ). cell_of (after m) slot) same ∙ got_none grown slot;
  }

  -- what is newly wanted as a data page is that page
  newly : (found : Found) (k who place : ℕ)
      → Has (room_wants store image old new owner need n gives found) (want_of k DATA who place)
      → IsEmptyData size after (all found) k
  newly (inl found) k who place h = absurd h
  newly (inr (none, inl (room, last))) k who place h =
      elim (has_either (bit_demand size got) _ (want_of k DATA who place) h) [
        | inl bit ↦ absurd (bit_is_none size got (want_of k DATA who place) bit refl)
        | inr one ↦ elim one [
          | inl is ↦ empty (inr (none, inl (room, last))) k (inl (room, last)) (ap (λ (x : Demand). x.target) is)
          | inr nothing ↦ absurd nothing
        ]
      ]
  newly (inr (none, inr (full, (p, made)))) k who place h =
      elim (has_either (bit_demand size p) _ (want_of k DATA who place) h) [
        | inl bit ↦ absurd (bit_is_none size p (want_of k DATA who place) bit refl)
        | inr further ↦ elim (has_either (bit_demand size got) _ (want_of k DATA who place) further) [
          | inl bit ↦ absurd (bit_is_none size got (want_of k DATA who place) bit refl)
          | inr one ↦ elim one [
            | inl is ↦ empty (inr (none, inr (full, (p, made)))) k (inr (full, (p, made))) (ap (λ (x : Demand). x.target) is)
            | inr two ↦ elim two [
              | inl is ↦ absurd (let what : DATA ≡ POINTER = ap (λ (x : Demand). x.what) is in omega (arith, what))
              | inr nothing ↦ absurd nothing
            ]
          ]
        ]
      ]

  pub room_chained : (found : Found) → IsChained size after (all found)
  room_chained found = chained_more size view after wanted (listed (room_wants store image old new owner need n gives found))
      chained (λ m of. room_else store image old new owner need n gives orders settled on_disk wanted lawful was head its
      have found m of)
      (λ d h. room_versions store image old new owner need n gives found d
      (of_listed (room_wants store image old new owner need n gives found) d h))
      (λ k who place h. newly found k who place
      (of_listed (room_wants store image old new owner need n gives found) (want_of k DATA who place) h))

pub rooms_chained : (D L : Type 0) → RoomStaysChained D L
rooms_chained D L store image old new owner need n gives orders wanted lawful was head its have chained =
    room_chained store image old new owner need n gives orders (λ t. true) wanted wanted lawful was head its have chained
    gives.found

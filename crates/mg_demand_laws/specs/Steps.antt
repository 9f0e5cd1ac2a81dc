-- The steps of a batch: what each does to the pages, between two views.
use Rattle.std.specs.Prelude.{◌≡◌, ◌≢◌, ◌⊎◌, ◌<◌, ◌+◌, ◌*◌, ◌^◌, ◌==◌, ◌&&◌, ℕ, Bool, true, false, List, [], ◌∷◌, length, Ok, Option, None, Some}
use Rattle.mg_base.specs.Checks.{PassesAll}
use Rattle.mg_base.specs.Fields.{byte}
use Rattle.mg_base.specs.declared.transaction.TxState.{TxState}
use Rattle.mg_careful.specs.declared.links.Demand.{Demand}
use Rattle.mg_careful.specs.Precedence.{Orders}
use Rattle.mg_careful.specs.CarefulWrite.{DemandSet, Has, IsIn, listed}
use Rattle.mg_demand_laws.specs.Bearing.{IsPaid}
use Rattle.mg_demand_laws.specs.Freeing.{Which}
use Rattle.mg_header.specs.HeaderPage.{reading}
use Rattle.mg_header.specs.declared.header.Header.{Header}
use Rattle.mg_image.specs.Form.{Pages}
use Rattle.mg_image.specs.Inventory.{header_of, inventory_page, is_used, next_of}
use Rattle.mg_image.specs.Records.{slot_cell}
use Rattle.mg_pointer.specs.PointerPage.{AddsEntry, SetsNext, pointer_checks}
use Rattle.mg_slots.specs.Changes.{SetsCell}
use Rattle.mg_slots.specs.DataPage.{cell_of}
use Rattle.mg_slots.specs.declared.page.TheConstants.{DATA_KIND}
use Rattle.mg_space.specs.Demands.{cell_demands, demands_of, is_header, is_version_of, meets_of, wanted_demands}
use Rattle.mg_space.specs.declared.links.TheConstants.{NEXT, VERSION}
use Rattle.mg_tip.specs.TipPage.{SetsState, new_tip_page, places, tip_checks}
use Rattle.mg_demand_laws.specs.Wanting.{may_go, want_of}

-- nothing is wanted of a page
abbrev pub IsUnwanted : DemandSet → ℕ → Type 0
IsUnwanted wanted n = (d : Demand) → IsIn wanted d → d.target ≢ n

-- nothing is newly wanted
abbrev pub no_more : DemandSet
no_more = listed []

-- What is wanted of a page that is made: all of it newly, and it is met and paid for.
pub record MakesPage (size : ℕ) (old new : Pages) (n : ℕ) (orders : Orders)
    (on_disk wanted more : DemandSet) : Type 0 where
  pub others : (m : ℕ) → m ≢ n → new m ≡ old m
  pub len : length (new n) ≡ size
  pub off_inventory : (region : ℕ) → inventory_page size region ≢ n
  pub used : is_used size old n ≡ true
  pub unwanted : (d : Demand) → IsIn wanted d → d.target ≢ n
  pub aimed : (d : Demand) → IsIn more d → d.target ≡ n
  pub met : (d : Demand) → IsIn more d → meets_of (new n) d ≡ true
  pub links : (d e : Demand) → IsIn more d → Has (demands_of (new n) d) e
      → IsPaid orders on_disk wanted more d e
  pub on_data : (d : Demand) → IsIn more d → d.what ≡ VERSION → byte (new n) 0 ≡ DATA_KIND

-- ---- numbers

-- The header comes to say a greater next number, and maybe another last transaction inventory page.
pub record RaisesHeader (size : ℕ) (old new : Pages) (last : ℕ) : Type 0 where
  pub others : (n : ℕ) → n ≢ 0 → new n ≡ old n
  pub len : length (new 0) ≡ size
  pub was : Header
  pub was_read : reading (old 0) size ≡ Ok was
  pub is : Header
  pub reads : reading (new 0) size ≡ Ok is
  pub next : next_of new ≡ next_of old + 1
  pub last_is : (header_of new).last_tip.0 ≡ last
  pub catalog : (header_of new).catalog ≡ (header_of old).catalog

-- the number is drawn
abbrev pub number_more : ℕ → DemandSet
number_more t = listed (want_of 0 NEXT t 0 ∷ [])

-- A page was made the transaction inventory page of a sequence, behind another one.
pub record MakesTip (size : ℕ) (old new : Pages) (n s prev : ℕ) : Type 0 where
  pub others : (m : ℕ) → m ≢ n → new m ≡ old m
  pub is : new n ≡ new_tip_page size n s prev
  pub off_inventory : (region : ℕ) → inventory_page size region ≢ n
  pub used : is_used size old n ≡ true
  pub small : (n < 2 ^ 32) × (s < 2 ^ 32) × (prev < 2 ^ 32)
  pub some : s ≢ 0

-- On the page of a sequence the state of one place is set. The header reads, and says a next number
-- above this transaction's.
pub record SetsBits (size : ℕ) (old new : Pages) (n s place : ℕ) (state : TxState) : Type 0 where
  pub others : (m : ℕ) → m ≢ n → new m ≡ old m
  pub sets : SetsState (old n) (new n) place state
  pub passes : PassesAll (tip_checks (old n) n s)
  pub off_header : n ≢ 0
  pub off_inventory : (region : ℕ) → inventory_page size region ≢ n
  pub head : is_header size (old 0) ≡ true
  pub drawn : s * places size + place < next_of old

-- ---- tables

-- A page of a table's chain has one entry more.
pub record ListsData (size : ℕ) (old new : Pages) (q n owner at : ℕ) : Type 0 where
  pub others : (m : ℕ) → m ≢ q → new m ≡ old m
  pub adds : AddsEntry (old q) (new q) n
  pub was_passes : PassesAll (pointer_checks (old q) q owner at)
  pub passes : PassesAll (pointer_checks (new q) q owner at)
  pub off_header : q ≢ 0
  pub off_inventory : (region : ℕ) → inventory_page size region ≢ q

-- The last pointer page of a chain comes to name a next one.
pub record LinksNext (size : ℕ) (old new : Pages) (q p owner at : ℕ) : Type 0 where
  pub others : (m : ℕ) → m ≢ q → new m ≡ old m
  pub sets : SetsNext (old q) (new q) p
  pub was_passes : PassesAll (pointer_checks (old q) q owner at)
  pub passes : PassesAll (pointer_checks (new q) q owner at)
  pub off_header : q ≢ 0
  pub off_inventory : (region : ℕ) → inventory_page size region ≢ q

-- A taken page was made the data page of an owner at a place, or a pointer page with one entry.
pub record MakesTablePage (size : ℕ) (old new : Pages) (n : ℕ) : Type 0 where
  pub others : (m : ℕ) → m ≢ n → new m ≡ old m
  pub len : length (new n) ≡ size
  pub off_inventory : (region : ℕ) → inventory_page size region ≢ n
  pub used : is_used size old n ≡ true

-- ---- cells

-- A slot of a data page has this cell now, or none. No other page has changed.
pub record SetsSlot (size : ℕ) (old new : Pages) (x slot : ℕ) (cell : Option (List ℕ)) : Type 0 where
  pub others : (m : ℕ) → m ≢ x → new m ≡ old m
  pub sets : SetsCell (old x) (new x) slot cell
  pub data_ : byte (old x) 0 ≡ DATA_KIND
  pub off_header : x ≢ 0
  pub off_inventory : (region : ℕ) → inventory_page size region ≢ x
  pub used : is_used size old x ≡ true

-- whatever version a slot had, it has one of the same transaction
abbrev pub KeepsVersion : Option (List ℕ) → Option (List ℕ) → Type 0
KeepsVersion old new = (t : ℕ) → is_version_of t (slot_cell old) ≡ true → is_version_of t (slot_cell new) ≡ true

-- What is newly wanted of a cell: the version that it is, where it is one of a transaction.
abbrev pub version_more : ℕ → ℕ → Option ℕ → DemandSet
version_more x slot None = listed []
version_more x slot (Some t) = listed (want_of x VERSION slot t ∷ [])

-- the cell is a version of that transaction, if one is named
abbrev pub IsVersionCell : Option (List ℕ) → Option ℕ → Type 0
IsVersionCell cell None = Unit {0}
IsVersionCell cell (Some t) = is_version_of t (slot_cell cell) ≡ true

-- the version of a slot
abbrev pub version_at : ℕ → ℕ → ℕ → Which
version_at x slot t d = d.what == VERSION && (d.target == x && (d.a == slot && d.b == t))

-- What the cell of a slot owes, in place of the one before it. What it leads to, as one of its page and as a
-- version, the one before led to, or it is paid for; of a version that is newly wanted all is paid for. And
-- what may be dropped, to which the one before led, it leads to still, or its page is ordered first.
pub record OwesCell (x : ℕ) (old new : Option (List ℕ)) (slot : ℕ) (of : Option ℕ) (orders : Orders)
    (settled : ℕ → Bool) (on_disk wanted : DemandSet) : Type 0 where
  pub led : (d e : Demand) → d.target ≡ x → Has (cell_demands (slot_cell new)) e
      → Has (cell_demands (slot_cell old)) e ⊎ IsPaid orders on_disk wanted (version_more x slot of) d e
  pub wanted_led : (d e : Demand) → d.target ≡ x → d.a ≡ slot → Has (wanted_demands (slot_cell new)) e
      → Has (wanted_demands (slot_cell old)) e ⊎ IsPaid orders on_disk wanted (version_more x slot of) d e
  pub new_led : (d e : Demand) → d.target ≡ x → IsIn (version_more x slot of) d
      → Has (wanted_demands (slot_cell new)) e → IsPaid orders on_disk wanted (version_more x slot of) d e
  pub leaves : (e : Demand) → may_go settled e ≡ true → e.target ≢ x → Has (cell_demands (slot_cell old)) e
      → Has (cell_demands (slot_cell new)) e ⊎ (orders x e.target ≡ true)
  pub wanted_leaves : (e : Demand) → may_go settled e ≡ true → e.target ≢ x
      → Has (wanted_demands (slot_cell old)) e
      → Has (wanted_demands (slot_cell new)) e ⊎ (orders x e.target ≡ true)

-- A slot of a data page is cleared, in which a version of a transaction stood that is not settled. It stood
-- outside its record's primary slot, nothing that is wanted leads to it, and what it led to may not be
-- dropped.
pub record FreesVersion (size : ℕ) (old new : Pages) (x slot t : ℕ) (settled : ℕ → Bool)
    (wanted : DemandSet) : Type 0 where
  pub sets : SetsSlot size old new x slot None
  pub stood : is_version_of t (slot_cell (cell_of (old x) slot)) ≡ true
  pub moved : (e : Demand) → Has (cell_demands (slot_cell (cell_of (old x) slot))) e → ⊥
  pub unsettled : settled t ≡ false
  pub behind : (e : Demand) → Has (wanted_demands (slot_cell (cell_of (old x) slot))) e
      → may_go settled e ≡ false
  pub unled : (d : Demand) → IsIn wanted d
      → Has (demands_of (old d.target) d) (want_of x VERSION slot t) → ⊥

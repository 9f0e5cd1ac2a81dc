-- What each step of a batch pays: the laws, of one page each.
use Rattle.std.specs.Prelude.{◌≡◌, ◌⊎◌, ◌/◌, ◌+◌, ◌-◌, ◌*◌, ℕ, Bool, true, List, [], ◌∷◌, Option}
use Rattle.mg_base.specs.Checks.{PassesAll, common_checks}
use Rattle.mg_base.specs.declared.geometry.Geometry.{Geometry}
use Rattle.mg_base.specs.declared.transaction.TxState.{TxState}
use Rattle.mg_careful.specs.declared.links.Demand.{Demand}
use Rattle.mg_careful.specs.Precedence.{Orders}
use Rattle.mg_careful.specs.CarefulWrite.{DemandSet, Has, IsIn, either, listed}
use Rattle.mg_demand_laws.specs.Bearing.{IsPaid}
use Rattle.mg_image.specs.Form.{Pages}
use Rattle.mg_image.specs.Inventory.{header_of, is_used, next_of}
use Rattle.mg_image.specs.Records.{slot_cell}
use Rattle.mg_pointer.specs.PointerPage.{capacity, count_in, entries_of, next_in, pointer_checks}
use Rattle.mg_slots.specs.DataPage.{cell_of, slot_count}
use Rattle.mg_slots.specs.declared.page.TheConstants.{DATA_KIND}
use Rattle.mg_space.specs.Demands.{bit_demand, cell_demands, linked, wanted_demands}
use Rattle.mg_space.specs.Taking.{IsGeometry, TakesPage}
use Rattle.mg_space.specs.declared.links.TheConstants.{DATA, HEADER, POINTER, TRANSACTIONS}
use Rattle.mg_tip.specs.TipPage.{places}
use Rattle.mg_demand_laws.specs.Steps.{FreesVersion, IsUnwanted, IsVersionCell, KeepsVersion, LinksNext, ListsData, MakesPage, MakesTablePage, MakesTip, OwesCell, RaisesHeader, SetsBits, SetsSlot, no_more, number_more, version_at, version_more}
use Rattle.mg_demand_laws.specs.Wanting.{Drops, IsWanting, Pays, want_of}

-- two steps, one after the other, are one
abbrev pub StepsAreOne : Type 0
StepsAreOne = (size : ℕ) (old mid new : Pages) (orders : Orders) (settled : ℕ → Bool) (on_disk wanted more most : DemandSet)
    → Pays size old mid orders settled on_disk wanted more
    → Pays size mid new orders settled on_disk (either wanted more) most
    → Pays size old new orders settled on_disk wanted (either more most)

-- a page is taken: its bit is wanted newly, and costs no order
abbrev pub TakingPays : Type 0
TakingPays = (g : Geometry) (old new : Pages) (n : ℕ) (orders : Orders) (settled : ℕ → Bool) (on_disk wanted : DemandSet)
    → IsGeometry g → TakesPage g old new n → IsWanting g.size old wanted
    → Pays g.size old new orders settled on_disk wanted (listed (bit_demand g.size n)) × IsUnwanted wanted n

-- a taken page is made
abbrev pub MakingPays : Type 0
MakingPays = (size : ℕ) (old new : Pages) (n : ℕ) (orders : Orders) (settled : ℕ → Bool) (on_disk wanted more : DemandSet)
    → IsWanting size old wanted → MakesPage size old new n orders on_disk wanted more
    → Pays size old new orders settled on_disk wanted more

-- the header says the next number; a new last transaction inventory page has to be paid for
abbrev pub HeaderPays : Type 0
HeaderPays = (size : ℕ) (old new : Pages) (last : ℕ) (orders : Orders) (settled : ℕ → Bool) (on_disk wanted : DemandSet)
    → RaisesHeader size old new last → IsWanting size old wanted → is_used size old 0 ≡ true
    → ((e : Demand) → Has (linked size last TRANSACTIONS ((next_of new - 1) / places size) 0) e
    → Has (linked size (header_of old).last_tip.0 TRANSACTIONS ((next_of old - 1) / places size) 0) e
    ⊎ IsPaid orders on_disk wanted (number_more (next_of old)) (want_of 0 HEADER 0 0) e)
    → Pays size old new orders settled on_disk wanted (number_more (next_of old))

-- a new transaction inventory page: the page before it has to be paid for
abbrev pub TipPays : Type 0
TipPays = (size : ℕ) (old new : Pages) (n s prev : ℕ) (orders : Orders) (settled : ℕ → Bool) (on_disk wanted : DemandSet)
    → MakesTip size old new n s prev → IsWanting size old wanted → IsUnwanted wanted n
    → ((e : Demand) → Has (linked size prev TRANSACTIONS (s - 1) 0) e
    → IsPaid orders on_disk wanted (listed (want_of n TRANSACTIONS s 0 ∷ [])) (want_of n TRANSACTIONS s 0) e)
    → Pays size old new orders settled on_disk wanted (listed (want_of n TRANSACTIONS s 0 ∷ []))

-- the bits of a transaction are set, with the header before them
abbrev pub BitsPay : Type 0
BitsPay = (size : ℕ) (old new : Pages) (n s place : ℕ) (state : TxState) (orders : Orders)
    (settled : ℕ → Bool) (on_disk wanted : DemandSet) → SetsBits size old new n s place state → IsWanting size old wanted
    → is_used size old 0 ≡ true → orders 0 n ≡ true
    → Pays size old new orders settled on_disk wanted (number_more (s * places size + place))

-- a pointer page has an entry more: the data page has to be paid for, at its place
abbrev pub EntryPays : Type 0
EntryPays = (size : ℕ) (old new : Pages) (q n owner at : ℕ) (orders : Orders)
    (settled : ℕ → Bool) (on_disk wanted : DemandSet) → ListsData size old new q n owner at → IsWanting size old wanted
    → ((e : Demand) → Has (linked size n DATA owner (at * capacity size + count_in (old q))) e
    → IsPaid orders on_disk wanted no_more (want_of q POINTER owner at) e)
    → Pays size old new orders settled on_disk wanted no_more

-- a pointer page names a next one: that has to be paid for
abbrev pub NextPays : Type 0
NextPays = (size : ℕ) (old new : Pages) (q p owner at : ℕ) (orders : Orders)
    (settled : ℕ → Bool) (on_disk wanted : DemandSet) → LinksNext size old new q p owner at → IsWanting size old wanted
    → ((e : Demand) → Has (linked size p POINTER owner (at + 1)) e
    → IsPaid orders on_disk wanted no_more (want_of q POINTER owner at) e)
    → Pays size old new orders settled on_disk wanted no_more

-- a new data page has no cell
abbrev pub DataPays : Type 0
DataPays = (size : ℕ) (old new : Pages) (n owner place : ℕ) (orders : Orders)
    (settled : ℕ → Bool) (on_disk wanted : DemandSet) → MakesTablePage size old new n → IsWanting size old wanted
    → IsUnwanted wanted n → PassesAll (common_checks (new n) n DATA_KIND owner place)
    → slot_count (new n) ≡ 0
    → Pays size old new orders settled on_disk wanted (listed (want_of n DATA owner place ∷ []))

-- a new pointer page has one entry: its data page has to be paid for
abbrev pub PointerPays : Type 0
PointerPays = (size : ℕ) (old new : Pages) (p n owner at : ℕ) (orders : Orders)
    (settled : ℕ → Bool) (on_disk wanted : DemandSet) → MakesTablePage size old new p → IsWanting size old wanted
    → IsUnwanted wanted p
    → ((e : Demand) → Has (linked size n DATA owner (at * capacity size)) e
    → IsPaid orders on_disk wanted (listed (want_of p POINTER owner at ∷ [])) (want_of p POINTER owner at) e)
    → PassesAll (pointer_checks (new p) p owner at) → entries_of (new p) ≡ n ∷ []
    → next_in (new p) ≡ 0
    → Pays size old new orders settled on_disk wanted (listed (want_of p POINTER owner at ∷ []))

-- A slot has another cell, or none: whatever version it had, it has one of the same transaction; and what the
-- cell leads to has to be paid for.
abbrev pub CellPays : Type 0
CellPays = (size : ℕ) (old new : Pages) (x slot : ℕ) (cell : Option (List ℕ)) (of : Option ℕ) (orders : Orders)
    (settled : ℕ → Bool) (on_disk wanted : DemandSet) → SetsSlot size old new x slot cell
    → KeepsVersion (cell_of (old x) slot) cell → IsVersionCell cell of
    → IsWanting size old wanted
    → OwesCell x (cell_of (old x) slot) cell slot of orders settled on_disk wanted
    → Pays size old new orders settled on_disk wanted (version_more x slot of)

-- a version's cell is freed: the version is dropped
abbrev pub FreedCellDrops : Type 0
FreedCellDrops = (size : ℕ) (old new : Pages) (x slot t : ℕ) (orders : Orders) (settled : ℕ → Bool)
    (wanted : DemandSet) → FreesVersion size old new x slot t settled wanted → IsWanting size old wanted
    → Drops size old new orders settled wanted (version_at x slot t)

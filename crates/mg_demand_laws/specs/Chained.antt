-- What is wanted of records is wanted as their chains have it: one cell leads to each version.
use Rattle.std.specs.Prelude.{◌≡◌, ℕ, List, Some}
use Rattle.mg_careful.specs.declared.links.Demand.{Demand}
use Rattle.mg_careful.specs.CarefulWrite.{DemandSet, Has, IsIn}
use Rattle.mg_image.specs.Form.{Pages}
use Rattle.mg_image.specs.Records.{slot_cell}
use Rattle.mg_slots.specs.DataPage.{cell_of}
use Rattle.mg_space.specs.Demands.{cell_demands, wanted_demands}
use Rattle.mg_space.specs.declared.links.TheConstants.{DATA, VERSION}
use Rattle.mg_version.specs.Cells.{IsCell}
use Rattle.mg_version.specs.declared.cell.Cell.{Cell}
use Rattle.mg_demand_laws.specs.Wanting.{want_of}
use Rattle.mg_demand_laws.specs.Wants.{IsDataOf}

-- A cell leads to a thing, as one of a page that is wanted as a data page: an anchor does, to its record's newest
-- version; or as a version that is wanted, to the one behind it. The page is one under its number.
pub data Leads (size : ℕ) (wanted : DemandSet) (page : List ℕ) (n slot : ℕ) (e : Demand) : Type 0 where
  of_page : IsDataOf size wanted n → Has (cell_demands (slot_cell (cell_of page slot))) e
      → Leads size wanted page n slot e
  of_version : (t : ℕ) → IsIn wanted (want_of n VERSION slot t)
      → Has (wanted_demands (slot_cell (cell_of page slot))) e → Leads size wanted page n slot e

-- no two cells lead to one version
abbrev pub LeadOnce : ℕ → Pages → DemandSet → Type 0
LeadOnce size pages wanted = (n m slot other : ℕ) (e : Demand) → e.what ≡ VERSION
    → Leads size wanted (pages n) n slot e → Leads size wanted (pages m) m other e → (n ≡ m) × (slot ≡ other)

-- The versions that are wanted are chained: a page that is wanted as a data page, or that has a version that is
-- wanted, is wanted as a data page with its bit; each cell of such a page is well formed, so none is a version in its
-- primary slot; and no two cells lead to one version.
pub record IsChained (size : ℕ) (pages : Pages) (wanted : DemandSet) : Type 0 where
  pub with_bit : (n owner place : ℕ) → IsIn wanted (want_of n DATA owner place) → IsDataOf size wanted n
  pub placed : (n slot t : ℕ) → IsIn wanted (want_of n VERSION slot t) → IsDataOf size wanted n
  pub cells_are : (n slot : ℕ) (cell : Cell) → IsDataOf size wanted n
      → slot_cell (cell_of (pages n) slot) ≡ Some cell → IsCell cell
  pub once : LeadOnce size pages wanted

-- The data pages of a table as a list, each of which can be looked at by itself.
use Rattle.std.specs.Prelude.{◌≡◌, ◌⊎◌, ◌↔◌, ◌+◌, ℕ, zero, suc, false, List, [], ◌∷◌, ◌++◌, Result, Ok}
use Rattle.mg_base.specs.Fields.{u32_at}
use Rattle.mg_base.specs.declared.damage.Damaged.{Damaged}
use Rattle.mg_check_data.specs.DataRung.{IsDataFinding}
use Rattle.mg_check_data.specs.declared.data.DataSeat.{DataSeat}
use Rattle.mg_check_tables.specs.TableRung.{HasTable, IsTableFinding}
use Rattle.mg_findings.specs.declared.finding.Finding.{Finding}
use Rattle.mg_findings.specs.Findings.{Tells}
use Rattle.mg_image.specs.Form.{Pages}
use Rattle.mg_image.specs.Sound.{IsTableData}
use Rattle.mg_image.specs.Tables.{PointerChain, entries_in}
use Rattle.mg_pointer.specs.PointerPage.{place_of}

-- a data page as an entry of these bytes of a pointer page names it, whose first entry has a place
abbrev pub seat_on : List ℕ → ℕ → ℕ → ℕ → ℕ → DataSeat
seat_on b owner n place i = record {
  holder = n;
  page = u32_at b (place_of i);
  owner = owner;
  place = place + i;
}

-- those that the first entries name, so many
abbrev pub entry_seats : List ℕ → ℕ → ℕ → ℕ → ℕ → List DataSeat
entry_seats b owner n place zero = []
entry_seats b owner n place (suc i) =
    entry_seats b owner n place i ++ seat_on b owner n place i ∷ []

-- what is found of the data pages with these seats
abbrev pub IsSeatFinding : ℕ → Pages → ℕ → List DataSeat → Finding → Type 0
IsSeatFinding size pages count [] f = ⊥
IsSeatFinding size pages count (seat ∷ seats) f =
    IsDataFinding size pages count seat f ⊎ IsSeatFinding size pages count seats f

-- the data page with a seat is as a sound image asks it
abbrev pub IsWanted : ℕ → Pages → DataSeat → Type 0
IsWanted size pages seat = IsTableData false size pages seat.owner seat.place seat.page

-- those with these seats are
abbrev pub AreWanted : ℕ → Pages → List DataSeat → Type 0
AreWanted size pages [] = Unit {0}
AreWanted size pages (seat ∷ seats) = IsWanted size pages seat × AreWanted size pages seats

-- the pages that seats name
abbrev pub seat_pages : List DataSeat → List ℕ
seat_pages [] = []
seat_pages (seat ∷ seats) = seat.page ∷ seat_pages seats

-- These are the data pages of a table, in the order of the entries of its pointer pages.
pub record AreDataPages (pages : Pages) (first : ℕ) (ns : List ℕ) : Type 0 where
  pub pointers : List ℕ
  pub chain : PointerChain pages first pointers
  pub entries : ns ≡ entries_in pages pointers

-- The pointer pages of a table were followed up to the first damage, if there is one: these are the
-- data pages that those before it name. What is found in the table's pages is that damage, and what
-- is found of these.
pub record AreSeats (size : ℕ) (pages : Pages) (count holder first : ℕ) (seats : List DataSeat)
    (test : Result (Unit {0}) Damaged) : Type 0 where
  pub members : (f : Finding) → IsTableFinding size pages count holder first f
      ↔ (Tells test f ⊎ IsSeatFinding size pages count seats f)
  -- where no pointer page is damaged, the table is as wanted if these pages are
  pub decided : test ≡ Ok tt → AreWanted size pages seats → HasTable size pages first
  -- where none is damaged, these are all of its data pages
  pub listed : test ≡ Ok tt → AreDataPages pages first (seat_pages seats)

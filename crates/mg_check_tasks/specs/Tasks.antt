-- What is found of a data page, which is a task of its own.
use Rattle.std.specs.Prelude.{◌⊎◌, ◌↔◌, ℕ, List}
use Rattle.mg_check_data.specs.DataRung.{HasOne, IsDataFinding}
use Rattle.mg_check_data.specs.declared.data.DataSeat.{DataSeat}
use Rattle.mg_check_tables.specs.Seats.{IsWanted}
use Rattle.mg_findings.specs.declared.finding.Finding.{Finding}
use Rattle.mg_findings.specs.Findings.{Has}
use Rattle.mg_image.specs.Form.{Pages}

-- This is what is found of the data page with a seat, and where it is nothing, the page is as wanted.
pub record IsFoundOf (size : ℕ) (pages : Pages) (count : ℕ) (seat : DataSeat) (found : List Finding)
    : Type 0 where
  pub members : (f : Finding) → Has found f ↔ IsDataFinding size pages count seat f
  pub decided : HasOne (IsDataFinding size pages count seat) ⊎ IsWanted size pages seat

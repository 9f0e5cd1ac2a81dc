-- A page that was tested is a data page.
use Rattle.std.proofs.Common.{◌≡◌, ℕ, Bool, true, false, List}
use Rattle.std.specs.Bool.{OnTrue}
use Rattle.mg_slots.specs.DataPage.{IsDataPage}
use Rattle.mg_space.specs.Lawful.{IsLawfulPage}

pub tested_data : (page : ℕ) (bytes : List ℕ) (passes : Bool) → passes ≡ true
    → OnTrue passes (IsLawfulPage page bytes) → IsDataPage bytes
tested_data page bytes true is told = told.lawful
tested_data page bytes false is told = absurd cc

-- How many pages of a new database are free.
use Rattle.std.specs.Prelude.{◌≤◌, ◌+◌, ◌*◌, ℕ, suc}
use Rattle.mg_base.specs.declared.geometry.TheConstants.{GREATEST_LIMIT}
use Rattle.mg_pip.specs.PipPage.{bits}

-- A new database has so many free pages below a page limit: with the seven that it begins with, and with one inventory
-- page for each region behind the first into which they reach, they lie below the limit, and below the greatest one.
pub record HasNewRoom (size limit free : ℕ) : Type 0 where
  pub regions : ℕ
  pub within : 7 + free + regions ≤ limit
  pub least : 7 + free + regions ≤ GREATEST_LIMIT
  pub inside : 7 + free + regions ≤ suc regions * bits size

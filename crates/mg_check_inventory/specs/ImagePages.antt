-- The pages of a file that is looked after, and what is asked of each of them that is reached.
use Rattle.std.specs.Prelude.{◌≡◌, ◌+◌, ◌-◌, ◌==◌, ℕ, Bool, true, false, List, [], ◌∷◌, length, max, min, if◌then◌else◌}
use Rattle.mg_base.specs.Checks.{Check}
use Rattle.mg_base.specs.Geometry.{is_page_size}
use Rattle.mg_base.specs.Image.{Image, page_at}
use Rattle.mg_base.specs.declared.damage.Field.TheVariants.{Bit, Link, Presence}
use Rattle.mg_base.specs.declared.geometry.TheConstants.{GREATEST_LIMIT}
use Rattle.mg_base.specs.declared.numbers.PageNo.{PageNo}
use Rattle.mg_image.specs.Form.{Pages}
use Rattle.mg_image.specs.Inventory.{is_used}

-- Pages of a lawful size. One past the end reads as zero.
pub record IsWholeImage (size : ℕ) (image : Image) : Type 0 where
  pub lawful : is_page_size size ≡ true
  pub whole : (n : ℕ) → length (page_at size image n) ≡ size

-- a number as that of a page
abbrev pub numbered : ℕ → PageNo
numbered n = record { 0 = n }

-- a bit as a number
abbrev pub bit_number : Bool → ℕ
bit_number true = 1
bit_number false = 0

-- the test of a reached page's bit
abbrev pub bit_checks : ℕ → Pages → ℕ → List Check
bit_checks size pages n = (Bit, bit_number (is_used size pages n), 1) ∷ []

-- the test that a file with so many pages has a page: else wanted is the least number that has it
abbrev pub presence_checks : ℕ → ℕ → List Check
presence_checks count n = (Presence, count, max count (n + 1)) ∷ []

-- the number itself where a link may name it, else the greatest that one may name
abbrev pub lawful_link : ℕ → ℕ
lawful_link n = if n == 0 then GREATEST_LIMIT - 1 else min n (GREATEST_LIMIT - 1)

-- the test of a link that has to lead to a page: not to the header, and not past the limit
abbrev pub link_checks : ℕ → List Check
link_checks n = (Link, n, lawful_link n) ∷ []

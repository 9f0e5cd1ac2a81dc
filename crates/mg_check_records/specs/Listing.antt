-- The records of a table as a list of primary slots, and how many marks are set.
use Rattle.std.specs.Prelude.{◌+◌, ℕ, zero, suc, Bool, true, false, List, [], ◌∷◌, ◌++◌, Option, None, Some, get_or}
use Rattle.mg_base.specs.declared.numbers.RecId.{RecId}
use Rattle.mg_image.specs.Form.{Pages}
use Rattle.mg_image.specs.Records.{Cells, cells_of, newest_of}
use Rattle.mg_image.specs.Tables.{Has}
use Rattle.mg_slots.specs.DataPage.{slot_count}
use Rattle.mg_version.specs.declared.cell.Link.{Link}

-- ---- records

-- a slot, where it holds a link to a newest version
abbrev pub with_record : RecId → Option Link → List RecId
with_record p None = []
with_record p (Some link) = p ∷ []

-- the primary slots among the first slots of a page, so many
abbrev pub records_on : Cells → ℕ → ℕ → List RecId
records_on h n zero = []
records_on h n (suc k) = records_on h n k
    ++ with_record (record { page = record { 0 = n }; slot = k })
    (newest_of (record { page = record { 0 = n }; slot = k }) (h (record { page = record { 0 = n }; slot = k })))

-- those of these data pages, in their order
abbrev pub records_of : Pages → List ℕ → List RecId
records_of pages [] = []
records_of pages (n ∷ ns) = records_on (cells_of pages) n (slot_count (pages n)) ++ records_of pages ns

-- each of these slots is on one of these data pages
abbrev pub ArePlaced : List ℕ → List RecId → Type 0
ArePlaced ns [] = Unit {0}
ArePlaced ns (p ∷ ps) = Has ns p.page.0 × ArePlaced ns ps

-- ---- marks

abbrev pub mark_number : Bool → ℕ
mark_number true = 1
mark_number false = 0

-- how many marks below a number are set
abbrev pub set_below : List Bool → ℕ → ℕ
set_below marks zero = 0
set_below marks (suc n) = set_below marks n + mark_number (get_or marks n false)

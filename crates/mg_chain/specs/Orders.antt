-- Which pages a batch that writes versions orders before which.
use Rattle.std.specs.Prelude.{◌==◌, ◌++◌, ◌∷◌, ℕ, List, [], Option, None, Some, if◌then◌else◌}
use Rattle.mg_careful.specs.declared.graph.Order.{Order}
use Rattle.mg_heap.specs.Growth.{before}
use Rattle.mg_pool.specs.Batch.{is_in}
use Rattle.mg_pool.specs.declared.batch.BatchPage.{BatchPage}
use Rattle.mg_version.specs.declared.cell.Link.{Link}

-- each of these pages before one, but that one itself
abbrev pub before_page : List ℕ → ℕ → List Order
before_page [] later = []
before_page (n ∷ ns) later =
    if n == later then before_page ns later else before n later ∷ before_page ns later

-- the page that a link leads to, where a batch does not change it
abbrev pub unchanged_page : List BatchPage → Option Link → List ℕ
unchanged_page pages None = []
unchanged_page pages (Some link) = if is_in pages link.rec.page.0 then [] else link.rec.page.0 ∷ []

-- The orders of a version that is put on a page: the header before it, and the page of the version
-- that it leads to, unless the batch changes that.
abbrev pub version_orders : List BatchPage → ℕ → Option Link → List Order
version_orders pages page back =
    before_page (0 ∷ []) page ++ before_page (unchanged_page pages back) page

-- The orders of a primary slot that comes to lead to a new version: the header, the version's page,
-- and the pointer pages by which that is reached, before the slot's page.
abbrev pub slot_orders : ℕ → ℕ → List ℕ → List Order
slot_orders page slot_page pointers =
    before_page (0 ∷ page ∷ []) slot_page ++ before_page pointers slot_page

-- of a push
abbrev pub push_orders : List BatchPage → ℕ → ℕ → Option Link → List ℕ → List Order
push_orders pages page slot_page back pointers =
    version_orders pages page back ++ slot_orders page slot_page pointers

-- of a first version: the pointer pages by which the slot's page is reached, too
abbrev pub first_orders : List BatchPage → ℕ → ℕ → List ℕ → List ℕ → List Order
first_orders pages page slot_page pointers slot_pointers =
    push_orders pages page slot_page None pointers ++ before_page slot_pointers slot_page

-- of a version that is moved to another cell: the slot's page before that of the freed cell, too
abbrev pub move_orders : List BatchPage → ℕ → ℕ → Option Link → List ℕ → List ℕ → ℕ → List Order
move_orders pages page slot_page back pointers slot_pointers freed =
    push_orders pages page slot_page back pointers ++ before_page slot_pointers slot_page
    ++ before_page (slot_page ∷ []) freed

-- Of a version that is taken out: the page that the slot leads to then, unless the batch changes it,
-- and the pointer pages, before the slot's page; and that before the page of the freed cell.
abbrev pub out_orders : List BatchPage → ℕ → Option Link → List ℕ → ℕ → List Order
out_orders pages slot_page back slot_pointers freed =
    before_page (unchanged_page pages back) slot_page ++ before_page slot_pointers slot_page
    ++ before_page (slot_page ∷ []) freed

use Rattle.std.proofs.Common.{◌≡◌, ◌<◌, ℕ, false, List, Some}
use Rattle.mg_slots.specs.DataPage.{cell_of}
use Rattle.mg_image.specs.Sound.{IsCellOf}
use Rattle.mg_reading.proofs.data.check_cells.Given as goal

abbrev pub invariant-loop-slot : goal.invariant-loop-slot
invariant-loop-slot l = (slot : ℕ) (bytes : List ℕ) → slot < l.slot
    → cell_of l.page slot ≡ Some bytes → IsCellOf false bytes

use Rattle.mg_slots.specs.DataPage.{IsDataPage}
use Rattle.mg_image_tests.proofs.tests.pages.put_cells.Given as goal

abbrev pub invariant-loop-cell : goal.invariant-loop-cell
invariant-loop-cell l = IsDataPage l.b

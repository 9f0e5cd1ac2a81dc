use Rattle.mg_slots.specs.DataPage.{IsDataPage}
use Rattle.mg_image_tests.proofs.tests.pages.put_rows.Given as goal

abbrev pub invariant-loop-said : goal.invariant-loop-said
invariant-loop-said l = IsDataPage l.b

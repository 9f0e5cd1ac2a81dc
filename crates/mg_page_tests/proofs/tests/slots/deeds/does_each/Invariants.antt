use Rattle.mg_slots.specs.DataPage.{IsDataPage}
use Rattle.mg_page_tests.proofs.tests.slots.deeds.does_each.Given as goal

abbrev pub invariant-loop-place : goal.invariant-loop-place
invariant-loop-place g l = IsDataPage l.b

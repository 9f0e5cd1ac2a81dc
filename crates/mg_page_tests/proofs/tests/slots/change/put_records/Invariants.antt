use Rattle.mg_slots.specs.DataPage.{IsDataPage}
use Rattle.mg_page_tests.proofs.tests.slots.change.put_records.Given as goal

abbrev pub invariant-loop-records : goal.invariant-loop-records
invariant-loop-records l = IsDataPage l.b

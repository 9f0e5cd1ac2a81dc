use Rattle.std.proofs.Common.{◌≡◌, ◌++◌}
use Rattle.mg_seek.specs.TableRecords.{records_below}
use Rattle.mg_seek.proofs.listing.add_records.Given as goal

abbrev pub invariant-loop-slot : goal.invariant-loop-slot
invariant-loop-slot l = l.records.items ≡ l.initial.records.items ++ records_below l.b l.page.0 l.slot

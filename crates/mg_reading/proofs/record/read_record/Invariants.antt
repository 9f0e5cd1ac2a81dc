use Rattle.std.proofs.Common.{◌-◌, ◌^◌, length}
use Rattle.mg_reading.proofs.VersionsLemmas.{IsReading}
use Rattle.mg_reading.proofs.record.read_record.Given as goal

abbrev pub invariant-loop-next : goal.invariant-loop-next
invariant-loop-next l = IsReading l.coding l.image l.table l.data_pages l.fn.newest l.entries.items
    l.next

abbrev pub decreases-loop-next : goal.decreases-loop-next
decreases-loop-next l = 2 ^ 33 - length l.entries.items

use Rattle.std.proofs.Common.{length}
use Rattle.std.specs.Prelude.{◌↔◌}
use Rattle.mg_soundness.specs.IndexRule.{EachAt, IsRecordIndexed}
use Rattle.mg_soundness.proofs.indexed.are_records_indexed.Given as goal

abbrev pub invariant-loop-record : goal.invariant-loop-record
invariant-loop-record l = EachAt (IsRecordIndexed l.image l.stand.table) l.found
    ↔ EachAt (IsRecordIndexed l.image l.stand.table) l.rest

abbrev pub decreases-loop-record : goal.decreases-loop-record
decreases-loop-record l = length l.rest

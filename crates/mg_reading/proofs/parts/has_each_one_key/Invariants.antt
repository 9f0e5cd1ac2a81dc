use Rattle.std.proofs.Common.{length}
use Rattle.std.specs.Prelude.{◌↔◌}
use Rattle.mg_reading.specs.Found.{EachFound}
use Rattle.mg_reading.specs.RecordParts.{HaveOneKey}
use Rattle.mg_reading.proofs.parts.has_each_one_key.Given as goal

abbrev pub invariant-loop-first : goal.invariant-loop-first
invariant-loop-first l = EachFound (HaveOneKey l.table) l.found ↔ EachFound (HaveOneKey l.table) l.rest

abbrev pub decreases-loop-first : goal.decreases-loop-first
decreases-loop-first l = length l.rest

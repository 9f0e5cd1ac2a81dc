use Rattle.std.proofs.Common.{length}
use Rattle.std.specs.Prelude.{◌↔◌}
use Rattle.mg_image.specs.Tables.{EachStand}
use Rattle.mg_layout.specs.Standing.{stands_in}
use Rattle.mg_soundness.specs.IndexRule.{IsTableIndexed}
use Rattle.mg_soundness.specs.Joined.{AreSettled, EachRead, EachTable, IsTested, founds_in}
use Rattle.mg_soundness.proofs.indexed.are_tables_indexed.Given as goal

abbrev pub invariant-loop-stand : goal.invariant-loop-stand
invariant-loop-stand l = record {
  trees : EachStand (IsTested l.image) (stands_in l.rest);
  settled : EachRead AreSettled (founds_in l.left);
  same : EachTable (IsTableIndexed l.image) (stands_in l.stands) (founds_in l.records)
      ↔ EachTable (IsTableIndexed l.image) (stands_in l.rest) (founds_in l.left);
}

abbrev pub decreases-loop-stand : goal.decreases-loop-stand
decreases-loop-stand l = length l.rest

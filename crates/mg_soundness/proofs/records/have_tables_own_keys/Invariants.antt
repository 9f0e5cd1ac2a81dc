use Rattle.std.proofs.Common.{length}
use Rattle.std.specs.Prelude.{◌↔◌}
use Rattle.mg_layout.specs.Standing.{stands_in}
use Rattle.mg_soundness.specs.Joined.{AreSettled, EachRead, EachTable, IsKeyed, founds_in}
use Rattle.mg_soundness.proofs.records.have_tables_own_keys.Given as goal

abbrev pub invariant-loop-stand : goal.invariant-loop-stand
invariant-loop-stand l = record {
  settled : EachRead AreSettled (founds_in l.left);
  same : EachTable (IsKeyed l.image) (stands_in l.stands) (founds_in l.records)
      ↔ EachTable (IsKeyed l.image) (stands_in l.rest) (founds_in l.left);
}

abbrev pub decreases-loop-stand : goal.decreases-loop-stand
decreases-loop-stand l = length l.rest

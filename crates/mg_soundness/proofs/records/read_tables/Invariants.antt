use Rattle.std.proofs.Common.{List, ◌++◌, length}
use Rattle.mg_image.specs.Tables.{HasStand, Stand, stands_of}
use Rattle.mg_layout.specs.Standing.{layout_in, stands_in}
use Rattle.mg_reading.specs.declared.found.Found.{Found}
use Rattle.mg_soundness.specs.Joined.{EachTable, IsTableRead, founds_in}
use Rattle.mg_soundness.proofs.records.read_tables.Given as goal

abbrev pub invariant-loop-stand : goal.invariant-loop-stand
invariant-loop-stand l = record {
  among : (s : Stand) → HasStand (stands_in l.rest) s
      → HasStand (stands_of (layout_in l.standing)) s;
  whole : (more : List (List Found))
      → EachTable (IsTableRead l.coding l.image) (stands_in l.rest) more
      → EachTable (IsTableRead l.coding l.image) (stands_of (layout_in l.standing))
      (founds_in l.records.items ++ more);
}

abbrev pub decreases-loop-stand : goal.decreases-loop-stand
decreases-loop-stand l = length l.rest

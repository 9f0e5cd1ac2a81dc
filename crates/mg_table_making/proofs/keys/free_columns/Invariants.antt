use Rattle.std.proofs.Common.{◌≡◌, ◌+◌, length}
use Rattle.mg_core.specs.Cores.{IsCore}
use Rattle.mg_core.specs.declared.parts.Core.{Core}
use Rattle.mg_model.specs.declared.refusal.Refusal.{Refusal}
use Rattle.mg_table_making.specs.Keys.{AreFreeKeys, FailsColumnKeys}
use Rattle.mg_table_making.proofs.keys.free_columns.Given as goal

abbrev pub invariant-loop-key : goal.invariant-loop-key
invariant-loop-key g l = record {
  core : IsCore g.D.Disk.meaning l.core;
  places : l.place + length l.rest ≡ 1 + length l.keys;
  free : (new : Core g.row.D.Denot) → AreFreeKeys g.D.Disk.meaning l.t l.rest l.core new
      → AreFreeKeys g.D.Disk.meaning l.t l.keys l.initial.core new;
  fails : (new : Core g.row.D.Denot) (refusal : Refusal)
      → FailsColumnKeys g.D.Disk.meaning l.t l.count new refusal l.place l.rest l.core
      → FailsColumnKeys g.D.Disk.meaning l.t l.count new refusal 1 l.keys l.initial.core;
}

abbrev pub decreases-loop-key : goal.decreases-loop-key
decreases-loop-key g l = length l.rest

use Rattle.std.proofs.Common.{◌≡◌, ◌++◌, drop}
use Rattle.mg_image.specs.RecordRules.{erased_from}
use Rattle.mg_row_writes.proofs.storing.erased_columns.Given as goal

abbrev pub invariant-loop-at : goal.invariant-loop-at
invariant-loop-at l =
    l.erased.items ++ erased_from l.key l.at (drop l.at l.columns) ≡ erased_from l.key 0 l.columns

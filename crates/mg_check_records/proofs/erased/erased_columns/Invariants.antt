use Rattle.std.proofs.Common.{◌≡◌, ◌++◌, drop, length}
use Rattle.mg_image.specs.RecordRules.{erased_from}
use Rattle.mg_check_records.proofs.erased.erased_columns.Given as goal

abbrev pub invariant-loop-at : goal.invariant-loop-at
invariant-loop-at l =
    (l.erased.items ++ erased_from l.key l.at (drop l.at l.columns) ≡ erased_from l.key 0 l.columns)
    × (length l.erased.items ≡ l.at)

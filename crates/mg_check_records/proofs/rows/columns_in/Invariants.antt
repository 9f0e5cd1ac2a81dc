use Rattle.std.proofs.Common.{◌≡◌, ◌≤◌, ◌-◌, ◌++◌, length, take, drop}
use Rattle.mg_value.specs.Rows.{columns_of}
use Rattle.mg_check_records.proofs.rows.columns_in.Given as goal

-- so far each column is in the format
abbrev pub invariant-loop-count : goal.invariant-loop-count
invariant-loop-count l = record {
  inside : l.count ≤ length l.columns;
  so_far : columns_of l.columns l.format ≡ take l.count l.columns ++ columns_of (drop l.count l.columns) l.format;
}

abbrev pub decreases-loop-count : goal.decreases-loop-count
decreases-loop-count l = length l.columns - l.count

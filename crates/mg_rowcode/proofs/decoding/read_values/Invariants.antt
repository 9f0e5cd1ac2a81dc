use Rattle.std.proofs.Common.{◌≡◌, ◌++◌, ◌≤◌, drop, length}
use Rattle.std.specs.List.{sum_by}
use Rattle.mg_value.specs.Rows.{width_of}
use Rattle.mg_rowcode.specs.Reading.{values_in}
use Rattle.mg_rowcode.specs.Storable.{AreStorable}
use Rattle.mg_rowcode.proofs.decoding.read_values.Given as goal

-- with the other values the values are complete
abbrev pub invariant-loop-i : goal.invariant-loop-i
invariant-loop-i l = record {
  room : sum_by (λ column. width_of column.kind) (drop l.i l.columns) ≤ length l.rest;
  complete : l.values.items ++ values_in (drop l.i l.columns) (drop l.i l.flags) l.rest ≡ values_in l.columns l.flags l.bytes;
  storable : AreStorable l.values.items;
}

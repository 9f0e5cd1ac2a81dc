use Rattle.std.proofs.Common.{◌≡◌, ◌++◌, drop}
use Rattle.mg_value.specs.Rows.{RowFits, values_bytes}
use Rattle.mg_rowcode.specs.Storable.{AreStorable}
use Rattle.mg_rowcode.proofs.encoding.put_values.Given as goal

-- with the bytes of the rest the bytes are complete
abbrev pub invariant-loop-column : goal.invariant-loop-column
invariant-loop-column l = record {
  fits : RowFits (drop l.column-index l.columns) l.rest;
  storable : AreStorable l.rest → AreStorable l.values;
  complete : l.out.items ++ values_bytes (drop l.column-index l.columns) l.rest ≡ l.initial.out.items ++ values_bytes l.columns l.values;
}

use Rattle.std.proofs.Common.{◌≡◌, ◌≤◌, ◌+◌, ◌*◌, ◌/◌, ℕ, length, take, get_or, ◌<◌}
use Rattle.std.specs.List.{sum_by}
use Rattle.mg_value.specs.declared.shape.Column.{Column}
use Rattle.mg_value.specs.Rows.{width_of}
use Rattle.mg_value.proofs.shape.columns_len.Given as goal

abbrev width : Column → ℕ
width column = width_of column.kind

abbrev pub invariant-loop-column : goal.invariant-loop-column
invariant-loop-column l = record {
  sum : l.len ≡ (length l.columns + 7) / 8 + sum_by (λ column. width_of column.kind) (take l.column-index l.columns);
  bound : l.len ≤ 8 + 65537 * l.column-index;
  kinds : (k : ℕ) (d : Column) → k < l.column-index → width_of (get_or l.columns k d).kind ≤ 65537;
}

use Rattle.std.proofs.Common.{refl}
use Rattle.mg_catalog.specs.ByKey.{by_key}
use Rattle.mg_catalog.specs.RowRules.{ColumnAllows}
use Rattle.mg_catalog.proofs.AllowLemmas.{allows_at, allows_none}
use Rattle.mg_catalog.proofs.column_row.row_allows.Goals as goal

pub returns-in-Some : goal.returns-in-Some
returns-in-Some c = allows_at (ColumnAllows c.args.place c.args.row.now) (by_key c.args.rows.now)
    c.args.table.now c.args.other.now c.in-Some.at c.in-Some.column.now c.column_allows.result
    c.in-Some.ensures.0 c.in-Some.ensures.1 c.column_allows.ensures

pub returns-in-None : goal.returns-in-None
returns-in-None c = (
  λ passed. allows_none (ColumnAllows c.args.place c.args.row.now)
      (by_key c.args.rows.now) c.args.table.now c.args.other.now c.in-None.ensures,
  λ allows. refl,
)

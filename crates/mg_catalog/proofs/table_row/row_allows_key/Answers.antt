use Rattle.std.proofs.Common.{refl}
use Rattle.mg_catalog.specs.ByKey.{by_key}
use Rattle.mg_catalog.specs.RowRules.{IsKeyAt}
use Rattle.mg_catalog.proofs.AllowLemmas.{allows_at, allows_none}
use Rattle.mg_catalog.proofs.table_row.row_allows_key.Goals as goal

pub returns-in-Some : goal.returns-in-Some
returns-in-Some c = allows_at (IsKeyAt c.args.place) (by_key c.args.rows.now)
    c.args.name.now c.args.other.now c.in-Some.at c.in-Some.column.now c.keeps_key.result
    c.in-Some.ensures.0 c.in-Some.ensures.1 c.keeps_key.ensures

pub returns-in-None : goal.returns-in-None
returns-in-None c = (
  λ passed. allows_none (IsKeyAt c.args.place)
      (by_key c.args.rows.now) c.args.name.now c.args.other.now c.in-None.ensures,
  λ allows. refl,
)

use Rattle.std.proofs.Common.{sym, ◌∙◌}
use Rattle.mg_catalog.specs.KeyLaws.{other_table_tested, place_tested, same_key_other}
use Rattle.mg_model.specs.Catalog.{column_key}
use Rattle.mg_catalog.specs.ByKey.{row_key}
use Rattle.mg_catalog.proofs.find.is_column.Goals as goal

pub returns-then-eq : goal.returns-then-eq
returns-then-eq c = place_tested (row_key c.args.row.now) c.in-Some.found.now c.args.table.now
    c.in-Some.at c.args.place c.in-Some.ensures (sym c.if-eq.true ∙ c.eq.ensures)

pub returns-else-eq : goal.returns-else-eq
returns-else-eq c = other_table_tested (row_key c.args.row.now) c.in-Some.found.now
    c.args.table.now c.in-Some.at c.args.place c.eq.result c.in-Some.ensures c.eq.ensures
    c.if-eq.false

pub returns-in-None : goal.returns-in-None
returns-in-None c = sym (same_key_other (row_key c.args.row.now)
    (column_key c.args.table.now c.args.place) (c.in-None.ensures c.args.table.now c.args.place))

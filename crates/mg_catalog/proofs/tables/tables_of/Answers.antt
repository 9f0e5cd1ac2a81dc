use Rattle.std.proofs.Common.{◌∙◌}
use Rattle.std.proofs.lemmas.List.{take_all}
use Rattle.mg_catalog.specs.ByKey.{by_key}
use Rattle.mg_catalog.proofs.CatalogLemmas.{first_more, name_there, table_there, tables_are}
use Rattle.mg_catalog.proofs.tables.tables_of.Goals as goal

pub table_of-requires-clause-there : goal.table_of-requires-clause-there
table_of-requires-clause-there c = table_there c.args.rows.now c.deref-name-items.result.now
    c.as_slice.result.now (c.deref-name-items.ensures.value ∙ c.in_ok-names.ensures)
    (rw c.as_slice.ensures (name_there c.deref-name-items.result.now c.loop-name.name-index
    c.name-item.result c.loop-name-test.true c.name-item.is))

pub loop-name-preserved : goal.loop-name-preserved
loop-name-preserved c = first_more (by_key c.args.rows.now) c.deref-name-items.result.now
    c.loop-name.name-index c.loop-name.tables.items c.push.new.self.items
    c.in_ok-table_of.field-0 c.name-item.result c.loop-name-test.true c.loop-name.invariant
    c.in_ok-table_of.ensures.table (c.in_ok-table_of.ensures.named ∙ c.as_slice.ensures)
    c.name-item.is c.in_ok-push.ensures.items

pub returns-clause-tables : goal.returns-clause-tables
returns-clause-tables c = tables_are c.args.rows.now c.deref-name-items.result.now
    c.loop-name.tables.items c.in_ok-check_rows.ensures.lawful
    (c.deref-name-items.ensures.value ∙ c.in_ok-names.ensures) c.loop-name.invariant.0
    (c.loop-name.invariant.1
    ∙ take_all c.loop-name.name-index c.deref-name-items.result.now c.loop-name-test.false)

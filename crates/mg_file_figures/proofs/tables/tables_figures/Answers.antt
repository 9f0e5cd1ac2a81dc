use Rattle.mg_file_figures.proofs.ShownLemmas.{none_left}
use Rattle.mg_file_figures.proofs.TableLemmas.{tables_begin, tables_end, tables_go_on, tables_small, tables_stop}
use Rattle.mg_file_figures.proofs.tables.tables_figures.Goals as goal

pub loop-table-init : goal.loop-table-init
loop-table-init c = tables_begin c.args.size c.args.pages.now c.args.holder c.args.tables.now
    c.new-told.result.items c.new-told.ensures.items c.requires.columns

pub table_figures-requires-clause-columns : goal.table_figures-requires-clause-columns
table_figures-requires-clause-columns c = tables_small c.args.size c.args.pages.now c.args.holder
    c.args.tables.now c.loop-table.rest.now c.in-Some.later.now c.loop-table.told.items
    c.in-Some.table.now c.loop-table.invariant c.in-Some.ensures.cases.0

pub returns-in-Found : goal.returns-in-Found
returns-in-Found c = tables_stop c.args.size c.args.pages.now c.args.holder c.args.tables.now
    c.loop-table.rest.now c.in-Some.later.now c.loop-table.told.items c.in-Some.table.now
    c.in_ok-figures.field-0 c.in-Found.finding c.loop-table.invariant c.in-Some.ensures.cases.0
    c.in_ok-figures.ensures c.in-Found.is

pub loop-table-preserved : goal.loop-table-preserved
loop-table-preserved c = tables_go_on c.args.size c.args.pages.now c.args.holder c.args.tables.now
    c.loop-table.rest.now c.in-Some.later.now c.loop-table.told.items c.push.new.self.items
    c.in-Some.table.now c.in_ok-figures.field-0 c.in-Told.figures c.loop-table.invariant
    c.in-Some.ensures.cases.0 c.in_ok-figures.ensures c.in-Told.is c.in_ok-push.ensures.items

pub returns : goal.returns
returns c = tables_end c.args.size c.args.pages.now c.args.holder c.args.tables.now c.loop-table.rest.now
    c.loop-table.told.items c.loop-table.invariant (none_left c.loop-table.rest.now c.in_default.ensures.cases)

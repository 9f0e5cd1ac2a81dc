use Rattle.std.proofs.Common.{List}
use Rattle.mg_model.specs.CatalogRules.{EachTable}
use Rattle.mg_model.specs.declared.table.Table.{Table}
use Rattle.mg_catalog.specs.ByKey.{by_key}
use Rattle.mg_catalog.specs.TableLaws.{tables_are_small}
use Rattle.mg_layout.specs.Choices.{HasFewColumns}
use Rattle.mg_layout.proofs.ChoiceLemmas.{fit_refuted}
use Rattle.mg_layout.proofs.choices.tables_that_fit.Goals as goal

pub do_tables_fit-requires : goal.do_tables_fit-requires
do_tables_fit-requires c = rw c.deref.ensures.value
    (tables_are_small (by_key c.args.rows.now) c.args.tables.items c.requires)

pub returns-then-not-do_tables_fit-clause-broken :
    goal.returns-then-not-do_tables_fit-clause-broken
returns-then-not-do_tables_fit-clause-broken c = fit_refuted c.args.image.now.size
    c.args.rows.now c.args.tables.items c.requires
    (λ fit. absurd (let passed = c.if-not-do_tables_fit.ensures.1 (rw (c.deref.ensures.value, c.size.ensures.size) fit) in cc))

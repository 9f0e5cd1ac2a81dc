use Rattle.std.proofs.Common.{◌∙◌, ap}
use Rattle.mg_image.specs.Catalog.{catalog_table}
use Rattle.mg_layout.specs.Refusals.{CanAllStand, HasLayout, NamesSome}
use Rattle.mg_layout.specs.Standing.{stand_in}
use Rattle.mg_layout.proofs.LayoutLemmas.{catalog_names, tables_stand}
use Rattle.mg_layout.proofs.RefusalLemmas.{passed_on}
use Rattle.mg_layout.proofs.layout.find_layout.Goals as goal

pub returns-in_err-tables-clause-broken : goal.returns-in_err-tables-clause-broken
returns-in_err-tables-clause-broken c = passed_on
    (NamesSome c.args.coding c.args.image.now (stand_in c.in_ok-catalog.catalog))
    (HasLayout c.args.coding c.args.image.now)
    (catalog_names c.args.coding c.args.image.now (stand_in c.in_ok-catalog.catalog)
    (c.in_ok-catalog.ensures.table ∙ (c.in_ok-catalog_table.ensures
    ∙ ap catalog_table c.catalog_at.ensures)) c.in_ok-catalog.ensures.stand)
    c.from_residual-in_err-tables.result c.in_err-tables.field-0.0
    c.from_residual-in_err-tables.ensures.1 c.in_err-tables.ensures.broken

pub returns-in_err-tables-2-clause-broken : goal.returns-in_err-tables-2-clause-broken
returns-in_err-tables-2-clause-broken c = passed_on
    (CanAllStand c.args.image.now c.in_ok-tables.tables.items)
    (HasLayout c.args.coding c.args.image.now)
    (tables_stand c.args.coding c.one_reading.ensures.plain c.one_reading.ensures.packed
    c.args.image.now
    (stand_in c.in_ok-catalog.catalog) c.in_ok-tables.tables.items
    (c.in_ok-catalog.ensures.table ∙ (c.in_ok-catalog_table.ensures
    ∙ ap catalog_table c.catalog_at.ensures)) c.in_ok-catalog.ensures.stand
    c.in_ok-tables.ensures.names)
    c.from_residual-in_err-tables-2.result c.in_err-tables-2.field-0.0
    c.from_residual-in_err-tables-2.ensures.1 c.in_err-tables-2.ensures.broken

use Rattle.std.proofs.Common.{length}
use Rattle.std.specs.Prelude.{◌↔◌}
use Rattle.mg_model.specs.CatalogRules.{EachTable}
use Rattle.mg_image.specs.Catalog.{StaysAmong}
use Rattle.mg_layout.proofs.tables.do_tables_stay.Given as goal

abbrev pub invariant-loop-table : goal.invariant-loop-table
invariant-loop-table l = EachTable (StaysAmong l.others) l.tables
    ↔ EachTable (StaysAmong l.others) l.rest

abbrev pub decreases-loop-table : goal.decreases-loop-table
decreases-loop-table l = length l.rest

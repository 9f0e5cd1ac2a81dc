use Rattle.std.proofs.Common.{length}
use Rattle.std.specs.Prelude.{◌↔◌}
use Rattle.mg_model.specs.CatalogRules.{EachTable}
use Rattle.mg_image.specs.Catalog.{FitsPages}
use Rattle.mg_layout.specs.Choices.{HasFewColumns}
use Rattle.mg_layout.proofs.tables.do_tables_fit.Given as goal

abbrev pub invariant-loop-table : goal.invariant-loop-table
invariant-loop-table l = record {
  few : EachTable HasFewColumns l.rest;
  same : EachTable (FitsPages l.size) l.tables ↔ EachTable (FitsPages l.size) l.rest;
}

abbrev pub decreases-loop-table : goal.decreases-loop-table
decreases-loop-table l = length l.rest

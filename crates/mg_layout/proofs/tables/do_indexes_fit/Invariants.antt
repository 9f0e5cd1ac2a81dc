use Rattle.std.proofs.Common.{◌≤◌, length}
use Rattle.std.specs.Prelude.{◌↔◌, ◌/◌}
use Rattle.mg_model.specs.CatalogRules.{EachIndex}
use Rattle.mg_image.specs.Catalog.{longest_key}
use Rattle.mg_layout.proofs.tables.do_indexes_fit.Given as goal

abbrev pub invariant-loop-index : goal.invariant-loop-index
invariant-loop-index l =
    EachIndex (λ index. longest_key l.columns index.column ≤ l.size / 8) l.indexes
    ↔ EachIndex (λ index. longest_key l.columns index.column ≤ l.size / 8) l.rest

abbrev pub decreases-loop-index : goal.decreases-loop-index
decreases-loop-index l = length l.rest

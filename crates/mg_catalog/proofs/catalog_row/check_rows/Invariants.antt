use Rattle.std.proofs.Common.{◌<◌, ℕ}
use Rattle.mg_catalog.specs.FirstBad.{IsLawfulAt}
use Rattle.mg_catalog.proofs.catalog_row.check_rows.Given as goal

abbrev pub invariant-loop-at : goal.invariant-loop-at
invariant-loop-at l = (before : ℕ) → before < l.at → IsLawfulAt l.rows before

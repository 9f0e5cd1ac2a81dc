use Rattle.std.proofs.Common.{◌<◌, ℕ}
use Rattle.mg_model.specs.CatalogRules.{IsKeyColumn}
use Rattle.mg_catalog.specs.ByKey.{by_key}
use Rattle.mg_catalog.proofs.table_row.key_place.Given as goal

abbrev pub invariant-loop-place : goal.invariant-loop-place
invariant-loop-place l =
    (place : ℕ) → place < l.place → IsKeyColumn (by_key l.rows) l.name place → ⊥

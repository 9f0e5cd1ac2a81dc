use Rattle.std.proofs.Common.{◌≡◌, ◌-◌}
use Rattle.mg_model.specs.Catalog.{key_said}
use Rattle.mg_catalog.specs.ByKey.{by_key}
use Rattle.mg_catalog.proofs.columns.key_of.Given as goal

abbrev pub invariant-loop-place : goal.invariant-loop-place
invariant-loop-place l = key_said (by_key l.rows) l.table l.place (l.count - l.place)
    ≡ key_said (by_key l.rows) l.table 0 l.count

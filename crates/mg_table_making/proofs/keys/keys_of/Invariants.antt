use Rattle.std.proofs.Common.{◌≡◌, ◌++◌, length}
use Rattle.std.specs.Prelude.{map}
use Rattle.mg_model.specs.Catalog.{key_of}
use Rattle.mg_table_making.specs.Keys.{HaveKeys}
use Rattle.mg_table_making.proofs.keys.keys_of.Given as goal

abbrev pub invariant-loop-row : goal.invariant-loop-row
invariant-loop-row l = record {
  keys : map (key_of l.table.shape) l.rows ≡ l.keys.items ++ map (key_of l.table.shape) l.rest;
  rest : HaveKeys l.table.shape l.rest;
}

abbrev pub decreases-loop-row : goal.decreases-loop-row
decreases-loop-row l = length l.rest

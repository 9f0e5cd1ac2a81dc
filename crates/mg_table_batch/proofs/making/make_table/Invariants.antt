use Rattle.std.proofs.Common.{◌≡◌}
use Rattle.mg_pool.specs.Pool.{IsPool}
use Rattle.mg_table_batch.specs.Making.{GrowsAsWanted}
use Rattle.mg_table_batch.proofs.making.make_table.Given as goal

abbrev pub invariant-loop : goal.invariant-loop
invariant-loop g l = record {
  pool : IsPool g.D.Disk.meaning l.store;
  geometry : l.store.geometry ≡ l.initial.store.geometry;
  grows : GrowsAsWanted g.D.Disk.meaning l.catalog l.t.0 l.name l.shape l.counter l.initial.store l.store;
}

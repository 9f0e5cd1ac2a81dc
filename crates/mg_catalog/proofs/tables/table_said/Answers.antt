use Rattle.std.proofs.Common.{arith, refl}
use Rattle.mg_model.specs.CatalogRules.{primary_index}
use Rattle.mg_catalog.specs.ByKey.{by_key}
use Rattle.mg_catalog.specs.TableIndexes.{indexes_among}
use Rattle.mg_catalog.specs.Names.{all_indexes}
use Rattle.mg_catalog.proofs.CatalogLemmas.{indexes_are, table_is}
use Rattle.mg_catalog.proofs.IndexLemmas.{table_most, table_pointer, table_root}
use Rattle.mg_catalog.proofs.tables.table_said.Goals as goal

pub returns-clause-table : goal.returns-clause-table
returns-clause-table c = table_is c.args.rows.now (record {
  name = c.args.name;
  shape = c.in_ok-shape.shape;
  pointer = record { 0 = c.number_at-3.result };
  indexes = c.new.result;
}) c.args.row.now c.requires.catalog c.requires.there
    (rw (c.as_slice.ensures.bytes, c.number_at.ensures) at c.in_ok-shape.ensures)
    c.number_at-3.ensures
    (rw (← c.number_at-2.ensures) (indexes_are c.new.result c.add_indexes.new.indexes.items
    c.add_primary.new.indexes.items c.new-all.result.items
    (primary_index c.args.name c.in_ok-shape.shape.key c.number_at-2.result)
    (indexes_among (by_key c.args.rows.now) c.as_slice-2.result.now c.args.indexes.now)
    (indexes_among (by_key c.args.rows.now) c.args.name (all_indexes c.args.rows.now))
    c.new.ensures c.in_ok-add_indexes.ensures c.in_ok-add_primary.ensures c.new-all.ensures.items
    (rw (c.as_slice-2.ensures.bytes, c.requires.indexes) refl)))

pub returns-clause-named : goal.returns-clause-named
returns-clause-named c = refl

pub shape_of-requires-clause-most : goal.shape_of-requires-clause-most
shape_of-requires-clause-most c = table_most (by_key c.args.rows.now) c.requires.catalog c.args.name
    c.args.row.now c.number_at.result c.requires.there c.number_at.ensures

pub overflow_cast-number_at : goal.overflow_cast-number_at
overflow_cast-number_at c = omega (
  arith,
  table_root (by_key c.args.rows.now) c.requires.catalog c.args.name
      c.args.row.now c.number_at-2.result c.requires.there c.number_at-2.ensures,
)

pub overflow_cast-result : goal.overflow_cast-result
overflow_cast-result c = omega (
  arith,
  table_pointer (by_key c.args.rows.now) c.requires.catalog c.args.name
      c.args.row.now c.number_at-3.result c.requires.there c.number_at-3.ensures,
)

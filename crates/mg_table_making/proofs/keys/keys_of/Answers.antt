use Rattle.std.proofs.Common.{arith}
use Rattle.mg_model.specs.Catalog.{key_of}
use Rattle.mg_table_making.proofs.KeyLemmas.{first_has, keys_all, keys_more, no_rows_left}
use Rattle.mg_table_making.proofs.keys.keys_of.Goals as goal

pub loop-row-preserved : goal.loop-row-preserved
loop-row-preserved c = record {
  keys = keys_more (key_of c.args.table.now.shape) c.args.rows.now c.loop-row.rest.now c.in-Some.later.now
      c.in-Some.row.now c.loop-row.keys.items c.push.new.self.items c.in_ok-key.key c.loop-row.invariant.keys
      c.in-Some.ensures.cases.0 c.in_ok-key.ensures c.in_ok-push.ensures.items;
  rest = (first_has c.args.table.now.shape c.loop-row.rest.now c.in-Some.later.now c.in-Some.row.now
      c.in-Some.ensures.cases.0 c.loop-row.invariant.rest).1;
}

pub returns : goal.returns
returns c = keys_all (key_of c.args.table.now.shape) c.args.rows.now c.loop-row.rest.now c.loop-row.keys.items
    c.loop-row.invariant.keys (no_rows_left c.loop-row.rest.now (omega (arith, c.in_default.ensures.cases)))

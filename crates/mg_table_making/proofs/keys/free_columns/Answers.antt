use Rattle.std.proofs.Common.{arith, ap, length, refl, List}
use Rattle.mg_value.specs.declared.value.Value.{Value}
use Rattle.mg_table_making.specs.Keys.{FailsColumnKeys}
use Rattle.mg_table_making.proofs.CoreLemmas.{refused_on}
use Rattle.mg_table_making.proofs.KeepLemmas.{no_keys_left}
use Rattle.mg_table_making.proofs.KeyLemmas.{fails_here, fails_step, free_all, free_step}
use Rattle.mg_table_making.proofs.keys.free_columns.Goals as goal

pub returns-in_err-free_column-clause-free : goal.returns-in_err-free_column-clause-free
returns-in_err-free_column-clause-free g c = refused_on c.from_residual.result c.in_err-free_column.field-0.0 _
    (λ refusal. FailsColumnKeys g.D.Disk.meaning c.args.t c.args.count c.free_column.new.core refusal 1 c.args.keys.now c.args.core.now)
    c.from_residual.ensures.0 c.from_residual.ensures.1
    (fails_here g.D.Disk.meaning c.args.t c.args.count c.args.keys.now c.loop-key.rest.now c.in-Some.later.now c.in-Some.key.now
    c.args.core.now c.loop-key.core c.in-Some.ensures.cases.0 c.loop-key.place c.free_column.new.core
    c.in_err-free_column.field-0.0 c.loop-key.invariant.fails c.in_err-free_column.ensures.free)

pub loop-key-preserved : goal.loop-key-preserved
loop-key-preserved g c = record {
  core = c.in_ok-free_column.ensures.core;
  places = omega (arith, c.loop-key.invariant.places, ap (λ (ks : List Value). length ks) c.in-Some.ensures.cases.0);
  free = free_step g.D.Disk.meaning c.args.t c.args.count c.args.keys.now c.loop-key.rest.now c.in-Some.later.now c.in-Some.key.now
      c.args.core.now c.loop-key.core c.in-Some.ensures.cases.0 c.free_column.new.core c.in_ok-free_column.ensures.free
      c.loop-key.invariant.free;
  fails = fails_step g.D.Disk.meaning c.args.t c.args.count c.args.keys.now c.loop-key.rest.now c.in-Some.later.now c.in-Some.key.now
      c.args.core.now c.loop-key.core c.in-Some.ensures.cases.0 c.loop-key.place _ c.free_column.new.core refl
      c.in_ok-free_column.ensures.free c.loop-key.invariant.fails;
}

pub returns-clause-free : goal.returns-clause-free
returns-clause-free g c = free_all g.D.Disk.meaning c.args.t c.args.keys.now c.loop-key.rest.now c.args.core.now c.loop-key.core
    (no_keys_left c.loop-key.rest.now (omega (arith, c.in_default.ensures.cases))) c.loop-key.invariant.free

use Rattle.std.proofs.Common.{arith, subst}
use Rattle.mg_value.specs.declared.value.Value.{Value}
use Rattle.mg_table_takings.specs.Takings.{FailsTheRow, TakesTheRow}
use Rattle.mg_table_takings.proofs.RowLemmas.{all_gone, ends_there, goes_first, goes_on}
use Rattle.mg_table_takings.proofs.rows.take_rows.Goals as goal

pub loop-key-init : goal.loop-key-init
loop-key-init g c = goes_first g.D.Disk.meaning c.args.t.0 c.args.keys.now c.args.core.now c.requires.core

pub returns-in-Err-clause-takes : goal.returns-in-Err-clause-takes
returns-in-Err-clause-takes g c = ends_there g.D.Disk.meaning c.args.t.0 c.args.keys.now c.loop-key.rest.now
    c.in-Some.later.now c.in-Some.key.now c.args.core.now c.loop-key.core c.in-Some.ensures.cases.0 c.loop-key.invariant
    c.in-Err.refusal c.take_row.new.core
    (subst (λ (key : Value). FailsTheRow g.D.Disk.meaning c.loop-key.core c.take_row.new.core c.args.t.0 key
    c.in-Err.refusal) c.value.ensures.value c.in-Err.ensures.takes)

pub loop-key-preserved : goal.loop-key-preserved
loop-key-preserved g c = goes_on g.D.Disk.meaning c.args.t.0 c.args.keys.now c.loop-key.rest.now
    c.in-Some.later.now c.in-Some.key.now c.args.core.now c.loop-key.core c.in-Some.ensures.cases.0 c.loop-key.invariant
    c.take_row.new.core
    (subst (λ (key : Value). TakesTheRow g.D.Disk.meaning c.loop-key.core c.take_row.new.core c.args.t.0 key)
    c.value.ensures.value c.in-Ok.ensures.takes) c.take_row.ensures.core c.take_row.ensures.list c.take_row.ensures.works

pub returns-clause-takes : goal.returns-clause-takes
returns-clause-takes g c = all_gone g.D.Disk.meaning c.args.t.0 c.args.keys.now c.loop-key.rest.now c.args.core.now
    c.loop-key.core (omega (arith, c.in_default.ensures.cases)) c.loop-key.invariant

use Rattle.std.proofs.Common.{sym, ◌∙◌}
use Rattle.mg_taking_back.specs.TakingLaws.{fewer_left}
use Rattle.mg_table_takings.proofs.OtherLemmas.{all_taken, going, going_on, passed, stopped_at}
use Rattle.mg_table_takings.proofs.changes.take_others.Goals as goal

pub loop-change-init : goal.loop-change-init
loop-change-init g c = going g.D.Disk.meaning c.args.core.now c.args.t.0 c.args.undo.now c.requires.core c.requires.online

pub loop-change-smaller-in-Ok : goal.loop-change-smaller-in-Ok
loop-change-smaller-in-Ok g c = fewer_left c.loop-change.undo c.take_back.new.self c.in-Some.change.0 c.in-Some.change.1
    c.in-Some.change.2 (sym c.in-Some.is ∙ c.take_back.ensures.given) c.take_back.ensures.after

pub loop-change-preserved-in-Ok : goal.loop-change-preserved-in-Ok
loop-change-preserved-in-Ok g c = going_on g.D.Disk.meaning c.args.core.now c.loop-change.core c.args.t.0
    c.args.undo.now c.loop-change.undo c.take_back.new.self c.in-Some.change.0 c.in-Some.change.1 c.in-Some.change.2
    c.loop-change.invariant (sym c.in-Some.is ∙ c.take_back.ensures.given) c.take_back.ensures.after
    c.take_key.new.core c.if-table-core.true c.take_key.ensures.core c.in-Ok.ensures.takes

pub returns-in-Err-clause-takes : goal.returns-in-Err-clause-takes
returns-in-Err-clause-takes g c = stopped_at g.D.Disk.meaning c.args.core.now c.loop-change.core c.args.t.0
    c.args.undo.now c.loop-change.undo c.take_back.new.self c.in-Some.change.0 c.in-Some.change.1 c.in-Some.change.2
    c.loop-change.invariant (sym c.in-Some.is ∙ c.take_back.ensures.given) c.take_back.ensures.after
    c.take_key.new.core c.in-Err.refusal c.if-table-core.true c.in-Err.ensures.takes

pub loop-change-smaller-else-table-core : goal.loop-change-smaller-else-table-core
loop-change-smaller-else-table-core g c = fewer_left c.loop-change.undo c.take_back.new.self c.in-Some.change.0
    c.in-Some.change.1 c.in-Some.change.2 (sym c.in-Some.is ∙ c.take_back.ensures.given) c.take_back.ensures.after

pub loop-change-preserved-else-table-core : goal.loop-change-preserved-else-table-core
loop-change-preserved-else-table-core g c = passed g.D.Disk.meaning c.args.core.now c.loop-change.core c.args.t.0
    c.args.undo.now c.loop-change.undo c.take_back.new.self c.in-Some.change.0 c.in-Some.change.1 c.in-Some.change.2
    c.loop-change.invariant (sym c.in-Some.is ∙ c.take_back.ensures.given) c.take_back.ensures.after
    c.if-table-core.false

pub loop-change-smaller : goal.loop-change-smaller
loop-change-smaller g c = fewer_left c.loop-change.undo c.take_back.new.self c.in-Some.change.0 c.in-Some.change.1
    c.in-Some.change.2 (sym c.in-Some.is ∙ c.take_back.ensures.given) c.take_back.ensures.after

pub loop-change-preserved : goal.loop-change-preserved
loop-change-preserved g c = passed g.D.Disk.meaning c.args.core.now c.loop-change.core c.args.t.0 c.args.undo.now
    c.loop-change.undo c.take_back.new.self c.in-Some.change.0 c.in-Some.change.1 c.in-Some.change.2
    c.loop-change.invariant (sym c.in-Some.is ∙ c.take_back.ensures.given) c.take_back.ensures.after
    c.if-table-core.false

pub returns-clause-takes : goal.returns-clause-takes
returns-clause-takes g c = all_taken g.D.Disk.meaning c.args.core.now c.loop-change.core c.args.t.0 c.args.undo.now
    c.loop-change.undo c.take_back.new.self c.loop-change.invariant
    (sym c.in_default.is ∙ c.take_back.ensures.given) c.take_back.ensures.after

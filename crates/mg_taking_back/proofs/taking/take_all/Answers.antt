use Rattle.std.proofs.Common.{sym, ◌∙◌}
use Rattle.mg_taking_back.specs.TakingLaws.{all_taken, fails_list, fails_works, fewer_left, going, going_on, stopped_at}
use Rattle.mg_taking_back.specs.Changes.{change_of}
use Rattle.mg_taking_back.proofs.taking.take_all.Goals as goal

pub loop-change-init : goal.loop-change-init
loop-change-init g c = going g.D.Disk.meaning c.args.core.now c.args.t.0 c.args.undo.now c.requires.core

pub loop-change-preserved : goal.loop-change-preserved
loop-change-preserved g c = going_on g.D.Disk.meaning c.args.core.now c.loop-change.core c.take_key.new.core c.args.t.0
    c.args.undo.now c.loop-change.undo c.take_back.new.self c.in-Some.change.0 c.in-Some.change.1 c.in-Some.change.2
    c.loop-change.invariant (sym c.in-Some.is ∙ c.take_back.ensures.given) c.take_back.ensures.after
    c.take_key.ensures.core c.in-Ok.ensures.takes

pub loop-change-smaller : goal.loop-change-smaller
loop-change-smaller g c = fewer_left c.loop-change.undo c.take_back.new.self c.in-Some.change.0 c.in-Some.change.1
    c.in-Some.change.2 (sym c.in-Some.is ∙ c.take_back.ensures.given) c.take_back.ensures.after

pub returns-in-Err-clause-list : goal.returns-in-Err-clause-list
returns-in-Err-clause-list g c = fails_list g.D.Disk.meaning c.loop-change.core c.take_key.new.core c.args.t.0
    (change_of c.in-Some.change.0 c.in-Some.change.1 c.in-Some.change.2) c.in-Err.refusal c.in-Err.ensures.takes
    ∙ c.loop-change.invariant.list

pub returns-in-Err-clause-works : goal.returns-in-Err-clause-works
returns-in-Err-clause-works g c = fails_works g.D.Disk.meaning c.loop-change.core c.take_key.new.core c.args.t.0
    (change_of c.in-Some.change.0 c.in-Some.change.1 c.in-Some.change.2) c.in-Err.refusal c.in-Err.ensures.takes
    ∙ c.loop-change.invariant.works

pub returns-in-Err-clause-takes : goal.returns-in-Err-clause-takes
returns-in-Err-clause-takes g c = stopped_at g.D.Disk.meaning c.args.core.now c.loop-change.core c.take_key.new.core
    c.args.t.0 c.args.undo.now c.loop-change.undo c.in-Some.change.0 c.in-Some.change.1 c.in-Some.change.2
    c.in-Err.refusal c.loop-change.invariant (sym c.in-Some.is ∙ c.take_back.ensures.given) c.in-Err.ensures.takes

pub returns-clause-takes : goal.returns-clause-takes
returns-clause-takes g c = all_taken g.D.Disk.meaning c.args.core.now c.loop-change.core c.args.t.0 c.args.undo.now
    c.loop-change.undo c.take_back.new.self c.loop-change.invariant
    (sym c.in_default.is ∙ c.take_back.ensures.given) c.take_back.ensures.after

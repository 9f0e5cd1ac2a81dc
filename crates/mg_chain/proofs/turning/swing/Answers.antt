use Rattle.mg_space.specs.WholeLaws.{whole_kept, whole_as}
use Rattle.std.proofs.Common.{sym}
use Rattle.mg_space.specs.ViewLaws.{tells_on, keeps_on, fault_on}
use Rattle.mg_space.specs.View.{pool_answer}
use Rattle.mg_chain.specs.WritingRefusals.{RefusesSwing, swing_turns}
use Rattle.mg_chain.proofs.Steps.{handed_on}
use Rattle.mg_chain.proofs.TurnLemmas.{swings_then, whole_freed}
use Rattle.mg_chain.proofs.turning.swing.Goals as goal

pub returns-in_err-turn_back-clause-gives : goal.returns-in_err-turn_back-clause-gives
returns-in_err-turn_back-clause-gives g c = λ image tells.
    handed_on c.from_residual.result c.in_err-turn_back.field-0.0 _
    (RefusesSwing g.D.Disk.meaning c.args.store.now c.turn_back.new.store image c.args.batch.now
    c.args.rec c.args.left c.args.to) c.from_residual.ensures.0 c.from_residual.ensures.1
    (swing_turns (c.in_err-turn_back.ensures.gives image tells))

pub returns-clause-gives : goal.returns-clause-gives
returns-clause-gives g c = λ image tells.
    swings_then g.D.Disk.meaning c.args.store.now c.turn_back.new.store c.in_ok-turn_back.ensures.keeps
    image c.free.new.store c.args.batch.now c.turn_back.new.batch c.free.new.batch c.args.rec
    c.args.left c.args.to c.free.result (c.in_ok-turn_back.ensures.gives image tells)
    c.free.ensures.changes
    (c.free.ensures.frees image (tells_on g.D.Disk.meaning c.args.store.now c.turn_back.new.store image
    c.in_ok-turn_back.ensures.keeps tells))

pub returns-clause-whole : goal.returns-clause-whole
returns-clause-whole g c = whole_as c.turn_back.new.store.geometry c.args.store.now.geometry
    c.free.new.batch.pages c.in_ok-turn_back.ensures.keeps.geometry
    (whole_freed c.turn_back.new.store.geometry c.turn_back.new.batch c.free.new.batch
    c.args.left.page.0 c.free.result
    (whole_as c.args.store.now.geometry c.turn_back.new.store.geometry c.turn_back.new.batch.pages
    (sym c.in_ok-turn_back.ensures.keeps.geometry) c.in_ok-turn_back.ensures.whole)
    c.free.ensures.below c.free.ensures.changes c.free.ensures.same)

pub returns-clause-keeps : goal.returns-clause-keeps
returns-clause-keeps g c = keeps_on g.D.Disk.meaning g.met.D.Disk.counts_now
    c.args.store.now c.turn_back.new.store c.free.new.store c.in_ok-turn_back.ensures.keeps
    c.free.ensures.keeps

pub returns-clause-fault : goal.returns-clause-fault
returns-clause-fault g c = fault_on g.D.Disk.meaning c.args.store.now c.turn_back.new.store
    c.free.new.store (pool_answer c.free.result) c.in_ok-turn_back.ensures.keeps
    c.in_ok-turn_back.ensures.fault.2 c.free.ensures.fault

pub free-requires-clause-whole : goal.free-requires-clause-whole
free-requires-clause-whole g c = whole_kept g.D.Disk.meaning c.args.store.now
    c.turn_back.new.store c.turn_back.new.batch.pages
    c.in_ok-turn_back.ensures.keeps
    c.in_ok-turn_back.ensures.whole

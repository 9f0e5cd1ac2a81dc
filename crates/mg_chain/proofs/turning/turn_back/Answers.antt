use Rattle.mg_space.specs.View.{viewed}
use Rattle.mg_chain.specs.WritingRefusals.{RefusesTurn}
use Rattle.mg_chain.proofs.TurnLemmas.{back_none, back_some, whole_freed}
use Rattle.mg_chain.proofs.turning.turn_back.Goals as goal

pub returns-in-Some-clause-gives : goal.returns-in-Some-clause-gives
returns-in-Some-clause-gives g c = λ image tells.
    back_some c.args.store.now image c.args.batch.now c.turn.new.batch c.args.rec c.args.to
    c.in-Some.link c.turn.result
    (RefusesTurn g.D.Disk.meaning c.turn.new.store c.args.batch.now.pages
    (viewed c.args.store.now image c.args.batch.now) c.args.rec) c.in-Some.is
    (c.turn.ensures.gives image tells)

pub returns-in-None-clause-gives : goal.returns-in-None-clause-gives
returns-in-None-clause-gives g c = λ image tells.
    back_none g.D.Disk.meaning c.args.store.now c.free.new.store image c.args.batch.now c.free.new.batch
    c.args.rec c.args.to c.free.result c.in-None.is c.free.ensures.changes
    (c.free.ensures.frees image tells)

pub returns-in-None-clause-whole : goal.returns-in-None-clause-whole
returns-in-None-clause-whole g c = whole_freed c.args.store.now.geometry c.args.batch.now
    c.free.new.batch c.args.rec.page.0 c.free.result c.requires.whole c.free.ensures.below
    c.free.ensures.changes c.free.ensures.same

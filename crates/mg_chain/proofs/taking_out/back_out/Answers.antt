use Rattle.mg_space.specs.WholeLaws.{whole_kept, whole_as}
use Rattle.mg_space.specs.ViewLaws.{tells_on, keeps_on, fault_on}
use Rattle.mg_space.specs.View.{pool_answer}
use Rattle.mg_chain.specs.WritingRefusals.{RefusesBackOut, back_newest}
use Rattle.mg_chain.proofs.MakeLemmas.{taken_then}
use Rattle.mg_chain.proofs.Steps.{handed_on}
use Rattle.mg_chain.proofs.taking_out.back_out.Goals as goal

pub returns-in_err-top-clause-takes : goal.returns-in_err-top-clause-takes
returns-in_err-top-clause-takes g c = λ image tells.
    handed_on c.from_residual.result c.in_err-top.field-0.0 _
    (RefusesBackOut g.D.Disk.meaning c.args.store.now c.newest_of.new.store image c.args.batch.now
    c.args.rec) c.from_residual.ensures.0 c.from_residual.ensures.1
    (back_newest (c.in_err-top.ensures.gives image tells))

pub returns-clause-takes : goal.returns-clause-takes
returns-clause-takes g c = λ image tells.
    taken_then g.D.Disk.meaning c.args.store.now c.newest_of.new.store c.in_ok-top.ensures.keeps image
    c.take_cell_out.new.store c.args.batch.now c.take_cell_out.new.batch c.args.rec
    c.in_ok-top.top.version c.in_ok-top.top.head.newest c.in_ok-top.top.head.owner.0
    c.take_cell_out.result (c.in_ok-top.ensures.gives image tells)
    (c.take_cell_out.ensures.takes image (tells_on g.D.Disk.meaning c.args.store.now
    c.newest_of.new.store image c.in_ok-top.ensures.keeps tells))

pub returns-clause-keeps : goal.returns-clause-keeps
returns-clause-keeps g c = keeps_on g.D.Disk.meaning g.met.D.Disk.counts_now
    c.args.store.now c.newest_of.new.store c.take_cell_out.new.store c.in_ok-top.ensures.keeps
    c.take_cell_out.ensures.keeps

pub returns-clause-fault : goal.returns-clause-fault
returns-clause-fault g c = fault_on g.D.Disk.meaning c.args.store.now c.newest_of.new.store
    c.take_cell_out.new.store (pool_answer c.take_cell_out.result) c.in_ok-top.ensures.keeps
    c.in_ok-top.ensures.fault.2 c.take_cell_out.ensures.fault

pub returns-clause-whole : goal.returns-clause-whole
returns-clause-whole g c = whole_as c.newest_of.new.store.geometry c.args.store.now.geometry
    c.take_cell_out.new.batch.pages c.in_ok-top.ensures.keeps.geometry c.take_cell_out.ensures.whole

pub take_cell_out-requires-clause-whole : goal.take_cell_out-requires-clause-whole
take_cell_out-requires-clause-whole g c = whole_kept g.D.Disk.meaning c.args.store.now
    c.newest_of.new.store c.args.batch.now.pages
    c.in_ok-top.ensures.keeps
    c.requires.whole

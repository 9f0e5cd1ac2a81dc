use Rattle.mg_space.specs.WholeLaws.{whole_kept, whole_as}
use Rattle.std.proofs.Common.{refl}
use Rattle.mg_pool.specs.declared.fault.PoolFault.TheVariants as pool_faults
use Rattle.mg_space.specs.ViewLaws.{tells_on, keeps_on, fault_on}
use Rattle.mg_space.specs.declared.fault.SpaceFault.TheVariants as faults
use Rattle.mg_space.specs.View.{pool_answer}
use Rattle.mg_chain.specs.WritingRefusals.{RefusesPush, pushed_memory, pushed_head}
use Rattle.mg_chain.proofs.PushLemmas.{pushed}
use Rattle.mg_chain.proofs.Steps.{handed_on}
use Rattle.mg_chain.proofs.pushing.push.Goals as goal

pub returns-in_err-head-clause-pushes : goal.returns-in_err-head-clause-pushes
returns-in_err-head-clause-pushes g c = λ image tells.
    handed_on c.from_residual.result c.in_err-head.field-0.0 _
    (RefusesPush g.D.Disk.meaning c.args.store.now c.head_of.new.store image c.args.batch.now c.args.rec
    c.args.v.now) c.from_residual.ensures.0 c.from_residual.ensures.1
    (pushed_head (c.in_err-head.ensures.gives image tells))

pub returns-in_err-cell-clause-pushes : goal.returns-in_err-cell-clause-pushes
returns-in_err-cell-clause-pushes g c = λ image tells.
    handed_on c.from_residual-in_err-cell.result (faults.Pool pool_faults.Memory) _
    (RefusesPush g.D.Disk.meaning c.args.store.now c.head_of.new.store image c.args.batch.now c.args.rec
    c.args.v.now) c.from_residual-in_err-cell.ensures.0 c.from_residual-in_err-cell.ensures.1
    (pushed_memory refl)

pub returns-clause-pushes : goal.returns-clause-pushes
returns-clause-pushes g c = λ image tells.
    pushed g.D.Disk.meaning c.args.store.now c.head_of.new.store c.in_ok-head.ensures.keeps image
    c.push_cell.new.store c.args.batch.now c.push_cell.new.batch c.args.rec c.args.v.now
    c.in_ok-head.head.newest c.in_ok-head.head.owner.0 c.deref.result.now c.in_ok-cell.cell.items
    c.push_cell.result c.deref.ensures.value (c.in_ok-head.ensures.gives image tells)
    c.in_ok-cell.ensures.spells
    (c.push_cell.ensures.pushes image (tells_on g.D.Disk.meaning c.args.store.now c.head_of.new.store image
    c.in_ok-head.ensures.keeps tells))

pub returns-clause-keeps : goal.returns-clause-keeps
returns-clause-keeps g c = keeps_on g.D.Disk.meaning g.met.D.Disk.counts_now
    c.args.store.now c.head_of.new.store c.push_cell.new.store c.in_ok-head.ensures.keeps
    c.push_cell.ensures.keeps

pub returns-clause-fault : goal.returns-clause-fault
returns-clause-fault g c = fault_on g.D.Disk.meaning c.args.store.now c.head_of.new.store
    c.push_cell.new.store (pool_answer c.push_cell.result) c.in_ok-head.ensures.keeps
    c.in_ok-head.ensures.fault.2 c.push_cell.ensures.fault

pub returns-clause-whole : goal.returns-clause-whole
returns-clause-whole g c = whole_as c.head_of.new.store.geometry c.args.store.now.geometry
    c.push_cell.new.batch.pages c.in_ok-head.ensures.keeps.geometry c.push_cell.ensures.whole

pub push_cell-requires-clause-whole : goal.push_cell-requires-clause-whole
push_cell-requires-clause-whole g c = whole_kept g.D.Disk.meaning c.args.store.now
    c.head_of.new.store c.args.batch.now.pages
    c.in_ok-head.ensures.keeps
    c.requires.whole

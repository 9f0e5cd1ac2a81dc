use Rattle.mg_space.specs.WholeLaws.{whole_kept, whole_as}
use Rattle.std.proofs.Common.{◌∙◌, refl}
use Rattle.mg_pool.specs.declared.fault.PoolFault.TheVariants as pool_faults
use Rattle.mg_space.specs.HandedLaws.{fault_memory, fault_up}
use Rattle.mg_space.specs.ViewLaws.{keeps_on, tells_on}
use Rattle.mg_space.specs.declared.fault.SpaceFault.TheVariants as faults
use Rattle.mg_chain.specs.WritingRefusals.{RefusesTakeCellOut, out_memory, out_reaches, out_swings}
use Rattle.mg_chain.proofs.MakeLemmas.{takes_cell_out}
use Rattle.mg_chain.proofs.PushLemmas.{whole_ordered}
use Rattle.mg_chain.proofs.Steps.{handed_on}
use Rattle.mg_chain.proofs.taking_out.take_cell_out.Goals as goal

pub returns-in_err-pointers-clause-takes : goal.returns-in_err-pointers-clause-takes
returns-in_err-pointers-clause-takes g c = λ image tells.
    handed_on c.from_residual.result c.in_err-pointers.field-0.0 _
    (RefusesTakeCellOut g.D.Disk.meaning c.args.store.now c.slot_pointers.new.store image
    c.args.batch.now c.args.rec c.args.head.newest c.args.head.owner.0 c.args.back)
    c.from_residual.ensures.0 c.from_residual.ensures.1
    (out_reaches (c.in_err-pointers.ensures.gives image tells))

pub returns-in_err-swing-clause-takes : goal.returns-in_err-swing-clause-takes
returns-in_err-swing-clause-takes g c = λ image tells.
    handed_on c.from_residual-in_err-swing.result c.in_err-swing.field-0.0 _
    (RefusesTakeCellOut g.D.Disk.meaning c.args.store.now c.swing.new.store image
    c.args.batch.now c.args.rec c.args.head.newest c.args.head.owner.0 c.args.back)
    c.from_residual-in_err-swing.ensures.0 c.from_residual-in_err-swing.ensures.1
    (out_swings c.slot_pointers.new.store c.in_ok-pointers.ensures.keeps
    (c.in_err-swing.ensures.gives image (tells_on g.D.Disk.meaning c.args.store.now
    c.slot_pointers.new.store image c.in_ok-pointers.ensures.keeps tells)))

pub returns-in_err-order_out-clause-takes : goal.returns-in_err-order_out-clause-takes
returns-in_err-order_out-clause-takes g c = λ image tells.
    handed_on c.from_residual-in_err-order_out.result (faults.Pool pool_faults.Memory) _
    (RefusesTakeCellOut g.D.Disk.meaning c.args.store.now c.swing.new.store image
    c.args.batch.now c.args.rec c.args.head.newest c.args.head.owner.0 c.args.back)
    c.from_residual-in_err-order_out.ensures.0 c.from_residual-in_err-order_out.ensures.1
    (out_memory refl)

pub returns-in_err-order_out-clause-keeps : goal.returns-in_err-order_out-clause-keeps
returns-in_err-order_out-clause-keeps g c = keeps_on g.D.Disk.meaning g.met.D.Disk.counts_now
    c.args.store.now c.slot_pointers.new.store c.swing.new.store c.in_ok-pointers.ensures.keeps
    c.in_ok-swing.ensures.keeps

pub returns-in_err-order_out-clause-whole : goal.returns-in_err-order_out-clause-whole
returns-in_err-order_out-clause-whole g c = whole_ordered c.args.store.now.geometry
    c.swing.new.batch c.order_out.new.batch c.in_err-order_out.ensures.pages
    (whole_as c.slot_pointers.new.store.geometry c.args.store.now.geometry c.swing.new.batch.pages
    c.in_ok-pointers.ensures.keeps.geometry c.in_ok-swing.ensures.whole)

pub returns-clause-keeps : goal.returns-clause-keeps
returns-clause-keeps g c = keeps_on g.D.Disk.meaning g.met.D.Disk.counts_now
    c.args.store.now c.slot_pointers.new.store c.swing.new.store c.in_ok-pointers.ensures.keeps
    c.in_ok-swing.ensures.keeps

pub returns-clause-whole : goal.returns-clause-whole
returns-clause-whole g c = whole_ordered c.args.store.now.geometry
    c.swing.new.batch c.order_out.new.batch c.in_ok-order_out.ensures.pages
    (whole_as c.slot_pointers.new.store.geometry c.args.store.now.geometry c.swing.new.batch.pages
    c.in_ok-pointers.ensures.keeps.geometry c.in_ok-swing.ensures.whole)

pub returns-clause-takes : goal.returns-clause-takes
returns-clause-takes g c = λ image tells.
    takes_cell_out g.D.Disk.meaning c.args.store.now c.slot_pointers.new.store
    c.in_ok-pointers.ensures.keeps image c.args.batch.now c.swing.new.batch c.order_out.new.batch
    c.args.rec c.args.head.newest c.args.head.owner.0 c.args.back c.in_ok-pointers.pointers.items
    c.deref.result.now (c.in_ok-pointers.ensures.gives image tells)
    (c.in_ok-swing.ensures.gives image (tells_on g.D.Disk.meaning c.args.store.now
    c.slot_pointers.new.store image c.in_ok-pointers.ensures.keeps tells)) c.deref.ensures.value
    c.in_ok-order_out.ensures.adds

pub returns-in_err-swing-clause-keeps : goal.returns-in_err-swing-clause-keeps
returns-in_err-swing-clause-keeps g c = keeps_on g.D.Disk.meaning g.met.D.Disk.counts_now
    c.args.store.now c.slot_pointers.new.store c.swing.new.store c.in_ok-pointers.ensures.keeps
    c.in_err-swing.ensures.keeps

pub returns-in_err-swing-clause-fault : goal.returns-in_err-swing-clause-fault
returns-in_err-swing-clause-fault g c = fault_up (Unit {0}) g.D.Disk.meaning c.args.store.now
    c.slot_pointers.new.store c.swing.new.store c.from_residual-in_err-swing.result c.in_err-swing.field-0.0
    c.in_ok-pointers.ensures.keeps c.in_ok-pointers.ensures.fault.2 c.from_residual-in_err-swing.ensures.0
    c.from_residual-in_err-swing.ensures.1 c.in_err-swing.ensures.fault

pub returns-in_err-swing-clause-whole : goal.returns-in_err-swing-clause-whole
returns-in_err-swing-clause-whole g c = whole_as c.slot_pointers.new.store.geometry c.args.store.now.geometry
    c.swing.new.batch.pages c.in_ok-pointers.ensures.keeps.geometry c.in_err-swing.ensures.whole

pub returns-in_err-order_out-clause-fault : goal.returns-in_err-order_out-clause-fault
returns-in_err-order_out-clause-fault g c = fault_memory g.D.Disk.meaning c.args.store.now c.swing.new.store
    c.from_residual-in_err-order_out.result c.from_residual-in_err-order_out.ensures.0
    c.from_residual-in_err-order_out.ensures.1 (
      c.in_ok-pointers.ensures.fault.0,
      c.in_ok-swing.ensures.fault.1,
      c.in_ok-swing.ensures.fault.2 ∙ c.in_ok-pointers.ensures.fault.2,
    )

pub returns-clause-fault : goal.returns-clause-fault
returns-clause-fault g c = (
  c.in_ok-pointers.ensures.fault.0,
  c.in_ok-swing.ensures.fault.1,
  c.in_ok-swing.ensures.fault.2 ∙ c.in_ok-pointers.ensures.fault.2,
)

pub swing-requires-clause-whole : goal.swing-requires-clause-whole
swing-requires-clause-whole g c = whole_kept g.D.Disk.meaning c.args.store.now
    c.slot_pointers.new.store c.args.batch.now.pages
    c.in_ok-pointers.ensures.keeps
    c.requires.whole

use Rattle.mg_space.specs.WholeLaws.{whole_kept, whole_as}
use Rattle.std.proofs.Common.{◌∙◌, refl}
use Rattle.mg_pool.specs.declared.fault.PoolFault.TheVariants as pool_faults
use Rattle.mg_space.specs.HandedLaws.{fault_memory, fault_up}
use Rattle.mg_space.specs.ViewLaws.{keeps_on, tells_on}
use Rattle.mg_space.specs.declared.fault.SpaceFault.TheVariants as faults
use Rattle.mg_chain.specs.WritingRefusals.{RefusesMove, move_memory, move_puts, move_swings}
use Rattle.mg_chain.proofs.MakeLemmas.{moves_cell}
use Rattle.mg_chain.proofs.PushLemmas.{whole_ordered}
use Rattle.mg_chain.proofs.Steps.{handed_on}
use Rattle.mg_chain.proofs.replacing.move_cell.Goals as goal

pub returns-in_err-moved-clause-moves : goal.returns-in_err-moved-clause-moves
returns-in_err-moved-clause-moves g c = λ image tells.
    handed_on c.from_residual.result c.in_err-moved.field-0.0 _
    (RefusesMove g.D.Disk.meaning c.args.store.now c.put_moved.new.store image c.args.batch.now
    c.args.rec c.args.head.newest c.args.head.owner.0 c.args.cell.now c.args.tx)
    c.from_residual.ensures.0 c.from_residual.ensures.1
    (move_puts (c.in_err-moved.ensures.puts image tells))

pub returns-in_err-swing-clause-moves : goal.returns-in_err-swing-clause-moves
returns-in_err-swing-clause-moves g c = λ image tells.
    handed_on c.from_residual-in_err-swing.result c.in_err-swing.field-0.0 _
    (RefusesMove g.D.Disk.meaning c.args.store.now c.swing.new.store image c.args.batch.now
    c.args.rec c.args.head.newest c.args.head.owner.0 c.args.cell.now c.args.tx)
    c.from_residual-in_err-swing.ensures.0 c.from_residual-in_err-swing.ensures.1
    (move_swings c.in_ok-moved.moved.put.at c.in_ok-moved.moved.put.pointers.items
    c.put_moved.new.batch c.put_moved.new.store ((c.in_ok-moved.ensures.puts image tells).0)
    c.in_ok-moved.ensures.keeps
    (c.in_err-swing.ensures.gives image (tells_on g.D.Disk.meaning c.args.store.now
    c.put_moved.new.store image c.in_ok-moved.ensures.keeps tells)))

pub returns-in_err-order_move-clause-moves : goal.returns-in_err-order_move-clause-moves
returns-in_err-order_move-clause-moves g c = λ image tells.
    handed_on c.from_residual-in_err-order_move.result (faults.Pool pool_faults.Memory) _
    (RefusesMove g.D.Disk.meaning c.args.store.now c.swing.new.store image c.args.batch.now
    c.args.rec c.args.head.newest c.args.head.owner.0 c.args.cell.now c.args.tx)
    c.from_residual-in_err-order_move.ensures.0 c.from_residual-in_err-order_move.ensures.1
    (move_memory refl)

pub returns-in_err-order_move-clause-keeps : goal.returns-in_err-order_move-clause-keeps
returns-in_err-order_move-clause-keeps g c = keeps_on g.D.Disk.meaning g.met.D.Disk.counts_now
    c.args.store.now c.put_moved.new.store c.swing.new.store c.in_ok-moved.ensures.keeps
    c.in_ok-swing.ensures.keeps

pub returns-in_err-order_move-clause-whole : goal.returns-in_err-order_move-clause-whole
returns-in_err-order_move-clause-whole g c = whole_ordered c.args.store.now.geometry
    c.swing.new.batch c.order_move.new.batch c.in_err-order_move.ensures.pages
    (whole_as c.put_moved.new.store.geometry c.args.store.now.geometry c.swing.new.batch.pages
    c.in_ok-moved.ensures.keeps.geometry c.in_ok-swing.ensures.whole)

pub returns-clause-keeps : goal.returns-clause-keeps
returns-clause-keeps g c = keeps_on g.D.Disk.meaning g.met.D.Disk.counts_now
    c.args.store.now c.put_moved.new.store c.swing.new.store c.in_ok-moved.ensures.keeps
    c.in_ok-swing.ensures.keeps

pub returns-clause-whole : goal.returns-clause-whole
returns-clause-whole g c = whole_ordered c.args.store.now.geometry
    c.swing.new.batch c.order_move.new.batch c.in_ok-order_move.ensures.pages
    (whole_as c.put_moved.new.store.geometry c.args.store.now.geometry c.swing.new.batch.pages
    c.in_ok-moved.ensures.keeps.geometry c.in_ok-swing.ensures.whole)

pub returns-clause-moves : goal.returns-clause-moves
returns-clause-moves g c = λ image tells.
    let put = c.in_ok-moved.ensures.puts image tells in
    moves_cell g.D.Disk.meaning c.args.store.now c.put_moved.new.store c.in_ok-moved.ensures.keeps
    image c.args.batch.now c.put_moved.new.batch c.swing.new.batch c.order_move.new.batch c.args.rec
    c.in_ok-moved.moved.put.at c.args.head.newest c.args.head.owner.0 c.args.cell.now
    c.in_ok-moved.moved.put.pointers.items c.in_ok-moved.moved.slot_pointers.items
    c.deref.result.now c.deref-2.result.now c.args.tx c.args.back put.0 put.1
    (c.in_ok-swing.ensures.gives image (tells_on g.D.Disk.meaning c.args.store.now
    c.put_moved.new.store image c.in_ok-moved.ensures.keeps tells)) c.deref.ensures.value
    c.deref-2.ensures.value c.in_ok-order_move.ensures.adds

pub returns-in_err-swing-clause-keeps : goal.returns-in_err-swing-clause-keeps
returns-in_err-swing-clause-keeps g c = keeps_on g.D.Disk.meaning g.met.D.Disk.counts_now
    c.args.store.now c.put_moved.new.store c.swing.new.store c.in_ok-moved.ensures.keeps
    c.in_err-swing.ensures.keeps

pub returns-in_err-swing-clause-fault : goal.returns-in_err-swing-clause-fault
returns-in_err-swing-clause-fault g c = fault_up (Unit {0}) g.D.Disk.meaning c.args.store.now
    c.put_moved.new.store c.swing.new.store c.from_residual-in_err-swing.result c.in_err-swing.field-0.0
    c.in_ok-moved.ensures.keeps c.in_ok-moved.ensures.fault.2 c.from_residual-in_err-swing.ensures.0
    c.from_residual-in_err-swing.ensures.1 c.in_err-swing.ensures.fault

pub returns-in_err-swing-clause-whole : goal.returns-in_err-swing-clause-whole
returns-in_err-swing-clause-whole g c = whole_as c.put_moved.new.store.geometry c.args.store.now.geometry
    c.swing.new.batch.pages c.in_ok-moved.ensures.keeps.geometry c.in_err-swing.ensures.whole

pub returns-in_err-order_move-clause-fault : goal.returns-in_err-order_move-clause-fault
returns-in_err-order_move-clause-fault g c = fault_memory g.D.Disk.meaning c.args.store.now c.swing.new.store
    c.from_residual-in_err-order_move.result c.from_residual-in_err-order_move.ensures.0
    c.from_residual-in_err-order_move.ensures.1 (
      c.in_ok-moved.ensures.fault.0,
      c.in_ok-swing.ensures.fault.1,
      c.in_ok-swing.ensures.fault.2 ∙ c.in_ok-moved.ensures.fault.2,
    )

pub returns-clause-fault : goal.returns-clause-fault
returns-clause-fault g c = (
  c.in_ok-moved.ensures.fault.0,
  c.in_ok-swing.ensures.fault.1,
  c.in_ok-swing.ensures.fault.2 ∙ c.in_ok-moved.ensures.fault.2,
)

pub swing-requires-clause-whole : goal.swing-requires-clause-whole
swing-requires-clause-whole g c = whole_kept g.D.Disk.meaning c.args.store.now
    c.put_moved.new.store c.put_moved.new.batch.pages
    c.in_ok-moved.ensures.keeps
    c.in_ok-moved.ensures.whole

use Rattle.mg_space.specs.WholeLaws.{whole_kept, whole_as}
use Rattle.std.proofs.Common.{◌∙◌, refl}
use Rattle.mg_image.specs.Form.{Pages}
use Rattle.mg_pool.specs.declared.fault.PoolFault.TheVariants as pool_faults
use Rattle.mg_space.specs.HandedLaws.{fault_memory, fault_up}
use Rattle.mg_space.specs.ViewLaws.{keeps_on, tells_on}
use Rattle.mg_space.specs.declared.fault.SpaceFault.TheVariants as faults
use Rattle.mg_chain.specs.WritingRefusals.{RefusesPushCell, RefusesTurn, push_memory, push_puts, push_turns}
use Rattle.mg_chain.proofs.HeadLemmas.{seen_before}
use Rattle.mg_chain.proofs.PushLemmas.{pushes_cell, whole_ordered}
use Rattle.mg_chain.proofs.Steps.{handed_on}
use Rattle.mg_chain.proofs.pushing.push_cell.Goals as goal

pub returns-in_err-put-clause-pushes : goal.returns-in_err-put-clause-pushes
returns-in_err-put-clause-pushes g c = λ image tells.
    handed_on c.from_residual.result c.in_err-put.field-0.0 _
    (RefusesPushCell g.D.Disk.meaning c.args.store.now c.put_version.new.store image c.args.batch.now
    c.args.rec c.args.head.owner.0 c.args.cell.now) c.from_residual.ensures.0
    c.from_residual.ensures.1 (push_puts (c.in_err-put.ensures.puts image tells))

pub returns-in_err-turn-clause-pushes : goal.returns-in_err-turn-clause-pushes
returns-in_err-turn-clause-pushes g c = λ image tells.
    handed_on c.from_residual-in_err-turn.result c.in_err-turn.field-0.0 _
    (RefusesPushCell g.D.Disk.meaning c.args.store.now c.turn.new.store image c.args.batch.now
    c.args.rec c.args.head.owner.0 c.args.cell.now) c.from_residual-in_err-turn.ensures.0
    c.from_residual-in_err-turn.ensures.1
    (push_turns c.in_ok-put.put.at c.in_ok-put.put.pointers.items c.put_version.new.batch
    (c.in_ok-put.ensures.puts image tells)
    (seen_before g.D.Disk.meaning c.args.store.now c.put_version.new.store image
    c.put_version.new.batch c.in_ok-put.ensures.keeps tells (λ (pages : Pages).
    RefusesTurn g.D.Disk.meaning c.turn.new.store c.put_version.new.batch.pages pages c.args.rec
    c.in_err-turn.field-0.0) c.in_err-turn.ensures.gives))

pub returns-in_err-order_push-clause-pushes : goal.returns-in_err-order_push-clause-pushes
returns-in_err-order_push-clause-pushes g c = λ image tells.
    handed_on c.from_residual-in_err-order_push.result (faults.Pool pool_faults.Memory) _
    (RefusesPushCell g.D.Disk.meaning c.args.store.now c.turn.new.store image c.args.batch.now
    c.args.rec c.args.head.owner.0 c.args.cell.now) c.from_residual-in_err-order_push.ensures.0
    c.from_residual-in_err-order_push.ensures.1 (push_memory refl)

pub returns-in_err-order_push-clause-keeps : goal.returns-in_err-order_push-clause-keeps
returns-in_err-order_push-clause-keeps g c = keeps_on g.D.Disk.meaning g.met.D.Disk.counts_now
    c.args.store.now c.put_version.new.store c.turn.new.store c.in_ok-put.ensures.keeps
    c.in_ok-turn.ensures.keeps

pub returns-in_err-order_push-clause-whole : goal.returns-in_err-order_push-clause-whole
returns-in_err-order_push-clause-whole g c = whole_ordered c.args.store.now.geometry
    c.turn.new.batch c.order_push.new.batch c.in_err-order_push.ensures.pages
    (whole_as c.put_version.new.store.geometry c.args.store.now.geometry c.turn.new.batch.pages
    c.in_ok-put.ensures.keeps.geometry c.in_ok-turn.ensures.whole)

pub returns-clause-keeps : goal.returns-clause-keeps
returns-clause-keeps g c = keeps_on g.D.Disk.meaning g.met.D.Disk.counts_now
    c.args.store.now c.put_version.new.store c.turn.new.store c.in_ok-put.ensures.keeps
    c.in_ok-turn.ensures.keeps

pub returns-clause-whole : goal.returns-clause-whole
returns-clause-whole g c = whole_ordered c.args.store.now.geometry
    c.turn.new.batch c.order_push.new.batch c.in_ok-order_push.ensures.pages
    (whole_as c.put_version.new.store.geometry c.args.store.now.geometry c.turn.new.batch.pages
    c.in_ok-put.ensures.keeps.geometry c.in_ok-turn.ensures.whole)

pub returns-clause-pushes : goal.returns-clause-pushes
returns-clause-pushes g c = λ image tells.
    pushes_cell g.D.Disk.meaning c.args.store.now c.put_version.new.store c.in_ok-put.ensures.keeps
    image c.args.batch.now c.put_version.new.batch c.turn.new.batch c.order_push.new.batch c.args.rec
    c.in_ok-put.put.at c.args.head.newest c.args.head.owner.0 c.args.cell.now
    c.in_ok-put.put.pointers.items c.deref.result.now c.args.tx (c.in_ok-put.ensures.puts image tells)
    (c.in_ok-turn.ensures.gives image (tells_on g.D.Disk.meaning c.args.store.now
    c.put_version.new.store image c.in_ok-put.ensures.keeps tells)) c.deref.ensures.value
    c.in_ok-order_push.ensures.adds

pub returns-in_err-turn-clause-keeps : goal.returns-in_err-turn-clause-keeps
returns-in_err-turn-clause-keeps g c = keeps_on g.D.Disk.meaning g.met.D.Disk.counts_now
    c.args.store.now c.put_version.new.store c.turn.new.store c.in_ok-put.ensures.keeps
    c.in_err-turn.ensures.keeps

pub returns-in_err-turn-clause-fault : goal.returns-in_err-turn-clause-fault
returns-in_err-turn-clause-fault g c = fault_up (Unit {0}) g.D.Disk.meaning c.args.store.now
    c.put_version.new.store c.turn.new.store c.from_residual-in_err-turn.result c.in_err-turn.field-0.0
    c.in_ok-put.ensures.keeps c.in_ok-put.ensures.fault.2 c.from_residual-in_err-turn.ensures.0
    c.from_residual-in_err-turn.ensures.1 c.in_err-turn.ensures.fault

pub returns-in_err-turn-clause-whole : goal.returns-in_err-turn-clause-whole
returns-in_err-turn-clause-whole g c = whole_as c.put_version.new.store.geometry c.args.store.now.geometry
    c.turn.new.batch.pages c.in_ok-put.ensures.keeps.geometry c.in_err-turn.ensures.whole

pub returns-in_err-order_push-clause-fault : goal.returns-in_err-order_push-clause-fault
returns-in_err-order_push-clause-fault g c = fault_memory g.D.Disk.meaning c.args.store.now c.turn.new.store
    c.from_residual-in_err-order_push.result c.from_residual-in_err-order_push.ensures.0
    c.from_residual-in_err-order_push.ensures.1 (
      c.in_ok-put.ensures.fault.0,
      c.in_ok-turn.ensures.fault.1,
      c.in_ok-turn.ensures.fault.2 ∙ c.in_ok-put.ensures.fault.2,
    )

pub returns-clause-fault : goal.returns-clause-fault
returns-clause-fault g c = (
  c.in_ok-put.ensures.fault.0,
  c.in_ok-turn.ensures.fault.1,
  c.in_ok-turn.ensures.fault.2 ∙ c.in_ok-put.ensures.fault.2,
)

pub turn-requires-clause-whole : goal.turn-requires-clause-whole
turn-requires-clause-whole g c = whole_kept g.D.Disk.meaning c.args.store.now
    c.put_version.new.store c.put_version.new.batch.pages
    c.in_ok-put.ensures.keeps
    c.in_ok-put.ensures.whole

use Rattle.mg_space.specs.WholeLaws.{whole_kept}
use Rattle.std.specs.declared.alloc.Global.{Global}
use Rattle.std.specs.declared.vec.Vec.{Vec}
use Rattle.std.proofs.Common.{◌∙◌, ℕ}
use Rattle.mg_image.specs.Form.{Pages}
use Rattle.mg_space.specs.HandedLaws.{fault_up}
use Rattle.mg_space.specs.ViewLaws.{keeps_on}
use Rattle.mg_heap.specs.Reach.{RefusesReach}
use Rattle.mg_chain.specs.Writing.{SlotIsReached}
use Rattle.mg_chain.specs.WritingRefusals.{RefusesPutMoved, moved_puts, moved_reaches}
use Rattle.mg_chain.proofs.HeadLemmas.{seen_before}
use Rattle.mg_chain.proofs.Steps.{handed_on}
use Rattle.mg_chain.proofs.replacing.put_moved.Goals as goal

pub returns-in_err-put-clause-puts : goal.returns-in_err-put-clause-puts
returns-in_err-put-clause-puts g c = λ image tells.
    handed_on c.from_residual.result c.in_err-put.field-0.0 _
    (RefusesPutMoved g.D.Disk.meaning c.args.store.now c.put_version.new.store image c.args.batch.now
    c.args.rec c.args.owner.0 c.args.cell.now) c.from_residual.ensures.0
    c.from_residual.ensures.1 (moved_puts (c.in_err-put.ensures.puts image tells))

pub returns-in_err-slot_pointers-clause-puts : goal.returns-in_err-slot_pointers-clause-puts
returns-in_err-slot_pointers-clause-puts g c = λ image tells.
    handed_on c.from_residual-in_err-slot_pointers.result c.in_err-slot_pointers.field-0.0 _
    (RefusesPutMoved g.D.Disk.meaning c.args.store.now c.slot_pointers.new.store image
    c.args.batch.now c.args.rec c.args.owner.0 c.args.cell.now)
    c.from_residual-in_err-slot_pointers.ensures.0 c.from_residual-in_err-slot_pointers.ensures.1
    (moved_reaches c.in_ok-put.put.at c.in_ok-put.put.pointers.items c.put_version.new.batch
    (c.in_ok-put.ensures.puts image tells)
    (seen_before g.D.Disk.meaning c.args.store.now c.put_version.new.store image
    c.put_version.new.batch c.in_ok-put.ensures.keeps tells (λ (pages : Pages).
    RefusesReach g.D.Disk.meaning c.slot_pointers.new.store c.put_version.new.batch.pages pages
    c.args.owner.0 c.args.rec.page c.in_err-slot_pointers.field-0.0)
    c.in_err-slot_pointers.ensures.gives))

pub returns-clause-keeps : goal.returns-clause-keeps
returns-clause-keeps g c = keeps_on g.D.Disk.meaning g.met.D.Disk.counts_now c.args.store.now
    c.put_version.new.store c.slot_pointers.new.store c.in_ok-put.ensures.keeps
    c.in_ok-slot_pointers.ensures.keeps

pub returns-clause-puts : goal.returns-clause-puts
returns-clause-puts g c = λ image tells. (
  c.in_ok-put.ensures.puts image tells,
  seen_before g.D.Disk.meaning c.args.store.now c.put_version.new.store image c.put_version.new.batch
      c.in_ok-put.ensures.keeps tells (λ (pages : Pages). SlotIsReached pages c.args.owner.0
      c.args.rec.page.0 c.args.back c.in_ok-slot_pointers.slot_pointers.items)
      c.in_ok-slot_pointers.ensures.gives,
)

pub returns-in_err-slot_pointers-clause-keeps : goal.returns-in_err-slot_pointers-clause-keeps
returns-in_err-slot_pointers-clause-keeps g c = keeps_on g.D.Disk.meaning g.met.D.Disk.counts_now
    c.args.store.now c.put_version.new.store c.slot_pointers.new.store c.in_ok-put.ensures.keeps
    c.in_err-slot_pointers.ensures.keeps

pub returns-in_err-slot_pointers-clause-fault : goal.returns-in_err-slot_pointers-clause-fault
returns-in_err-slot_pointers-clause-fault g c = fault_up (Vec ℕ Global) g.D.Disk.meaning c.args.store.now
    c.put_version.new.store c.slot_pointers.new.store c.from_residual-in_err-slot_pointers.result c.in_err-slot_pointers.field-0.0
    c.in_ok-put.ensures.keeps c.in_ok-put.ensures.fault.2 c.from_residual-in_err-slot_pointers.ensures.0
    c.from_residual-in_err-slot_pointers.ensures.1 c.in_err-slot_pointers.ensures.fault

pub returns-clause-fault : goal.returns-clause-fault
returns-clause-fault g c = (
  c.in_ok-put.ensures.fault.0,
  c.in_ok-slot_pointers.ensures.fault.1,
  c.in_ok-slot_pointers.ensures.fault.2 ∙ c.in_ok-put.ensures.fault.2,
)

pub slot_pointers-requires-clause-whole : goal.slot_pointers-requires-clause-whole
slot_pointers-requires-clause-whole g c = whole_kept g.D.Disk.meaning c.args.store.now
    c.put_version.new.store c.put_version.new.batch.pages
    c.in_ok-put.ensures.keeps
    c.in_ok-put.ensures.whole

use Rattle.mg_space.specs.WholeLaws.{whole_kept}
use Rattle.std.proofs.Common.{◌⊎◌, ◌∙◌}
use Rattle.mg_image.specs.Form.{Pages}
use Rattle.mg_space.specs.HandedLaws.{fault_up}
use Rattle.mg_space.specs.ViewLaws.{keeps_on}
use Rattle.mg_heap.specs.Reach.{IsReached, RefusesReach}
use Rattle.mg_chain.specs.declared.making.BothPointers.{BothPointers}
use Rattle.mg_chain.specs.WritingRefusals.{RefusesPutFirst, first_adds, first_reaches}
use Rattle.mg_chain.proofs.HeadLemmas.{seen_before}
use Rattle.mg_chain.proofs.Steps.{handed_on}
use Rattle.mg_chain.proofs.making.put_first.Goals as goal

pub returns-in_err-at-clause-puts : goal.returns-in_err-at-clause-puts
returns-in_err-at-clause-puts g c = λ image tells.
    handed_on c.from_residual.result c.in_err-at.field-0.0 _
    (RefusesPutFirst g.D.Disk.meaning c.args.store.now c.add_apart.new.store image c.args.batch.now
    c.args.owner.0 c.args.rec c.args.cell.now) c.from_residual.ensures.0
    c.from_residual.ensures.1 (first_adds (c.in_err-at.ensures.adds image tells))

pub returns-in_err-both-clause-puts : goal.returns-in_err-both-clause-puts
returns-in_err-both-clause-puts g c = λ image tells.
    handed_on c.from_residual-in_err-both.result c.in_err-both.field-0.0 _
    (RefusesPutFirst g.D.Disk.meaning c.args.store.now c.both_pointers.new.store image
    c.args.batch.now c.args.owner.0 c.args.rec c.args.cell.now)
    c.from_residual-in_err-both.ensures.0 c.from_residual-in_err-both.ensures.1
    (first_reaches c.in_ok-at.at c.add_apart.new.batch (c.in_ok-at.ensures.adds image tells)
    (seen_before g.D.Disk.meaning c.args.store.now c.add_apart.new.store image c.add_apart.new.batch
    c.in_ok-at.ensures.keeps tells (λ (pages : Pages). RefusesReach g.D.Disk.meaning
    c.both_pointers.new.store c.add_apart.new.batch.pages pages c.args.owner.0 c.in_ok-at.at.page
    c.in_err-both.field-0.0 ⊎ RefusesReach g.D.Disk.meaning c.both_pointers.new.store
    c.add_apart.new.batch.pages pages c.args.owner.0 c.args.rec.page c.in_err-both.field-0.0)
    c.in_err-both.ensures.finds))

pub returns-clause-keeps : goal.returns-clause-keeps
returns-clause-keeps g c = keeps_on g.D.Disk.meaning g.met.D.Disk.counts_now c.args.store.now
    c.add_apart.new.store c.both_pointers.new.store c.in_ok-at.ensures.keeps c.in_ok-both.ensures.keeps

pub returns-clause-puts : goal.returns-clause-puts
returns-clause-puts g c = λ image tells.
    let both = seen_before g.D.Disk.meaning c.args.store.now c.add_apart.new.store image
    c.add_apart.new.batch c.in_ok-at.ensures.keeps tells (λ (pages : Pages).
    IsReached pages c.args.owner.0 c.in_ok-at.at.page.0 c.in_ok-both.both.pointers.items
    × IsReached pages c.args.owner.0 c.args.rec.page.0 c.in_ok-both.both.slot_pointers.items)
    c.in_ok-both.ensures.finds in (c.in_ok-at.ensures.adds image tells, both.0, both.1)

pub returns-in_err-both-clause-keeps : goal.returns-in_err-both-clause-keeps
returns-in_err-both-clause-keeps g c = keeps_on g.D.Disk.meaning g.met.D.Disk.counts_now
    c.args.store.now c.add_apart.new.store c.both_pointers.new.store c.in_ok-at.ensures.keeps
    c.in_err-both.ensures.keeps

pub returns-in_err-both-clause-fault : goal.returns-in_err-both-clause-fault
returns-in_err-both-clause-fault g c = fault_up BothPointers g.D.Disk.meaning c.args.store.now
    c.add_apart.new.store c.both_pointers.new.store c.from_residual-in_err-both.result c.in_err-both.field-0.0
    c.in_ok-at.ensures.keeps c.in_ok-at.ensures.fault.2 c.from_residual-in_err-both.ensures.0
    c.from_residual-in_err-both.ensures.1 c.in_err-both.ensures.fault

pub returns-clause-fault : goal.returns-clause-fault
returns-clause-fault g c = (
  c.in_ok-at.ensures.fault.0,
  c.in_ok-both.ensures.fault.1,
  c.in_ok-both.ensures.fault.2 ∙ c.in_ok-at.ensures.fault.2,
)

pub both_pointers-requires-clause-whole : goal.both_pointers-requires-clause-whole
both_pointers-requires-clause-whole g c = whole_kept g.D.Disk.meaning c.args.store.now
    c.add_apart.new.store c.add_apart.new.batch.pages
    c.in_ok-at.ensures.keeps
    c.in_ok-at.ensures.whole

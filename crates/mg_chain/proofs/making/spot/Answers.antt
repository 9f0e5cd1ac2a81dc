use Rattle.mg_space.specs.WholeLaws.{whole_kept}
use Rattle.std.proofs.Common.{◌∙◌, ℕ}
use Rattle.mg_image.specs.Form.{Pages}
use Rattle.mg_space.specs.HandedLaws.{fault_up}
use Rattle.mg_space.specs.ViewLaws.{keeps_on}
use Rattle.mg_heap.specs.Changing.{IsLeastSlot}
use Rattle.mg_heap.specs.Reading.{RefusesData}
use Rattle.mg_chain.specs.WritingRefusals.{RefusesSpot, spot_page, spot_room}
use Rattle.mg_chain.proofs.HeadLemmas.{seen_before}
use Rattle.mg_chain.proofs.Steps.{handed_on}
use Rattle.mg_chain.proofs.making.spot.Goals as goal

pub returns-in_err-page-clause-gives : goal.returns-in_err-page-clause-gives
returns-in_err-page-clause-gives g c = λ image tells.
    handed_on c.from_residual.result c.in_err-page.field-0.0 _
    (RefusesSpot g.D.Disk.meaning c.args.store.now c.page_with_room.new.store image c.args.batch.now
    c.args.owner.0) c.from_residual.ensures.0 c.from_residual.ensures.1
    (spot_room (c.in_err-page.ensures.gives image tells))

pub returns-in_err-slot-clause-gives : goal.returns-in_err-slot-clause-gives
returns-in_err-slot-clause-gives g c = λ image tells.
    handed_on c.from_residual-in_err-slot.result c.in_err-slot.field-0.0 _
    (RefusesSpot g.D.Disk.meaning c.args.store.now c.least_slot.new.store image c.args.batch.now
    c.args.owner.0) c.from_residual-in_err-slot.ensures.0 c.from_residual-in_err-slot.ensures.1
    (spot_page c.page_with_room.new.batch c.in_ok-page.page (c.in_ok-page.ensures.gives image tells)
    (seen_before g.D.Disk.meaning c.args.store.now c.page_with_room.new.store image
    c.page_with_room.new.batch c.in_ok-page.ensures.keeps tells (λ (pages : Pages).
    RefusesData g.D.Disk.meaning c.least_slot.new.store c.page_with_room.new.batch.pages
    c.in_ok-page.page (pages c.in_ok-page.page.0) c.in_err-slot.field-0.0) c.in_err-slot.ensures.gives))

pub returns-clause-keeps : goal.returns-clause-keeps
returns-clause-keeps g c = keeps_on g.D.Disk.meaning g.met.D.Disk.counts_now c.args.store.now
    c.page_with_room.new.store c.least_slot.new.store c.in_ok-page.ensures.keeps
    c.in_ok-slot.ensures.keeps

pub returns-clause-gives : goal.returns-clause-gives
returns-clause-gives g c = λ image tells. record {
  gives = c.in_ok-page.ensures.gives image tells;
  least = seen_before g.D.Disk.meaning c.args.store.now c.page_with_room.new.store image
      c.page_with_room.new.batch c.in_ok-page.ensures.keeps tells (λ (pages : Pages).
      IsLeastSlot c.in_ok-page.page.0 (pages c.in_ok-page.page.0) c.in_ok-slot.slot)
      c.in_ok-slot.ensures.gives;
}

pub returns-in_err-slot-clause-keeps : goal.returns-in_err-slot-clause-keeps
returns-in_err-slot-clause-keeps g c = keeps_on g.D.Disk.meaning g.met.D.Disk.counts_now
    c.args.store.now c.page_with_room.new.store c.least_slot.new.store c.in_ok-page.ensures.keeps
    c.in_err-slot.ensures.keeps

pub returns-in_err-slot-clause-fault : goal.returns-in_err-slot-clause-fault
returns-in_err-slot-clause-fault g c = fault_up ℕ g.D.Disk.meaning c.args.store.now
    c.page_with_room.new.store c.least_slot.new.store c.from_residual-in_err-slot.result c.in_err-slot.field-0.0
    c.in_ok-page.ensures.keeps c.in_ok-page.ensures.fault.2 c.from_residual-in_err-slot.ensures.0
    c.from_residual-in_err-slot.ensures.1 c.in_err-slot.ensures.fault

pub returns-clause-fault : goal.returns-clause-fault
returns-clause-fault g c = (
  c.in_ok-page.ensures.fault.0,
  c.in_ok-slot.ensures.fault.1,
  c.in_ok-slot.ensures.fault.2 ∙ c.in_ok-page.ensures.fault.2,
)

pub least_slot-requires-clause-whole : goal.least_slot-requires-clause-whole
least_slot-requires-clause-whole g c = whole_kept g.D.Disk.meaning c.args.store.now
    c.page_with_room.new.store c.page_with_room.new.batch.pages
    c.in_ok-page.ensures.keeps
    c.in_ok-page.ensures.whole

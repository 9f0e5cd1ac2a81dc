use Rattle.mg_space.specs.WholeLaws.{whole_kept}
use Rattle.std.specs.declared.alloc.Global.{Global}
use Rattle.std.specs.declared.vec.Vec.{Vec}
use Rattle.std.proofs.Common.{◌⊎◌, ◌∙◌, inl, inr, ℕ}
use Rattle.mg_image.specs.Form.{Pages}
use Rattle.mg_space.specs.HandedLaws.{fault_up}
use Rattle.mg_space.specs.View.{viewed}
use Rattle.mg_space.specs.ViewLaws.{keeps_on}
use Rattle.mg_space.specs.declared.fault.SpaceFault.{SpaceFault}
use Rattle.mg_heap.specs.Reach.{IsReached, RefusesReach}
use Rattle.mg_chain.proofs.HeadLemmas.{seen_before}
use Rattle.mg_chain.proofs.Steps.{handed_on}
use Rattle.mg_chain.proofs.making.both_pointers.Goals as goal

pub returns-in_err-pointers-clause-finds : goal.returns-in_err-pointers-clause-finds
returns-in_err-pointers-clause-finds g c = λ image tells.
    handed_on c.from_residual.result c.in_err-pointers.field-0.0 _
    (λ (fault : SpaceFault). RefusesReach g.D.Disk.meaning c.pointers_to.new.store
    c.args.batch.now.pages (viewed c.args.store.now image c.args.batch.now) c.args.owner.0 c.args.page
    fault ⊎ RefusesReach g.D.Disk.meaning c.pointers_to.new.store c.args.batch.now.pages
    (viewed c.args.store.now image c.args.batch.now) c.args.owner.0 c.args.slot_page fault)
    c.from_residual.ensures.0 c.from_residual.ensures.1
    (inl (c.in_err-pointers.ensures.reaches image tells))

pub returns-in_err-slot_pointers-clause-finds : goal.returns-in_err-slot_pointers-clause-finds
returns-in_err-slot_pointers-clause-finds g c = λ image tells.
    handed_on c.from_residual-in_err-slot_pointers.result c.in_err-slot_pointers.field-0.0 _
    (λ (fault : SpaceFault). RefusesReach g.D.Disk.meaning c.pointers_to-2.new.store
    c.args.batch.now.pages (viewed c.args.store.now image c.args.batch.now) c.args.owner.0 c.args.page
    fault ⊎ RefusesReach g.D.Disk.meaning c.pointers_to-2.new.store c.args.batch.now.pages
    (viewed c.args.store.now image c.args.batch.now) c.args.owner.0 c.args.slot_page fault)
    c.from_residual-in_err-slot_pointers.ensures.0 c.from_residual-in_err-slot_pointers.ensures.1
    (inr (seen_before g.D.Disk.meaning c.args.store.now c.pointers_to.new.store image c.args.batch.now
    c.in_ok-pointers.ensures.keeps tells (λ (pages : Pages). RefusesReach g.D.Disk.meaning
    c.pointers_to-2.new.store c.args.batch.now.pages pages c.args.owner.0 c.args.slot_page
    c.in_err-slot_pointers.field-0.0) c.in_err-slot_pointers.ensures.reaches))

pub returns-clause-keeps : goal.returns-clause-keeps
returns-clause-keeps g c = keeps_on g.D.Disk.meaning g.met.D.Disk.counts_now c.args.store.now
    c.pointers_to.new.store c.pointers_to-2.new.store c.in_ok-pointers.ensures.keeps
    c.in_ok-slot_pointers.ensures.keeps

pub returns-clause-finds : goal.returns-clause-finds
returns-clause-finds g c = λ image tells. (
  c.in_ok-pointers.ensures.reaches image tells,
  seen_before g.D.Disk.meaning c.args.store.now c.pointers_to.new.store image c.args.batch.now
      c.in_ok-pointers.ensures.keeps tells (λ (pages : Pages). IsReached pages c.args.owner.0
      c.args.slot_page.0 c.in_ok-slot_pointers.slot_pointers.items) c.in_ok-slot_pointers.ensures.reaches,
)

pub returns-in_err-slot_pointers-clause-keeps : goal.returns-in_err-slot_pointers-clause-keeps
returns-in_err-slot_pointers-clause-keeps g c = keeps_on g.D.Disk.meaning g.met.D.Disk.counts_now
    c.args.store.now c.pointers_to.new.store c.pointers_to-2.new.store c.in_ok-pointers.ensures.keeps
    c.in_err-slot_pointers.ensures.keeps

pub returns-in_err-slot_pointers-clause-fault : goal.returns-in_err-slot_pointers-clause-fault
returns-in_err-slot_pointers-clause-fault g c = fault_up (Vec ℕ Global) g.D.Disk.meaning c.args.store.now
    c.pointers_to.new.store c.pointers_to-2.new.store c.from_residual-in_err-slot_pointers.result c.in_err-slot_pointers.field-0.0
    c.in_ok-pointers.ensures.keeps c.in_ok-pointers.ensures.fault.2 c.from_residual-in_err-slot_pointers.ensures.0
    c.from_residual-in_err-slot_pointers.ensures.1 c.in_err-slot_pointers.ensures.fault

pub returns-clause-fault : goal.returns-clause-fault
returns-clause-fault g c = (
  c.in_ok-pointers.ensures.fault.0,
  c.in_ok-slot_pointers.ensures.fault.1,
  c.in_ok-slot_pointers.ensures.fault.2 ∙ c.in_ok-pointers.ensures.fault.2,
)

pub pointers_to-requires-2-clause-whole : goal.pointers_to-requires-2-clause-whole
pointers_to-requires-2-clause-whole g c = whole_kept g.D.Disk.meaning c.args.store.now
    c.pointers_to.new.store c.args.batch.now.pages
    c.in_ok-pointers.ensures.keeps
    c.requires.whole

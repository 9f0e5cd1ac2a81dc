use Rattle.mg_space.specs.WholeLaws.{whole_kept}
use Rattle.std.specs.declared.alloc.Global.{Global}
use Rattle.std.specs.declared.vec.Vec.{Vec}
use Rattle.std.proofs.Common.{◌∙◌, ℕ}
use Rattle.mg_image.specs.Form.{Pages}
use Rattle.mg_space.specs.HandedLaws.{fault_up}
use Rattle.mg_space.specs.ViewLaws.{keeps_on}
use Rattle.mg_heap.specs.Reach.{IsReached, RefusesReach}
use Rattle.mg_chain.specs.WritingRefusals.{RefusesPutVersion, put_adds, put_reaches}
use Rattle.mg_chain.proofs.HeadLemmas.{seen_before}
use Rattle.mg_chain.proofs.Steps.{handed_on}
use Rattle.mg_chain.proofs.pushing.put_version.Goals as goal

pub returns-in_err-at-clause-puts : goal.returns-in_err-at-clause-puts
returns-in_err-at-clause-puts g c = λ image tells.
    handed_on c.from_residual.result c.in_err-at.field-0.0 _
    (RefusesPutVersion g.D.Disk.meaning c.args.store.now c.add.new.store image c.args.batch.now
    c.args.owner.0 c.args.cell.now) c.from_residual.ensures.0
    c.from_residual.ensures.1 (put_adds (c.in_err-at.ensures.adds image tells))

pub returns-in_err-pointers-clause-puts : goal.returns-in_err-pointers-clause-puts
returns-in_err-pointers-clause-puts g c = λ image tells.
    handed_on c.from_residual-in_err-pointers.result c.in_err-pointers.field-0.0 _
    (RefusesPutVersion g.D.Disk.meaning c.args.store.now c.pointers_to.new.store image c.args.batch.now
    c.args.owner.0 c.args.cell.now) c.from_residual-in_err-pointers.ensures.0
    c.from_residual-in_err-pointers.ensures.1
    (put_reaches c.in_ok-at.at c.add.new.batch (c.in_ok-at.ensures.adds image tells)
    (seen_before g.D.Disk.meaning c.args.store.now c.add.new.store image c.add.new.batch
    c.in_ok-at.ensures.keeps tells (λ (pages : Pages). RefusesReach g.D.Disk.meaning
    c.pointers_to.new.store c.add.new.batch.pages pages c.args.owner.0 c.in_ok-at.at.page
    c.in_err-pointers.field-0.0) c.in_err-pointers.ensures.reaches))

pub returns-clause-keeps : goal.returns-clause-keeps
returns-clause-keeps g c = keeps_on g.D.Disk.meaning g.met.D.Disk.counts_now c.args.store.now
    c.add.new.store c.pointers_to.new.store c.in_ok-at.ensures.keeps c.in_ok-pointers.ensures.keeps

pub returns-clause-puts : goal.returns-clause-puts
returns-clause-puts g c = λ image tells. record {
  adds = c.in_ok-at.ensures.adds image tells;
  reached = seen_before g.D.Disk.meaning c.args.store.now c.add.new.store image c.add.new.batch
      c.in_ok-at.ensures.keeps tells (λ (pages : Pages). IsReached pages c.args.owner.0
      c.in_ok-at.at.page.0 c.in_ok-pointers.pointers.items) c.in_ok-pointers.ensures.reaches;
}

pub returns-in_err-pointers-clause-keeps : goal.returns-in_err-pointers-clause-keeps
returns-in_err-pointers-clause-keeps g c = keeps_on g.D.Disk.meaning g.met.D.Disk.counts_now
    c.args.store.now c.add.new.store c.pointers_to.new.store c.in_ok-at.ensures.keeps
    c.in_err-pointers.ensures.keeps

pub returns-in_err-pointers-clause-fault : goal.returns-in_err-pointers-clause-fault
returns-in_err-pointers-clause-fault g c = fault_up (Vec ℕ Global) g.D.Disk.meaning c.args.store.now
    c.add.new.store c.pointers_to.new.store c.from_residual-in_err-pointers.result c.in_err-pointers.field-0.0
    c.in_ok-at.ensures.keeps c.in_ok-at.ensures.fault.2 c.from_residual-in_err-pointers.ensures.0
    c.from_residual-in_err-pointers.ensures.1 c.in_err-pointers.ensures.fault

pub returns-clause-fault : goal.returns-clause-fault
returns-clause-fault g c = (
  c.in_ok-at.ensures.fault.0,
  c.in_ok-pointers.ensures.fault.1,
  c.in_ok-pointers.ensures.fault.2 ∙ c.in_ok-at.ensures.fault.2,
)

pub pointers_to-requires-clause-whole : goal.pointers_to-requires-clause-whole
pointers_to-requires-clause-whole g c = whole_kept g.D.Disk.meaning c.args.store.now
    c.add.new.store c.add.new.batch.pages
    c.in_ok-at.ensures.keeps
    c.in_ok-at.ensures.whole

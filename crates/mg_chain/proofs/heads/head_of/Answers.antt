use Rattle.mg_space.specs.WholeLaws.{whole_kept}
use Rattle.std.proofs.Common.{◌∙◌}
use Rattle.mg_image.specs.Form.{Pages}
use Rattle.mg_space.specs.HandedLaws.{fault_up}
use Rattle.mg_space.specs.View.{viewed}
use Rattle.mg_space.specs.ViewLaws.{keeps_on}
use Rattle.mg_space.specs.declared.fault.SpaceFault.TheVariants as faults
use Rattle.mg_heap.specs.Reach.{OwnsPage, RefusesOwner}
use Rattle.mg_base.specs.declared.numbers.PageNo.{PageNo}
use Rattle.mg_chain.specs.WritingRefusals.{RefusesHead}
use Rattle.mg_chain.proofs.HeadLemmas.{has_head, head_cell, head_none, head_owner, seen_before}
use Rattle.mg_chain.proofs.Steps.{handed_on}
use Rattle.mg_chain.proofs.heads.head_of.Goals as goal

pub returns-in_err-cell_at-clause-gives : goal.returns-in_err-cell_at-clause-gives
returns-in_err-cell_at-clause-gives g c = λ image tells.
    handed_on c.from_residual.result c.in_err-cell_at.field-0.0 _
    (RefusesHead g.D.Disk.meaning c.cell_at.new.store c.args.batch.now.pages
    (viewed c.args.store.now image c.args.batch.now) c.args.rec)
    c.from_residual.ensures.0 c.from_residual.ensures.1
    (head_cell g.D.Disk.meaning c.cell_at.new.store c.args.batch.now.pages
    (viewed c.args.store.now image c.args.batch.now) c.args.rec c.in_err-cell_at.field-0.0
    (c.in_err-cell_at.ensures.gives image tells))

pub returns-in_err-newest-clause-gives : goal.returns-in_err-newest-clause-gives
returns-in_err-newest-clause-gives g c = λ image tells.
    handed_on c.from_residual-in_err-newest.result (faults.Damaged c.in_err-newest.field-0.0) _
    (RefusesHead g.D.Disk.meaning c.cell_at.new.store c.args.batch.now.pages
    (viewed c.args.store.now image c.args.batch.now) c.args.rec)
    c.from_residual-in_err-newest.ensures.0 c.from_residual-in_err-newest.ensures.1
    (head_none g.D.Disk.meaning c.cell_at.new.store c.args.batch.now.pages
    (viewed c.args.store.now image c.args.batch.now) c.args.rec c.in_ok-cell_at.field-0
    c.in_err-newest.field-0.0 (c.in_ok-cell_at.ensures.gives image tells) c.in_err-newest.ensures)

pub returns-in_err-owner-clause-gives : goal.returns-in_err-owner-clause-gives
returns-in_err-owner-clause-gives g c = λ image tells.
    handed_on c.from_residual-in_err-owner.result c.in_err-owner.field-0.0 _
    (RefusesHead g.D.Disk.meaning c.owner_of.new.store c.args.batch.now.pages
    (viewed c.args.store.now image c.args.batch.now) c.args.rec)
    c.from_residual-in_err-owner.ensures.0 c.from_residual-in_err-owner.ensures.1
    (head_owner g.D.Disk.meaning c.owner_of.new.store c.args.batch.now.pages
    (viewed c.args.store.now image c.args.batch.now) c.args.rec c.in_err-owner.field-0.0
    (seen_before g.D.Disk.meaning c.args.store.now c.cell_at.new.store image c.args.batch.now
    c.in_ok-cell_at.ensures.keeps tells (λ (pages : Pages). RefusesOwner g.D.Disk.meaning
    c.owner_of.new.store c.args.batch.now.pages c.args.rec.page (pages c.args.rec.page.0)
    c.in_err-owner.field-0.0) c.in_err-owner.ensures.gives))

pub returns-clause-keeps : goal.returns-clause-keeps
returns-clause-keeps g c = keeps_on g.D.Disk.meaning g.met.D.Disk.counts_now c.args.store.now
    c.cell_at.new.store c.owner_of.new.store c.in_ok-cell_at.ensures.keeps c.in_ok-owner.ensures.keeps

pub returns-clause-gives : goal.returns-clause-gives
returns-clause-gives g c = λ image tells.
    has_head (viewed c.args.store.now image c.args.batch.now) c.args.rec c.in_ok-cell_at.field-0
    c.in_ok-newest.newest c.in_ok-owner.owner.0 (c.in_ok-cell_at.ensures.gives image tells)
    c.in_ok-newest.ensures
    (seen_before g.D.Disk.meaning c.args.store.now c.cell_at.new.store image c.args.batch.now
    c.in_ok-cell_at.ensures.keeps tells (λ (pages : Pages). OwnsPage c.args.rec.page
    (pages c.args.rec.page.0) c.in_ok-owner.owner.0) c.in_ok-owner.ensures.gives)

pub returns-in_err-owner-clause-keeps : goal.returns-in_err-owner-clause-keeps
returns-in_err-owner-clause-keeps g c = keeps_on g.D.Disk.meaning g.met.D.Disk.counts_now
    c.args.store.now c.cell_at.new.store c.owner_of.new.store c.in_ok-cell_at.ensures.keeps
    c.in_err-owner.ensures.keeps

pub returns-in_err-owner-clause-fault : goal.returns-in_err-owner-clause-fault
returns-in_err-owner-clause-fault g c = fault_up PageNo g.D.Disk.meaning c.args.store.now
    c.cell_at.new.store c.owner_of.new.store c.from_residual-in_err-owner.result c.in_err-owner.field-0.0
    c.in_ok-cell_at.ensures.keeps c.in_ok-cell_at.ensures.fault.2 c.from_residual-in_err-owner.ensures.0
    c.from_residual-in_err-owner.ensures.1 c.in_err-owner.ensures.fault

pub returns-clause-fault : goal.returns-clause-fault
returns-clause-fault g c = (
  c.in_ok-cell_at.ensures.fault.0,
  c.in_ok-owner.ensures.fault.1,
  c.in_ok-owner.ensures.fault.2 ∙ c.in_ok-cell_at.ensures.fault.2,
)

pub owner_of-requires-clause-whole : goal.owner_of-requires-clause-whole
owner_of-requires-clause-whole g c = whole_kept g.D.Disk.meaning c.args.store.now
    c.cell_at.new.store c.args.batch.now.pages
    c.in_ok-cell_at.ensures.keeps
    c.requires.whole

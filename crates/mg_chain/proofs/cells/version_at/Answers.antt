use Rattle.std.proofs.Common.{Option, subst}
use Rattle.std.specs.Prelude.{IfSome}
use Rattle.mg_image.specs.Records.{cells_of}
use Rattle.mg_space.specs.View.{viewed}
use Rattle.mg_space.specs.declared.fault.SpaceFault.TheVariants as faults
use Rattle.mg_chain.specs.Chains.{Meets}
use Rattle.mg_chain.specs.Refusals.{HasShortBody, RefusesVersion}
use Rattle.mg_version.specs.Cells.{IsCell}
use Rattle.mg_version.specs.declared.cell.Cell.{Cell}
use Rattle.mg_chain.proofs.Steps.{cell_refuses, handed_on, past_refuses, target_refuses}
use Rattle.mg_chain.proofs.cells.version_at.Goals as goal

pub returns-then-link-ge-GREATEST_LIMIT-clause-gives : goal.returns-then-link-ge-GREATEST_LIMIT-clause-gives
returns-then-link-ge-GREATEST_LIMIT-clause-gives g c = λ image tells.
    past_refuses g.D.Disk.meaning c.args.store.now c.args.batch.now.pages
    (viewed c.args.store.now image c.args.batch.now)
    c.args.holder.0 c.args.link c.link_damage.result c.link_damage.ensures c.if-link-ge-GREATEST_LIMIT.true

pub returns-in_err-cell_at-clause-gives : goal.returns-in_err-cell_at-clause-gives
returns-in_err-cell_at-clause-gives g c = λ image tells.
    handed_on c.from_residual-in_err-cell_at.result c.in_err-cell_at.field-0.0
    (Meets (cells_of (viewed c.args.store.now image c.args.batch.now)) c.args.link)
    (RefusesVersion g.D.Disk.meaning c.cell_at.new.store c.args.batch.now.pages
    (viewed c.args.store.now image c.args.batch.now)
    c.args.holder.0 c.args.link)
    c.from_residual-in_err-cell_at.ensures.0 c.from_residual-in_err-cell_at.ensures.1
    (cell_refuses g.D.Disk.meaning c.cell_at.new.store c.args.batch.now.pages
    (viewed c.args.store.now image c.args.batch.now)
    c.args.holder.0 c.args.link c.in_err-cell_at.field-0.0
    (c.in_err-cell_at.ensures.gives image tells))

pub returns-in_err-version_of-clause-gives : goal.returns-in_err-version_of-clause-gives
returns-in_err-version_of-clause-gives g c = λ image tells.
    handed_on c.from_residual-in_err-version_of.result (faults.Damaged c.in_err-version_of.field-0.0)
    (Meets (cells_of (viewed c.args.store.now image c.args.batch.now)) c.args.link)
    (RefusesVersion g.D.Disk.meaning c.cell_at.new.store c.args.batch.now.pages
    (viewed c.args.store.now image c.args.batch.now)
    c.args.holder.0 c.args.link)
    c.from_residual-in_err-version_of.ensures.0 c.from_residual-in_err-version_of.ensures.1
    (target_refuses g.D.Disk.meaning c.cell_at.new.store c.args.batch.now.pages
    (viewed c.args.store.now image c.args.batch.now)
    c.args.holder.0 c.args.link c.in_ok-cell_at.field-0 c.in_err-version_of.field-0.0
    (c.in_ok-cell_at.ensures.gives image tells) c.in_err-version_of.ensures.damaged.0
    c.in_err-version_of.ensures.damaged.1)

pub returns-clause-short : goal.returns-clause-short
returns-clause-short g c = subst (λ (found : Option Cell). IfSome found HasShortBody)
    c.in_ok-version_of.ensures.ok.0 c.in_ok-cell_at.ensures.short

pub returns-clause-lawful : goal.returns-clause-lawful
returns-clause-lawful g c = subst (λ (found : Option Cell). IfSome found IsCell)
    c.in_ok-version_of.ensures.ok.0 c.in_ok-cell_at.ensures.lawful

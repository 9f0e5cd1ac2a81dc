use Rattle.std.proofs.Common.{refl}
use Rattle.mg_pool.specs.declared.fault.PoolFault.TheVariants as pool_faults
use Rattle.mg_space.specs.declared.fault.SpaceFault.TheVariants as faults
use Rattle.mg_chain.specs.WritingRefusals.{RefusesFirst, made_memory}
use Rattle.mg_chain.proofs.MakeLemmas.{first_offline, made_then}
use Rattle.mg_chain.proofs.Steps.{handed_on}
use Rattle.mg_chain.proofs.making.first.Goals as goal

pub returns-in_err-online-clause-makes : goal.returns-in_err-online-clause-makes
returns-in_err-online-clause-makes g c = λ image tells.
    handed_on c.from_residual.result (faults.Pool c.in_err-online.field-0.0) _
    (RefusesFirst g.D.Disk.meaning c.args.store.now c.args.store.now image c.args.batch.now
    c.args.owner.0 c.args.at c.args.v.now) c.from_residual.ensures.0 c.from_residual.ensures.1
    (first_offline g.D.Disk.meaning c.args.store.now c.args.store.now image c.args.batch.now
    c.args.owner.0 c.args.at c.args.v.now c.in_err-online.field-0.0 c.in_err-online.ensures.refusal)

pub returns-in_err-cell-clause-makes : goal.returns-in_err-cell-clause-makes
returns-in_err-cell-clause-makes g c = λ image tells.
    handed_on c.from_residual-in_err-cell.result (faults.Pool pool_faults.Memory) _
    (RefusesFirst g.D.Disk.meaning c.args.store.now c.args.store.now image c.args.batch.now
    c.args.owner.0 c.args.at c.args.v.now) c.from_residual-in_err-cell.ensures.0
    c.from_residual-in_err-cell.ensures.1 (made_memory refl)

pub returns-clause-makes : goal.returns-clause-makes
returns-clause-makes g c = λ image tells.
    made_then g.D.Disk.meaning c.args.store.now c.first_cell.new.store image c.args.batch.now
    c.first_cell.new.batch c.args.owner.0 c.args.at c.args.v.now c.deref.result.now
    c.in_ok-cell.cell.items c.first_cell.result c.deref.ensures.value c.in_ok-cell.ensures.spells
    (c.first_cell.ensures.makes image tells)

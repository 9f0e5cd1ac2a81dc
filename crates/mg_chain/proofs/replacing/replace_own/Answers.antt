use Rattle.mg_space.specs.WholeLaws.{whole_kept, whole_as}
use Rattle.std.proofs.Common.{ap, refl, sym, ◌∙◌}
use Rattle.std.proofs.lemmas.Bool.{false≢true}
use Rattle.mg_base.specs.declared.damage.Damaged.{Damaged}
use Rattle.mg_pool.specs.declared.fault.PoolFault.TheVariants as pool_faults
use Rattle.mg_space.specs.ViewLaws.{keeps_on, tells_on, fault_on}
use Rattle.mg_space.specs.declared.fault.SpaceFault.TheVariants as faults
use Rattle.mg_space.specs.View.{pool_answer}
use Rattle.mg_chain.specs.WritingRefusals.{RefusesReplace, replace_memory, replace_newest, replace_other}
use Rattle.mg_chain.proofs.MakeLemmas.{replaced_then}
use Rattle.mg_chain.proofs.Steps.{handed_on}
use Rattle.mg_chain.proofs.replacing.replace_own.Goals as goal

pub returns-in_err-top-clause-replaces : goal.returns-in_err-top-clause-replaces
returns-in_err-top-clause-replaces g c = λ image tells.
    handed_on c.from_residual.result c.in_err-top.field-0.0 _
    (RefusesReplace g.D.Disk.meaning c.args.store.now c.newest_of.new.store image c.args.batch.now
    c.args.rec c.args.v.now) c.from_residual.ensures.0
    c.from_residual.ensures.1 (replace_newest (c.in_err-top.ensures.gives image tells))

pub returns-in_err-cell-clause-replaces : goal.returns-in_err-cell-clause-replaces
returns-in_err-cell-clause-replaces g c = λ image tells.
    handed_on c.from_residual-in_err-cell.result (faults.Pool pool_faults.Memory) _
    (RefusesReplace g.D.Disk.meaning c.args.store.now c.newest_of.new.store image c.args.batch.now
    c.args.rec c.args.v.now) c.from_residual-in_err-cell.ensures.0
    c.from_residual-in_err-cell.ensures.1 (replace_memory refl)

pub returns-clause-replaces : goal.returns-clause-replaces
returns-clause-replaces g c = λ image tells.
    replaced_then g.D.Disk.meaning c.args.store.now c.newest_of.new.store c.in_ok-top.ensures.keeps
    image c.overwrite_or_move.new.store c.args.batch.now c.overwrite_or_move.new.batch c.args.rec
    c.args.v.now c.in_ok-top.top.version c.in_ok-top.top.head.newest c.in_ok-top.top.head.owner.0
    c.deref.result.now c.in_ok-cell.cell.items c.overwrite_or_move.result c.deref.ensures.value
    (c.in_ok-top.ensures.gives image tells) (c.is_by.ensures.0 c.if-not-is_by.false) c.in_ok-cell.ensures.spells
    (c.overwrite_or_move.ensures.writes image (tells_on g.D.Disk.meaning c.args.store.now
    c.newest_of.new.store image c.in_ok-top.ensures.keeps tells))

pub returns-then-not-is_by-clause-replaces : goal.returns-then-not-is_by-clause-replaces
returns-then-not-is_by-clause-replaces g c = λ image tells.
    replace_other c.in_ok-top.top.head.newest c.in_ok-top.top.head.owner.0 c.in_ok-top.top.version
    (c.in_ok-top.ensures.gives image tells)
    (λ same. false≢true (sym c.if-not-is_by.true ∙ c.is_by.ensures.1 same))
    (ap (λ (it : Damaged). faults.Damaged it) c.other_writer.ensures)

pub returns-clause-keeps : goal.returns-clause-keeps
returns-clause-keeps g c = keeps_on g.D.Disk.meaning g.met.D.Disk.counts_now c.args.store.now
    c.newest_of.new.store c.overwrite_or_move.new.store c.in_ok-top.ensures.keeps
    c.overwrite_or_move.ensures.keeps

pub returns-clause-fault : goal.returns-clause-fault
returns-clause-fault g c = fault_on g.D.Disk.meaning c.args.store.now c.newest_of.new.store
    c.overwrite_or_move.new.store (pool_answer c.overwrite_or_move.result) c.in_ok-top.ensures.keeps
    c.in_ok-top.ensures.fault.2 c.overwrite_or_move.ensures.fault

pub returns-clause-whole : goal.returns-clause-whole
returns-clause-whole g c = whole_as c.newest_of.new.store.geometry c.args.store.now.geometry
    c.overwrite_or_move.new.batch.pages c.in_ok-top.ensures.keeps.geometry c.overwrite_or_move.ensures.whole

pub overwrite_or_move-requires-clause-whole : goal.overwrite_or_move-requires-clause-whole
overwrite_or_move-requires-clause-whole g c = whole_kept g.D.Disk.meaning c.args.store.now
    c.newest_of.new.store c.args.batch.now.pages
    c.in_ok-top.ensures.keeps
    c.requires.whole

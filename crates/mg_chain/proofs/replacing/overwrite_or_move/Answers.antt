use Rattle.mg_space.specs.WholeLaws.{whole_kept, whole_as}
use Rattle.std.proofs.Common.{inl, refl, subst, sym}
use Rattle.mg_heap.specs.ChangingLaws.{whole_where}
use Rattle.mg_pool.specs.Batch.{Changed}
use Rattle.mg_space.specs.View.{AreWhole, pool_answer}
use Rattle.mg_space.specs.ViewLaws.{tells_on, keeps_on, fault_on}
use Rattle.mg_chain.specs.WritingRefusals.{RefusesOverwrite, over_reads}
use Rattle.mg_chain.proofs.MakeLemmas.{moved_then}
use Rattle.mg_chain.proofs.Steps.{handed_on}
use Rattle.mg_chain.proofs.TurnLemmas.{puts_where}
use Rattle.mg_chain.proofs.replacing.overwrite_or_move.Goals as goal

pub returns-in_err-placed-clause-writes : goal.returns-in_err-placed-clause-writes
returns-in_err-placed-clause-writes g c = λ image tells.
    handed_on c.from_residual.result c.in_err-placed.field-0.0 _
    (RefusesOverwrite g.D.Disk.meaning c.args.store.now c.place.new.store image c.args.batch.now
    c.args.rec c.args.head.newest c.args.head.owner.0 c.args.cell.now c.args.tx)
    c.from_residual.ensures.0 c.from_residual.ensures.1
    (over_reads (c.in_err-placed.ensures.places image tells))

pub returns-in_err-placed-clause-whole : goal.returns-in_err-placed-clause-whole
returns-in_err-placed-clause-whole g c =
    subst (λ (b : Changed). AreWhole c.args.store.now.geometry b.pages)
    (sym c.in_err-placed.ensures.same) c.requires.whole

pub returns-then-placed-clause-writes : goal.returns-then-placed-clause-writes
returns-then-placed-clause-writes g c = λ image tells. inl (puts_where c.args.store.now image
    c.args.batch.now c.place.new.batch c.args.head.newest.rec c.args.cell.now c.args.cell.now
    c.in_ok-placed.placed c.if-placed.true refl c.in_ok-placed.ensures.changes
    (c.in_ok-placed.ensures.places image tells))

pub returns-then-placed-clause-whole : goal.returns-then-placed-clause-whole
returns-then-placed-clause-whole g c = whole_where c.args.store.now.geometry c.args.batch.now
    c.place.new.batch c.args.head.newest.rec.page.0 c.in_ok-placed.placed c.requires.whole
    c.in_ok-placed.ensures.below c.in_ok-placed.ensures.changes

pub returns-clause-writes : goal.returns-clause-writes
returns-clause-writes g c = λ image tells. moved_then g.D.Disk.meaning c.args.store.now
    c.place.new.store c.in_ok-placed.ensures.keeps image c.move_cell.new.store c.args.batch.now
    c.place.new.batch c.move_cell.new.batch c.args.rec c.args.head.newest c.args.head.owner.0
    c.args.cell.now c.args.tx c.args.back c.in_ok-placed.placed c.move_cell.result
    c.if-placed.false c.in_ok-placed.ensures.changes (c.in_ok-placed.ensures.places image tells)
    (c.move_cell.ensures.moves image (tells_on g.D.Disk.meaning c.args.store.now c.place.new.store image
    c.in_ok-placed.ensures.keeps tells))

pub returns-clause-keeps : goal.returns-clause-keeps
returns-clause-keeps g c = keeps_on g.D.Disk.meaning g.met.D.Disk.counts_now
    c.args.store.now c.place.new.store c.move_cell.new.store c.in_ok-placed.ensures.keeps
    c.move_cell.ensures.keeps

pub returns-clause-fault : goal.returns-clause-fault
returns-clause-fault g c = fault_on g.D.Disk.meaning c.args.store.now c.place.new.store
    c.move_cell.new.store (pool_answer c.move_cell.result) c.in_ok-placed.ensures.keeps
    c.in_ok-placed.ensures.fault.2 c.move_cell.ensures.fault

pub returns-clause-whole : goal.returns-clause-whole
returns-clause-whole g c = whole_as c.place.new.store.geometry c.args.store.now.geometry
    c.move_cell.new.batch.pages c.in_ok-placed.ensures.keeps.geometry c.move_cell.ensures.whole

pub move_cell-requires-clause-whole : goal.move_cell-requires-clause-whole
move_cell-requires-clause-whole g c = whole_kept g.D.Disk.meaning c.args.store.now
    c.place.new.store c.place.new.batch.pages
    c.in_ok-placed.ensures.keeps
    (whole_where c.args.store.now.geometry c.args.batch.now c.place.new.batch
    c.args.head.newest.rec.page.0 c.in_ok-placed.placed c.requires.whole
    c.in_ok-placed.ensures.below c.in_ok-placed.ensures.changes)

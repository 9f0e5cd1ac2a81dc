use Rattle.std.proofs.Common.{refl, sym, subst, Ok, Err}
use Rattle.std.specs.Option.{option_copied}
use Rattle.mg_btree.specs.declared.range.Step.{Step}
use Rattle.mg_btree.specs.ExitLaws.{reads_ok}
use Rattle.mg_btree.specs.ReadingLaws.{reads_on}
use Rattle.mg_btree.specs.ScanLaws.{err_is, range_gives, reads_err}
use Rattle.mg_base.specs.declared.geometry.Geometry.{Geometry}
use Rattle.mg_space.specs.Taking.{IsGeometry}
use Rattle.mg_btree.specs.Changing.{IsLeaf}
use Rattle.mg_btree.specs.declared.node.ReadNode.{ReadNode}
use Rattle.mg_btree.proofs.range.range_step.Goals as goal

pub returns-in_err-step-clause-reads : goal.returns-in_err-step-clause-reads
returns-in_err-step-clause-reads g c = reads_err Step g.D.Disk.meaning c.args.store.now
    c.next_from.new.store c.in_err-step.field-0.0 c.from_residual-in_err-step.result
    c.from_residual-in_err-step.ensures.1
    (reads_on g.D.Disk.meaning g.met.D.Disk.counts_now c.args.store.now c.first_leaf.new.store
    c.next_from.new.store (Ok c.in_ok-start.start) c.in_ok-start.start (Err c.in_err-step.field-0.0) refl
    c.in_ok-start.ensures.reads c.in_err-step.ensures.reads)

pub returns-in_err-step-clause-gives : goal.returns-in_err-step-clause-gives
returns-in_err-step-clause-gives g c = range_gives g.D.Disk.meaning c.args.store.now
    c.first_leaf.new.store c.new-batch.result c.args.root.0 c.args.low.now (option_copied c.args.after)
    c.in_ok-start.start (Err c.in_err-step.field-0.0) c.from_residual-in_err-step.result
    (err_is c.in_err-step.field-0.0 c.from_residual-in_err-step.result
    c.from_residual-in_err-step.ensures.1) c.in_ok-start.ensures.reads.keeps c.new-batch.ensures.pages
    c.in_ok-start.ensures.starts c.in_err-step.ensures.steps

pub returns-clause-reads : goal.returns-clause-reads
returns-clause-reads g c =
    let read = reads_on g.D.Disk.meaning g.met.D.Disk.counts_now c.args.store.now
    c.first_leaf.new.store c.next_from.new.store (Ok c.in_ok-start.start) c.in_ok-start.start
    (Ok c.in_ok-step.step) refl c.in_ok-start.ensures.reads c.in_ok-step.ensures.reads in
    reads_ok g.D.Disk.meaning c.args.store.now c.next_from.new.store (Ok c.in_ok-step.step)
    c.in_ok-step.step c.in_ok-step.step.found refl read

pub returns-clause-gives : goal.returns-clause-gives
returns-clause-gives g c = range_gives g.D.Disk.meaning c.args.store.now c.first_leaf.new.store
    c.new-batch.result c.args.root.0 c.args.low.now (option_copied c.args.after) c.in_ok-start.start
    (Ok c.in_ok-step.step) (Ok c.in_ok-step.step.found) refl c.in_ok-start.ensures.reads.keeps
    c.new-batch.ensures.pages c.in_ok-start.ensures.starts c.in_ok-step.ensures.steps

pub returns-in_err-start-clause-reads : goal.returns-in_err-start-clause-reads
returns-in_err-start-clause-reads g c = reads_err ReadNode g.D.Disk.meaning c.args.store.now
    c.first_leaf.new.store c.in_err-start.field-0.0 c.from_residual.result c.from_residual.ensures.1
    c.in_err-start.ensures.reads

pub next_from-requires-clause-pool : goal.next_from-requires-clause-pool
next_from-requires-clause-pool g c = c.in_ok-start.ensures.reads.keeps.pool

pub next_from-requires-clause-geometry : goal.next_from-requires-clause-geometry
next_from-requires-clause-geometry g c = subst IsGeometry
    (sym c.in_ok-start.ensures.reads.keeps.geometry) c.requires.geometry

pub next_from-requires-clause-leaf : goal.next_from-requires-clause-leaf
next_from-requires-clause-leaf g c = subst (λ (k : Geometry). IsLeaf k.size c.in_ok-start.start)
    (sym c.in_ok-start.ensures.reads.keeps.geometry) c.in_ok-start.ensures.leaf

pub next_from-requires-clause-online : goal.next_from-requires-clause-online
next_from-requires-clause-online g c = c.in_ok-start.ensures.reads.fault.1

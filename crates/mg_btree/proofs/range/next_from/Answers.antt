use Rattle.mg_space.specs.WholeLaws.{whole_kept}
use Rattle.std.proofs.Common.{rules}
use Rattle.std.specs.Prelude.{IfSome}
use Rattle.mg_btree.specs.Ranges.{IsInRange}
use Rattle.std.specs.Option.{option_copied}
use Rattle.mg_btree.specs.declared.node.ReadNode.{ReadNode}
use Rattle.mg_btree.specs.declared.range.Step.{Step}
use Rattle.mg_btree.specs.Changing.{IsLeaf}
use Rattle.mg_btree.specs.ReadingLaws.{ok_of_err}
use Rattle.mg_btree.specs.ScanLaws.{look_ends, look_leaf, look_next, look_refused, look_wants, look_within, reads_err, scan_damaged, scan_ends, scan_fine, scan_memory, scan_reads, scan_starts}
use Rattle.mg_btree.proofs.range.next_from.Goals as goal

pub loop-passed-init : goal.loop-passed-init
loop-passed-init g c = scan_starts g.D.Disk.meaning c.args.store.now c.args.batch.now c.args.start c.args.low.now
    (option_copied c.args.after) c.requires.pool c.requires.online c.requires.leaf

pub returns-in_err-look-clause-reads : goal.returns-in_err-look-clause-reads
returns-in_err-look-clause-reads g c = scan_memory g.D.Disk.meaning g.met.D.Disk.counts_now c.args.store.now c.loop-passed.store
    c.args.batch.now c.args.start c.loop-passed.leaf c.args.low.now (option_copied c.args.after)
    c.loop-passed.passed c.requires.online c.loop-passed.invariant c.from_residual.result c.from_residual.ensures.1

pub returns-in_err-look-clause-leaf : goal.returns-in_err-look-clause-leaf
returns-in_err-look-clause-leaf g c = ok_of_err (λ (step : Step). IsLeaf c.args.store.now.geometry.size
    step.walk.leaf) _ c.from_residual.result c.from_residual.ensures.1

pub returns-in_err-look-clause-steps : goal.returns-in_err-look-clause-steps
returns-in_err-look-clause-steps g c = look_wants g.D.Disk.meaning g.met.D.Disk.counts_now c.args.store.now c.loop-passed.store
    c.args.batch.now c.args.start c.loop-passed.leaf c.args.low.now (option_copied c.args.after)
    c.loop-passed.passed c.requires.online c.loop-passed.invariant c.from_residual.result c.from_residual.ensures.1

pub returns-in-Ends-clause-reads : goal.returns-in-Ends-clause-reads
returns-in-Ends-clause-reads g c = scan_fine g.D.Disk.meaning g.met.D.Disk.counts_now c.args.store.now c.loop-passed.store
    c.args.batch.now c.args.start c.loop-passed.leaf c.args.low.now (option_copied c.args.after)
    c.loop-passed.passed c.requires.online c.loop-passed.invariant c.in-Ends.step

pub returns-in-Ends-clause-leaf : goal.returns-in-Ends-clause-leaf
returns-in-Ends-clause-leaf g c = look_leaf g.D.Disk.meaning g.met.D.Disk.counts_now c.args.store.now c.loop-passed.store
    c.args.batch.now c.args.start c.loop-passed.leaf c.args.low.now (option_copied c.args.after)
    c.loop-passed.passed c.requires.online c.loop-passed.invariant c.in-Ends.step (rw c.in-Ends.is at c.in_ok-look.ensures)

pub returns-in-Ends-clause-steps : goal.returns-in-Ends-clause-steps
returns-in-Ends-clause-steps g c = look_ends g.D.Disk.meaning g.met.D.Disk.counts_now c.args.store.now c.loop-passed.store
    c.args.batch.now c.args.start c.loop-passed.leaf c.args.low.now (option_copied c.args.after)
    c.loop-passed.passed c.requires.online c.loop-passed.invariant c.in-Ends.step (rw c.in-Ends.is at c.in_ok-look.ensures)

pub returns-in_err-leaf-in-GoesOn-clause-reads : goal.returns-in_err-leaf-in-GoesOn-clause-reads
returns-in_err-leaf-in-GoesOn-clause-reads g c = reads_err ReadNode g.D.Disk.meaning c.args.store.now c.node_on.new.store
    c.in_err-leaf-in-GoesOn.field-0.0 c.from_residual-in_err-leaf-in-GoesOn.result c.from_residual-in_err-leaf-in-GoesOn.ensures.1
    (scan_reads g.D.Disk.meaning g.met.D.Disk.counts_now c.args.store.now c.loop-passed.store
    c.args.batch.now c.args.start c.loop-passed.leaf c.args.low.now (option_copied c.args.after)
    c.loop-passed.passed c.requires.online c.loop-passed.invariant c.node_on.new.store _ c.in_err-leaf-in-GoesOn.ensures.reads)

pub returns-in_err-leaf-in-GoesOn-clause-leaf : goal.returns-in_err-leaf-in-GoesOn-clause-leaf
returns-in_err-leaf-in-GoesOn-clause-leaf g c = ok_of_err (λ (step : Step). IsLeaf c.args.store.now.geometry.size
    step.walk.leaf) _ c.from_residual-in_err-leaf-in-GoesOn.result c.from_residual-in_err-leaf-in-GoesOn.ensures.1

pub returns-in_err-leaf-in-GoesOn-clause-steps : goal.returns-in_err-leaf-in-GoesOn-clause-steps
returns-in_err-leaf-in-GoesOn-clause-steps g c = look_refused g.D.Disk.meaning g.met.D.Disk.counts_now c.args.store.now c.loop-passed.store
    c.args.batch.now c.args.start c.loop-passed.leaf c.args.low.now (option_copied c.args.after)
    c.loop-passed.passed c.requires.online c.loop-passed.invariant c.loop-passed.passed c.in-GoesOn.right
    c.get_u32-owner.result c.in_err-leaf-in-GoesOn.field-0.0 c.from_residual-in_err-leaf-in-GoesOn.result
    (rw c.in-GoesOn.is at c.in_ok-look.ensures) c.from_residual-in_err-leaf-in-GoesOn.ensures.1 (search rules)
    c.in_err-leaf-in-GoesOn.ensures.seen

pub loop-passed-preserved : goal.loop-passed-preserved
loop-passed-preserved g c = look_next g.D.Disk.meaning g.met.D.Disk.counts_now c.args.store.now c.loop-passed.store
    c.args.batch.now c.args.start c.loop-passed.leaf c.args.low.now (option_copied c.args.after)
    c.loop-passed.passed c.requires.online c.loop-passed.invariant c.loop-passed.passed c.in-GoesOn.right c.node_on.new.store
    c.in_ok-leaf-in-GoesOn.leaf c.get_u32-owner.result (rw c.in-GoesOn.is at c.in_ok-look.ensures)
    c.in_ok-leaf-in-GoesOn.ensures.reads c.in_ok-leaf-in-GoesOn.ensures.read c.in_ok-leaf-in-GoesOn.ensures.seen

pub returns-clause-reads : goal.returns-clause-reads
returns-clause-reads g c = scan_damaged g.D.Disk.meaning g.met.D.Disk.counts_now c.args.store.now c.loop-passed.store
    c.args.batch.now c.args.start c.loop-passed.leaf c.args.low.now (option_copied c.args.after)
    c.loop-passed.passed c.requires.online c.loop-passed.invariant c.circle.result

pub returns-clause-leaf : goal.returns-clause-leaf
returns-clause-leaf g c = tt

pub returns-clause-steps : goal.returns-clause-steps
returns-clause-steps g c = λ image owner root levels tells scan. absurd (scan_ends g.D.Disk.meaning g.met.D.Disk.counts_now c.args.store.now c.loop-passed.store
    c.args.batch.now c.args.start c.loop-passed.leaf c.args.low.now (option_copied c.args.after)
    c.loop-passed.passed c.requires.online c.loop-passed.invariant
    (search rules) image owner root levels tells scan)

pub returns-in_err-look-clause-within : goal.returns-in_err-look-clause-within
returns-in_err-look-clause-within g c = ok_of_err (λ (step : Step). IfSome step.found (IsInRange c.args.low.now
    (option_copied c.args.after))) _ c.from_residual.result c.from_residual.ensures.1

pub returns-in-Ends-clause-within : goal.returns-in-Ends-clause-within
returns-in-Ends-clause-within g c = look_within c.args.low.now (option_copied c.args.after) c.loop-passed.leaf
    c.loop-passed.passed c.in-Ends.step (rw c.in-Ends.is at c.in_ok-look.ensures)

pub returns-in_err-leaf-in-GoesOn-clause-within : goal.returns-in_err-leaf-in-GoesOn-clause-within
returns-in_err-leaf-in-GoesOn-clause-within g c = ok_of_err (λ (step : Step). IfSome step.found (IsInRange c.args.low.now
    (option_copied c.args.after))) _ c.from_residual-in_err-leaf-in-GoesOn.result c.from_residual-in_err-leaf-in-GoesOn.ensures.1

pub returns-clause-within : goal.returns-clause-within
returns-clause-within g c = tt

pub node_on-requires-clause-whole : goal.node_on-requires-clause-whole
node_on-requires-clause-whole g c = whole_kept g.D.Disk.meaning c.args.store.now c.loop-passed.store c.args.batch.now.pages
    c.loop-passed.invariant.keeps c.requires.whole

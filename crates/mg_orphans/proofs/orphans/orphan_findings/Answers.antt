use Rattle.std.proofs.Common.{refl}
use Rattle.mg_base.specs.Image.{page_at}
use Rattle.mg_base.specs.declared.geometry.TheConstants.{GREATEST_LIMIT}
use Rattle.mg_findings.specs.RungLaws.{list_as}
use Rattle.mg_orphans.specs.Orphans.{IsOrphanFinding}
use Rattle.mg_orphans.proofs.OrphanLemmas.{all_below, below_more, cause_of}
use Rattle.mg_orphans.proofs.orphans.orphan_findings.Goals as goal

pub loop-n-preserved : goal.loop-n-preserved
loop-n-preserved c = below_more c.args.size (page_at c.args.size c.args.pages.now)
    c.args.reached.now c.loop-n.n c.loop-n.findings.items c.note_orphan.new.findings.items
    c.loop-n.invariant c.in_ok-note_orphan.ensures.adds

pub returns-clause-list : goal.returns-clause-list
returns-clause-list c = list_as (IsOrphanFinding c.args.size
    (page_at c.args.size c.args.pages.now) c.args.reached.now) c.loop-n.findings.items
    c.in_order.new.findings.items c.in_order.ensures (all_below c.args.size
    (page_at c.args.size c.args.pages.now) c.args.reached.now c.loop-n.n GREATEST_LIMIT
    c.loop-n.findings.items c.loop-n.auto.n-end c.loop-n-test.false c.loop-n.invariant)

pub returns-in_err-note_orphan-clause-cause : goal.returns-in_err-note_orphan-clause-cause
returns-in_err-note_orphan-clause-cause c = λ failed. cause_of c.args.size
    (page_at c.args.size c.args.pages.now) c.args.reached.now c.loop-n.n GREATEST_LIMIT
    c.loop-n-test.true (c.in_err-note_orphan.ensures.cause refl)

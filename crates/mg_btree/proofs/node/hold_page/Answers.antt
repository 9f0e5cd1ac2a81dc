use Rattle.mg_btree.proofs.HoldingLemmas.{hold_reads, hold_seen}
use Rattle.mg_btree.proofs.node.hold_page.Goals as goal

pub returns-clause-reads : goal.returns-clause-reads
returns-clause-reads g c = hold_reads g.D.Disk.meaning c.args.store.now c.hold.new.store
    c.args.batch.now.pages c.args.page c.hold.result c.hold.ensures.keeps c.hold.ensures.fault
    c.hold.ensures.refusal

pub returns-clause-seen : goal.returns-clause-seen
returns-clause-seen g c = λ image tells. hold_seen g.D.Disk.meaning g.met.D.Disk.counted c.args.store.now
    c.hold.new.store image c.args.batch.now c.args.page c.hold.result c.hold.ensures.keeps tells
    c.hold.ensures.refusal

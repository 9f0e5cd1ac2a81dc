use Rattle.std.proofs.Common.{subst}
use Rattle.mg_heap.specs.Reading.{RefusesData}
use Rattle.mg_heap.proofs.ListedLemmas.{none_started}
use Rattle.mg_space.specs.View.{viewed}
use Rattle.mg_space.specs.declared.fault.SpaceFault.{SpaceFault}
use Rattle.mg_heap.proofs.listed.holds_data.Goals as goal

pub returns-in-Err-Damaged-clause-none : goal.returns-in-Err-Damaged-clause-none
returns-in-Err-Damaged-clause-none g c = λ image tells. none_started g.D.Disk.meaning g.met.D.Disk.counted
    c.args.store.now c.hold_data.new.store image c.args.batch.now c.args.page c.in-Err-Damaged.field-0-0
    c.in-Err-Damaged.ensures.keeps tells
    (subst (λ (fault : SpaceFault). RefusesData g.D.Disk.meaning c.hold_data.new.store
    c.args.batch.now.pages c.args.page (viewed c.args.store.now image c.args.batch.now c.args.page.0) fault)
    c.in-Err-Damaged.field-0-is (c.in-Err-Damaged.ensures.seen image tells))

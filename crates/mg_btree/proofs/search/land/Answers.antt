use Rattle.mg_space.specs.WholeLaws.{whole_kept}
use Rattle.std.proofs.Common.{rules, ◌<◌, refl, Ok}
use Rattle.mg_btree.specs.ExitLaws.{reads_ok}
use Rattle.mg_btree.specs.LandingLaws.{here_below, here_comes, here_reached, landing_next, landing_refused}
use Rattle.mg_btree.specs.ReadingLaws.{ok_of_err}
use Rattle.mg_btree.specs.ScanLaws.{reads_err}
use Rattle.mg_btree.specs.Searching.{IsReached}
use Rattle.mg_btree.specs.WayLaws.{way_circle, way_damaged, way_ends, way_reads, way_refused, way_starts}
use Rattle.mg_btree.specs.declared.node.ReadNode.{ReadNode}
use Rattle.mg_btree.proofs.search.land.Goals as goal

pub loop-init : goal.loop-init
loop-init g c = way_starts g.D.Disk.meaning c.args.store.now c.args.batch.now c.args.owner c.args.level
    c.args.e.now c.args.page.0 c.requires.pool

pub returns-in_err-read-clause-reads : goal.returns-in_err-read-clause-reads
returns-in_err-read-clause-reads g c = reads_err ReadNode g.D.Disk.meaning c.args.store.now c.node_on.new.store
    c.in_err-read.field-0.0 c.from_residual.result c.from_residual.ensures.1
    (way_reads g.D.Disk.meaning g.met.D.Disk.counts_now
    c.args.store.now c.loop.store c.node_on.new.store c.args.batch.now c.args.owner c.args.level
    c.args.e.now c.args.page.0 c.loop.at.0 c.loop.counter _ c.loop.invariant c.in_err-read.ensures.reads)

pub returns-in_err-read-clause-reached : goal.returns-in_err-read-clause-reached
returns-in_err-read-clause-reached g c = ok_of_err (IsReached c.args.store.now.geometry.size c.args.owner
    c.args.level c.args.e.now) _ c.from_residual.result c.from_residual.ensures.1

pub returns-in_err-read-clause-comes : goal.returns-in_err-read-clause-comes
returns-in_err-read-clause-comes g c = way_refused g.D.Disk.meaning c.args.store.now c.loop.store c.args.batch.now c.args.owner c.args.level
    c.args.e.now c.args.page.0 c.loop.at.0 c.loop.counter
    c.in_err-read.field-0.0 c.from_residual.result c.loop.invariant c.from_residual.ensures.1
    c.in_err-read.ensures.seen

pub returns-in_err-landing-clause-reads : goal.returns-in_err-landing-clause-reads
returns-in_err-landing-clause-reads g c = way_damaged g.D.Disk.meaning g.met.D.Disk.counts_now
    c.args.store.now c.loop.store c.node_on.new.store c.args.batch.now c.args.owner c.args.level
    c.args.e.now c.args.page.0 c.loop.at.0 c.loop.counter (Ok c.in_ok-read.read) c.in_ok-read.read
    c.in_err-landing.field-0.0 c.from_residual-in_err-landing.result c.loop.invariant
    refl c.in_ok-read.ensures.reads c.from_residual-in_err-landing.ensures.1

pub returns-in_err-landing-clause-reached : goal.returns-in_err-landing-clause-reached
returns-in_err-landing-clause-reached g c = ok_of_err (IsReached c.args.store.now.geometry.size c.args.owner
    c.args.level c.args.e.now) _ c.from_residual-in_err-landing.result c.from_residual-in_err-landing.ensures.1

pub returns-in_err-landing-clause-comes : goal.returns-in_err-landing-clause-comes
returns-in_err-landing-clause-comes g c = landing_refused g.D.Disk.meaning c.args.store.now c.loop.store c.args.batch.now c.args.owner c.args.level
    c.args.e.now c.args.page.0 c.loop.at.0 c.loop.counter c.loop.invariant
    c.in_ok-read.read c.in_ok-read.ensures.read c.in_ok-read.ensures.seen
    c.from_residual-in_err-landing.result c.in_err-landing.field-0.0
    c.from_residual-in_err-landing.ensures.1 c.in_err-landing.ensures

pub returns-in-Here-clause-reads : goal.returns-in-Here-clause-reads
returns-in-Here-clause-reads g c = reads_ok g.D.Disk.meaning c.args.store.now c.node_on.new.store
    (Ok c.in_ok-read.read) c.in_ok-read.read c.in-Here.found refl (way_reads g.D.Disk.meaning
    g.met.D.Disk.counts_now c.args.store.now c.loop.store c.node_on.new.store c.args.batch.now
    c.args.owner c.args.level c.args.e.now c.args.page.0 c.loop.at.0 c.loop.counter
    (Ok c.in_ok-read.read) c.loop.invariant c.in_ok-read.ensures.reads)

pub returns-in-Here-clause-reached : goal.returns-in-Here-clause-reached
returns-in-Here-clause-reached g c = here_reached g.D.Disk.meaning c.args.store.now c.loop.store c.args.batch.now c.args.owner c.args.level
    c.args.e.now c.args.page.0 c.loop.at.0 c.loop.counter c.loop.invariant
    c.in_ok-read.read c.in_ok-read.ensures.read c.in_ok-read.ensures.seen
    c.in-Here.found (rw c.in-Here.is at c.in_ok-landing.ensures)

pub returns-in-Here-clause-comes : goal.returns-in-Here-clause-comes
returns-in-Here-clause-comes g c = here_comes g.D.Disk.meaning c.args.store.now c.loop.store c.args.batch.now c.args.owner c.args.level
    c.args.e.now c.args.page.0 c.loop.at.0 c.loop.counter c.loop.invariant
    c.in_ok-read.read c.in_ok-read.ensures.read c.in_ok-read.ensures.seen
    c.in-Here.found (rw c.in-Here.is at c.in_ok-landing.ensures)

pub loop-preserved : goal.loop-preserved
loop-preserved g c = landing_next g.D.Disk.meaning c.args.store.now c.loop.store c.args.batch.now c.args.owner c.args.level
    c.args.e.now c.args.page.0 c.loop.at.0 c.loop.counter c.loop.invariant
    c.in_ok-read.read c.in_ok-read.ensures.read c.in_ok-read.ensures.seen
    g.met.D.Disk.counts_now c.node_on.new.store c.in_ok-read.ensures.reads c.in-Right.next
    (rw c.in-Right.is at c.in_ok-landing.ensures)

pub returns-clause-reads : goal.returns-clause-reads
returns-clause-reads g c = way_circle g.D.Disk.meaning c.args.store.now c.loop.store c.args.batch.now c.args.owner c.args.level
    c.args.e.now c.args.page.0 c.loop.at.0 c.loop.counter c.loop.invariant (search rules) c.circle.result

pub returns-clause-reached : goal.returns-clause-reached
returns-clause-reached g c = tt

pub returns-clause-comes : goal.returns-clause-comes
returns-clause-comes g c = λ image root levels tells begins. absurd (way_ends g.D.Disk.meaning
    c.args.store.now c.loop.store c.args.batch.now c.args.owner c.args.level
    c.args.e.now c.args.page.0 c.loop.at.0 c.loop.counter c.loop.invariant (search rules) image root levels tells begins)

pub returns-in_err-read-clause-below : goal.returns-in_err-read-clause-below
returns-in_err-read-clause-below g c = ok_of_err (λ (read : ReadNode). read.page.0
    < c.args.store.now.geometry.limit) _ c.from_residual.result c.from_residual.ensures.1

pub returns-in_err-landing-clause-below : goal.returns-in_err-landing-clause-below
returns-in_err-landing-clause-below g c = ok_of_err (λ (read : ReadNode). read.page.0
    < c.args.store.now.geometry.limit) _ c.from_residual-in_err-landing.result
    c.from_residual-in_err-landing.ensures.1

pub returns-in-Here-clause-below : goal.returns-in-Here-clause-below
returns-in-Here-clause-below g c = here_below g.D.Disk.meaning c.args.store.now c.loop.store c.args.batch.now c.args.owner c.args.level
    c.args.e.now c.args.page.0 c.loop.at.0 c.loop.counter c.loop.invariant
    c.in_ok-read.read c.in_ok-read.ensures.read c.in_ok-read.ensures.seen
    c.in-Here.found (rw c.in-Here.is at c.in_ok-landing.ensures) c.in_ok-read.ensures.below

pub returns-clause-below : goal.returns-clause-below
returns-clause-below g c = tt

pub node_on-requires-clause-whole : goal.node_on-requires-clause-whole
node_on-requires-clause-whole g c = whole_kept g.D.Disk.meaning c.args.store.now c.loop.store c.args.batch.now.pages
    c.loop.invariant.keeps c.requires.whole

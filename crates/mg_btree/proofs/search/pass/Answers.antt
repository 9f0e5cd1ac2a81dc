use Rattle.mg_space.specs.WholeLaws.{whole_kept}
use Rattle.std.proofs.Common.{rules, refl, Err, ap, ◌∙◌}
use Rattle.mg_base.specs.declared.geometry.Geometry.{Geometry}
use Rattle.mg_btree.specs.ExitLaws.{reads_ok}
use Rattle.mg_btree.specs.PassLaws.{pass_down, pass_tested, pass_unread}
use Rattle.mg_btree.specs.RowOrderLaws.{not_there}
use Rattle.mg_btree.specs.ScanLaws.{reads_err}
use Rattle.mg_btree.specs.WayLaws.{way_circle, way_damaged, way_ends, way_next, way_reads, way_starts}
use Rattle.mg_btree.specs.AboveLaws.{sized_by}
use Rattle.mg_btree.proofs.GrowingLemmas.{inner_of}
use Rattle.mg_btree.proofs.HoldingLemmas.{lent_long, lent_seen}
use Rattle.mg_btree.proofs.search.pass.Goals as goal

pub loop-init : goal.loop-init
loop-init g c = way_starts g.D.Disk.meaning c.args.store.now c.args.batch.now c.args.owner c.args.level
    c.args.e.now c.args.page.0 c.requires.pool

pub returns-in_err-hold_page-clause-reads : goal.returns-in_err-hold_page-clause-reads
returns-in_err-hold_page-clause-reads g c = reads_err _ g.D.Disk.meaning c.args.store.now
    c.hold_page.new.store c.in_err-hold_page.field-0.0 c.from_residual.result c.from_residual.ensures.1
    (way_reads g.D.Disk.meaning g.met.D.Disk.counts_now c.args.store.now c.loop.store
    c.hold_page.new.store c.args.batch.now c.args.owner c.args.level c.args.e.now c.args.page.0
    c.loop.at.0 c.loop.counter _ c.loop.invariant c.in_err-hold_page.ensures.reads)

pub returns-in_err-hold_page-clause-passes : goal.returns-in_err-hold_page-clause-passes
returns-in_err-hold_page-clause-passes g c = pass_unread g.D.Disk.meaning c.args.store.now c.loop.store
    c.args.batch.now c.args.owner c.args.level c.args.e.now c.args.page.0 c.loop.at.0 c.loop.counter
    c.loop.invariant c.in_err-hold_page.field-0.0 c.from_residual.result c.from_residual.ensures.1
    c.in_err-hold_page.ensures.seen

pub lent-bytes-requires-clause-pool : goal.lent-bytes-requires-clause-pool
lent-bytes-requires-clause-pool g c = c.in_ok-hold_page.ensures.reads.keeps.pool

pub lent-bytes-requires-clause-whole : goal.lent-bytes-requires-clause-whole
lent-bytes-requires-clause-whole g c = whole_kept g.D.Disk.meaning c.loop.store c.hold_page.new.store
    c.args.batch.now.pages c.in_ok-hold_page.ensures.reads.keeps
    (whole_kept g.D.Disk.meaning c.args.store.now c.loop.store c.args.batch.now.pages
    c.loop.invariant.keeps c.requires.whole)

pub returns-in_err-check_above-clause-reads : goal.returns-in_err-check_above-clause-reads
returns-in_err-check_above-clause-reads g c = way_damaged g.D.Disk.meaning g.met.D.Disk.counts_now
    c.args.store.now c.loop.store c.hold_page.new.store c.args.batch.now c.args.owner c.args.level
    c.args.e.now c.args.page.0 c.loop.at.0 c.loop.counter _ _
    c.in_err-check_above.field-0.0 c.from_residual-in_err-check_above.result c.loop.invariant
    refl c.in_ok-hold_page.ensures.reads c.from_residual-in_err-check_above.ensures.1

pub returns-in_err-check_above-clause-passes : goal.returns-in_err-check_above-clause-passes
returns-in_err-check_above-clause-passes g c = pass_tested g.D.Disk.meaning c.args.store.now c.loop.store
    c.args.batch.now c.args.owner c.args.level c.args.e.now c.args.page.0 c.loop.at.0 c.loop.counter
    c.loop.invariant c.lent-bytes.result.now (Err c.in_err-check_above.field-0.0)
    c.in_err-check_above.field-0.0 c.from_residual-in_err-check_above.result refl
    c.from_residual-in_err-check_above.ensures.1
    (lent_seen g.D.Disk.meaning c.loop.store c.hold_page.new.store c.args.batch.now c.loop.at.0
    c.lent-bytes.result.now c.in_ok-hold_page.ensures.reads.keeps c.lent-bytes.ensures.seen)
    c.in_err-check_above.ensures.1

pub returns-then-is_under-clause-reads : goal.returns-then-is_under-clause-reads
returns-then-is_under-clause-reads g c = reads_ok g.D.Disk.meaning c.args.store.now
    c.hold_page.new.store _ _ (record { 0 = c.child_on.result }) refl
    (way_reads g.D.Disk.meaning g.met.D.Disk.counts_now
    c.args.store.now c.loop.store c.hold_page.new.store c.args.batch.now c.args.owner c.args.level
    c.args.e.now c.args.page.0 c.loop.at.0 c.loop.counter _ c.loop.invariant
    c.in_ok-hold_page.ensures.reads)

pub returns-then-is_under-clause-passes : goal.returns-then-is_under-clause-passes
returns-then-is_under-clause-passes g c = pass_down g.D.Disk.meaning c.args.store.now c.loop.store
    c.args.batch.now c.args.owner c.args.level c.args.e.now c.args.page.0 c.loop.at.0 c.loop.counter
    c.loop.invariant c.lent-bytes.result.now c.child_on.result
    (lent_seen g.D.Disk.meaning c.loop.store c.hold_page.new.store c.args.batch.now c.loop.at.0
    c.lent-bytes.result.now c.in_ok-hold_page.ensures.reads.keeps c.lent-bytes.ensures.seen)
    c.child_on.ensures

pub loop-preserved : goal.loop-preserved
loop-preserved g c = way_next g.D.Disk.meaning g.met.D.Disk.counts_now c.args.store.now c.loop.store
    c.hold_page.new.store c.args.batch.now c.args.owner c.args.level c.args.e.now c.args.page.0
    c.loop.at.0 c.loop.counter c.right_of-at.result.0 _ _
    c.lent-bytes.result.now c.loop.invariant refl c.in_ok-hold_page.ensures.reads
    (lent_seen g.D.Disk.meaning c.loop.store c.hold_page.new.store c.args.batch.now c.loop.at.0
    c.lent-bytes.result.now c.in_ok-hold_page.ensures.reads.keeps c.lent-bytes.ensures.seen)
    (λ lawful. not_there c.is_under.result (c.is_under.ensures lawful).1 c.if-is_under.false)
    c.right_of-at.ensures

pub returns-clause-reads : goal.returns-clause-reads
returns-clause-reads g c = way_circle g.D.Disk.meaning c.args.store.now c.loop.store
    c.args.batch.now c.args.owner c.args.level c.args.e.now c.args.page.0 c.loop.at.0 c.loop.counter
    c.loop.invariant (search rules) c.circle.result

pub returns-clause-passes : goal.returns-clause-passes
returns-clause-passes g c = λ image root levels tells begins. absurd (way_ends g.D.Disk.meaning
    c.args.store.now c.loop.store c.args.batch.now c.args.owner c.args.level c.args.e.now
    c.args.page.0 c.loop.at.0 c.loop.counter c.loop.invariant (search rules) image root levels tells begins)

pub check_above-requires : goal.check_above-requires
check_above-requires g c = (sized_by c.args.store.now.geometry c.lent-bytes.result.now
    c.requires.geometry (lent_long g.D.Disk.meaning c.loop.store c.hold_page.new.store
    c.lent-bytes.result.now c.in_ok-hold_page.ensures.reads.keeps c.lent-bytes.ensures.len
    ∙ ap (λ (k : Geometry). k.size) c.loop.invariant.keeps.geometry)).least

pub is_under-requires-clause-least : goal.is_under-requires-clause-least
is_under-requires-clause-least g c = (sized_by c.args.store.now.geometry c.lent-bytes.result.now
    c.requires.geometry (lent_long g.D.Disk.meaning c.loop.store c.hold_page.new.store
    c.lent-bytes.result.now c.in_ok-hold_page.ensures.reads.keeps c.lent-bytes.ensures.len
    ∙ ap (λ (k : Geometry). k.size) c.loop.invariant.keeps.geometry)).least

pub is_under-requires-clause-most : goal.is_under-requires-clause-most
is_under-requires-clause-most g c = (sized_by c.args.store.now.geometry c.lent-bytes.result.now
    c.requires.geometry (lent_long g.D.Disk.meaning c.loop.store c.hold_page.new.store
    c.lent-bytes.result.now c.in_ok-hold_page.ensures.reads.keeps c.lent-bytes.ensures.len
    ∙ ap (λ (k : Geometry). k.size) c.loop.invariant.keeps.geometry)).most

pub child_on-requires-clause-least : goal.child_on-requires-clause-least
child_on-requires-clause-least g c = (sized_by c.args.store.now.geometry c.lent-bytes.result.now
    c.requires.geometry (lent_long g.D.Disk.meaning c.loop.store c.hold_page.new.store
    c.lent-bytes.result.now c.in_ok-hold_page.ensures.reads.keeps c.lent-bytes.ensures.len
    ∙ ap (λ (k : Geometry). k.size) c.loop.invariant.keeps.geometry)).least

pub child_on-requires-clause-most : goal.child_on-requires-clause-most
child_on-requires-clause-most g c = (sized_by c.args.store.now.geometry c.lent-bytes.result.now
    c.requires.geometry (lent_long g.D.Disk.meaning c.loop.store c.hold_page.new.store
    c.lent-bytes.result.now c.in_ok-hold_page.ensures.reads.keeps c.lent-bytes.ensures.len
    ∙ ap (λ (k : Geometry). k.size) c.loop.invariant.keeps.geometry)).most

pub right_of-at-requires : goal.right_of-at-requires
right_of-at-requires g c = (sized_by c.args.store.now.geometry c.lent-bytes.result.now
    c.requires.geometry (lent_long g.D.Disk.meaning c.loop.store c.hold_page.new.store
    c.lent-bytes.result.now c.in_ok-hold_page.ensures.reads.keeps c.lent-bytes.ensures.len
    ∙ ap (λ (k : Geometry). k.size) c.loop.invariant.keeps.geometry)).least

pub child_on-requires-clause-inner : goal.child_on-requires-clause-inner
child_on-requires-clause-inner g c = inner_of c.lent-bytes.result.now c.args.level
    (c.in_ok-check_above.ensures.0 refl).1 c.requires.inner

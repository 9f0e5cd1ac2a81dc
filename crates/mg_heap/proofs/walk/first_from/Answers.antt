use Rattle.std.proofs.Common.{◌≡◌, ◌∙◌, ◌+◌, Option, Some, refl, List, ℕ, arith, subst, sym}
use Rattle.mg_base.specs.declared.numbers.PageNo.{PageNo}
use Rattle.mg_image.specs.Form.{Pages}
use Rattle.mg_space.specs.HandedLaws.{fault_same, fault_up}
use Rattle.mg_space.specs.View.{viewed}
use Rattle.mg_space.specs.ViewLaws.{keeps_on}
use Rattle.mg_heap.specs.HandedLaws.{reads_same}
use Rattle.mg_heap.specs.Places.{FindsPlace, RefusesPlace}
use Rattle.mg_heap.specs.Walk.{AreEmpty, RefusesFrom, RefusesTableData}
use Rattle.mg_heap.proofs.HoldingLemmas.{data_lawful}
use Rattle.mg_heap.proofs.TableLemmas.{as_started, handed_on, geometry_later, whole_later}
use Rattle.mg_heap.proofs.WalkLemmas.{empty_here, first_empty, further, gives_end, gives_here, less_left, next_few, one_empty, place_broken, place_unlike}
use Rattle.mg_heap.proofs.walk.first_from.Goals as goal

-- ---- the first place

pub returns-in_err-next-clause-keeps : goal.returns-in_err-next-clause-keeps
returns-in_err-next-clause-keeps g c = c.in_err-next.ensures.keeps

pub returns-in_err-next-clause-fault : goal.returns-in_err-next-clause-fault
returns-in_err-next-clause-fault g c = fault_same (Option PageNo) g.D.Disk.meaning c.args.store.now
    c.data_page_at.new.store c.from_residual.result c.in_err-next.field-0.0 c.from_residual.ensures.0
    c.from_residual.ensures.1 c.in_err-next.ensures.fault

pub returns-in_err-next-clause-own : goal.returns-in_err-next-clause-own
returns-in_err-next-clause-own g c = reads_same (Option PageNo) c.from_residual.result
    c.in_err-next.field-0.0 c.from_residual.ensures.0 c.from_residual.ensures.1 c.in_err-next.ensures.own

pub returns-in_err-next-clause-gives : goal.returns-in_err-next-clause-gives
returns-in_err-next-clause-gives g c = λ image tells. handed_on c.from_residual.result
    c.in_err-next.field-0.0 _
    (RefusesFrom g.D.Disk.meaning c.data_page_at.new.store c.args.batch.now.pages
    (viewed c.args.store.now image c.args.batch.now) c.args.owner.0 c.args.start)
    c.from_residual.ensures.0 c.from_residual.ensures.1
    (place_broken g.D.Disk.meaning c.data_page_at.new.store c.args.batch.now.pages
    (viewed c.args.store.now image c.args.batch.now) c.args.owner.0 c.args.start c.args.start
    c.in_err-next.field-0.0 (omega arith)
    (first_empty (viewed c.args.store.now image c.args.batch.now) c.args.owner.0 c.args.start)
    (c.in_err-next.ensures.finds image tells))

pub loop-next-init : goal.loop-next-init
loop-next-init g c = record {
  keeps = c.in_ok-next.ensures.keeps;
  faults = c.in_ok-next.ensures.fault.2;
  from = omega arith;
  few = c.in_ok-next.ensures.few;
  empty = λ image tells. first_empty (viewed c.args.store.now image c.args.batch.now) c.args.owner.0
      c.args.start;
  found = λ image tells. c.in_ok-next.ensures.finds image tells;
}

-- ---- one page

pub hold_table_data-requires-clause-geometry : goal.hold_table_data-requires-clause-geometry
hold_table_data-requires-clause-geometry g c = geometry_later g.D.Disk.meaning c.args.store.now
    c.loop-next.store c.loop-next.invariant.keeps c.requires.geometry

pub hold_table_data-requires-clause-whole : goal.hold_table_data-requires-clause-whole
hold_table_data-requires-clause-whole g c = whole_later g.D.Disk.meaning c.args.store.now
    c.loop-next.store c.loop-next.invariant.keeps c.args.batch.now.pages c.requires.whole

pub returns-in_err-hold_table_data-clause-keeps : goal.returns-in_err-hold_table_data-clause-keeps
returns-in_err-hold_table_data-clause-keeps g c = keeps_on g.D.Disk.meaning g.met.D.Disk.counts_now
    c.args.store.now c.loop-next.store c.hold_table_data.new.store c.loop-next.invariant.keeps
    c.in_err-hold_table_data.ensures.keeps

pub returns-in_err-hold_table_data-clause-fault : goal.returns-in_err-hold_table_data-clause-fault
returns-in_err-hold_table_data-clause-fault g c = fault_up (Unit {0}) g.D.Disk.meaning c.args.store.now
    c.loop-next.store c.hold_table_data.new.store c.from_residual-in_err-hold_table_data.result
    c.in_err-hold_table_data.field-0.0 c.loop-next.invariant.keeps c.loop-next.invariant.faults
    c.from_residual-in_err-hold_table_data.ensures.0 c.from_residual-in_err-hold_table_data.ensures.1
    c.in_err-hold_table_data.ensures.fault

pub returns-in_err-hold_table_data-clause-gives : goal.returns-in_err-hold_table_data-clause-gives
returns-in_err-hold_table_data-clause-gives g c = λ image tells. handed_on
    c.from_residual-in_err-hold_table_data.result
    c.in_err-hold_table_data.field-0.0 _
    (RefusesFrom g.D.Disk.meaning c.hold_table_data.new.store c.args.batch.now.pages
    (viewed c.args.store.now image c.args.batch.now) c.args.owner.0 c.args.start)
    c.from_residual-in_err-hold_table_data.ensures.0 c.from_residual-in_err-hold_table_data.ensures.1
    (place_unlike g.D.Disk.meaning c.hold_table_data.new.store c.args.batch.now.pages
    (viewed c.args.store.now image c.args.batch.now) c.args.owner.0 c.args.start c.loop-next.place
    c.in-Some.n c.in_err-hold_table_data.field-0.0 c.loop-next.invariant.from
    (c.loop-next.invariant.empty image tells)
    (subst (FindsPlace (viewed c.args.store.now image c.args.batch.now) c.args.owner.0 c.loop-next.place)
    c.in-Some.is (c.loop-next.invariant.found image tells))
    (as_started g.D.Disk.meaning c.args.store.now c.loop-next.store image c.args.batch.now
    c.loop-next.invariant.keeps tells (λ (pages : Pages). RefusesTableData g.D.Disk.meaning
    c.hold_table_data.new.store c.args.batch.now.pages (pages c.in-Some.n.0) c.args.owner.0
    c.loop-next.place c.in-Some.n c.in_err-hold_table_data.field-0.0)
    (c.in_err-hold_table_data.ensures.seen image)))

pub returns-in-Some-first_record-clause-keeps : goal.returns-in-Some-first_record-clause-keeps
returns-in-Some-first_record-clause-keeps g c = keeps_on g.D.Disk.meaning g.met.D.Disk.counts_now
    c.args.store.now c.loop-next.store c.hold_table_data.new.store c.loop-next.invariant.keeps
    c.in_ok-hold_table_data.ensures.keeps

pub returns-in-Some-first_record-clause-fault : goal.returns-in-Some-first_record-clause-fault
returns-in-Some-first_record-clause-fault g c = (
  c.in_ok-next.ensures.fault.0,
  c.in_ok-hold_table_data.ensures.fault.1,
  c.in_ok-hold_table_data.ensures.fault.2 ∙ c.loop-next.invariant.faults,
)

pub returns-in-Some-first_record-clause-gives : goal.returns-in-Some-first_record-clause-gives
returns-in-Some-first_record-clause-gives g c = λ image tells. gives_here
    (viewed c.args.store.now image c.args.batch.now) c.args.owner.0 c.args.start c.loop-next.place
    c.in-Some.n c.lent-page.result.now c.in-Some-first_record.found c.loop-next.invariant.from
    (c.loop-next.invariant.empty image tells)
    (subst (FindsPlace (viewed c.args.store.now image c.args.batch.now) c.args.owner.0 c.loop-next.place)
    c.in-Some.is (c.loop-next.invariant.found image tells))
    (as_started g.D.Disk.meaning c.args.store.now c.hold_table_data.new.store image c.args.batch.now
    (keeps_on g.D.Disk.meaning g.met.D.Disk.counts_now c.args.store.now c.loop-next.store
    c.hold_table_data.new.store c.loop-next.invariant.keeps c.in_ok-hold_table_data.ensures.keeps) tells
    (λ (pages : Pages). c.lent-page.result.now ≡ pages c.in-Some.n.0) (c.lent-page.ensures.seen image))
    c.in-Some-first_record.ensures

pub lent-page-requires-clause-whole : goal.lent-page-requires-clause-whole
lent-page-requires-clause-whole g c = whole_later g.D.Disk.meaning c.loop-next.store
    c.hold_table_data.new.store c.in_ok-hold_table_data.ensures.keeps c.args.batch.now.pages
    (whole_later g.D.Disk.meaning c.args.store.now c.loop-next.store c.loop-next.invariant.keeps
    c.args.batch.now.pages c.requires.whole)

pub first_record-requires : goal.first_record-requires
first_record-requires g c = data_lawful c.hold_table_data.new.store c.args.batch.now.pages
    c.args.owner.0 c.loop-next.place c.in-Some.n c.lent-page.result.now c.lent-page.ensures.read
    c.in_ok-hold_table_data.ensures.held

-- ---- the next place

pub overflow_add-place : goal.overflow_add-place
overflow_add-place g c = omega (
  arith,
  next_few c.loop-next.next c.in-Some.n c.loop-next.place c.in-Some.is
      c.loop-next.invariant.few,
)

pub data_page_at-requires-in-Some-clause-geometry : goal.data_page_at-requires-in-Some-clause-geometry
data_page_at-requires-in-Some-clause-geometry g c = geometry_later g.D.Disk.meaning c.loop-next.store
    c.hold_table_data.new.store c.in_ok-hold_table_data.ensures.keeps (geometry_later g.D.Disk.meaning
    c.args.store.now c.loop-next.store c.loop-next.invariant.keeps c.requires.geometry)

pub data_page_at-requires-in-Some-clause-whole : goal.data_page_at-requires-in-Some-clause-whole
data_page_at-requires-in-Some-clause-whole g c = whole_later g.D.Disk.meaning c.loop-next.store
    c.hold_table_data.new.store c.in_ok-hold_table_data.ensures.keeps c.args.batch.now.pages
    (whole_later g.D.Disk.meaning c.args.store.now c.loop-next.store c.loop-next.invariant.keeps
    c.args.batch.now.pages c.requires.whole)

pub returns-in_err-next-2-clause-keeps : goal.returns-in_err-next-2-clause-keeps
returns-in_err-next-2-clause-keeps g c = keeps_on g.D.Disk.meaning g.met.D.Disk.counts_now
    c.args.store.now c.hold_table_data.new.store c.data_page_at-in-Some.new.store
    (keeps_on g.D.Disk.meaning g.met.D.Disk.counts_now c.args.store.now c.loop-next.store
    c.hold_table_data.new.store c.loop-next.invariant.keeps c.in_ok-hold_table_data.ensures.keeps)
    c.in_err-next-2.ensures.keeps

pub returns-in_err-next-2-clause-fault : goal.returns-in_err-next-2-clause-fault
returns-in_err-next-2-clause-fault g c = fault_up (Option PageNo) g.D.Disk.meaning c.args.store.now
    c.hold_table_data.new.store c.data_page_at-in-Some.new.store c.from_residual-in_err-next-2.result
    c.in_err-next-2.field-0.0 (keeps_on g.D.Disk.meaning g.met.D.Disk.counts_now c.args.store.now
    c.loop-next.store c.hold_table_data.new.store c.loop-next.invariant.keeps
    c.in_ok-hold_table_data.ensures.keeps) (c.in_ok-hold_table_data.ensures.fault.2 ∙
    c.loop-next.invariant.faults)
    c.from_residual-in_err-next-2.ensures.0 c.from_residual-in_err-next-2.ensures.1
    c.in_err-next-2.ensures.fault

pub returns-in_err-next-2-clause-own : goal.returns-in_err-next-2-clause-own
returns-in_err-next-2-clause-own g c = reads_same (Option PageNo) c.from_residual-in_err-next-2.result
    c.in_err-next-2.field-0.0 c.from_residual-in_err-next-2.ensures.0
    c.from_residual-in_err-next-2.ensures.1 c.in_err-next-2.ensures.own

pub returns-in_err-next-2-clause-gives : goal.returns-in_err-next-2-clause-gives
returns-in_err-next-2-clause-gives g c = λ image tells. handed_on c.from_residual-in_err-next-2.result
    c.in_err-next-2.field-0.0 _
    (RefusesFrom g.D.Disk.meaning c.data_page_at-in-Some.new.store c.args.batch.now.pages
    (viewed c.args.store.now image c.args.batch.now) c.args.owner.0 c.args.start)
    c.from_residual-in_err-next-2.ensures.0 c.from_residual-in_err-next-2.ensures.1
    (place_broken g.D.Disk.meaning c.data_page_at-in-Some.new.store c.args.batch.now.pages
    (viewed c.args.store.now image c.args.batch.now) c.args.owner.0 c.args.start (c.loop-next.place + 1)
    c.in_err-next-2.field-0.0 (further c.args.start c.loop-next.place c.loop-next.invariant.from)
    (one_empty (viewed c.args.store.now image c.args.batch.now) c.args.owner.0 c.args.start
    c.loop-next.place (c.loop-next.invariant.empty image tells)
    (empty_here (viewed c.args.store.now image c.args.batch.now) c.args.owner.0 c.loop-next.place
    c.in-Some.n c.lent-page.result.now
    (subst (FindsPlace (viewed c.args.store.now image c.args.batch.now) c.args.owner.0 c.loop-next.place)
    c.in-Some.is (c.loop-next.invariant.found image tells))
    (as_started g.D.Disk.meaning c.args.store.now c.hold_table_data.new.store image c.args.batch.now
    (keeps_on g.D.Disk.meaning g.met.D.Disk.counts_now c.args.store.now c.loop-next.store
    c.hold_table_data.new.store c.loop-next.invariant.keeps c.in_ok-hold_table_data.ensures.keeps) tells
    (λ (pages : Pages). c.lent-page.result.now ≡ pages c.in-Some.n.0) (c.lent-page.ensures.seen image))
    c.in_default-first_record.ensures))
    (as_started g.D.Disk.meaning c.args.store.now c.hold_table_data.new.store image c.args.batch.now
    (keeps_on g.D.Disk.meaning g.met.D.Disk.counts_now c.args.store.now c.loop-next.store
    c.hold_table_data.new.store c.loop-next.invariant.keeps c.in_ok-hold_table_data.ensures.keeps) tells
    (λ (pages : Pages). RefusesPlace g.D.Disk.meaning c.data_page_at-in-Some.new.store
    c.args.batch.now.pages
    pages c.args.owner.0 (c.loop-next.place + 1) c.in_err-next-2.field-0.0)
    (c.in_err-next-2.ensures.finds image)))

pub loop-next-preserved : goal.loop-next-preserved
loop-next-preserved g c = record {
  keeps = keeps_on g.D.Disk.meaning g.met.D.Disk.counts_now c.args.store.now
      c.hold_table_data.new.store c.data_page_at-in-Some.new.store
      (keeps_on g.D.Disk.meaning g.met.D.Disk.counts_now c.args.store.now c.loop-next.store
      c.hold_table_data.new.store c.loop-next.invariant.keeps c.in_ok-hold_table_data.ensures.keeps)
      c.in_ok-next-2.ensures.keeps;
  faults = c.in_ok-next-2.ensures.fault.2 ∙ (c.in_ok-hold_table_data.ensures.fault.2 ∙
      c.loop-next.invariant.faults);
  from = further c.args.start c.loop-next.place c.loop-next.invariant.from;
  few = c.in_ok-next-2.ensures.few;
  empty = λ image tells. one_empty (viewed c.args.store.now image c.args.batch.now) c.args.owner.0
      c.args.start c.loop-next.place (c.loop-next.invariant.empty image tells)
      (empty_here (viewed c.args.store.now image c.args.batch.now) c.args.owner.0 c.loop-next.place
      c.in-Some.n c.lent-page.result.now
      (subst (FindsPlace (viewed c.args.store.now image c.args.batch.now) c.args.owner.0
      c.loop-next.place) c.in-Some.is (c.loop-next.invariant.found image tells))
      (as_started g.D.Disk.meaning c.args.store.now c.hold_table_data.new.store image c.args.batch.now
      (keeps_on g.D.Disk.meaning g.met.D.Disk.counts_now c.args.store.now c.loop-next.store
      c.hold_table_data.new.store c.loop-next.invariant.keeps c.in_ok-hold_table_data.ensures.keeps) tells
      (λ (pages : Pages). c.lent-page.result.now ≡ pages c.in-Some.n.0) (c.lent-page.ensures.seen image))
      c.in_default-first_record.ensures);
  found = λ image tells. as_started g.D.Disk.meaning c.args.store.now c.hold_table_data.new.store image
      c.args.batch.now
      (keeps_on g.D.Disk.meaning g.met.D.Disk.counts_now c.args.store.now c.loop-next.store
      c.hold_table_data.new.store c.loop-next.invariant.keeps c.in_ok-hold_table_data.ensures.keeps) tells
      (λ (pages : Pages). FindsPlace pages c.args.owner.0 (c.loop-next.place + 1) c.in_ok-next-2.next)
      (c.in_ok-next-2.ensures.finds image);
}

pub loop-next-smaller : goal.loop-next-smaller
loop-next-smaller g c = less_left c.loop-next.place (next_few c.loop-next.next c.in-Some.n
    c.loop-next.place c.in-Some.is c.loop-next.invariant.few)

pub returns-clause-keeps : goal.returns-clause-keeps
returns-clause-keeps g c = c.loop-next.invariant.keeps

pub returns-clause-fault : goal.returns-clause-fault
returns-clause-fault g c = (
  c.in_ok-next.ensures.fault.0,
  c.loop-next.invariant.keeps.offline ∙ c.in_ok-next.ensures.fault.0,
  c.loop-next.invariant.faults,
)

pub returns-clause-gives : goal.returns-clause-gives
returns-clause-gives g c = λ image tells. gives_end
    (viewed c.args.store.now image c.args.batch.now) c.args.owner.0 c.args.start c.loop-next.place
    c.loop-next.next c.in_default.not-Some c.loop-next.invariant.from
    (c.loop-next.invariant.empty image tells) (c.loop-next.invariant.found image tells)

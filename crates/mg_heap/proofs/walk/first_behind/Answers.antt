use Rattle.std.proofs.Common.{◌+◌, Option, arith, refl}
use Rattle.std.specs.Prelude.{MatchResult}
use Rattle.mg_base.specs.declared.numbers.PageNo.{PageNo}
use Rattle.mg_image.specs.Form.{Pages}
use Rattle.mg_space.specs.HandedLaws.{fault_same}
use Rattle.mg_space.specs.View.{pool_answer, viewed}
use Rattle.mg_space.specs.ViewLaws.{fault_on, keeps_on}
use Rattle.mg_space.specs.declared.fault.SpaceFault.TheVariants as faults
use Rattle.mg_heap.specs.HandedLaws.{reads_same}
use Rattle.mg_heap.specs.Walk.{GivesFrom, RefusesBehind, RefusesFrom}
use Rattle.mg_heap.proofs.TableLemmas.{as_started, handed_on, geometry_later, whole_later}
use Rattle.mg_heap.proofs.WalkLemmas.{behind_given, listed_there, next_few, no_place, none_listed, other_listed}
use Rattle.mg_heap.proofs.walk.first_behind.Goals as goal

pub returns-in_err-listed-clause-keeps : goal.returns-in_err-listed-clause-keeps
returns-in_err-listed-clause-keeps g c = c.in_err-listed.ensures.keeps

pub returns-in_err-listed-clause-fault : goal.returns-in_err-listed-clause-fault
returns-in_err-listed-clause-fault g c = fault_same (Option PageNo) g.D.Disk.meaning c.args.store.now
    c.data_page_at.new.store c.from_residual.result c.in_err-listed.field-0.0 c.from_residual.ensures.0
    c.from_residual.ensures.1 c.in_err-listed.ensures.fault

pub returns-in_err-listed-clause-own : goal.returns-in_err-listed-clause-own
returns-in_err-listed-clause-own g c = reads_same (Option PageNo) c.from_residual.result
    c.in_err-listed.field-0.0 c.from_residual.ensures.0 c.from_residual.ensures.1
    c.in_err-listed.ensures.own

pub returns-in_err-listed-clause-gives : goal.returns-in_err-listed-clause-gives
returns-in_err-listed-clause-gives g c = λ image tells. handed_on c.from_residual.result
    c.in_err-listed.field-0.0 _
    (RefusesBehind g.D.Disk.meaning c.data_page_at.new.store c.args.batch.now.pages
    (viewed c.args.store.now image c.args.batch.now) c.args.owner.0 c.args.page c.args.place)
    c.from_residual.ensures.0 c.from_residual.ensures.1
    (no_place g.D.Disk.meaning c.data_page_at.new.store c.args.batch.now.pages
    (viewed c.args.store.now image c.args.batch.now) c.args.owner.0 c.args.page c.args.place
    c.in_err-listed.field-0.0 (c.in_err-listed.ensures.finds image tells))

pub returns-in_default-clause-keeps : goal.returns-in_default-clause-keeps
returns-in_default-clause-keeps g c = c.in_ok-listed.ensures.keeps

pub returns-in_default-clause-fault : goal.returns-in_default-clause-fault
returns-in_default-clause-fault g c = c.in_ok-listed.ensures.fault

pub returns-in_default-clause-gives : goal.returns-in_default-clause-gives
returns-in_default-clause-gives g c = λ image tells. none_listed g.D.Disk.meaning
    c.data_page_at.new.store c.args.batch.now.pages (viewed c.args.store.now image c.args.batch.now)
    c.args.owner.0 c.args.page c.args.place c.in_ok-listed.listed c.unlisted.result
    c.in_default.not-Some (c.in_ok-listed.ensures.finds image tells) c.unlisted.ensures

pub returns-then-n-page-clause-keeps : goal.returns-then-n-page-clause-keeps
returns-then-n-page-clause-keeps g c = c.in_ok-listed.ensures.keeps

pub returns-then-n-page-clause-fault : goal.returns-then-n-page-clause-fault
returns-then-n-page-clause-fault g c = c.in_ok-listed.ensures.fault

pub returns-then-n-page-clause-gives : goal.returns-then-n-page-clause-gives
returns-then-n-page-clause-gives g c = λ image tells. other_listed g.D.Disk.meaning
    c.data_page_at.new.store c.args.batch.now.pages (viewed c.args.store.now image c.args.batch.now)
    c.args.owner.0 c.args.page c.in-Some.n c.args.place c.in_ok-listed.listed
    c.unlisted-then-n-page.result c.in-Some.is c.if-n-page.true
    (c.in_ok-listed.ensures.finds image tells) c.unlisted-then-n-page.ensures

pub overflow_add-place : goal.overflow_add-place
overflow_add-place g c = omega (
  arith,
  next_few c.in_ok-listed.listed c.in-Some.n c.args.place c.in-Some.is
      c.in_ok-listed.ensures.few,
)

pub first_from-requires-clause-geometry : goal.first_from-requires-clause-geometry
first_from-requires-clause-geometry g c = geometry_later g.D.Disk.meaning c.args.store.now
    c.data_page_at.new.store c.in_ok-listed.ensures.keeps c.requires.geometry

pub first_from-requires-clause-whole : goal.first_from-requires-clause-whole
first_from-requires-clause-whole g c = whole_later g.D.Disk.meaning c.args.store.now
    c.data_page_at.new.store c.in_ok-listed.ensures.keeps c.args.batch.now.pages c.requires.whole

pub returns-clause-keeps : goal.returns-clause-keeps
returns-clause-keeps g c = keeps_on g.D.Disk.meaning g.met.D.Disk.counts_now c.args.store.now
    c.data_page_at.new.store c.first_from.new.store c.in_ok-listed.ensures.keeps c.first_from.ensures.keeps

pub returns-clause-fault : goal.returns-clause-fault
returns-clause-fault g c = fault_on g.D.Disk.meaning c.args.store.now c.data_page_at.new.store
    c.first_from.new.store (pool_answer c.first_from.result) c.in_ok-listed.ensures.keeps
    c.in_ok-listed.ensures.fault.2 c.first_from.ensures.fault

pub returns-clause-own : goal.returns-clause-own
returns-clause-own g c = c.first_from.ensures.own

pub returns-clause-gives : goal.returns-clause-gives
returns-clause-gives g c = λ image tells. behind_given g.D.Disk.meaning c.first_from.new.store
    c.args.batch.now.pages (viewed c.args.store.now image c.args.batch.now) c.args.owner.0
    c.args.page c.args.place (c.args.place + 1) c.first_from.result refl
    (listed_there g.D.Disk.meaning c.first_from.new.store c.args.batch.now.pages
    (viewed c.args.store.now image c.args.batch.now) c.args.owner.0 c.args.page c.in-Some.n c.args.place
    c.in_ok-listed.listed c.in-Some.is c.if-n-page.false
    (c.in_ok-listed.ensures.finds image tells))
    (as_started g.D.Disk.meaning c.args.store.now c.data_page_at.new.store image c.args.batch.now
    c.in_ok-listed.ensures.keeps tells (λ (pages : Pages). MatchResult c.first_from.result
    (GivesFrom pages c.args.owner.0 (c.args.place + 1))
    (RefusesFrom g.D.Disk.meaning c.first_from.new.store c.args.batch.now.pages pages c.args.owner.0
    (c.args.place + 1))) (c.first_from.ensures.gives image))

use Rattle.std.proofs.Common.{◌≡◌, ◌∙◌, ◌+◌, ℕ, Some, ap, inl, refl, subst, sym}
use Rattle.std.specs.Prelude.{MatchResult}
use Rattle.mg_image.specs.Form.{Pages}
use Rattle.mg_space.specs.HandedLaws.{fault_same}
use Rattle.mg_base.specs.declared.geometry.Geometry.{Geometry}
use Rattle.mg_space.specs.View.{AreWhole, viewed, pool_answer}
use Rattle.mg_space.specs.ViewLaws.{keeps_on, fault_on}
use Rattle.mg_heap.specs.HandedLaws.{reads_same}
use Rattle.mg_heap.specs.Walk.{GivesBehind, RefusesBehind, RefusesNext}
use Rattle.mg_heap.proofs.TableLemmas.{as_started, handed_on, geometry_later, whole_later}
use Rattle.mg_heap.proofs.WalkLemmas.{none_behind}
use Rattle.mg_slots.specs.DataPage.{IsDataPage}
use Rattle.mg_heap.proofs.walk.next_after.Goals as goal

pub returns-clause-keeps : goal.returns-clause-keeps
returns-clause-keeps g c = keeps_on g.D.Disk.meaning g.met.D.Disk.counts_now c.args.store.now
    c.hold_data.new.store c.first_behind.new.store c.in_ok-hold_data.ensures.keeps c.first_behind.ensures.keeps

pub returns-clause-gives : goal.returns-clause-gives
returns-clause-gives g c = λ image tells. none_behind g.D.Disk.meaning c.first_behind.new.store
    c.args.batch.now.pages (viewed c.args.store.now image c.args.batch.now) c.args.owner.0
    (c.from.result + 1) c.args.at c.place_of-place.result c.lent-page.result.now c.lent-page.result.now
    c.first_behind.result (as_started g.D.Disk.meaning c.args.store.now c.hold_data.new.store image c.args.batch.now
    c.in_ok-hold_data.ensures.keeps tells (λ (pages : Pages). c.lent-page.result.now ≡ pages c.args.at.page.0)
    (c.lent-page.ensures.seen image)) refl
    (ap (λ (n : ℕ). n + 1) c.from.ensures) c.in_default.ensures
    c.place_of-place.ensures
    (as_started g.D.Disk.meaning c.args.store.now c.hold_data.new.store image c.args.batch.now
    c.in_ok-hold_data.ensures.keeps tells (λ (pages : Pages). MatchResult c.first_behind.result
    (GivesBehind pages c.args.owner.0 c.args.at.page c.place_of-place.result)
    (RefusesBehind g.D.Disk.meaning c.first_behind.new.store c.args.batch.now.pages pages c.args.owner.0
    c.args.at.page c.place_of-place.result)) (c.first_behind.ensures.gives image))

pub returns-clause-fault : goal.returns-clause-fault
returns-clause-fault g c = fault_on g.D.Disk.meaning c.args.store.now c.hold_data.new.store
    c.first_behind.new.store (pool_answer c.first_behind.result) c.in_ok-hold_data.ensures.keeps
    c.in_ok-hold_data.ensures.fault.2 c.first_behind.ensures.fault

pub returns-in_err-hold_data-clause-gives : goal.returns-in_err-hold_data-clause-gives
returns-in_err-hold_data-clause-gives g c = λ image tells. handed_on c.from_residual.result
    c.in_err-hold_data.field-0.0 _
    (RefusesNext g.D.Disk.meaning c.hold_data.new.store c.args.batch.now.pages
    (viewed c.args.store.now image c.args.batch.now) c.args.owner.0 (Some c.args.at))
    c.from_residual.ensures.0 c.from_residual.ensures.1
    (inl (c.in_err-hold_data.ensures.seen image tells))

pub returns-in_err-hold_data-clause-keeps : goal.returns-in_err-hold_data-clause-keeps
returns-in_err-hold_data-clause-keeps g c = c.in_err-hold_data.ensures.keeps

pub returns-in_err-hold_data-clause-fault : goal.returns-in_err-hold_data-clause-fault
returns-in_err-hold_data-clause-fault g c = fault_same (Unit {0}) g.D.Disk.meaning c.args.store.now
    c.hold_data.new.store c.from_residual.result c.in_err-hold_data.field-0.0 c.from_residual.ensures.0
    c.from_residual.ensures.1 c.in_err-hold_data.ensures.fault

pub returns-in_err-hold_data-clause-own : goal.returns-in_err-hold_data-clause-own
returns-in_err-hold_data-clause-own g c = reads_same (Unit {0}) c.from_residual.result c.in_err-hold_data.field-0.0
    c.from_residual.ensures.0 c.from_residual.ensures.1 c.in_err-hold_data.ensures.own

pub returns-clause-own : goal.returns-clause-own
returns-clause-own g c = c.first_behind.ensures.own

pub first_record-requires : goal.first_record-requires
first_record-requires g c =
    let same : Some c.in_ok-hold_data.ensures.held.bytes ≡ Some c.lent-page.result.now =
    sym c.in_ok-hold_data.ensures.held.read ∙ c.lent-page.ensures.read in
    let is : c.in_ok-hold_data.ensures.held.bytes ≡ c.lent-page.result.now = cc in
    subst IsDataPage is c.in_ok-hold_data.ensures.held.data_page.lawful

pub first_behind-requires-clause-pool : goal.first_behind-requires-clause-pool
first_behind-requires-clause-pool g c = c.in_ok-hold_data.ensures.keeps.pool

pub first_behind-requires-clause-geometry : goal.first_behind-requires-clause-geometry
first_behind-requires-clause-geometry g c = geometry_later g.D.Disk.meaning c.args.store.now
    c.hold_data.new.store c.in_ok-hold_data.ensures.keeps c.requires.geometry

pub first_behind-requires-clause-whole : goal.first_behind-requires-clause-whole
first_behind-requires-clause-whole g c = whole_later g.D.Disk.meaning c.args.store.now c.hold_data.new.store
    c.in_ok-hold_data.ensures.keeps c.args.batch.now.pages c.requires.whole

pub lent-page-requires-clause-whole : goal.lent-page-requires-clause-whole
lent-page-requires-clause-whole g c = subst (λ (k : Geometry). AreWhole k c.args.batch.now.pages)
    (sym c.in_ok-hold_data.ensures.keeps.geometry) c.requires.whole

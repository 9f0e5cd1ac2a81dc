use Rattle.std.proofs.Common.{◌∙◌, Option, ℕ, sym}
use Rattle.mg_base.specs.declared.numbers.PageNo.{PageNo}
use Rattle.mg_image.specs.Form.{Pages}
use Rattle.mg_space.specs.HandedLaws.{fault_same, fault_up}
use Rattle.mg_space.specs.View.{viewed}
use Rattle.mg_space.specs.ViewLaws.{keeps_on}
use Rattle.mg_heap.specs.HandedLaws.{reads_same}
use Rattle.mg_heap.specs.Listed.{RefusesRecordOf}
use Rattle.mg_heap.specs.Places.{FindsPlace, RefusesPlace}
use Rattle.mg_heap.proofs.ListedLemmas.{cache_refuses, none_named, place_refuses, told_by}
use Rattle.mg_heap.proofs.TableLemmas.{as_started, geometry_later, handed_on, whole_later}
use Rattle.mg_heap.proofs.listed.is_record_of.Goals as goal

pub returns-in_err-named-clause-keeps : goal.returns-in_err-named-clause-keeps
returns-in_err-named-clause-keeps g c = c.in_err-named.ensures.keeps

pub returns-in_err-named-clause-fault : goal.returns-in_err-named-clause-fault
returns-in_err-named-clause-fault g c = fault_same (Option ℕ) g.D.Disk.meaning c.args.store.now
    c.named_place.new.store c.from_residual.result c.in_err-named.field-0.0 c.from_residual.ensures.0
    c.from_residual.ensures.1 c.in_err-named.ensures.fault

pub returns-in_err-named-clause-own : goal.returns-in_err-named-clause-own
returns-in_err-named-clause-own g c = reads_same (Option ℕ) c.from_residual.result
    c.in_err-named.field-0.0 c.from_residual.ensures.0 c.from_residual.ensures.1
    c.in_err-named.ensures.own

pub returns-in_err-named-clause-tells : goal.returns-in_err-named-clause-tells
returns-in_err-named-clause-tells g c = λ image tells. handed_on c.from_residual.result
    c.in_err-named.field-0.0 _
    (RefusesRecordOf g.D.Disk.meaning c.named_place.new.store c.args.batch.now.pages
    (viewed c.args.store.now image c.args.batch.now) c.args.owner.0 c.args.rec)
    c.from_residual.ensures.0 c.from_residual.ensures.1
    (cache_refuses g.D.Disk.meaning c.named_place.new.store c.args.batch.now.pages
    (viewed c.args.store.now image c.args.batch.now) c.args.owner.0 c.args.rec
    c.in_err-named.field-0.0 (c.in_err-named.ensures.names image tells))

pub returns-in_default-clause-keeps : goal.returns-in_default-clause-keeps
returns-in_default-clause-keeps g c = c.in_ok-named.ensures.keeps

pub returns-in_default-clause-fault : goal.returns-in_default-clause-fault
returns-in_default-clause-fault g c = c.in_ok-named.ensures.fault

pub returns-in_default-clause-tells : goal.returns-in_default-clause-tells
returns-in_default-clause-tells g c = λ image tells. none_named
    (viewed c.args.store.now image c.args.batch.now) c.args.owner.0 c.args.rec c.in_ok-named.named
    c.in_default.not-Some (c.in_ok-named.ensures.names image tells)

pub data_page_at-requires-clause-pool : goal.data_page_at-requires-clause-pool
data_page_at-requires-clause-pool g c = c.in_ok-named.ensures.keeps.pool

pub data_page_at-requires-clause-geometry : goal.data_page_at-requires-clause-geometry
data_page_at-requires-clause-geometry g c = geometry_later g.D.Disk.meaning c.args.store.now
    c.named_place.new.store c.in_ok-named.ensures.keeps c.requires.geometry

pub data_page_at-requires-clause-whole : goal.data_page_at-requires-clause-whole
data_page_at-requires-clause-whole g c = whole_later g.D.Disk.meaning c.args.store.now
    c.named_place.new.store c.in_ok-named.ensures.keeps c.args.batch.now.pages c.requires.whole

pub returns-in_err-listed-clause-keeps : goal.returns-in_err-listed-clause-keeps
returns-in_err-listed-clause-keeps g c = keeps_on g.D.Disk.meaning g.met.D.Disk.counts_now
    c.args.store.now c.named_place.new.store c.data_page_at.new.store c.in_ok-named.ensures.keeps
    c.in_err-listed.ensures.keeps

pub returns-in_err-listed-clause-fault : goal.returns-in_err-listed-clause-fault
returns-in_err-listed-clause-fault g c = fault_up (Option PageNo) g.D.Disk.meaning c.args.store.now
    c.named_place.new.store c.data_page_at.new.store c.from_residual-in_err-listed.result
    c.in_err-listed.field-0.0 c.in_ok-named.ensures.keeps c.in_ok-named.ensures.fault.2
    c.from_residual-in_err-listed.ensures.0 c.from_residual-in_err-listed.ensures.1
    c.in_err-listed.ensures.fault

pub returns-in_err-listed-clause-own : goal.returns-in_err-listed-clause-own
returns-in_err-listed-clause-own g c = reads_same (Option PageNo) c.from_residual-in_err-listed.result
    c.in_err-listed.field-0.0 c.from_residual-in_err-listed.ensures.0
    c.from_residual-in_err-listed.ensures.1 c.in_err-listed.ensures.own

pub returns-in_err-listed-clause-tells : goal.returns-in_err-listed-clause-tells
returns-in_err-listed-clause-tells g c = λ image tells. handed_on c.from_residual-in_err-listed.result
    c.in_err-listed.field-0.0 _
    (RefusesRecordOf g.D.Disk.meaning c.data_page_at.new.store c.args.batch.now.pages
    (viewed c.args.store.now image c.args.batch.now) c.args.owner.0 c.args.rec)
    c.from_residual-in_err-listed.ensures.0 c.from_residual-in_err-listed.ensures.1
    (place_refuses g.D.Disk.meaning c.data_page_at.new.store c.args.batch.now.pages
    (viewed c.args.store.now image c.args.batch.now) c.args.owner.0 c.args.rec c.in-Some.place
    c.in_ok-named.named c.in_err-listed.field-0.0 c.in-Some.is (c.in_ok-named.ensures.names image tells)
    (as_started g.D.Disk.meaning c.args.store.now c.named_place.new.store image c.args.batch.now
    c.in_ok-named.ensures.keeps tells (λ (pages : Pages). RefusesPlace g.D.Disk.meaning
    c.data_page_at.new.store c.args.batch.now.pages pages c.args.owner.0 c.in-Some.place
    c.in_err-listed.field-0.0) (c.in_err-listed.ensures.finds image)))

pub returns-clause-keeps : goal.returns-clause-keeps
returns-clause-keeps g c = keeps_on g.D.Disk.meaning g.met.D.Disk.counts_now c.args.store.now
    c.named_place.new.store c.data_page_at.new.store c.in_ok-named.ensures.keeps
    c.in_ok-listed.ensures.keeps

pub returns-clause-fault : goal.returns-clause-fault
returns-clause-fault g c = (
  sym c.in_ok-named.ensures.keeps.offline ∙ c.in_ok-listed.ensures.fault.0,
  c.in_ok-listed.ensures.fault.1,
  c.in_ok-listed.ensures.fault.2 ∙ c.in_ok-named.ensures.fault.2,
)

pub returns-clause-tells : goal.returns-clause-tells
returns-clause-tells g c = λ image tells. told_by (viewed c.args.store.now image c.args.batch.now)
    c.args.owner.0 c.in-Some.place c.args.rec c.in_ok-named.named c.in_ok-listed.listed
    c.is_page.result c.in-Some.is (c.in_ok-named.ensures.names image tells)
    (as_started g.D.Disk.meaning c.args.store.now c.named_place.new.store image c.args.batch.now
    c.in_ok-named.ensures.keeps tells (λ (pages : Pages). FindsPlace pages c.args.owner.0
    c.in-Some.place c.in_ok-listed.listed) (c.in_ok-listed.ensures.finds image)) c.is_page.ensures

use Rattle.std.proofs.Common.{◌∙◌, Option, subst, get_or}
use Rattle.mg_base.specs.declared.numbers.PageNo.{PageNo}
use Rattle.mg_image.specs.Form.{Pages}
use Rattle.mg_space.specs.HandedLaws.{fault_up}
use Rattle.mg_space.specs.View.{viewed}
use Rattle.mg_space.specs.ViewLaws.{keeps_on}
use Rattle.mg_heap.specs.Room.{HoldsRoom, LooksAt}
use Rattle.mg_heap.specs.Walk.{RefusesWalkOf}
use Rattle.std.specs.Prelude.{IfSome}
use Rattle.mg_heap.proofs.RoomLemmas.{all_looked, all_seen, found_first, none_yet}
use Rattle.mg_heap.proofs.TableLemmas.{as_started, geometry_later, handed_on, whole_later}
use Rattle.mg_heap.proofs.room.page_with.Goals as goal

pub returns-in-Some-clause-finds : goal.returns-in-Some-clause-finds
returns-in-Some-clause-finds g c = λ image tells. found_first
    (viewed c.args.store.now image c.args.batch.now) c.args.data_pages.now c.args.need c.loop-k.k
    c.looked_at-place.result c.in-Some.found c.loop-k-test.true c.looked_at-place.ensures.is
    (c.loop-k.invariant.none image tells)
    (subst (λ (x : Option PageNo). LooksAt (viewed c.args.store.now image c.args.batch.now)
    (get_or c.args.data_pages.now c.looked_at-place.result 0) c.args.need x) c.in-Some.is
    (as_started g.D.Disk.meaning c.args.store.now c.loop-k.store image c.args.batch.now
    c.loop-k.invariant.keeps tells (λ (pages : Pages). LooksAt pages
    (get_or c.args.data_pages.now c.looked_at-place.result 0) c.args.need c.in_ok-found.field-0)
    (c.in_ok-found.ensures.looks image)))

pub loop-k-preserved : goal.loop-k-preserved
loop-k-preserved g c = record {
  keeps = keeps_on g.D.Disk.meaning g.met.D.Disk.counts_now c.args.store.now c.loop-k.store
      c.page_at.new.store c.loop-k.invariant.keeps c.in_ok-found.ensures.keeps;
  faults = c.in_ok-found.ensures.fault.2 ∙ c.loop-k.invariant.faults;
  none = λ image tells. none_yet (viewed c.args.store.now image c.args.batch.now)
      c.args.data_pages.now c.args.need c.loop-k.k c.looked_at-place.result
      c.looked_at-place.ensures.is (c.loop-k.invariant.none image tells)
      (subst (λ (x : Option PageNo). LooksAt (viewed c.args.store.now image c.args.batch.now)
      (get_or c.args.data_pages.now c.looked_at-place.result 0) c.args.need x) c.in_default.is
      (as_started g.D.Disk.meaning c.args.store.now c.loop-k.store image c.args.batch.now
      c.loop-k.invariant.keeps tells (λ (pages : Pages). LooksAt pages
      (get_or c.args.data_pages.now c.looked_at-place.result 0) c.args.need c.in_ok-found.field-0)
      (c.in_ok-found.ensures.looks image)));
}

pub returns-clause-finds : goal.returns-clause-finds
returns-clause-finds g c = λ image tells. all_looked (viewed c.args.store.now image c.args.batch.now)
    c.args.data_pages.now c.args.need (all_seen (viewed c.args.store.now image c.args.batch.now)
    c.args.data_pages.now c.args.need c.loop-k.k c.loop-k-test.false
    (c.loop-k.invariant.none image tells))

pub page_at-requires-clause-geometry : goal.page_at-requires-clause-geometry
page_at-requires-clause-geometry g c = geometry_later g.D.Disk.meaning c.args.store.now c.loop-k.store
    c.loop-k.invariant.keeps c.requires.geometry

pub page_at-requires-clause-online : goal.page_at-requires-clause-online
page_at-requires-clause-online g c = c.loop-k.invariant.keeps.offline ∙ c.requires.online

pub page_at-requires-clause-whole : goal.page_at-requires-clause-whole
page_at-requires-clause-whole g c = whole_later g.D.Disk.meaning c.args.store.now c.loop-k.store
    c.loop-k.invariant.keeps c.args.batch.now.pages c.requires.whole

pub returns-in_err-found-clause-keeps : goal.returns-in_err-found-clause-keeps
returns-in_err-found-clause-keeps g c = keeps_on g.D.Disk.meaning g.met.D.Disk.counts_now
    c.args.store.now c.loop-k.store c.page_at.new.store c.loop-k.invariant.keeps
    c.in_err-found.ensures.keeps

pub returns-in_err-found-clause-fault : goal.returns-in_err-found-clause-fault
returns-in_err-found-clause-fault g c = fault_up (Option PageNo) g.D.Disk.meaning c.args.store.now
    c.loop-k.store c.page_at.new.store c.from_residual.result c.in_err-found.field-0.0
    c.loop-k.invariant.keeps c.loop-k.invariant.faults c.from_residual.ensures.0
    c.from_residual.ensures.1 c.in_err-found.ensures.fault

pub returns-in_err-found-clause-finds : goal.returns-in_err-found-clause-finds
returns-in_err-found-clause-finds g c = λ image tells. handed_on c.from_residual.result
    c.in_err-found.field-0.0 _
    (RefusesWalkOf g.D.Disk.meaning c.page_at.new.store c.args.batch.now.pages
    (viewed c.args.store.now image c.args.batch.now) c.args.owner.0 c.args.data_pages.now)
    c.from_residual.ensures.0 c.from_residual.ensures.1
    (as_started g.D.Disk.meaning c.args.store.now c.loop-k.store image c.args.batch.now
    c.loop-k.invariant.keeps tells (λ (pages : Pages). RefusesWalkOf g.D.Disk.meaning
    c.page_at.new.store c.args.batch.now.pages pages c.args.owner.0 c.args.data_pages.now
    c.in_err-found.field-0.0) (c.in_err-found.ensures.looks image))

pub returns-in-Some-clause-keeps : goal.returns-in-Some-clause-keeps
returns-in-Some-clause-keeps g c = keeps_on g.D.Disk.meaning g.met.D.Disk.counts_now
    c.args.store.now c.loop-k.store c.page_at.new.store c.loop-k.invariant.keeps
    c.in_ok-found.ensures.keeps

pub returns-in-Some-clause-fault : goal.returns-in-Some-clause-fault
returns-in-Some-clause-fault g c = (
  c.requires.online,
  c.in_ok-found.ensures.fault.1,
  c.in_ok-found.ensures.fault.2 ∙ c.loop-k.invariant.faults,
)

pub returns-in-Some-clause-room : goal.returns-in-Some-clause-room
returns-in-Some-clause-room g c = subst (λ (x : Option PageNo). IfSome x
    (HoldsRoom c.page_at.new.store c.args.batch.now.pages c.args.need)) c.in-Some.is c.in_ok-found.ensures.room

pub returns-clause-fault : goal.returns-clause-fault
returns-clause-fault g c = (
  c.requires.online,
  c.loop-k.invariant.keeps.offline ∙ c.requires.online,
  c.loop-k.invariant.faults,
)

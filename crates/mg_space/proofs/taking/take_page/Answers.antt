use Rattle.std.proofs.Common.{◌<◌, ◌∙◌, ◌↔◌, ℕ, Option, ap, refl, subst}
use Rattle.mg_base.specs.declared.numbers.PageNo.{PageNo}
use Rattle.mg_base.specs.declared.geometry.Geometry.{Geometry}
use Rattle.mg_image.specs.Inventory.{inventory_page}
use Rattle.mg_space.specs.HandedLaws.{own_as, told_as}
use Rattle.mg_space.specs.Taking.{RefusesTake, TakesPage, taking_limit}
use Rattle.mg_space.specs.View.{viewed}
use Rattle.mg_space.specs.ViewLaws.{keeps_itself, keeps_on}
use Rattle.mg_space.specs.declared.fault.SpaceFault.TheVariants as faults
use Rattle.mg_space.proofs.HandedLemmas.{no_ok, on_err, refusal_reads, refused_as, told_then}
use Rattle.mg_space.proofs.RegionLemmas.{full, handed_on, lawful_on, none_on, puts_on, refuses_on, takes_on, whole_still}
use Rattle.mg_space.proofs.taking.take_page.Goals as goal

pub returns-in_err-page-clause-takes : goal.returns-in_err-page-clause-takes
returns-in_err-page-clause-takes g c = λ image tells.
    let below : inventory_page c.args.store.now.geometry.size c.loop-region.region
    < taking_limit c.args.store.now.geometry = subst (λ (x : Geometry). inventory_page x.size
    c.loop-region.region < taking_limit x) c.geometry-geometry.ensures
    ((c.regions_below-region-end.ensures c.loop-region.region).0 c.loop-region-test.true) in
    handed_on c.from_residual-in_err-page.result c.in_err-page.field-0.0
    (λ page. TakesPage c.args.store.now.geometry
    (viewed c.args.store.now image c.args.batch.now)
    (viewed c.args.store.now image c.take_in.new.batch) page.0)
    (RefusesTake c.args.store.now.geometry (viewed c.args.store.now image c.args.batch.now))
    c.from_residual-in_err-page.ensures.0 c.from_residual-in_err-page.ensures.1
    (refuses_on g.D.Disk.meaning c.args.store.now c.loop-region.store image c.args.batch.now
    c.loop-region.batch c.loop-region.invariant.keeps c.loop-region.invariant.same tells
    c.loop-region.region (c.loop-region.invariant.none image tells) c.in_err-page.field-0.0 below
    (c.in_err-page.ensures.takes image))

pub returns-in-Some-clause-takes : goal.returns-in-Some-clause-takes
returns-in-Some-clause-takes g c = λ image tells. takes_on g.D.Disk.meaning c.args.store.now
    c.loop-region.store image c.args.batch.now c.loop-region.batch c.loop-region.invariant.keeps
    c.loop-region.invariant.same tells c.loop-region.region
    (c.loop-region.invariant.none image tells) c.take_in.new.batch c.in_ok-page.field-0
    c.in-Some.page c.in-Some.is (c.in_ok-page.ensures.takes image)

pub loop-region-preserved : goal.loop-region-preserved
loop-region-preserved g c = record {
  keeps = keeps_on g.D.Disk.meaning g.met.D.Disk.counts_now c.args.store.now c.loop-region.store
      c.take_in.new.store c.loop-region.invariant.keeps c.in_ok-page.ensures.keeps;
  faults = c.in_ok-page.ensures.fault.2 ∙ c.loop-region.invariant.faults;
  same = rw c.in_default.is at c.in_ok-page.ensures.none ∙ c.loop-region.invariant.same;
  none = λ image tells. none_on g.D.Disk.meaning c.args.store.now
      c.loop-region.store image c.args.batch.now c.loop-region.batch c.loop-region.invariant.keeps
      c.loop-region.invariant.same tells c.loop-region.region
      (c.loop-region.invariant.none image tells) c.take_in.new.batch c.in_ok-page.field-0
      c.in_default.is c.requires.geometry (c.in_ok-page.ensures.takes image);
}

pub returns-in_err-online-clause-keeps : goal.returns-in_err-online-clause-keeps
returns-in_err-online-clause-keeps g c =
    keeps_itself g.D.Disk.meaning c.args.store.now c.requires.pool

pub returns-in_err-online-clause-fault : goal.returns-in_err-online-clause-fault
returns-in_err-online-clause-fault g c = told_as (Unit {0}) g.D.Disk.meaning c.args.store.now
    c.args.store.now c.from_residual.result (faults.Pool c.in_err-online.field-0.0)
    c.from_residual.ensures.1 c.in_err-online.ensures.fault

pub returns-in_err-online-clause-own : goal.returns-in_err-online-clause-own
returns-in_err-online-clause-own g c = own_as (Unit {0}) c.from_residual.result
    (faults.Pool c.in_err-online.field-0.0) c.from_residual.ensures.1
    (refusal_reads (Unit {0}) (Unit {0}) c.in_err-online.field-0.0 c.in_err-online.ensures.refusal)

pub returns-in_err-online-clause-puts : goal.returns-in_err-online-clause-puts
returns-in_err-online-clause-puts g c = no_ok c.from_residual.result _ _ c.from_residual.ensures.1

pub returns-in_err-online-clause-same : goal.returns-in_err-online-clause-same
returns-in_err-online-clause-same g c = on_err c.from_residual.result _ refl

pub returns-in_err-online-clause-takes : goal.returns-in_err-online-clause-takes
returns-in_err-online-clause-takes g c = λ image tells. refused_as c.from_residual.result
    (faults.Pool c.in_err-online.field-0.0) _
    (RefusesTake c.args.store.now.geometry (viewed c.args.store.now image c.args.batch.now))
    c.from_residual.ensures.1 tt

pub returns-in_err-page-clause-keeps : goal.returns-in_err-page-clause-keeps
returns-in_err-page-clause-keeps g c = keeps_on g.D.Disk.meaning g.met.D.Disk.counts_now
    c.args.store.now c.loop-region.store c.take_in.new.store c.loop-region.invariant.keeps
    c.in_err-page.ensures.keeps

pub returns-in_err-page-clause-fault : goal.returns-in_err-page-clause-fault
returns-in_err-page-clause-fault g c = told_then (Option PageNo) g.D.Disk.meaning c.args.store.now
    c.loop-region.store c.take_in.new.store c.from_residual-in_err-page.result
    c.in_err-page.field-0.0 c.from_residual-in_err-page.ensures.1 c.loop-region.invariant.keeps
    c.loop-region.invariant.faults c.in_err-page.ensures.fault

pub returns-in_err-page-clause-own : goal.returns-in_err-page-clause-own
returns-in_err-page-clause-own g c = own_as (Option PageNo) c.from_residual-in_err-page.result
    c.in_err-page.field-0.0 c.from_residual-in_err-page.ensures.1 c.in_err-page.ensures.own

pub returns-in_err-page-clause-puts : goal.returns-in_err-page-clause-puts
returns-in_err-page-clause-puts g c =
    no_ok c.from_residual-in_err-page.result _ _ c.from_residual-in_err-page.ensures.1

pub returns-in_err-page-clause-same : goal.returns-in_err-page-clause-same
returns-in_err-page-clause-same g c = on_err c.from_residual-in_err-page.result _
    (c.in_err-page.ensures.same ∙ c.loop-region.invariant.same)

pub returns-in-Some-clause-keeps : goal.returns-in-Some-clause-keeps
returns-in-Some-clause-keeps g c = keeps_on g.D.Disk.meaning g.met.D.Disk.counts_now
    c.args.store.now c.loop-region.store c.take_in.new.store c.loop-region.invariant.keeps
    c.in_ok-page.ensures.keeps

pub returns-in-Some-clause-fault : goal.returns-in-Some-clause-fault
returns-in-Some-clause-fault g c = (
  c.in_ok-online.ensures.fault.0,
  c.in_ok-page.ensures.fault.1,
  c.in_ok-page.ensures.fault.2 ∙ c.loop-region.invariant.faults,
)

pub returns-in-Some-clause-puts : goal.returns-in-Some-clause-puts
returns-in-Some-clause-puts g c = puts_on c.args.store.now.geometry c.loop-region.store.geometry
    c.args.batch.now c.loop-region.batch c.loop-region.invariant.keeps.geometry
    c.loop-region.invariant.same c.take_in.new.batch c.in_ok-page.field-0 c.in-Some.page c.in-Some.is
    c.in_ok-page.ensures.puts

pub take_in-requires-clause-pool : goal.take_in-requires-clause-pool
take_in-requires-clause-pool g c = c.loop-region.invariant.keeps.pool

pub take_in-requires-clause-geometry : goal.take_in-requires-clause-geometry
take_in-requires-clause-geometry g c = lawful_on c.args.store.now.geometry
    c.loop-region.store.geometry c.args.batch.now c.loop-region.batch
    c.loop-region.invariant.keeps.geometry c.loop-region.invariant.same c.requires.geometry

pub take_in-requires-clause-whole : goal.take_in-requires-clause-whole
take_in-requires-clause-whole g c = whole_still c.args.store.now.geometry
    c.loop-region.store.geometry c.args.batch.now c.loop-region.batch
    c.loop-region.invariant.keeps.geometry c.loop-region.invariant.same c.requires.whole

pub returns-clause-keeps : goal.returns-clause-keeps
returns-clause-keeps g c = c.loop-region.invariant.keeps

pub returns-clause-fault : goal.returns-clause-fault
returns-clause-fault g c = (
  c.in_ok-online.ensures.fault.0,
  c.loop-region.invariant.keeps.offline ∙ c.in_ok-online.ensures.fault.0,
  c.loop-region.invariant.faults,
)

pub returns-clause-takes : goal.returns-clause-takes
returns-clause-takes g c = λ image tells. (
  ap (λ (x : Geometry). x.limit) c.geometry-geometry.ensures,
  full c.args.store.now.geometry c.loop-region.region c.regions_below-region-end.result
      (viewed c.args.store.now image c.args.batch.now) c.requires.geometry c.loop-region-test.false
      (subst (λ (x : Geometry). (r : ℕ) → r < c.regions_below-region-end.result
      ↔ (inventory_page x.size r < taking_limit x)) c.geometry-geometry.ensures
      c.regions_below-region-end.ensures)
      (c.loop-region.invariant.none image tells),
)

use Rattle.std.proofs.Common.{◌∙◌, ap, inr, inl}
use Rattle.mg_base.specs.declared.numbers.PageNo.{PageNo}
use Rattle.mg_space.specs.BelowLaws.{taken_below}
use Rattle.mg_space.specs.HandedLaws.{fault_same, fault_up, no_answer}
use Rattle.mg_space.specs.ViewLaws.{keeps_on, tells_on}
use Rattle.mg_pool.specs.Batch.{Changed}
use Rattle.mg_heap.specs.Growth.{RefusesTwo}
use Rattle.mg_heap.specs.GrowthLaws.{whole_same, whole_taken}
use Rattle.mg_heap.proofs.GrowthLemmas.{refuses_on}
use Rattle.mg_heap.specs.RoomLaws.{bits_on, takes_on}
use Rattle.mg_heap.proofs.TableLemmas.{below_before, handed_on, whole_later, geometry_later}
use Rattle.mg_heap.proofs.HandedLemmas.{alone_same, taken_small}
use Rattle.mg_heap.proofs.growth.take_two.Goals as goal

pub returns-in_err-second-clause-takes : goal.returns-in_err-second-clause-takes
returns-in_err-second-clause-takes g c = λ image tells. handed_on c.from_residual-in_err-second.result
    c.in_err-second.field-0.0 _
    (RefusesTwo c.args.store.now.geometry c.args.store.now image c.args.batch.now)
    c.from_residual-in_err-second.ensures.0 c.from_residual-in_err-second.ensures.1
    (inr (record {
      with_bit = c.take_page.new.batch;
      first = c.in_ok-first.first.0;
      bit_first = c.in_ok-first.ensures.puts;
      takes_first = c.in_ok-first.ensures.takes image tells;
      refused = refuses_on g.D.Disk.meaning c.args.store.now c.take_page.new.store image
          c.in_ok-first.ensures.keeps c.take_page.new.batch c.in_err-second.field-0.0
          (c.in_err-second.ensures.takes image (tells_on g.D.Disk.meaning c.args.store.now
          c.take_page.new.store image c.in_ok-first.ensures.keeps tells));
    }))

pub returns-clause-keeps : goal.returns-clause-keeps
returns-clause-keeps g c = keeps_on g.D.Disk.meaning g.met.D.Disk.counts_now c.args.store.now
    c.take_page.new.store c.take_page-2.new.store c.in_ok-first.ensures.keeps c.in_ok-second.ensures.keeps

pub returns-clause-takes : goal.returns-clause-takes
returns-clause-takes g c = λ image tells. record {
  with_bit = c.take_page.new.batch;
  bit_first = c.in_ok-first.ensures.puts;
  takes_first = c.in_ok-first.ensures.takes image tells;
  bit_second = bits_on g.D.Disk.meaning c.args.store.now c.take_page.new.store
      c.in_ok-first.ensures.keeps c.take_page.new.batch c.take_page-2.new.batch c.in_ok-second.second.0
      c.in_ok-second.ensures.puts;
  takes_second = takes_on g.D.Disk.meaning c.args.store.now c.take_page.new.store
      c.in_ok-first.ensures.keeps image c.take_page.new.batch c.take_page-2.new.batch c.in_ok-second.second.0
      (c.in_ok-second.ensures.takes image (tells_on g.D.Disk.meaning c.args.store.now
      c.take_page.new.store image c.in_ok-first.ensures.keeps tells));
}

pub returns-in_err-second-clause-keeps : goal.returns-in_err-second-clause-keeps
returns-in_err-second-clause-keeps g c = keeps_on g.D.Disk.meaning g.met.D.Disk.counts_now
    c.args.store.now c.take_page.new.store c.take_page-2.new.store c.in_ok-first.ensures.keeps
    c.in_err-second.ensures.keeps

pub returns-in_err-second-clause-fault : goal.returns-in_err-second-clause-fault
returns-in_err-second-clause-fault g c = fault_up PageNo g.D.Disk.meaning c.args.store.now
    c.take_page.new.store c.take_page-2.new.store c.from_residual-in_err-second.result
    c.in_err-second.field-0.0 c.in_ok-first.ensures.keeps c.in_ok-first.ensures.fault.2
    c.from_residual-in_err-second.ensures.0 c.from_residual-in_err-second.ensures.1
    c.in_err-second.ensures.fault

pub returns-clause-fault : goal.returns-clause-fault
returns-clause-fault g c = (
  c.in_ok-first.ensures.fault.0,
  c.in_ok-second.ensures.fault.1,
  c.in_ok-second.ensures.fault.2 ∙ c.in_ok-first.ensures.fault.2,
)

pub take_page-requires-2-clause-whole : goal.take_page-requires-2-clause-whole
take_page-requires-2-clause-whole g c = whole_later g.D.Disk.meaning c.args.store.now
    c.take_page.new.store c.in_ok-first.ensures.keeps c.take_page.new.batch.pages
    (whole_taken c.args.store.now.geometry c.args.batch.now c.take_page.new.batch
    c.in_ok-first.first.0 c.requires.whole c.in_ok-first.ensures.puts)

pub returns-in_err-second-clause-whole : goal.returns-in_err-second-clause-whole
returns-in_err-second-clause-whole g c = whole_same c.args.store.now.geometry
    c.take_page.new.batch c.take_page-2.new.batch
    (whole_taken c.args.store.now.geometry c.args.batch.now c.take_page.new.batch
    c.in_ok-first.first.0 c.requires.whole c.in_ok-first.ensures.puts)
    (ap (λ (b : Changed). b.pages) c.in_err-second.ensures.same)

pub returns-clause-whole : goal.returns-clause-whole
returns-clause-whole g c = whole_taken c.args.store.now.geometry c.take_page.new.batch
    c.take_page-2.new.batch c.in_ok-second.second.0
    (whole_taken c.args.store.now.geometry c.args.batch.now c.take_page.new.batch
    c.in_ok-first.first.0 c.requires.whole c.in_ok-first.ensures.puts)
    (bits_on g.D.Disk.meaning c.args.store.now c.take_page.new.store c.in_ok-first.ensures.keeps
    c.take_page.new.batch c.take_page-2.new.batch c.in_ok-second.second.0
    c.in_ok-second.ensures.puts)

pub returns-in_err-first-clause-keeps : goal.returns-in_err-first-clause-keeps
returns-in_err-first-clause-keeps g c = c.in_err-first.ensures.keeps

pub returns-in_err-first-clause-fault : goal.returns-in_err-first-clause-fault
returns-in_err-first-clause-fault g c = fault_same PageNo g.D.Disk.meaning c.args.store.now
    c.take_page.new.store c.from_residual.result c.in_err-first.field-0.0 c.from_residual.ensures.0
    c.from_residual.ensures.1 c.in_err-first.ensures.fault

pub returns-in_err-first-clause-own : goal.returns-in_err-first-clause-own
returns-in_err-first-clause-own g c = alone_same PageNo c.from_residual.result c.in_err-first.field-0.0
    c.from_residual.ensures.0 c.from_residual.ensures.1 c.in_err-first.ensures.own

pub returns-in_err-first-clause-whole : goal.returns-in_err-first-clause-whole
returns-in_err-first-clause-whole g c = whole_same c.args.store.now.geometry c.args.batch.now
    c.take_page.new.batch c.requires.whole (ap (λ (b : Changed). b.pages) c.in_err-first.ensures.same)

pub returns-in_err-first-clause-small : goal.returns-in_err-first-clause-small
returns-in_err-first-clause-small g c = no_answer _ c.from_residual.result c.from_residual.ensures.0

pub returns-in_err-first-clause-takes : goal.returns-in_err-first-clause-takes
returns-in_err-first-clause-takes g c = λ image tells. handed_on c.from_residual.result
    c.in_err-first.field-0.0 _ (RefusesTwo c.args.store.now.geometry c.args.store.now image
    c.args.batch.now) c.from_residual.ensures.0 c.from_residual.ensures.1 (inl (c.in_err-first.ensures.takes
    image tells))

pub returns-in_err-second-clause-own : goal.returns-in_err-second-clause-own
returns-in_err-second-clause-own g c = alone_same PageNo c.from_residual-in_err-second.result
    c.in_err-second.field-0.0 c.from_residual-in_err-second.ensures.0
    c.from_residual-in_err-second.ensures.1 c.in_err-second.ensures.own

pub returns-in_err-second-clause-small : goal.returns-in_err-second-clause-small
returns-in_err-second-clause-small g c = no_answer _ c.from_residual-in_err-second.result
    c.from_residual-in_err-second.ensures.0

pub returns-clause-small : goal.returns-clause-small
returns-clause-small g c = (
  taken_small c.args.store.now.geometry c.args.batch.now c.take_page.new.batch c.in_ok-first.first.0
      c.requires.geometry c.in_ok-first.ensures.puts,
  taken_small c.take_page.new.store.geometry c.take_page.new.batch c.take_page-2.new.batch
      c.in_ok-second.second.0 (geometry_later g.D.Disk.meaning c.args.store.now c.take_page.new.store
      c.in_ok-first.ensures.keeps c.requires.geometry) c.in_ok-second.ensures.puts,
)

pub take_page-requires-2-clause-pool : goal.take_page-requires-2-clause-pool
take_page-requires-2-clause-pool g c = c.in_ok-first.ensures.keeps.pool

pub take_page-requires-2-clause-geometry : goal.take_page-requires-2-clause-geometry
take_page-requires-2-clause-geometry g c = geometry_later g.D.Disk.meaning c.args.store.now
    c.take_page.new.store c.in_ok-first.ensures.keeps c.requires.geometry

pub returns-in_err-first-clause-below : goal.returns-in_err-first-clause-below
returns-in_err-first-clause-below g c = no_answer _ c.from_residual.result c.from_residual.ensures.0

pub returns-in_err-second-clause-below : goal.returns-in_err-second-clause-below
returns-in_err-second-clause-below g c = no_answer _ c.from_residual-in_err-second.result
    c.from_residual-in_err-second.ensures.0

pub returns-clause-below : goal.returns-clause-below
returns-clause-below g c = (
  taken_below c.args.store.now.geometry c.in_ok-first.first.0 c.in_ok-first.ensures.puts.below,
  below_before g.D.Disk.meaning c.args.store.now c.take_page.new.store c.in_ok-first.ensures.keeps
      c.in_ok-second.second.0
      (taken_below c.take_page.new.store.geometry c.in_ok-second.second.0 c.in_ok-second.ensures.puts.below),
)

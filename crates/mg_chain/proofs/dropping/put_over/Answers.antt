use Rattle.mg_heap.specs.ChangingLaws.{whole_where}
use Rattle.mg_pool.specs.Batch.{Changed}
use Rattle.std.proofs.Common.{subst, sym}
use Rattle.mg_space.specs.View.{viewed, AreWhole}
use Rattle.mg_chain.specs.Dropping.{RefusesPutOver}
use Rattle.mg_chain.proofs.DropLemmas.{no_put, put_data}
use Rattle.mg_chain.proofs.Steps.{handed_on}
use Rattle.mg_chain.proofs.TurnLemmas.{puts_where}
use Rattle.mg_chain.proofs.dropping.put_over.Goals as goal

pub returns-in_err-placed-clause-puts : goal.returns-in_err-placed-clause-puts
returns-in_err-placed-clause-puts g c = λ image tells.
    handed_on c.from_residual-in_err-placed.result c.in_err-placed.field-0.0 _
    (RefusesPutOver g.D.Disk.meaning c.place.new.store c.args.batch.now.pages
    (viewed c.args.store.now image c.args.batch.now) c.args.at c.args.version.now c.args.back)
    c.from_residual-in_err-placed.ensures.0 c.from_residual-in_err-placed.ensures.1
    (put_data g.D.Disk.meaning c.place.new.store c.args.batch.now.pages
    (viewed c.args.store.now image c.args.batch.now) c.args.at c.args.version.now c.args.back
    c.in_err-placed.field-0.0 (c.in_err-placed.ensures.places image tells))

pub returns-then-not-placed-clause-puts : goal.returns-then-not-placed-clause-puts
returns-then-not-placed-clause-puts g c = λ image tells.
    no_put g.D.Disk.meaning c.place.new.store c.args.batch.now.pages
    (viewed c.args.store.now image c.args.batch.now) c.args.at c.args.version.now c.args.back
    (viewed c.args.store.now image c.place.new.batch) c.deref.result.now c.in_ok-bytes.bytes.items
    c.in_ok-placed.placed c.no_place.result c.if-not-placed.true c.deref.ensures.value
    c.in_ok-bytes.ensures.spells (c.in_ok-placed.ensures.places image tells) c.no_place.ensures

pub returns-clause-puts : goal.returns-clause-puts
returns-clause-puts g c = λ image tells. record {
  bytes = c.in_ok-bytes.bytes.items;
  spells = c.in_ok-bytes.ensures.spells;
  puts = puts_where c.args.store.now image c.args.batch.now c.place.new.batch c.args.at c.deref.result.now
      c.in_ok-bytes.bytes.items c.in_ok-placed.placed c.if-not-placed.false c.deref.ensures.value
      c.in_ok-placed.ensures.changes (c.in_ok-placed.ensures.places image tells);
}

pub returns-in_err-placed-clause-whole : goal.returns-in_err-placed-clause-whole
returns-in_err-placed-clause-whole g c =
    subst (λ (b : Changed). AreWhole c.args.store.now.geometry b.pages)
    (sym c.in_err-placed.ensures.same) c.requires.whole

pub returns-then-not-placed-clause-whole : goal.returns-then-not-placed-clause-whole
returns-then-not-placed-clause-whole g c = whole_where c.args.store.now.geometry c.args.batch.now
    c.place.new.batch c.args.at.page.0 c.in_ok-placed.placed c.requires.whole
    c.in_ok-placed.ensures.below c.in_ok-placed.ensures.changes

pub returns-clause-whole : goal.returns-clause-whole
returns-clause-whole g c = whole_where c.args.store.now.geometry c.args.batch.now
    c.place.new.batch c.args.at.page.0 c.in_ok-placed.placed c.requires.whole
    c.in_ok-placed.ensures.below c.in_ok-placed.ensures.changes

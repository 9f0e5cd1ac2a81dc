use Rattle.std.proofs.Common.{sym, subst}
use Rattle.mg_heap.specs.ChangingLaws.{whole_where}
use Rattle.mg_pool.specs.Batch.{Changed}
use Rattle.mg_space.specs.View.{AreWhole, viewed}
use Rattle.mg_chain.specs.WritingRefusals.{RefusesTurn}
use Rattle.mg_chain.proofs.HeadLemmas.{turn_data}
use Rattle.mg_chain.proofs.Steps.{handed_on}
use Rattle.mg_chain.proofs.TurnLemmas.{no_turn, turns_where}
use Rattle.mg_chain.proofs.turning.turn.Goals as goal

pub returns-in_err-placed-clause-gives : goal.returns-in_err-placed-clause-gives
returns-in_err-placed-clause-gives g c = λ image tells.
    handed_on c.from_residual-in_err-placed.result c.in_err-placed.field-0.0 _
    (RefusesTurn g.D.Disk.meaning c.place.new.store c.args.batch.now.pages
    (viewed c.args.store.now image c.args.batch.now) c.args.rec)
    c.from_residual-in_err-placed.ensures.0 c.from_residual-in_err-placed.ensures.1
    (turn_data g.D.Disk.meaning c.place.new.store c.args.batch.now.pages
    (viewed c.args.store.now image c.args.batch.now) c.args.rec c.in_err-placed.field-0.0
    (c.in_err-placed.ensures.places image tells))

pub returns-then-not-placed-clause-gives : goal.returns-then-not-placed-clause-gives
returns-then-not-placed-clause-gives g c = λ image tells.
    no_turn g.D.Disk.meaning c.place.new.store c.args.batch.now.pages
    (viewed c.args.store.now image c.args.batch.now) (viewed c.args.store.now image c.place.new.batch)
    c.args.rec c.deref.result.now c.in_ok-bytes.bytes.items c.in_ok-placed.placed c.no_place.result
    c.if-not-placed.true c.deref.ensures.value c.in_ok-bytes.ensures.len
    (c.in_ok-placed.ensures.places image tells) c.no_place.ensures

pub returns-clause-gives : goal.returns-clause-gives
returns-clause-gives g c = λ image tells.
    turns_where c.args.store.now image c.args.batch.now c.place.new.batch c.args.rec c.args.link
    c.deref.result.now c.in_ok-bytes.bytes.items c.in_ok-placed.placed c.if-not-placed.false
    c.deref.ensures.value c.in_ok-bytes.ensures.spells c.in_ok-placed.ensures.changes
    (c.in_ok-placed.ensures.places image tells)

pub returns-in_err-placed-clause-whole : goal.returns-in_err-placed-clause-whole
returns-in_err-placed-clause-whole g c =
    subst (λ (b : Changed). AreWhole c.args.store.now.geometry b.pages)
    (sym c.in_err-placed.ensures.same) c.requires.whole

pub returns-then-not-placed-clause-whole : goal.returns-then-not-placed-clause-whole
returns-then-not-placed-clause-whole g c = whole_where c.args.store.now.geometry c.args.batch.now
    c.place.new.batch c.args.rec.page.0 c.in_ok-placed.placed c.requires.whole
    c.in_ok-placed.ensures.below c.in_ok-placed.ensures.changes

pub returns-clause-whole : goal.returns-clause-whole
returns-clause-whole g c = whole_where c.args.store.now.geometry c.args.batch.now
    c.place.new.batch c.args.rec.page.0 c.in_ok-placed.placed c.requires.whole
    c.in_ok-placed.ensures.below c.in_ok-placed.ensures.changes

use Rattle.mg_space.specs.HandedLaws.{fault_same, no_answer}
use Rattle.mg_space.specs.View.{viewed}
use Rattle.mg_heap.specs.HandedLaws.{reads_same}
use Rattle.mg_heap.specs.Reach.{RefusesOwner}
use Rattle.mg_heap.proofs.ReachLemmas.{owner_refused, owns_seen}
use Rattle.mg_heap.proofs.HoldingLemmas.{some_data}
use Rattle.mg_heap.proofs.TableLemmas.{as_started, handed_on, whole_later}
use Rattle.std.proofs.Common.{◌≡◌, refl}
use Rattle.mg_image.specs.Form.{Pages}
use Rattle.mg_heap.proofs.reach.owner_of.Goals as goal

pub returns-in_err-hold_data-clause-gives : goal.returns-in_err-hold_data-clause-gives
returns-in_err-hold_data-clause-gives g c = λ image tells. handed_on c.from_residual.result
    c.in_err-hold_data.field-0.0 _
    (RefusesOwner g.D.Disk.meaning c.hold_data.new.store c.args.batch.now.pages c.args.page
    (viewed c.args.store.now image c.args.batch.now c.args.page.0))
    c.from_residual.ensures.0 c.from_residual.ensures.1
    (owner_refused g.D.Disk.meaning c.hold_data.new.store c.args.batch.now.pages c.args.page
    (viewed c.args.store.now image c.args.batch.now c.args.page.0) c.in_err-hold_data.field-0.0
    (c.in_err-hold_data.ensures.seen image tells))

pub returns-clause-gives : goal.returns-clause-gives
returns-clause-gives g c = λ image tells. owns_seen c.args.page
    (viewed c.args.store.now image c.args.batch.now c.args.page.0) c.lent.result.now
    c.lent.result.now c.owner_number-owner.result (some_data c.hold_data.new.store
    c.args.batch.now.pages c.args.page c.lent.result.now
    c.lent.ensures.read c.in_ok-hold_data.ensures.held)
    (as_started g.D.Disk.meaning c.args.store.now c.hold_data.new.store image c.args.batch.now
    c.in_ok-hold_data.ensures.keeps tells (λ (pages : Pages). c.lent.result.now ≡ pages c.args.page.0)
    (c.lent.ensures.seen image)) refl c.owner_number-owner.ensures

pub returns-in_err-hold_data-clause-keeps : goal.returns-in_err-hold_data-clause-keeps
returns-in_err-hold_data-clause-keeps g c = c.in_err-hold_data.ensures.keeps

pub returns-in_err-hold_data-clause-fault : goal.returns-in_err-hold_data-clause-fault
returns-in_err-hold_data-clause-fault g c = fault_same (Unit {0}) g.D.Disk.meaning c.args.store.now
    c.hold_data.new.store c.from_residual.result c.in_err-hold_data.field-0.0 c.from_residual.ensures.0
    c.from_residual.ensures.1 c.in_err-hold_data.ensures.fault

pub returns-in_err-hold_data-clause-own : goal.returns-in_err-hold_data-clause-own
returns-in_err-hold_data-clause-own g c = reads_same (Unit {0}) c.from_residual.result
    c.in_err-hold_data.field-0.0
    c.from_residual.ensures.0 c.from_residual.ensures.1 c.in_err-hold_data.ensures.own

pub returns-clause-keeps : goal.returns-clause-keeps
returns-clause-keeps g c = c.in_ok-hold_data.ensures.keeps

pub returns-clause-fault : goal.returns-clause-fault
returns-clause-fault g c = c.in_ok-hold_data.ensures.fault

pub returns-in_err-hold_data-clause-lawful : goal.returns-in_err-hold_data-clause-lawful
returns-in_err-hold_data-clause-lawful g c = no_answer _ c.from_residual.result c.from_residual.ensures.0

pub lent-requires-clause-whole : goal.lent-requires-clause-whole
lent-requires-clause-whole g c = whole_later g.D.Disk.meaning c.args.store.now c.hold_data.new.store
    c.in_ok-hold_data.ensures.keeps c.args.batch.now.pages c.requires.whole

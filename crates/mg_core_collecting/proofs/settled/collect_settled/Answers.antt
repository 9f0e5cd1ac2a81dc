use Rattle.std.proofs.Common.{[], Bool, Err, Ok, false, true, refl, sym, ◌∙◌}
use Rattle.std.proofs.lemmas.Bool.{false≢true}
use Rattle.mg_base.specs.Image.{Image}
use Rattle.mg_core_collecting.specs.Places.{CollectsSettled, FailsSettled, RefusesLook, no_record, not_looked, not_told, nothing_settled}
use Rattle.mg_core_collecting.proofs.LookLemmas.{handed_on, online_on, reading_as, settled_on, told_record}
use Rattle.mg_core_collecting.proofs.PlaceLemmas.{collected_so}
use Rattle.mg_core_collecting.proofs.settled.collect_settled.Goals as goal
use Rattle.mg_heap.specs.Listed.{RefusesRecordOf}
use Rattle.mg_pool.specs.Pool.{shown}
use Rattle.mg_space.specs.ViewLaws.{keeps_on}
use Rattle.mg_space.specs.declared.fault.SpaceFault.{SpaceFault}

pub returns-in_err-its-clause-collects : goal.returns-in_err-its-clause-collects
returns-in_err-its-clause-collects g c = handed_on c.from_residual.result c.in_err-its.field-0.0
    (CollectsSettled g.D.Disk.meaning c.args.store.now c.is_record_of.new.store
    (g.S.States.state_of c.args.states.now) c.args.live.now c.args.table.now c.args.rec)
    (FailsSettled g.D.Disk.meaning c.args.store.now c.is_record_of.new.store
    (g.S.States.state_of c.args.states.now) c.args.live.now c.args.table.now c.args.rec)
    c.from_residual.ensures.0 c.from_residual.ensures.1
    (not_told (reading_as Bool g.D.Disk.meaning c.args.store.now c.is_record_of.new.store
    (λ (image : Image). λ (f : SpaceFault). RefusesRecordOf g.D.Disk.meaning c.is_record_of.new.store []
    (shown c.args.store.now.dirty image) c.args.table.now.pointer.0 c.args.rec f) c.in_err-its.field-0.0
    c.in_err-its.ensures.keeps c.in_err-its.ensures.own c.in_err-its.ensures.fault
    (λ image tells. told_record g.D.Disk.meaning c.args.store.now c.is_record_of.new.store image c.new-batch.result
    c.args.table.now.pointer.0 c.args.rec (Err c.in_err-its.field-0.0) c.new-batch.ensures.pages
    (c.in_err-its.ensures.tells image tells))))

pub returns-then-not-its-clause-collects : goal.returns-then-not-its-clause-collects
returns-then-not-its-clause-collects g c = no_record refl c.in_ok-its.ensures.keeps c.in_ok-its.ensures.fault
    (λ image tells is. false≢true (sym c.if-not-its.true ∙ (told_record g.D.Disk.meaning c.args.store.now
    c.is_record_of.new.store image c.new-batch.result c.args.table.now.pointer.0 c.args.rec (Ok c.in_ok-its.its)
    c.new-batch.ensures.pages (c.in_ok-its.ensures.tells image tells)).1 is))

pub returns-in_err-settled-clause-collects : goal.returns-in_err-settled-clause-collects
returns-in_err-settled-clause-collects g c = handed_on c.from_residual-in_err-settled.result
    c.in_err-settled.field-0.0
    (CollectsSettled g.D.Disk.meaning c.args.store.now c.is_settled.new.store
    (g.S.States.state_of c.args.states.now) c.args.live.now c.args.table.now c.args.rec)
    (FailsSettled g.D.Disk.meaning c.args.store.now c.is_settled.new.store
    (g.S.States.state_of c.args.states.now) c.args.live.now c.args.table.now c.args.rec)
    c.from_residual-in_err-settled.ensures.0 c.from_residual-in_err-settled.ensures.1
    (not_looked c.is_record_of.new.store c.in_ok-its.ensures.keeps c.in_ok-its.ensures.fault
    (λ image tells. (told_record g.D.Disk.meaning c.args.store.now c.is_record_of.new.store image
    c.new-batch.result c.args.table.now.pointer.0 c.args.rec (Ok c.in_ok-its.its) c.new-batch.ensures.pages
    (c.in_ok-its.ensures.tells image tells)).0 c.if-not-its.false)
    (reading_as Bool g.D.Disk.meaning c.is_record_of.new.store c.is_settled.new.store
    (λ (image : Image). λ (f : SpaceFault). RefusesLook g.D.Disk.meaning c.is_settled.new.store
    (shown c.is_record_of.new.store.dirty image) c.args.rec f) c.in_err-settled.field-0.0
    c.in_err-settled.ensures.keeps c.in_err-settled.ensures.own c.in_err-settled.ensures.fault
    c.in_err-settled.ensures.tells))

pub returns-then-not-settled-clause-collects : goal.returns-then-not-settled-clause-collects
returns-then-not-settled-clause-collects g c = nothing_settled refl
    (keeps_on g.D.Disk.meaning g.met.D.Disk.counts_now c.args.store.now c.is_record_of.new.store
    c.is_settled.new.store c.in_ok-its.ensures.keeps c.in_ok-settled.ensures.keeps)
    (online_on g.D.Disk.meaning c.args.store.now c.is_record_of.new.store c.is_settled.new.store
    c.in_ok-its.ensures.fault c.in_ok-settled.ensures.fault)
    (settled_on g.D.Disk.meaning c.args.store.now c.is_record_of.new.store (g.S.States.state_of c.args.states.now)
    c.args.rec c.in_ok-settled.settled false c.in_ok-its.ensures.keeps c.in_ok-settled.ensures.tells
    c.if-not-settled.true)

pub returns-clause-collects : goal.returns-clause-collects
returns-clause-collects g c = collected_so g.D.Disk.meaning c.args.store.now c.is_settled.new.store
    c.collect_record.new.store (g.S.States.state_of c.args.states.now) c.args.live.now c.args.table.now c.args.rec
    (keeps_on g.D.Disk.meaning g.met.D.Disk.counts_now c.args.store.now c.is_record_of.new.store
    c.is_settled.new.store c.in_ok-its.ensures.keeps c.in_ok-settled.ensures.keeps)
    (online_on g.D.Disk.meaning c.args.store.now c.is_record_of.new.store c.is_settled.new.store
    c.in_ok-its.ensures.fault c.in_ok-settled.ensures.fault)
    (λ image tells. (told_record g.D.Disk.meaning c.args.store.now
    c.is_record_of.new.store image c.new-batch.result c.args.table.now.pointer.0 c.args.rec (Ok c.in_ok-its.its)
    c.new-batch.ensures.pages (c.in_ok-its.ensures.tells image tells)).0 c.if-not-its.false)
    (settled_on g.D.Disk.meaning c.args.store.now c.is_record_of.new.store (g.S.States.state_of c.args.states.now)
    c.args.rec c.in_ok-settled.settled true c.in_ok-its.ensures.keeps c.in_ok-settled.ensures.tells
    c.if-not-settled.false)
    c.collect_record.result c.collect_record.ensures.collects

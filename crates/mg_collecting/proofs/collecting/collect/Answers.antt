use Rattle.std.proofs.Common.{[], Bool, Ok, Err, refl, sym, ◌∙◌}
use Rattle.std.proofs.lemmas.Bool.{false≢true}
use Rattle.mg_base.specs.Image.{Image}
use Rattle.mg_heap.specs.Listed.{RefusesRecordOf}
use Rattle.mg_pool.specs.Pool.{shown}
use Rattle.mg_space.specs.declared.fault.SpaceFault.{SpaceFault}
use Rattle.mg_collecting.specs.Collecting.{CollectsOf, FailsCollectingOf, no_record, not_told}
use Rattle.mg_collecting.proofs.PartLemmas.{handed_on}
use Rattle.mg_collecting.proofs.TableLemmas.{collected_of, told_record}
use Rattle.mg_collecting.proofs.WholeLemmas.{reading_as}
use Rattle.mg_collecting.proofs.collecting.collect.Goals as goal

pub returns-in_err-its-clause-collects : goal.returns-in_err-its-clause-collects
returns-in_err-its-clause-collects g c = handed_on c.from_residual.result c.in_err-its.field-0.0
    (CollectsOf g.D.Disk.meaning c.args.store.now c.is_record_of.new.store (g.S.States.state_of c.args.states.now)
    c.args.live.now c.args.table.now c.args.rec)
    (FailsCollectingOf g.D.Disk.meaning c.args.store.now c.is_record_of.new.store
    (g.S.States.state_of c.args.states.now) c.args.live.now c.args.table.now c.args.rec)
    c.from_residual.ensures.0 c.from_residual.ensures.1
    (not_told (reading_as Bool g.D.Disk.meaning c.args.store.now c.is_record_of.new.store
    (λ (image : Image). λ (f : SpaceFault). RefusesRecordOf g.D.Disk.meaning c.is_record_of.new.store []
    (shown c.args.store.now.dirty image) c.args.table.now.pointer.0 c.args.rec f) c.in_err-its.field-0.0
    c.in_err-its.ensures.keeps c.in_err-its.ensures.own c.in_err-its.ensures.fault
    (λ image tells. told_record g.D.Disk.meaning c.args.store.now c.is_record_of.new.store image c.new-batch.result
    c.args.table.now.pointer.0 c.args.rec (Err c.in_err-its.field-0.0) c.new-batch.ensures.pages
    (c.in_err-its.ensures.tells image tells))))

pub returns-then-not-its-clause-collects : goal.returns-then-not-its-clause-collects
returns-then-not-its-clause-collects g c = no_record refl c.in_ok-its.ensures.keeps c.in_ok-its.ensures.fault
    (λ image tells is. false≢true (sym c.if-not-its.true ∙ (told_record g.D.Disk.meaning c.args.store.now
    c.is_record_of.new.store image c.new-batch.result c.args.table.now.pointer.0 c.args.rec (Ok c.in_ok-its.its)
    c.new-batch.ensures.pages (c.in_ok-its.ensures.tells image tells)).1 is))

pub returns-clause-collects : goal.returns-clause-collects
returns-clause-collects g c = collected_of g.D.Disk.meaning c.args.store.now c.is_record_of.new.store
    c.collect_record.new.store (g.S.States.state_of c.args.states.now) c.args.live.now c.args.table.now c.args.rec
    c.in_ok-its.ensures.keeps c.in_ok-its.ensures.fault
    (λ image tells. (told_record g.D.Disk.meaning c.args.store.now
    c.is_record_of.new.store image c.new-batch.result c.args.table.now.pointer.0 c.args.rec (Ok c.in_ok-its.its)
    c.new-batch.ensures.pages (c.in_ok-its.ensures.tells image tells)).0 c.if-not-its.false)
    c.collect_record.result c.collect_record.ensures.collects

use Rattle.std.proofs.Common.{List, [], refl}
use Rattle.std.specs.declared.alloc.Global.{Global}
use Rattle.std.specs.declared.vec.Vec.{Vec}
use Rattle.mg_base.specs.Image.{Image}
use Rattle.mg_base.specs.declared.numbers.RecId.{RecId}
use Rattle.mg_core_collecting.specs.Every.{CollectsTable, FailsTable, is_stray, unlisted}
use Rattle.mg_core_collecting.proofs.EveryLemmas.{table_so}
use Rattle.mg_core_collecting.proofs.LookLemmas.{at_empty, handed_on, reading_as}
use Rattle.mg_core_collecting.proofs.every.collect_table.Goals as goal
use Rattle.mg_heap.specs.Walk.{RefusesWalk}
use Rattle.mg_image.specs.Form.{Pages}
use Rattle.mg_pool.specs.Pool.{shown}
use Rattle.mg_pool.specs.declared.batch.BatchPage.{BatchPage}
use Rattle.mg_seek.specs.TableRecords.{AreTableRecords}
use Rattle.mg_space.specs.ViewLaws.{keeps_itself}
use Rattle.mg_space.specs.declared.fault.SpaceFault.{SpaceFault}

pub returns-in_err-begins_within-clause-collects : goal.returns-in_err-begins_within-clause-collects
returns-in_err-begins_within-clause-collects g c = handed_on c.from_residual.result c.in_err-begins_within.field-0.0
    (λ done. CollectsTable g.D.Disk.meaning (g.S.States.state_of c.args.states.now) c.args.live.now c.args.table.now
    c.args.store.now c.args.store.now)
    (FailsTable g.D.Disk.meaning (g.S.States.state_of c.args.states.now) c.args.live.now c.args.catalog.0
    c.args.table.now c.args.store.now c.args.store.now) c.from_residual.ensures.0 c.from_residual.ensures.1
    (is_stray c.in_err-begins_within.ensures (keeps_itself g.D.Disk.meaning c.args.store.now c.requires.pool) refl)

pub returns-in_err-records-clause-collects : goal.returns-in_err-records-clause-collects
returns-in_err-records-clause-collects g c = handed_on c.from_residual-in_err-records.result
    c.in_err-records.field-0.0
    (λ done. CollectsTable g.D.Disk.meaning (g.S.States.state_of c.args.states.now) c.args.live.now c.args.table.now
    c.args.store.now c.table_records.new.store)
    (FailsTable g.D.Disk.meaning (g.S.States.state_of c.args.states.now) c.args.live.now c.args.catalog.0
    c.args.table.now c.args.store.now c.table_records.new.store) c.from_residual-in_err-records.ensures.0
    c.from_residual-in_err-records.ensures.1
    (unlisted (reading_as (Vec RecId Global) g.D.Disk.meaning c.args.store.now c.table_records.new.store
    (λ (image : Image). λ (f : SpaceFault). RefusesWalk g.D.Disk.meaning c.table_records.new.store []
    (shown c.args.store.now.dirty image) c.args.table.now.pointer.0 f) c.in_err-records.field-0.0
    c.in_err-records.ensures.keeps c.in_err-records.ensures.own c.in_err-records.ensures.fault
    (λ image tells. at_empty c.args.store.now image c.new-batch.result c.new-batch.ensures.pages
    (λ (pages : List BatchPage). λ (view : Pages). RefusesWalk g.D.Disk.meaning c.table_records.new.store pages view
    c.args.table.now.pointer.0 c.in_err-records.field-0.0) (c.in_err-records.ensures.gives image tells))))

pub returns-clause-collects : goal.returns-clause-collects
returns-clause-collects g c = table_so g.D.Disk.meaning c.args.store.now c.table_records.new.store
    c.collect_records.new.store (g.S.States.state_of c.args.states.now) c.args.live.now
    c.in_ok-records.ensures.keeps c.in_ok-records.ensures.fault c.args.catalog.0 c.args.table.now
    c.in_ok-records.records.items
    (λ image tells. at_empty c.args.store.now image c.new-batch.result c.new-batch.ensures.pages
    (λ (pages : List BatchPage). λ (view : Pages). AreTableRecords view c.args.table.now.pointer.0
    c.in_ok-records.records.items) (c.in_ok-records.ensures.gives image tells)) c.collect_records.result
    (rw c.deref.ensures.value at c.collect_records.ensures.collects)

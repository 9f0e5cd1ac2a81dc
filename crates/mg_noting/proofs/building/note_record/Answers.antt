use Rattle.std.proofs.Common.{List, [], Option, Ok, Err}
use Rattle.std.specs.Bool.{OnTrue}
use Rattle.mg_directory.specs.Candidates.{under}
use Rattle.mg_heap.specs.HandedLaws.{reads_same}
use Rattle.mg_image.specs.Form.{Pages}
use Rattle.mg_pool.specs.Pool.{shown}
use Rattle.mg_pool.specs.declared.batch.BatchPage.{BatchPage}
use Rattle.mg_space.specs.HandedLaws.{fault_same}
use Rattle.mg_value.specs.declared.value.Value.{Value}
use Rattle.mg_seek.specs.Refusals.{RefusesRecord}
use Rattle.mg_seek.specs.Versions.{wants}
use Rattle.mg_seek.specs.Views.{IsKeyOf}
use Rattle.mg_seek.specs.declared.whose.Wanted.TheVariants.{Any}
use Rattle.mg_noting.specs.Building.{IsUnderItsKey}
use Rattle.mg_noting.proofs.BuildingLemmas.{all_stay, handed_on, no_some, through_empty, under_key, without_key}
use Rattle.mg_noting.proofs.building.note_record.Goals as goal

pub returns-in_err-key-clause-keeps : goal.returns-in_err-key-clause-keeps
returns-in_err-key-clause-keeps g c = c.in_err-key.ensures.keeps

pub returns-in_err-key-clause-fault : goal.returns-in_err-key-clause-fault
returns-in_err-key-clause-fault g c = fault_same (Option Value) g.D.Disk.meaning c.args.store.now c.record_key.new.store
    c.from_residual.result c.in_err-key.field-0.0 c.from_residual.ensures.0 c.from_residual.ensures.1
    c.in_err-key.ensures.fault

pub returns-in_err-key-clause-own : goal.returns-in_err-key-clause-own
returns-in_err-key-clause-own g c = reads_same (Option Value) c.from_residual.result c.in_err-key.field-0.0
    c.from_residual.ensures.0 c.from_residual.ensures.1 c.in_err-key.ensures.own

pub returns-in_err-key-clause-more : goal.returns-in_err-key-clause-more
returns-in_err-key-clause-more g c = all_stay (under c.args.dir.now)

pub returns-in_err-key-clause-notes : goal.returns-in_err-key-clause-notes
returns-in_err-key-clause-notes g c = λ image tells. handed_on c.from_residual.result c.in_err-key.field-0.0
    (λ noted. OnTrue noted (IsUnderItsKey (g.S.States.state_of c.args.states.now) c.args.live.now
    (shown c.args.store.now.dirty image) c.args.table.now (under c.args.dir.now) c.args.rec))
    (RefusesRecord g.D.Disk.meaning c.record_key.new.store [] (shown c.args.store.now.dirty image)
    (wants (g.S.States.state_of c.args.states.now) c.args.live.now Any) c.args.table.now c.args.rec)
    c.from_residual.ensures.0 c.from_residual.ensures.1
    (through_empty {T = Option Value} c.args.store.now image c.new-batch.result (Err c.in_err-key.field-0.0)
    (λ (view : Pages). IsKeyOf (g.S.States.state_of c.args.states.now) c.args.live.now view c.args.table.now c.args.rec)
    (λ (pages : List BatchPage). λ (view : Pages). RefusesRecord g.D.Disk.meaning c.record_key.new.store pages view
    (wants (g.S.States.state_of c.args.states.now) c.args.live.now Any) c.args.table.now c.args.rec)
    c.new-batch.ensures.pages (c.in_err-key.ensures.gives image tells))

pub returns-in_default-clause-keeps : goal.returns-in_default-clause-keeps
returns-in_default-clause-keeps g c = c.in_ok-key.ensures.keeps

pub returns-in_default-clause-fault : goal.returns-in_default-clause-fault
returns-in_default-clause-fault g c = c.in_ok-key.ensures.fault

pub returns-in_default-clause-more : goal.returns-in_default-clause-more
returns-in_default-clause-more g c = all_stay (under c.args.dir.now)

pub returns-in_default-clause-notes : goal.returns-in_default-clause-notes
returns-in_default-clause-notes g c = λ image tells. without_key (g.S.States.state_of c.args.states.now)
    c.args.live.now (shown c.args.store.now.dirty image) c.args.table.now (under c.args.dir.now) c.args.rec
    c.in_ok-key.field-0 (no_some c.in_ok-key.field-0 c.in_default.is)
    (through_empty {T = Option Value} c.args.store.now image c.new-batch.result (Ok c.in_ok-key.field-0)
    (λ (view : Pages). IsKeyOf (g.S.States.state_of c.args.states.now) c.args.live.now view c.args.table.now c.args.rec)
    (λ (pages : List BatchPage). λ (view : Pages). RefusesRecord g.D.Disk.meaning c.record_key.new.store pages view
    (wants (g.S.States.state_of c.args.states.now) c.args.live.now Any) c.args.table.now c.args.rec)
    c.new-batch.ensures.pages (c.in_ok-key.ensures.gives image tells))

pub returns-clause-keeps : goal.returns-clause-keeps
returns-clause-keeps g c = c.in_ok-key.ensures.keeps

pub returns-clause-fault : goal.returns-clause-fault
returns-clause-fault g c = c.in_ok-key.ensures.fault

pub returns-clause-notes : goal.returns-clause-notes
returns-clause-notes g c = λ image tells. under_key (g.S.States.state_of c.args.states.now)
    c.args.live.now (shown c.args.store.now.dirty image) c.args.table.now (under c.note_key.new.dir) c.args.rec
    c.in_ok-key.field-0 c.in-Some.key c.note_key.result c.in-Some.is
    (through_empty {T = Option Value} c.args.store.now image c.new-batch.result (Ok c.in_ok-key.field-0)
    (λ (view : Pages). IsKeyOf (g.S.States.state_of c.args.states.now) c.args.live.now view c.args.table.now c.args.rec)
    (λ (pages : List BatchPage). λ (view : Pages). RefusesRecord g.D.Disk.meaning c.record_key.new.store pages view
    (wants (g.S.States.state_of c.args.states.now) c.args.live.now Any) c.args.table.now c.args.rec)
    c.new-batch.ensures.pages (c.in_ok-key.ensures.gives image tells)) c.note_key.ensures.notes
